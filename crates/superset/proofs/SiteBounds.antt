-- How long the instruction of a site is, and where it ends.
use Rattle.std.proofs.Common.{◌≡◌, ℕ, zero, suc, ◌+◌, ◌-◌, ◌<◌, ◌≤◌, List, [], ◌∷◌, length, Option, Some, None, refl, sym, ap, ◌∙◌, subst, inl, inr, arith}
use Rattle.std.specs.List.{AllByRecursion}
use Rattle.std.proofs.lemmas.Bool.{cases_lt}
use Rattle.std.proofs.lemmas.Option.{none-some, same_Some}
use Rattle.mv_base.specs.Memory.{exec_bytes}
use Rattle.x86_insn.specs.declared.insn.Insn.{Insn}
use Rattle.x86_insn.specs.Spelling.{decoded}
use Rattle.x86_insn.specs.Laws.{decoded_bounds}
use Rattle.x86_insn.specs.Step.{fetched, fetch_in}
use Rattle.elf32_read.specs.declared.run.Run.{Run}
use Rattle.elf32_read.specs.Runs.{code_of, AreSpread}
use Rattle.superset.specs.declared.site.Site.{Site}
use Rattle.superset.specs.Sites.{site_found, site_at, EndsLow, HasLength}
use Rattle.superset.specs.RunBytes.{exec_none, exec_some, exec_zero, byte_cases, code_later}

-- the last of some bytes stands in an executable cell
last_byte : (code : ℕ → Option ℕ) (n a k : ℕ) → k < length (exec_bytes code a n) → (b : ℕ) × (code (a + k) ≡ Some b)
last_byte code zero a k l = absurd (omega (arith, l, ap length (exec_zero code a)))
last_byte code (suc n) a k l =
    elim (byte_cases (code a)) [
      | inl e ↦ absurd (omega (arith, l, ap length (exec_none code a (suc n) e)))
      | inr w ↦ elim (cases_lt 0 k) [
        | inl m ↦
            let later = last_byte code n (a + 1) (k - 1) (omega (arith, l, m, ap length (exec_some code a n w.0 w.1))) in
            (later.0, subst (λ (x : ℕ). code x ≡ Some later.0) (omega (arith, m)) later.1)
        | inr m ↦ (w.0, subst (λ (x : ℕ). code x ≡ Some w.0) (omega (arith, m)) w.1)
      ]
    ]

-- runs have bytes below the highest page alone
code_low : (from : ℕ) (rs : List Run) (a b : ℕ) → AreSpread from rs → code_of rs a ≡ Some b → a < 0xFFFFF000
code_low from [] a b spread h = absurd (none-some b h)
code_low from (r ∷ rs) a b spread h =
    elim (cases_lt a (r.lo + length r.bytes)) [
      | inl l ↦ omega (arith, spread.1, l)
      | inr l ↦ code_low (r.lo + length r.bytes + 1) rs a b spread.2 (sym (code_later r rs a l) ∙ h)
    ]

-- an instruction has 1 to 15 bytes, which all stand in executable cells
record IsInCode (code : ℕ → Option ℕ) (s : Site) : Type 0 where
  pub size : HasLength s
  pub last : s.len ≤ length (exec_bytes code s.at 15)

found_in : (code : ℕ → Option ℕ) (a : ℕ) (s : Site) (o : Option ℕ) (d : Option (Insn × ℕ)) → decoded (exec_bytes code a 15) ≡ d → site_found a (fetched o d) ≡ Some s → IsInCode code s
found_in code a s None d e h = absurd (none-some s h)
found_in code a s (Some b) None e h = absurd (none-some s h)
found_in code a s (Some b) (Some w) e h =
    let bounds = decoded_bounds (exec_bytes code a 15) w.0 w.1 e in
    let found : Site = record { at = a; len = w.1; insn = w.0 } in
    subst (IsInCode code) (same_Some found s h) (record { size = (bounds.0, bounds.1); last = bounds.2 })

in_code : (code : ℕ → Option ℕ) (a : ℕ) (s : Site) → site_at code a ≡ Some s → IsInCode code s
unfolding fetch_in
in_code code a s h = found_in code a s (code a) (decoded (exec_bytes code a 15)) refl h

module _ (rs : List Run) (spread : AreSpread 0 rs) where
  ends_low : (s : Site) → IsInCode (code_of rs) s → EndsLow s
  ends_low s h =
      let last = last_byte (code_of rs) 15 s.at (s.len - 1) (omega (arith, h.size.0, h.last)) in
      let low = code_low 0 rs (s.at + (s.len - 1)) last.0 spread last.1 in
      omega (arith, low, h.size.0)

  pub all_end_low : (ss : List Site) → AllByRecursion (λ s. site_at (code_of rs) s.at ≡ Some s) ss → AllByRecursion EndsLow ss
  all_end_low [] h = tt
  all_end_low (s ∷ ss) h = (ends_low s (in_code (code_of rs) s.at s h.0), all_end_low ss h.1)

  pub all_have_length : (ss : List Site) → AllByRecursion (λ s. site_at (code_of rs) s.at ≡ Some s) ss → AllByRecursion HasLength ss
  all_have_length [] h = tt
  all_have_length (s ∷ ss) h = ((in_code (code_of rs) s.at s h.0).size, all_have_length ss h.1)
