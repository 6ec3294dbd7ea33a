-- The bytes that runs have from an address on.
use Rattle.std.proofs.Common.{◌≡◌, ℕ, zero, suc, ◌+◌, ◌-◌, ◌<◌, ◌≤◌, ◌⊎◌, List, [], ◌∷◌, length, take, drop, get_or, Option, None, refl, sym, ap, ◌∙◌, subst, inl, inr, arith}
use Rattle.std.proofs.lemmas.List.{drop_more}
use Rattle.mv_base.specs.Memory.{exec_bytes}
use Rattle.elf32_read.specs.declared.run.Run.{Run}
use Rattle.elf32_read.specs.Runs.{code_of, AreApart}
use Rattle.elf32_read.specs.Segments.{AreSpread-apart}
use Rattle.superset.specs.RunBytes.{exec_none, exec_some, exec_zero, exec_same, exec_run, byte_cases, code_below, code_first, code_later, outside_below, run_byte}
use Rattle.std.proofs.lemmas.Option.{slice_get_past}

-- codes that agree from an address on
exec_agree : (c d : ℕ → Option ℕ) (n a : ℕ) → ((b : ℕ) → a ≤ b → c b ≡ d b) → exec_bytes c a n ≡ exec_bytes d a n
exec_agree c d zero a same = exec_zero c a ∙ sym (exec_zero d a)
exec_agree c d (suc n) a same =
    elim (byte_cases (d a)) [
      | inl e ↦ exec_none c a (suc n) (same a (omega arith) ∙ e) ∙ sym (exec_none d a (suc n) e)
      | inr w ↦
          exec_some c a n w.0 (same a (omega arith) ∙ w.1)
          ∙ ap (λ (t : List ℕ). w.0 ∷ t) (exec_agree c d n (a + 1) (λ b low. same b (omega arith)))
          ∙ sym (exec_some d a n w.0 w.1)
    ]

apart_weaker : (from : ℕ) (rs : List Run) → AreApart from rs → AreApart 0 rs
apart_weaker from [] h = tt
apart_weaker from (r ∷ rs) h = (omega arith, h.1, h.2, h.3)

rest_of : (rs : List Run) (k : ℕ) (r : Run) → k < length rs → r ≡ get_or rs k r → drop k rs ≡ r ∷ drop (k + 1) rs
rest_of rs k r l e = drop_more rs k r l ∙ ap (λ (x : Run). x ∷ drop (k + 1) rs) (sym e)

pub apart_rest : (rs : List Run) (k : ℕ) (r : Run) → k < length rs → r ≡ get_or rs k r → AreApart 0 (drop k rs) → AreApart 0 (drop (k + 1) rs)
apart_rest rs k r l e h =
    let w = subst (λ (t : List Run). AreApart 0 t) (rest_of rs k r l e) h in
    apart_weaker (r.lo + length r.bytes + 1) (drop (k + 1) rs) w.3

skip_first : (r : Run) (rs : List Run) (at n : ℕ) → AreApart 0 (r ∷ rs) → (at < r.lo) ⊎ (r.lo + length r.bytes ≤ at) → exec_bytes (code_of (r ∷ rs)) at n ≡ exec_bytes (code_of rs) at n
skip_first r rs at n apart o =
    elim o [
      | inl l ↦
          let none : code_of rs at ≡ None = code_below (r.lo + length r.bytes + 1) rs (AreSpread-apart (r.lo + length r.bytes + 1) rs apart.3) at (omega arith) in
          let none_here : code_of (r ∷ rs) at ≡ None = rw (outside_below r.lo (length r.bytes) at l) none in
          exec_none (code_of (r ∷ rs)) at n none_here ∙ sym (exec_none (code_of rs) at n none)
      | inr l ↦ exec_agree (code_of (r ∷ rs)) (code_of rs) n at (λ b low. code_later r rs b (omega arith))
    ]

-- a run that hasn't the address changes nothing
pub skip_run : (rs : List Run) (k : ℕ) (r : Run) (at n : ℕ) → k < length rs → r ≡ get_or rs k r → AreApart 0 (drop k rs) → (at < r.lo) ⊎ (r.lo + length r.bytes ≤ at) → exec_bytes (code_of (drop k rs)) at n ≡ exec_bytes (code_of (drop (k + 1) rs)) at n
skip_run rs k r at n l e apart o =
    let w = subst (λ (t : List Run). AreApart 0 t) (rest_of rs k r l e) apart in
    ap (λ (t : List Run). exec_bytes (code_of t) at n) (rest_of rs k r l e) ∙ skip_first r (drop (k + 1) rs) at n w o

-- the run that has the address has its bytes
pub run_has : (rs : List Run) (k : ℕ) (r : Run) (at n : ℕ) → k < length rs → r ≡ get_or rs k r → AreApart 0 (drop k rs) → r.lo ≤ at → at < r.lo + length r.bytes → take n (drop (at - r.lo) r.bytes) ≡ exec_bytes (code_of (drop k rs)) at n
run_has rs k r at n l e apart low high =
    let w = subst (λ (t : List Run). AreApart 0 t) (rest_of rs k r l e) apart in
    let here : r.lo + (at - r.lo) ≡ at = omega arith in
    let end : code_of (r ∷ []) (r.lo + length r.bytes) ≡ None = run_byte r (length r.bytes) ∙ slice_get_past r.bytes (length r.bytes) (omega arith) in
    sym (ap (λ (t : List Run). exec_bytes (code_of t) at n) (rest_of rs k r l e)
    ∙ exec_same (code_of (r ∷ drop (k + 1) rs)) (code_of (r ∷ [])) n at (r.lo + length r.bytes) (omega arith) end (λ b a1 a2. code_first 0 r (drop (k + 1) rs) (AreSpread-apart 0 (r ∷ drop (k + 1) rs) w) b a2)
    ∙ ap (λ (a : ℕ). exec_bytes (code_of (r ∷ [])) a n) (sym here)
    ∙ exec_run r n (at - r.lo))

pub no_run : (at n : ℕ) → [] ≡ exec_bytes (code_of []) at n
no_run at n = sym (exec_none (code_of []) at n refl)

pub none_left : (rs : List Run) (k at n : ℕ) → length rs ≤ k → drop k rs ≡ [] → [] ≡ exec_bytes (code_of (drop k rs)) at n
none_left rs k at n l e = no_run at n ∙ ap (λ (t : List Run). exec_bytes (code_of t) at n) (sym e)

pub exec_short : (code : ℕ → Option ℕ) (n a : ℕ) → length (exec_bytes code a n) ≤ n
exec_short code zero a = omega (arith, ap length (exec_zero code a))
exec_short code (suc n) a =
    elim (byte_cases (code a)) [
      | inl e ↦ omega (arith, ap length (exec_none code a (suc n) e))
      | inr w ↦ omega (arith, ap length (exec_some code a n w.0 w.1), exec_short code n (a + 1))
    ]
