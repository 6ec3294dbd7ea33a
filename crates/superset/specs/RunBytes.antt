-- The executable bytes of runs, from an address on, and the site there.
use Rattle.std.proofs.Common.{◌≡◌, ℕ, zero, suc, ◌+◌, ◌-◌, ◌<◌, ◌≤◌, ◌⊎◌, true, false, List, [], ◌∷◌, ◌++◌, length, take, drop, get_or, Option, Some, None, refl, sym, ap, ◌∙◌, subst, inl, inr, arith}
use Rattle.std.specs.Prelude.{slice_get}
use Rattle.std.specs.List.{range_with_len}
use Rattle.std.proofs.lemmas.Bool.{cases_lt}
use Rattle.std.proofs.lemmas.Bool.Decides.{nat_tests}
use Rattle.std.proofs.lemmas.List.{drop_more, drop_all}
use Rattle.std.proofs.lemmas.Option.{slice_get-get_or, slice_get_past}
use Rattle.mv_base.specs.Memory.{exec_bytes, within}
use Rattle.elf32_read.specs.declared.run.Run.{Run}
use Rattle.x86_insn.specs.Step.{fetch_in}
use Rattle.elf32_read.specs.Runs.{code_of, AreSpread}
use Rattle.superset.specs.Sites.{site_at}

-- the executable bytes from an address on, one step at a time
pub exec_none : (code : ℕ → Option ℕ) (a n : ℕ) → code a ≡ None → exec_bytes code a n ≡ []
unfolding exec_bytes
exec_none code a zero h = refl
exec_none code a (suc n) h = rw h

pub exec_some : (code : ℕ → Option ℕ) (a n b : ℕ) → code a ≡ Some b → exec_bytes code a (suc n) ≡ b ∷ exec_bytes code (a + 1) n
unfolding exec_bytes
exec_some code a n b h = rw h

pub exec_zero : (code : ℕ → Option ℕ) (a : ℕ) → exec_bytes code a 0 ≡ []
unfolding exec_bytes
exec_zero code a = refl

inside : (lo len a : ℕ) → lo ≤ a → a < lo + len → within lo len a ≡ true
inside lo len a h l = grind (arith, nat_tests)

pub outside_below : (lo len a : ℕ) → a < lo → within lo len a ≡ false
outside_below lo len a h = grind (arith, nat_tests)

pub outside_above : (lo len a : ℕ) → lo + len ≤ a → within lo len a ≡ false
outside_above lo len a h = grind (arith, nat_tests)

pub run_byte : (r : Run) (k : ℕ) → code_of (r ∷ []) (r.lo + k) ≡ slice_get r.bytes k
run_byte r k =
    elim (cases_lt k (length r.bytes)) [
      | inl l ↦
          let e : r.lo + k - r.lo ≡ k = omega arith in
          rw (inside r.lo (length r.bytes) (r.lo + k) (omega arith) (omega arith)) (ap (slice_get r.bytes) e)
      | inr l ↦ rw (outside_above r.lo (length r.bytes) (r.lo + k) (omega arith)) (sym (slice_get_past r.bytes k l))
    ]

bytes_cases : (xs : List ℕ) (k : ℕ) → ((slice_get xs k ≡ None) × (drop k xs ≡ [])) ⊎ ((x : ℕ) × (slice_get xs k ≡ Some x) × (drop k xs ≡ x ∷ drop (k + 1) xs))
bytes_cases xs k =
    elim (cases_lt k (length xs)) [
      | inl l ↦ inr (get_or xs k 0, slice_get-get_or xs k 0 l, drop_more xs k 0 l)
      | inr l ↦ inl (slice_get_past xs k l, drop_all k xs l)
    ]

take_nil : (n : ℕ) (xs : List ℕ) → xs ≡ [] → take n xs ≡ []
take_nil zero xs h = refl
take_nil (suc n) xs h = rw h

pub exec_run : (r : Run) (n k : ℕ) → exec_bytes (code_of (r ∷ [])) (r.lo + k) n ≡ take n (drop k r.bytes)
exec_run r zero k = exec_zero (code_of (r ∷ [])) (r.lo + k)
exec_run r (suc n) k =
    elim (bytes_cases r.bytes k) [
      | inl w ↦ exec_none (code_of (r ∷ [])) (r.lo + k) (suc n) (run_byte r k ∙ w.0) ∙ sym (take_nil (suc n) (drop k r.bytes) w.1)
      | inr w ↦
          let here = exec_some (code_of (r ∷ [])) (r.lo + k) n w.0 (run_byte r k ∙ w.1) in
          let next : r.lo + k + 1 ≡ r.lo + (k + 1) = omega arith in
          let rest = ap (λ (a : ℕ). exec_bytes (code_of (r ∷ [])) a n) next ∙ exec_run r n (k + 1) in
          here ∙ ap (λ (t : List ℕ). w.0 ∷ t) rest ∙ sym (ap (take (suc n)) w.2)
    ]

pub byte_cases : (o : Option ℕ) → (o ≡ None) ⊎ ((x : ℕ) × (o ≡ Some x))
byte_cases None = inl refl
byte_cases (Some x) = inr (x, refl)

-- codes that agree up to an address that has no byte
pub exec_same : (c d : ℕ → Option ℕ) (n a hi : ℕ) → a ≤ hi → d hi ≡ None → ((b : ℕ) → a ≤ b → b ≤ hi → c b ≡ d b) → exec_bytes c a n ≡ exec_bytes d a n
exec_same c d zero a hi l none same = exec_zero c a ∙ sym (exec_zero d a)
exec_same c d (suc n) a hi l none same =
    elim (byte_cases (d a)) [
      | inl e ↦ exec_none c a (suc n) (same a (omega arith) l ∙ e) ∙ sym (exec_none d a (suc n) e)
      | inr w ↦
          elim (cases_lt a hi) [
            | inl h ↦
                exec_some c a n w.0 (same a (omega arith) l ∙ w.1)
                ∙ ap (λ (t : List ℕ). w.0 ∷ t) (exec_same c d n (a + 1) hi (omega arith) none (λ b low high. same b (omega arith) high))
                ∙ sym (exec_some d a n w.0 w.1)
            | inr h ↦
                let at_end : a ≡ hi = omega arith in
                absurd (cc (ap d at_end, w.1, none))
          ]
    ]

pub code_below : (from : ℕ) (rs : List Run) → AreSpread from rs → (b : ℕ) → b < from → code_of rs b ≡ None
code_below from [] spread b l = refl
code_below from (r ∷ rs) spread b l =
    rw (outside_below r.lo (length r.bytes) b (omega (arith, spread.0))) (code_below (r.lo + length r.bytes + 1) rs spread.2 b (omega (arith, spread.0)))

pub code_first : (from : ℕ) (r : Run) (rs : List Run) → AreSpread from (r ∷ rs) → (b : ℕ) → b ≤ r.lo + length r.bytes → code_of (r ∷ rs) b ≡ code_of (r ∷ []) b
code_first from r rs spread b l = rw (code_below (r.lo + length r.bytes + 1) rs spread.2 b (omega arith)) refl

pub code_later : (r : Run) (rs : List Run) (b : ℕ) → r.lo + length r.bytes ≤ b → code_of (r ∷ rs) b ≡ code_of rs b
code_later r rs b l = rw (outside_above r.lo (length r.bytes) b l)

pub range_more : (n lo : ℕ) → range_with_len lo (n + 1) ≡ range_with_len lo n ++ (lo + n) ∷ []
range_more zero lo = ap (λ (a : ℕ). a ∷ []) (omega arith)
range_more (suc n) lo =
    let e : suc n + 1 ≡ suc (n + 1) = omega arith in
    let f : lo + 1 + n ≡ lo + suc n = omega arith in
    rw e (ap (λ (t : List ℕ). lo ∷ t) (range_more n (lo + 1) ∙ ap (λ (a : ℕ). range_with_len (lo + 1) n ++ a ∷ []) f))

-- each of the runs ends below the highest page
pub apart_ends : (from : ℕ) (rs : List Run) → AreSpread from rs → (k : ℕ) (r : Run) → k < length rs → r ≡ get_or rs k r → r.lo + length r.bytes ≤ 0xFFFFF000
apart_ends from [] spread k r l e = absurd (omega arith)
apart_ends from (q ∷ rs) spread zero r l e = subst (λ (x : Run). x.lo + length x.bytes ≤ 0xFFFFF000) (sym e) spread.1
apart_ends from (q ∷ rs) spread (suc k) r l e = apart_ends (q.lo + length q.bytes + 1) rs spread.2 k r (omega arith) e

-- and so they have the same site
pub site_same : (c d : ℕ → Option ℕ) (a hi : ℕ) → a ≤ hi → d hi ≡ None → ((b : ℕ) → a ≤ b → b ≤ hi → c b ≡ d b) → site_at c a ≡ site_at d a
unfolding fetch_in
site_same c d a hi l none same = rw (same a (omega arith) l, exec_same c d 15 a hi l none same) refl
