-- The addresses of runs: they ascend, and are all that have a byte.
use Rattle.std.specs.Prelude.{◌≡◌, ℕ, zero, suc, ◌+◌, ◌-◌, ◌<◌, ◌≤◌, List, [], ◌∷◌, ◌++◌, length, Some}
use Rattle.std.specs.List.{range_with_len}
use Rattle.std.proofs.Common.{get_or, inl, inr, refl, sym, ◌∙◌, subst, arith}
use Rattle.std.proofs.lemmas.Bool.{cases_lt}
use Rattle.std.proofs.lemmas.List.{length-append, get_or_append_left, get_or-append-add}
use Rattle.std.proofs.lemmas.List.FromFn.{length-range_with_len, get_or-range_with_len}
use Rattle.std.proofs.lemmas.Option.{none-some}
use Rattle.elf32_read.specs.declared.run.Run.{Run}
use Rattle.elf32_read.specs.Runs.{code_of, AreSpread}
use Rattle.superset.specs.Sites.{run_addresses, addresses}
use Rattle.superset.specs.RunBytes.{outside_below, outside_above}

-- numbers that strictly ascend from one on
abbrev pub Increase : ℕ → List ℕ → Type 0
Increase from [] = Unit {0}
Increase from (a ∷ xs) = (from ≤ a) × Increase (a + 1) xs

increase_weaker : (low from : ℕ) (xs : List ℕ) → low ≤ from → Increase from xs → Increase low xs
increase_weaker low from [] l h = tt
increase_weaker low from (a ∷ xs) l h = (omega (arith, h.0), h.1)

increase_range : (n lo : ℕ) (xs : List ℕ) → Increase (lo + n) xs → Increase lo (range_with_len lo n ++ xs)
increase_range zero lo xs h = increase_weaker lo (lo + 0) xs (omega arith) h
increase_range (suc n) lo xs h =
    (omega arith, increase_range n (lo + 1) xs (subst (λ (x : ℕ). Increase x xs) (omega arith) h))

pub increase_addresses : (from : ℕ) (rs : List Run) → AreSpread from rs → Increase from (addresses rs)
unfolding addresses
increase_addresses from [] h = tt
increase_addresses from (r ∷ rs) h =
    let rest = increase_addresses (r.lo + length r.bytes + 1) rs h.2 in
    increase_weaker from r.lo (addresses (r ∷ rs)) h.0
    (increase_range (length r.bytes) r.lo (addresses rs) (increase_weaker (r.lo + length r.bytes) (r.lo + length r.bytes + 1) (addresses rs) (omega arith) rest))

-- an address is among those of a list
pub record IsAmong (all : List ℕ) (a : ℕ) : Type 0 where
  pub place : ℕ
  pub below : place < length all
  pub at : get_or all place 0 ≡ a

among_first : (r : Run) (rs : List Run) (a : ℕ) → r.lo ≤ a → a < r.lo + length r.bytes → IsAmong (addresses (r ∷ rs)) a
unfolding addresses
among_first r rs a low high =
    let len = length-range_with_len r.lo (length r.bytes) in
    let lt : a - r.lo < length r.bytes = omega arith in
    record {
      place = a - r.lo;
      below = omega (arith, len, lt, length-append (run_addresses r) (addresses rs));
      at = get_or_append_left (run_addresses r) (addresses rs) 0 (a - r.lo) (omega (arith, len, lt)) ∙ (get_or-range_with_len r.lo (length r.bytes) (a - r.lo) 0 lt ∙ omega arith);
    }

among_later : (r : Run) (rs : List Run) (a : ℕ) → IsAmong (addresses rs) a → IsAmong (addresses (r ∷ rs)) a
unfolding addresses
among_later r rs a q = record {
  place = length (run_addresses r) + q.place;
  below = omega (arith, q.below, length-append (run_addresses r) (addresses rs));
  at = get_or-append-add (run_addresses r) (addresses rs) q.place 0 ∙ q.at;
}

-- an address that has a byte is among the addresses of the runs
pub address_among : (rs : List Run) (a b : ℕ) → code_of rs a ≡ Some b → IsAmong (addresses rs) a
address_among [] a b h = absurd (none-some b h)
address_among (r ∷ rs) a b h =
    elim (cases_lt a r.lo) [
      | inl l ↦
          let same : code_of (r ∷ rs) a ≡ code_of rs a = rw (outside_below r.lo (length r.bytes) a l) refl in
          among_later r rs a (address_among rs a b (sym same ∙ h))
      | inr l ↦ elim (cases_lt a (r.lo + length r.bytes)) [
        | inl m ↦ among_first r rs a l m
        | inr m ↦
            let same : code_of (r ∷ rs) a ≡ code_of rs a = rw (outside_above r.lo (length r.bytes) a m) refl in
            among_later r rs a (address_among rs a b (sym same ∙ h))
      ]
    ]
