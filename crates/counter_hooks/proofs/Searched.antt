-- A binary search of ascending numbers finds exactly what is among them.
use Rattle.std.proofs.Common.{◌≡◌, ℕ, ◌<◌, ◌≤◌, ◌==◌, ◌⊎◌, inl, inr, false, List, length, get_or, sym, ap, arith, eq-or-lt_of_le}
use Rattle.std.proofs.lemmas.Bool.{cases_lt, eq-eqb, ne_eqb}
use Rattle.std.proofs.lemmas.List.{get_or_default}
use Rattle.std.proofs.lemmas.List.Folds.{list_any_at, list_any_none}
use Rattle.std.proofs.lemmas.List.Sorted.{searched}
use Rattle.std.specs.List.{list_any}
use Rattle.std.specs.List.Sorted.{IsBinarySearchResult}
use Rattle.std.specs.Ordering.{nat_cmp}
use Rattle.std.specs.Prelude.{Result, Ok, Err, is_ok, MatchResult}
use Rattle.counter_hooks.specs.Rules.{Ascend}

module _ (xs : List ℕ) (x : ℕ) (up : Ascend xs) where
  rises : (i j : ℕ) → i ≤ j → j < length xs → get_or xs i 0 ≤ get_or xs j 0
  rises i j h l = go (eq-or-lt_of_le h)
    where
      go : (i ≡ j) ⊎ (i < j) → get_or xs i 0 ≤ get_or xs j 0
      go (inl e) = let same = ap (λ (k : ℕ). get_or xs k 0) e in omega arith
      go (inr k) = let above = up i j k l in omega arith

  pub found : (r : Result ℕ ℕ) → IsBinarySearchResult (λ y. nat_cmp y x) xs r → is_ok r ≡ list_any (λ a. a == x) xs
  found r h = go r (searched xs x r h rises)
    where
      go : (r : Result ℕ ℕ) → MatchResult r (λ i. (i < length xs) × (get_or xs i 0 ≡ x)) (λ i. (i ≤ length xs) × ((k : ℕ) → k < i → get_or xs k 0 < x) × ((k : ℕ) → i ≤ k → k < length xs → x < get_or xs k 0)) → is_ok r ≡ list_any (λ a. a == x) xs
      go (Ok i) w = sym (list_any_at (λ a. a == x) xs i 0 w.0 (eq-eqb (get_or xs i 0) x w.1))
      go (Err i) w = sym (list_any_none (λ a. a == x) xs (λ k d l. other k d l (cases_lt k i)))
        where
          other : (k d : ℕ) → k < length xs → (k < i) ⊎ (i ≤ k) → (get_or xs k d == x) ≡ false
          other k d l (inl b) = let below = w.1 k b in let same = get_or_default xs k d 0 l in ne_eqb (get_or xs k d) x (omega arith)
          other k d l (inr b) = let above = w.2 k b l in let same = get_or_default xs k d 0 l in ne_eqb (get_or xs k d) x (omega arith)
