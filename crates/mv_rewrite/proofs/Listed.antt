-- A list of numbers, ascending and each once, is the only one of its numbers.
use Rattle.std.proofs.Common.{◌≡◌, ◌≢◌, ℕ, suc, ◌+◌, ◌<◌, ◌≤◌, inl, inr, Bool, true, false, ◌||◌, cond, List, [], ◌∷◌, ◌++◌, length, map, refl, sym, ap, ◌∙◌, subst, arith}
use Rattle.std.specs.Prelude.{◌==◌, slice_index}
use Rattle.std.specs.List.{list_any, filter, dedup, dedup_from, range_with_len}
use Rattle.std.proofs.lemmas.Bool.{cases_Bool, cases_order, cases_lt, eq-eqb, ne_eqb, eqb-true, lt-ltb, le-ltb, true≢false}
use Rattle.std.proofs.lemmas.List.{map-append, append-nil}
use Rattle.std.proofs.lemmas.List.FromFn.{filter_of_map_range_with_len_more}
use Rattle.std.proofs.lemmas.List.Kept.{AllPairs-from_increasing}
use Rattle.std.proofs.lemmas.List.Sorted.{list_any-IsPermutation}
use Rattle.std.proofs.lemmas.Map.Keys.{IsStrictlyIncreasing-dedup}
use Rattle.std.specs.List.Sorted.{IsPermutation, IsSorted}
use Rattle.std.specs.Ordering.{nat_cmp}
use Rattle.map_table.specs.Pairs.{Ascend}
use Rattle.counter_hooks.specs.Rules as rules
use Rattle.superset.specs.declared.site.Site.{Site}
use Rattle.counter_hooks.specs.Rules.{picked}
use Rattle.edge_hooks.specs.Rules.{edge_picked}
use Rattle.image_layout.specs.Pieces.{kinds_at, kinds_of}
use Rattle.image_layout.specs.Pieces as pieces
use Rattle.image_layout.specs.Rules.{Rules}
use Rattle.image_layout.specs.laws.SiteFacts.{site_address}
use Rattle.image_layout.specs.laws.Ruled.{passing}
use Rattle.mv_rewrite.specs.Upgrading.{of_kind, insert_once, sorted_once}

-- whether a number is in a list
abbrev has : ℕ → List ℕ → Bool
has a xs = list_any (λ x. x == a) xs

-- ---- ascending lists, by the next number and by places

-- a number below all has no place
has_none : (a from : ℕ) (xs : List ℕ) → a < from → Ascend from xs → has a xs ≡ false
has_none a from [] lt asc = refl
has_none a from (x ∷ xs) lt asc =
    ap (λ (t : Bool). t || has a xs) (ne_eqb x a (omega (arith, asc.0)))
    ∙ has_none a (x + 1) xs (omega (arith, asc.0)) asc.1

has_first : (x : ℕ) (xs : List ℕ) → has x (x ∷ xs) ≡ true
has_first x xs = ap (λ (t : Bool). t || has x xs) (eq-eqb x x refl)

has_later : (a x : ℕ) (xs : List ℕ) → x ≢ a → has a (x ∷ xs) ≡ has a xs
has_later a x xs ne = ap (λ (t : Bool). t || has a xs) (ne_eqb x a ne)

-- the first of a list that ascends is in no other that begins above it
first_apart : (x y : ℕ) (xs ys : List ℕ) → x < y → Ascend (y + 1) ys → has x (x ∷ xs) ≢ has x (y ∷ ys)
first_apart x y xs ys lt asc e =
    true≢false (sym (has_first x xs) ∙ e ∙ has_none x y (y ∷ ys) lt (omega arith, asc))

-- what follows equal first numbers has the same numbers, if the wholes have
same_rests : (x y : ℕ) (xs ys : List ℕ) → x ≡ y → Ascend (x + 1) xs → Ascend (y + 1) ys → ((a : ℕ) → has a (x ∷ xs) ≡ has a (y ∷ ys)) → (a : ℕ) → has a xs ≡ has a ys
same_rests x y xs ys e up down same a =
    elim (cases_lt x a) [
      | inl lt ↦ sym (has_later a x xs (omega arith)) ∙ same a ∙ has_later a y ys (omega arith)
      | inr le ↦ has_none a (x + 1) xs (omega arith) up ∙ sym (has_none a (y + 1) ys (omega arith) down)
    ]

-- two that have the same numbers are the same
same_numbers : (low high : ℕ) (xs ys : List ℕ) → Ascend low xs → Ascend high ys → ((a : ℕ) → has a xs ≡ has a ys) → xs ≡ ys
same_numbers low high [] [] up down same = refl
same_numbers low high [] (y ∷ ys) up down same = absurd (true≢false (sym (has_first y ys) ∙ sym (same y)))
same_numbers low high (x ∷ xs) [] up down same = absurd (true≢false (sym (has_first x xs) ∙ same x))
same_numbers low high (x ∷ xs) (y ∷ ys) up down same =
    elim (cases_order x y) [
      | inl e ↦
          ap (λ (z : ℕ). z ∷ xs) e
          ∙ ap (λ (l : List ℕ). y ∷ l) (same_numbers (x + 1) (y + 1) xs ys up.1 down.1 (same_rests x y xs ys e up.1 down.1 same))
      | inr (inl lt) ↦ absurd (first_apart x y xs ys lt down.1 (same x))
      | inr (inr lt) ↦ absurd (first_apart y x ys xs lt up.1 (sym (same y)))
    ]

from_places : (from : ℕ) (xs : List ℕ) → ((k : ℕ) → k < length xs → from ≤ slice_index xs k) → rules.Ascend xs → Ascend from xs
from_places from [] low asc = tt
from_places from (x ∷ xs) low asc =
    (low 0 (omega arith), from_places (x + 1) xs (λ k lt. omega (arith, asc 0 (suc k) (omega arith) (omega arith))) (λ i j lt below. asc (suc i) (suc j) (omega arith) (omega arith)))

ascends_by_places : (xs : List ℕ) → rules.Ascend xs → Ascend 0 xs
ascends_by_places xs asc = from_places 0 xs (λ k lt. omega arith) asc

-- ---- the numbers of a list, ascending and each once

insert_below : (a x : ℕ) (xs : List ℕ) → a < x → insert_once a (x ∷ xs) ≡ a ∷ x ∷ xs
insert_below a x xs lt = ap (λ (t : Bool). cond t (a ∷ x ∷ xs) (cond (a == x) (x ∷ xs) (x ∷ insert_once a xs))) (lt-ltb a x lt)

insert_here : (a x : ℕ) (xs : List ℕ) → a ≡ x → insert_once a (x ∷ xs) ≡ x ∷ xs
insert_here a x xs e =
    ap (λ (t : Bool). cond t (a ∷ x ∷ xs) (cond (a == x) (x ∷ xs) (x ∷ insert_once a xs))) (le-ltb a x (omega arith))
    ∙ ap (λ (t : Bool). cond t (x ∷ xs) (x ∷ insert_once a xs)) (eq-eqb a x e)

insert_above : (a x : ℕ) (xs : List ℕ) → x < a → insert_once a (x ∷ xs) ≡ x ∷ insert_once a xs
insert_above a x xs lt =
    ap (λ (t : Bool). cond t (a ∷ x ∷ xs) (cond (a == x) (x ∷ xs) (x ∷ insert_once a xs))) (le-ltb a x (omega arith))
    ∙ ap (λ (t : Bool). cond t (x ∷ xs) (x ∷ insert_once a xs)) (ne_eqb a x (omega arith))

insert_ascends : (from a : ℕ) (xs : List ℕ) → from ≤ a → Ascend from xs → Ascend from (insert_once a xs)
insert_ascends from a [] low asc = (low, tt)
insert_ascends from a (x ∷ xs) low asc =
    elim (cases_order a x) [
      | inl e ↦ subst (λ (l : List ℕ). Ascend from l) (sym (insert_here a x xs e)) asc
      | inr (inl lt) ↦ subst (λ (l : List ℕ). Ascend from l) (sym (insert_below a x xs lt)) (low, (omega arith, asc.1))
      | inr (inr lt) ↦
          let rest = insert_ascends (x + 1) a xs (omega arith) asc.1 in
          subst (λ (l : List ℕ). Ascend from l) (sym (insert_above a x xs lt)) (asc.0, rest)
    ]

sorted_ascends : (xs : List ℕ) → Ascend 0 (sorted_once xs)
sorted_ascends [] = tt
sorted_ascends (x ∷ xs) = insert_ascends 0 x (sorted_once xs) (omega arith) (sorted_ascends xs)

-- it has just the numbers of the list: of two tests in a row the order doesn't matter, nor whether one comes twice
swapped : (s t u : Bool) → (s || (t || u)) ≡ (t || (s || u))
swapped true true u = refl
swapped true false u = refl
swapped false t u = refl

twice : (s u : Bool) → (s || (s || u)) ≡ (s || u)
twice true u = refl
twice false u = refl

insert_has : (a b : ℕ) (xs : List ℕ) → has b (insert_once a xs) ≡ has b (a ∷ xs)
insert_has a b [] = refl
insert_has a b (x ∷ xs) =
    elim (cases_order a x) [
      | inl e ↦ ap (has b) (insert_here a x xs e) ∙ sym (ap (λ (y : ℕ). has b (y ∷ x ∷ xs)) e ∙ twice (x == b) (has b xs))
      | inr (inl lt) ↦ ap (has b) (insert_below a x xs lt)
      | inr (inr lt) ↦
          ap (has b) (insert_above a x xs lt)
          ∙ ap (λ (t : Bool). (x == b) || t) (insert_has a b xs)
          ∙ swapped (x == b) (a == b) (has b xs)
    ]

sorted_has : (b : ℕ) (xs : List ℕ) → has b (sorted_once xs) ≡ has b xs
sorted_has b [] = refl
sorted_has b (x ∷ xs) = insert_has x b (sorted_once xs) ∙ ap (λ (t : Bool). (x == b) || t) (sorted_has b xs)

-- the one ascending list of the same numbers
sorted_is : (xs ys : List ℕ) → rules.Ascend ys → ((a : ℕ) → has a ys ≡ has a xs) → ys ≡ sorted_once xs
sorted_is xs ys asc same = same_numbers 0 0 ys (sorted_once xs) (ascends_by_places ys asc) (sorted_ascends xs) (λ a. same a ∙ sym (sorted_has a xs))

-- a list that ascends stays
pub sorted_already : (xs : List ℕ) → rules.Ascend xs → sorted_once xs ≡ xs
sorted_already xs asc = sym (sorted_is xs xs asc (λ a. refl))

-- ---- what a sort and a dedup leave

dedup_from_has : (b k : ℕ) (xs : List ℕ) → has b (dedup_from (λ x y. x == y) k xs) ≡ has b (k ∷ xs)
dedup_from_has b k [] = refl
dedup_from_has b k (x ∷ xs) =
    let step = λ (t : Bool). has b (cond t (dedup_from (λ x y. x == y) k xs) (k ∷ dedup_from (λ x y. x == y) x xs)) in
    elim (cases_Bool (x == k)) [
      | inl e ↦
          ap step e
          ∙ (dedup_from_has b k xs
          ∙ sym (ap (λ (y : ℕ). has b (k ∷ y ∷ xs)) (eqb-true x k e) ∙ twice (k == b) (has b xs)))
      | inr e ↦ ap step e ∙ ap (λ (t : Bool). (k == b) || t) (dedup_from_has b x xs)
    ]

dedup_has : (b : ℕ) (xs : List ℕ) → has b (dedup (λ x y. x == y) xs) ≡ has b xs
dedup_has b [] = refl
dedup_has b (x ∷ xs) = dedup_from_has b x xs

pub dedup_ascends : (xs : List ℕ) → IsSorted nat_cmp xs → rules.Ascend (dedup (λ x y. x == y) xs)
dedup_ascends xs sorted i j lt below = AllPairs-from_increasing (dedup (λ x y. x == y) xs) (IsStrictlyIncreasing-dedup xs sorted) i j 0 lt below

pub dedup_sorted : (xs ys : List ℕ) → IsPermutation xs ys → IsSorted nat_cmp ys → dedup (λ x y. x == y) ys ≡ sorted_once xs
dedup_sorted xs ys moved sorted =
    sorted_is xs (dedup (λ x y. x == y) ys) (dedup_ascends ys sorted) (λ a. dedup_has a ys ∙ sym (list_any-IsPermutation (λ x. x == a) xs ys moved))

-- ---- the addresses that pairs have with a kind

abbrev first : ℕ × ℕ → ℕ
first q = q.0

module _ (kind : ℕ) where
  -- one pair more
  of_kind_more : (f : ℕ → ℕ × ℕ) (n : ℕ) → of_kind kind (map f (range_with_len 0 (n + 1))) ≡ of_kind kind (map f (range_with_len 0 n)) ++ cond ((f n).1 == kind) ((f n).0 ∷ []) []
  of_kind_more f n =
      ap (map first) (filter_of_map_range_with_len_more (λ (q : ℕ × ℕ). q.1 == kind) f 0 n n (omega arith))
      ∙ (map-append first (filter (λ (q : ℕ × ℕ). q.1 == kind) (map f (range_with_len 0 n))) (cond ((f n).1 == kind) (f n ∷ []) [])
      ∙ ap (λ (l : List ℕ). of_kind kind (map f (range_with_len 0 n)) ++ l) (one ((f n).1 == kind) (f n)))
    where
      one : (t : Bool) (q : ℕ × ℕ) → map first (cond t (q ∷ []) []) ≡ cond t (q.0 ∷ []) []
      one true q = refl
      one false q = refl

  -- so a loop's step takes its address or passes it
  module _ (f : ℕ → ℕ × ℕ) (n : ℕ) (now new : List ℕ) (is : now ≡ of_kind kind (map f (range_with_len 0 n))) where
    pub kind_taken : (x : ℕ) → (f n).1 ≡ kind → x ≡ (f n).0 → new ≡ now ++ x ∷ [] → new ≡ of_kind kind (map f (range_with_len 0 (n + 1)))
    kind_taken x that e more =
        more
        ∙ (ap (λ (l : List ℕ). l ++ x ∷ []) is
        ∙ (ap (λ (y : ℕ). of_kind kind (map f (range_with_len 0 n)) ++ y ∷ []) e
        ∙ (ap (λ (t : Bool). of_kind kind (map f (range_with_len 0 n)) ++ cond t ((f n).0 ∷ []) []) (sym (eq-eqb (f n).1 kind that))
        ∙ sym (of_kind_more f n))))

    pub kind_passed : (f n).1 ≢ kind → new ≡ now → new ≡ of_kind kind (map f (range_with_len 0 (n + 1)))
    kind_passed other same =
        same
        ∙ (is
        ∙ (sym (append-nil (of_kind kind (map f (range_with_len 0 n))))
        ∙ (ap (λ (t : Bool). of_kind kind (map f (range_with_len 0 n)) ++ cond t ((f n).0 ∷ []) []) (sym (ne_eqb (f n).1 kind other))
        ∙ sym (of_kind_more f n))))

-- the list of sites has with kind 0 the addresses that the rule picks, and with kind 1 those that the edge rule picks
all_kinds : (a : ℕ) (all ways : Bool) (qs : List (ℕ × ℕ)) → of_kind 0 (kinds_at a all ways ++ qs) ≡ cond all (a ∷ []) [] ++ of_kind 0 qs
all_kinds a true true qs = refl
all_kinds a true false qs = refl
all_kinds a false true qs = refl
all_kinds a false false qs = refl

way_kinds : (a : ℕ) (all ways : Bool) (qs : List (ℕ × ℕ)) → of_kind 1 (kinds_at a all ways ++ qs) ≡ cond ways (a ∷ []) [] ++ of_kind 1 qs
way_kinds a true true qs = refl
way_kinds a true false qs = refl
way_kinds a false true qs = refl
way_kinds a false false qs = refl

passing_more : (t : Bool) (s : Site) (ss : List Site) → cond t (s.at ∷ []) [] ++ map site_address ss ≡ map site_address (cond t (s ∷ ss) ss)
passing_more true s ss = refl
passing_more false s ss = refl

pub all_listed : (rules : Rules) (ss : List Site) → of_kind 0 (pieces.listed rules ss) ≡ passing (picked rules.all) ss
all_listed rules [] = refl
all_listed rules (s ∷ ss) =
    all_kinds s.at (picked rules.all s) (edge_picked rules.ways s) (pieces.listed rules ss)
    ∙ (ap (λ (l : List ℕ). cond (picked rules.all s) (s.at ∷ []) [] ++ l) (all_listed rules ss)
    ∙ passing_more (picked rules.all s) s (filter (picked rules.all) ss))

pub ways_listed : (rules : Rules) (ss : List Site) → of_kind 1 (pieces.listed rules ss) ≡ passing (edge_picked rules.ways) ss
ways_listed rules [] = refl
ways_listed rules (s ∷ ss) =
    way_kinds s.at (picked rules.all s) (edge_picked rules.ways s) (pieces.listed rules ss)
    ∙ (ap (λ (l : List ℕ). cond (edge_picked rules.ways s) (s.at ∷ []) [] ++ l) (ways_listed rules ss)
    ∙ passing_more (edge_picked rules.ways s) s (filter (edge_picked rules.ways) ss))
