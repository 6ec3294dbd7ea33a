-- Ascending addresses and pairs, from one that isn't below an address on.
use Rattle.std.proofs.Common.{◌≡◌, ◌≢◌, ℕ, zero, suc, ◌+◌, ◌-◌, ◌<◌, ◌≤◌, Bool, true, false, ◌||◌, eqb, ltb, List, [], ◌∷◌, length, get_or, take, drop, Some, None, refl, sym, ap, ◌∙◌, subst, arith}
use Rattle.std.specs.List.{list_any}
use Rattle.std.specs.List.Sorted.{IsNonDecreasingBy}
use Rattle.std.proofs.lemmas.Bool.{ne_eqb, eq-eqb, and_from, le-leb, lt-ltb, ltb-true, ltb-false}
use Rattle.std.proofs.lemmas.List.{take_all, length-drop}
use Rattle.std.proofs.lemmas.Bool.Decides.{nat_tests}
use Rattle.mv_base.specs.Memory.{within}
use Rattle.map_table.specs.Pairs.{second_of, firsts, Ascend}

pub ascend_weaker : (low from : ℕ) (xs : List ℕ) → low ≤ from → Ascend from xs → Ascend low xs
ascend_weaker low from [] l h = tt
ascend_weaker low from (x ∷ xs) l h = (omega (arith, h.0), h.1)

-- the same as a record, and with an equal number
pub record AscendsFrom (from : ℕ) (xs : List ℕ) : Type 0 where
  pub ascend : Ascend from xs

pub ascends_from : (from low : ℕ) (xs : List ℕ) → from ≡ low → Ascend low xs → AscendsFrom from xs
ascends_from from low xs e h = record { ascend = ascend_weaker from low xs (omega arith) h }

-- each element of an ascending list lies no lower than where it begins, and they never fall
ascend_low : (from : ℕ) (xs : List ℕ) (k d : ℕ) → Ascend from xs → k < length xs → from ≤ get_or xs k d
ascend_low from [] k d h lt = absurd (omega arith)
ascend_low from (x ∷ xs) zero d h lt = h.0
ascend_low from (x ∷ xs) (suc k) d h lt = omega (arith, h.0, ascend_low (x + 1) xs k d h.1 (omega arith))

pub never_falls : (from : ℕ) (xs : List ℕ) → Ascend from xs → IsNonDecreasingBy (λ x. x) xs
never_falls from [] h i j d le lt = absurd (omega arith)
never_falls from (x ∷ xs) h zero zero d le lt = omega arith
never_falls from (x ∷ xs) h zero (suc j) d le lt = omega (arith, ascend_low (x + 1) xs j d h.1 (omega arith))
never_falls from (x ∷ xs) h (suc i) zero d le lt = absurd (omega arith)
never_falls from (x ∷ xs) h (suc i) (suc j) d le lt = never_falls (x + 1) xs h.1 i j d (omega arith) (omega arith)

first_low : (from : ℕ) (ps : List (ℕ × ℕ)) (k : ℕ) (d : ℕ × ℕ) → Ascend from (firsts ps) → k < length ps → from ≤ (get_or ps k d).0
first_low from [] k d h lt = absurd (omega arith)
first_low from (p ∷ ps) zero d h lt = h.0
first_low from (p ∷ ps) (suc k) d h lt = omega (arith, h.0, first_low (p.0 + 1) ps k d h.1 (omega arith))

pub firsts_never_fall : (from : ℕ) (ps : List (ℕ × ℕ)) → Ascend from (firsts ps) → IsNonDecreasingBy (λ (p : ℕ × ℕ). p.0) ps
firsts_never_fall from [] h i j d le lt = absurd (omega arith)
firsts_never_fall from (p ∷ ps) h zero zero d le lt = omega arith
firsts_never_fall from (p ∷ ps) h zero (suc j) d le lt = omega (arith, first_low (p.0 + 1) ps j d h.1 (omega arith))
firsts_never_fall from (p ∷ ps) h (suc i) zero d le lt = absurd (omega arith)
firsts_never_fall from (p ∷ ps) h (suc i) (suc j) d le lt = firsts_never_fall (p.0 + 1) ps h.1 i j d (omega arith) (omega arith)

-- tests of a range of addresses
outside : (lo len x : ℕ) → x < lo → within lo len x ≡ false
outside lo len x lt = grind (arith, nat_tests)

beyond : (lo len x : ℕ) → lo + len ≤ x → within lo len x ≡ false
beyond lo len x le = grind (arith, nat_tests)

pub inside : (lo len x : ℕ) → lo ≤ x → x < lo + len → within lo len x ≡ true
inside lo len x le lt = and_from _ _ (le-leb lo x le) (lt-ltb x (lo + len) lt)

-- none of ascending addresses lies in a range that ends where they begin
none_in : (from lo len : ℕ) (xs : List ℕ) → Ascend from xs → lo + len ≤ from → list_any (within lo len) xs ≡ false
none_in from lo len [] h le = refl
none_in from lo len (x ∷ xs) h le =
    ap (λ b. b || list_any (within lo len) xs) (beyond lo len x (omega (arith, h.0)))
    ∙ none_in (x + 1) lo len xs h.1 (omega (arith, h.0))

-- whether one of them lies in a range that begins where they do is seen at the first
any_by : (lo len x : ℕ) (xs : List ℕ) (b : Bool) → Ascend lo (x ∷ xs) → ltb (x - lo) len ≡ b → b ≡ list_any (within lo len) (x ∷ xs)
any_by lo len x xs true h e =
    let lt : x - lo < len = ltb-true (x - lo) len e in
    sym (ap (λ b. b || list_any (within lo len) xs) (inside lo len x h.0 (omega (arith, lt, h.0))))
any_by lo len x xs false h e =
    let le : len ≤ x - lo = ltb-false (x - lo) len e in
    sym (none_in x lo len (x ∷ xs) (omega arith, h.1) (omega (arith, le, h.0)))

pub any_site : (lo len x : ℕ) (xs ys : List ℕ) → ys ≡ x ∷ xs → Ascend lo ys → ltb (x - lo) len ≡ list_any (within lo len) ys
any_site lo len x xs ys e h =
    any_by lo len x xs (ltb (x - lo) len) (subst (Ascend lo) e h) refl ∙ ap (list_any (within lo len)) (sym e)

pub any_pair : (lo len : ℕ) (p : ℕ × ℕ) (ps qs : List (ℕ × ℕ)) → qs ≡ p ∷ ps → Ascend lo (firsts qs) → ltb (p.0 - lo) len ≡ list_any (within lo len) (firsts qs)
any_pair lo len p ps qs e h = any_site lo len p.0 (firsts ps) (firsts qs) (ap firsts e) h

pub no_site : (lo len : ℕ) (ys : List ℕ) → ys ≡ [] → false ≡ list_any (within lo len) ys
no_site lo len ys e = ap (list_any (within lo len)) (sym e)

pub no_pair : (lo len : ℕ) (qs : List (ℕ × ℕ)) → qs ≡ [] → false ≡ list_any (within lo len) (firsts qs)
no_pair lo len qs e = ap (λ (l : List (ℕ × ℕ)). list_any (within lo len) (firsts l)) (sym e)

-- ---- sites from an address on

pub record SkippedSites (lo : ℕ) (xs ys : List ℕ) : Type 0 where
  pub ascend : Ascend lo ys
  pub same : (len : ℕ) → list_any (within lo len) ys ≡ list_any (within lo len) xs

pub skip_sites : (lo : ℕ) (xs : List ℕ) (i : ℕ) → Ascend 0 xs → i ≤ length xs → ((k d : ℕ) → k < i → get_or xs k d < lo)
    → ((k d : ℕ) → i ≤ k → k < length xs → lo ≤ get_or xs k d) → SkippedSites lo xs (drop i xs)
skip_sites lo [] zero h le low high = record { ascend = tt; same = λ len. refl }
skip_sites lo [] (suc i) h le low high = absurd (omega arith)
skip_sites lo (x ∷ xs) zero h le low high = record { ascend = (high 0 0 (omega arith) (omega arith), h.1); same = λ len. refl }
skip_sites lo (x ∷ xs) (suc i) h le low high =
    let rest = skip_sites lo xs i (ascend_weaker 0 (x + 1) xs (omega arith) h.1) (omega arith) (λ k d lt. low (suc k) d (omega arith))
    (λ k d l lt. high (suc k) d (omega arith) (omega arith)) in
    record {
      ascend = rest.ascend;
      same = λ len. rest.same len ∙ sym (ap (λ b. b || list_any (within lo len) xs) (outside lo len x (low 0 0 (omega arith))));
    }

-- ---- pairs

pub second_none : (a : ℕ) → second_of [] a ≡ None
unfolding second_of
second_none a = refl

pub second_here : (p : ℕ × ℕ) (ps : List (ℕ × ℕ)) (a : ℕ) → p.0 ≡ a → second_of (p ∷ ps) a ≡ Some p.1
unfolding second_of
second_here p ps a h = let t : eqb p.0 a ≡ true = eq-eqb p.0 a h in rw t refl

pub second_later : (p : ℕ × ℕ) (ps : List (ℕ × ℕ)) (a : ℕ) → p.0 ≢ a → second_of (p ∷ ps) a ≡ second_of ps a
unfolding second_of
second_later p ps a h = let t : eqb p.0 a ≡ false = ne_eqb p.0 a h in rw t refl

-- no pair has an address below the first of the pairs
pub second_below : (from : ℕ) (ps : List (ℕ × ℕ)) → Ascend from (firsts ps) → (a : ℕ) → a < from → second_of ps a ≡ None
second_below from [] h a l = second_none a
second_below from (p ∷ ps) h a l =
    second_later p ps a (λ e. omega (arith, e, h.0)) ∙ second_below (p.0 + 1) ps h.1 a (omega (arith, h.0))

-- the second part of an address at which pairs begin is seen at the first of them
pub first_is : (p : ℕ × ℕ) (ps qs : List (ℕ × ℕ)) (a : ℕ) → qs ≡ p ∷ ps → p.0 ≡ a → Some p.1 ≡ second_of qs a
first_is p ps qs a e h = sym (ap (λ (l : List (ℕ × ℕ)). second_of l a) e ∙ second_here p ps a h)

pub first_above : (p : ℕ × ℕ) (ps qs : List (ℕ × ℕ)) (a : ℕ) → qs ≡ p ∷ ps → Ascend a (firsts qs) → p.0 ≢ a → None ≡ second_of qs a
first_above p ps qs a e asc ne =
    let h = subst (λ (l : List (ℕ × ℕ)). Ascend a (firsts l)) e asc in
    sym (ap (λ (l : List (ℕ × ℕ)). second_of l a) e ∙ (second_later p ps a ne ∙ second_below (p.0 + 1) ps h.1 a (omega (arith, h.0))))

pub first_none : (qs : List (ℕ × ℕ)) (a : ℕ) → qs ≡ [] → None ≡ second_of qs a
first_none qs a e = sym (ap (λ (l : List (ℕ × ℕ)). second_of l a) e ∙ second_none a)

-- the pairs behind the first
pub others_same : (p : ℕ × ℕ) (ps qs : List (ℕ × ℕ)) (low : ℕ) → qs ≡ p ∷ ps → p.0 ≡ low → (a : ℕ) → low < a → second_of ps a ≡ second_of qs a
others_same p ps qs low e h a lt = sym (ap (λ (l : List (ℕ × ℕ)). second_of l a) e ∙ second_later p ps a (λ s. omega (arith, s, h, lt)))

pub record SkippedPairs (lo : ℕ) (ps qs : List (ℕ × ℕ)) : Type 0 where
  pub ascend : Ascend lo (firsts qs)
  pub site : (len : ℕ) → list_any (within lo len) (firsts qs) ≡ list_any (within lo len) (firsts ps)
  pub same : (a : ℕ) → lo ≤ a → second_of qs a ≡ second_of ps a

pub skip_pairs : (lo : ℕ) (ps : List (ℕ × ℕ)) (i : ℕ) → Ascend 0 (firsts ps) → i ≤ length ps → ((k : ℕ) (d : ℕ × ℕ) → k < i → (get_or ps k d).0 < lo)
    → ((k : ℕ) (d : ℕ × ℕ) → i ≤ k → k < length ps → lo ≤ (get_or ps k d).0) → SkippedPairs lo ps (drop i ps)
skip_pairs lo [] zero h le low high = record { ascend = tt; site = λ len. refl; same = λ a l. refl }
skip_pairs lo [] (suc i) h le low high = absurd (omega arith)
skip_pairs lo (p ∷ ps) zero h le low high =
    record { ascend = (high 0 p (omega arith) (omega arith), h.1); site = λ len. refl; same = λ a l. refl }
skip_pairs lo (p ∷ ps) (suc i) h le low high =
    let below : p.0 < lo = low 0 p (omega arith) in
    let rest = skip_pairs lo ps i (ascend_weaker 0 (p.0 + 1) (firsts ps) (omega arith) h.1) (omega arith) (λ k d lt. low (suc k) d (omega arith))
    (λ k d l lt. high (suc k) d (omega arith) (omega arith)) in
    record {
      ascend = rest.ascend;
      site = λ len. rest.site len ∙ sym (ap (λ b. b || list_any (within lo len) (firsts ps)) (outside lo len p.0 below));
      same = λ a l. rest.same a l ∙ sym (second_later p ps a (λ e. omega (arith, e, below, l)));
    }

-- a slice from an index to the end is what is left behind that many elements
pub all_left : {X : Type 0} (xs : List X) (i : ℕ) → take (length xs - i) (drop i xs) ≡ drop i xs
all_left xs i = take_all (length xs - i) (drop i xs) (omega (arith, length-drop i xs))
