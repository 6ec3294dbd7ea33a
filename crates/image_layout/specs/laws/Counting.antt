-- How many bytes the chains of some sites have at most.
use Rattle.std.proofs.Common.{◌≡◌, ℕ, zero, suc, ◌+◌, ◌*◌, ◌<◌, ◌≤◌, eqb, List, [], ◌∷◌, length, Option, Some, None, refl, ap, inl, inr, arith}
use Rattle.std.specs.Prelude.{slice_index}
use Rattle.std.specs.List.{AllByRecursion}
use Rattle.std.proofs.lemmas.Bool.{cases_eq, eq-eqb, ne_eqb}
use Rattle.std.proofs.lemmas.List.{length-append}
use Rattle.superset.specs.declared.site.Site.{Site}
use Rattle.sequence_join.specs.Chains.{Chain, order, EachOnce, AreLinks, IsLinked}
use Rattle.image_layout.specs.Parts.{link_parts, chain_parts, parts, parts_len}
use Rattle.image_layout.specs.laws.Placing.{one_if, parts_len-append}
use Rattle.image_layout.specs.laws.Following.{count_of, count-cons, once_most, once_below, all_below}

-- how often the numbers below n are in a list
total : ℕ → List ℕ → ℕ
total zero xs = 0
total (suc n) xs = count_of n xs + total n xs

total-nil : (n : ℕ) → total n [] ≡ 0
unfolding total
total-nil zero = refl
total-nil (suc n) = omega (arith, total-nil n)

total-above : (n x : ℕ) (xs : List ℕ) → n ≤ x → total n (x ∷ xs) ≡ total n xs
unfolding total
total-above zero x xs le = refl
total-above (suc n) x xs le =
    let other : one_if (eqb x n) ≡ 0 = ap one_if (ne_eqb x n (λ e. omega (arith, e, le))) in
    omega (arith, count-cons n x xs, other, total-above n x xs (omega (arith, le)))

total-below : (n x : ℕ) (xs : List ℕ) → x < n → total n (x ∷ xs) ≡ 1 + total n xs
unfolding total
total-below zero x xs lt = absurd (omega (arith, lt))
total-below (suc n) x xs lt =
    elim (cases_eq x n) [
      | inl e ↦
          let here : one_if (eqb x n) ≡ 1 = ap one_if (eq-eqb x n e) in
          omega (arith, count-cons n x xs, here, total-above n x xs (omega (arith, e)))
      | inr ne ↦
          let other : one_if (eqb x n) ≡ 0 = ap one_if (ne_eqb x n ne) in
          omega (arith, count-cons n x xs, other, total-below n x xs (omega (arith, lt, ne)))
    ]

total-length : (n : ℕ) (xs : List ℕ) → AllByRecursion (λ x. x < n) xs → total n xs ≡ length xs
unfolding total
total-length n [] all = total-nil n
total-length n (x ∷ xs) all = omega (arith, total-below n x xs all.0, total-length n xs all.1)

total-most : (n m : ℕ) (xs : List ℕ) → EachOnce m xs → total n xs ≤ n
unfolding total
total-most zero m xs each = omega arith
total-most (suc n) m xs each = omega (arith, once_most m n xs each, total-most n m xs each)

-- a list in which each number below n stands once, and no other, is no longer
pub length-once : (n : ℕ) (xs : List ℕ) → EachOnce n xs → length xs ≤ n
length-once n xs each = omega (arith, total-length n xs (all_below n xs (λ k some. once_below n k xs each some)), total-most n n xs each)

-- ---- the bytes of parts

links_most : (lens ks : List ℕ) (next : Option ℕ) (m : ℕ) → ((k : ℕ) → slice_index lens k ≤ m) → parts_len lens (link_parts ks next) ≤ m * length ks + 5
unfolding parts_len
links_most lens [] None m most = omega arith
links_most lens [] (Some to) m most = omega arith
links_most lens (k ∷ ks) next m most = omega (arith, most k, links_most lens ks next m most)

-- a site has at most 151 bytes, its counters and its piece; a chain has a link, and so at most 5 bytes for each besides
linked_most : (ss : List Site) (lens ks : List ℕ) (next : Option ℕ) → AreLinks ss ks next → ((k : ℕ) → slice_index lens k ≤ 151) → parts_len lens (link_parts ks next) ≤ 156 * length ks
linked_most ss lens [] next linked most = absurd linked
linked_most ss lens (k ∷ ks) next linked most = omega (arith, links_most lens (k ∷ ks) next 151 most)

pub parts_most : (ss : List Site) (lens : List ℕ) (cs : List Chain) → AllByRecursion (IsLinked ss) cs → ((k : ℕ) → slice_index lens k ≤ 151) → parts_len lens (parts cs) ≤ 156 * length (order cs)
unfolding parts_len
parts_most ss lens [] linked most = omega arith
parts_most ss lens (c ∷ cs) linked most =
    omega (arith, parts_len-append lens (chain_parts c) (parts cs), linked_most ss lens c.links c.next linked.0 most, parts_most ss lens cs linked.1 most, length-append c.links (order cs))
