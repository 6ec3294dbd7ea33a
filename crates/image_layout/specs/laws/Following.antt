-- What stands behind each piece of chains in which each site stands once and each leads to the next.
use Rattle.std.proofs.Common.{◌≡◌, ℕ, ◌+◌, ◌<◌, ◌≤◌, ◌⊎◌, Bool, true, cond, eqb, ltb, List, [], ◌∷◌, ◌++◌, map, Option, Some, None, refl, sym, ap, ◌∙◌, subst, inl, inr, arith}
use Rattle.std.specs.List.{AllByRecursion, count_by}
use Rattle.std.proofs.lemmas.Bool.{cases_Bool, eqb-true, ltb-true, lt-ltb, cases_lt}
use Rattle.std.proofs.lemmas.List.Elements.{All-from_recursion}
use Rattle.std.proofs.lemmas.List.Sums.{sum_by-cons, sum_by-append}
use Rattle.std.proofs.lemmas.Option.{same_Some}
use Rattle.superset.specs.declared.site.Site.{Site}
use Rattle.sequence_join.specs.Chains.{Chain, order, EachOnce, goes_on, address_of, AreLinked, AreLinks, IsLinked}
use Rattle.image_layout.specs.Parts.{Part, Piece, Join, join_parts, link_parts, chain_parts, parts, is_piece}
use Rattle.image_layout.specs.Sites.{AreBelow}
use Rattle.image_layout.specs.laws.Placing.{one_if, occurs, AreSingle, first_part, behind}

-- ---- each site's piece is there once

abbrev pub count_of : ℕ → List ℕ → ℕ
count_of k xs = count_by (λ j. eqb j k) xs

pub count-cons : (k x : ℕ) (xs : List ℕ) → count_of k (x ∷ xs) ≡ one_if (eqb x k) + count_of k xs
count-cons k x xs = sum_by-cons (λ j. one_if (eqb j k)) x xs

occurs-append : (k : ℕ) (ps qs : List Part) → occurs k (ps ++ qs) ≡ occurs k ps + occurs k qs
unfolding occurs
occurs-append k [] qs = omega arith
occurs-append k (p ∷ ps) qs = omega (arith, occurs-append k ps qs)

occurs-links : (k : ℕ) (ks : List ℕ) → occurs k (map (λ j. Piece j) ks) ≡ count_of k ks
unfolding occurs
occurs-links k [] = refl
occurs-links k (x ∷ ks) = omega (arith, occurs-links k ks, count-cons k x ks)

occurs-joins : (k : ℕ) (next : Option ℕ) → occurs k (join_parts next) ≡ 0
unfolding occurs
occurs-joins k None = refl
occurs-joins k (Some to) = refl

occurs-chain : (k : ℕ) (ks : List ℕ) (next : Option ℕ) → occurs k (link_parts ks next) ≡ count_of k ks
occurs-chain k ks next = omega (arith, occurs-append k (map (λ j. Piece j) ks) (join_parts next), occurs-links k ks, occurs-joins k next)

pub occurs-parts : (k : ℕ) (cs : List Chain) → occurs k (parts cs) ≡ count_of k (order cs)
unfolding occurs
occurs-parts k [] = refl
occurs-parts k (c ∷ cs) =
    omega (arith, occurs-append k (chain_parts c) (parts cs), occurs-chain k c.links c.next, occurs-parts k cs, sum_by-append (λ j. one_if (eqb j k)) c.links (order cs))

pub once_most : (n k : ℕ) (xs : List ℕ) → EachOnce n xs → count_of k xs ≤ 1
once_most n k xs each =
    elim (cases_Bool (ltb k n)) [
      | inl t ↦ omega (arith, each k, ap one_if t)
      | inr t ↦ omega (arith, each k, ap one_if t)
    ]

pub single : (n : ℕ) (cs : List Chain) → EachOnce n (order cs) → AreSingle (parts cs)
single n cs each = record { once = λ k. omega (arith, once_most n k (order cs) each, occurs-parts k cs) }

pub there : (n k : ℕ) (cs : List Chain) → EachOnce n (order cs) → k < n → 0 < occurs k (parts cs)
there n k cs each lt = omega (arith, each k, ap one_if (lt-ltb k n lt), occurs-parts k cs)

-- ---- indexes are below the number of sites

pub once_below : (n k : ℕ) (xs : List ℕ) → EachOnce n xs → 0 < count_of k xs → k < n
once_below n k xs each some =
    elim (cases_Bool (ltb k n)) [
      | inl t ↦ ltb-true k n t
      | inr t ↦ absurd (omega (arith, each k, ap one_if t, some))
    ]

pub all_below : (n : ℕ) (xs : List ℕ) → ((k : ℕ) → 0 < count_of k xs → k < n) → AllByRecursion (λ k. k < n) xs
all_below n [] h = tt
all_below n (x ∷ xs) h = (
  h x (omega (arith, count-cons x x xs, ap one_if (same x))),
  all_below n xs (λ k some. h k (omega (arith, count-cons k x xs, some))),
)
  where
    same : (a : ℕ) → eqb a a ≡ true
    same a = grind arith

links_below : (n : ℕ) (cs : List Chain) → ((k : ℕ) → 0 < count_of k (order cs) → k < n) → AreBelow n cs
links_below n [] h = tt
links_below n (c ∷ cs) h =
    let both : (k : ℕ) → count_of k (order (c ∷ cs)) ≡ count_of k c.links + count_of k (order cs) = λ k. sum_by-append (λ j. one_if (eqb j k)) c.links (order cs) in (
      All-from_recursion (λ k. k < n) c.links (all_below n c.links (λ k some. h k (omega (arith, both k, some)))),
      links_below n cs (λ k some. h k (omega (arith, both k, some))),
    )

pub below : (n : ℕ) (cs : List Chain) → EachOnce n (order cs) → AreBelow n cs
below n cs each = links_below n cs (λ k some. once_below n k (order cs) each some)

-- ---- what is behind a piece

-- a join to an address, or the piece of the site there
abbrev pub Onward : List Site → ℕ → Option Part → Type 0
Onward ss a o = (o ≡ Some (Join a)) ⊎ ((j : ℕ) × (o ≡ Some (Piece j)) × (address_of ss j ≡ Some a))

behind-skip : (k : ℕ) (ps qs : List Part) → occurs k ps ≡ 0 → behind k (ps ++ qs) ≡ behind k qs
unfolding occurs behind
behind-skip k [] qs e = refl
behind-skip k (p ∷ ps) qs e =
    elim (cases_Bool (is_piece k p)) [
      | inl t ↦ let one : cond (is_piece k p) 1 0 ≡ 1 = ap one_if t in absurd (omega (arith, e, one))
      | inr t ↦ ap (λ (u : Bool). cond u (first_part (ps ++ qs)) (behind k (ps ++ qs))) t ∙ behind-skip k ps qs (omega (arith, e))
    ]

behind_last : (ss : List Site) (next : Option ℕ) (rest : List Part) (a : ℕ) → next ≡ Some a → Onward ss a (first_part (join_parts next ++ rest))
behind_last ss next rest a e = inl (ap (λ (o : Option ℕ). first_part (join_parts o ++ rest)) e)

behind_link : (ss : List Site) (j : ℕ) (ks : List ℕ) (next : Option ℕ) (rest : List Part) (k a : ℕ) → AreLinked ss j ks next → 0 < occurs k (link_parts (j ∷ ks) next) → goes_on ss k ≡ Some a → Onward ss a (behind k (link_parts (j ∷ ks) next ++ rest))
unfolding occurs behind
behind_link ss j [] next rest k a linked some goes =
    elim (cases_Bool (eqb j k)) [
      | inl t ↦
          let is : next ≡ Some a = sym linked ∙ (ap (goes_on ss) (eqb-true j k t) ∙ goes) in
          subst (λ (o : Option Part). Onward ss a o) (sym (ap (λ (u : Bool). cond u (first_part (join_parts next ++ rest)) (behind k (join_parts next ++ rest))) t)) (behind_last ss next rest a is)
      | inr t ↦ absurd (omega (arith, some, ap one_if t, occurs-joins k next))
    ]
behind_link ss j (i ∷ ks) next rest k a linked some goes =
    let tail = link_parts (i ∷ ks) next ++ rest in
    elim (cases_Bool (eqb j k)) [
      | inl t ↦
          let at_is : linked.0.at ≡ a = same_Some linked.0.at a (sym linked.0.goes ∙ (ap (goes_on ss) (eqb-true j k t) ∙ goes)) in
          subst (λ (o : Option Part). Onward ss a o) (sym (ap (λ (u : Bool). cond u (first_part tail) (behind k tail)) t))
          (inr (i, refl, linked.0.there ∙ ap Some at_is))
      | inr t ↦
          subst (λ (o : Option Part). Onward ss a o) (sym (ap (λ (u : Bool). cond u (first_part tail) (behind k tail)) t))
          (behind_link ss i ks next rest k a linked.1 (omega (arith, some, ap one_if t)) goes)
    ]

behind_chain : (ss : List Site) (ks : List ℕ) (next : Option ℕ) (rest : List Part) (k a : ℕ) → AreLinks ss ks next → 0 < occurs k (link_parts ks next) → goes_on ss k ≡ Some a → Onward ss a (behind k (link_parts ks next ++ rest))
behind_chain ss [] next rest k a linked some goes = absurd linked
behind_chain ss (j ∷ ks) next rest k a linked some goes = behind_link ss j ks next rest k a linked some goes

-- what goes on by itself finds the way behind its piece
pub onward : (ss : List Site) (cs : List Chain) (k a : ℕ) → AllByRecursion (IsLinked ss) cs → 0 < occurs k (parts cs) → goes_on ss k ≡ Some a → Onward ss a (behind k (parts cs))
unfolding occurs
onward ss [] k a linked some goes = absurd (omega (arith, some))
onward ss (c ∷ cs) k a linked some goes =
    elim (cases_lt 0 (occurs k (chain_parts c))) [
      | inl here ↦ behind_chain ss c.links c.next (parts cs) k a linked.0 here goes
      | inr none ↦
          subst (λ (o : Option Part). Onward ss a o) (sym (behind-skip k (chain_parts c) (parts cs) (omega (arith, none))))
          (onward ss cs k a linked.1 (omega (arith, some, none, occurs-append k (chain_parts c) (parts cs))) goes)
    ]
