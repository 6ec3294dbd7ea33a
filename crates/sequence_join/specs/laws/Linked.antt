-- In a chain each site leads to the next one.
use Rattle.std.proofs.Common.{◌≡◌, ℕ, ◌+◌, ◌<◌, Bool, true, List, [], ◌∷◌, length, drop, get_or, eqb-true, Option, Some, None, refl, sym, ap, ◌∙◌, subst, inl, inr}
use Rattle.std.specs.Prelude.{slice_get}
use Rattle.std.specs.List.{AllByRecursion}
use Rattle.std.specs.Option.{option_map, option_and_then}
use Rattle.std.proofs.lemmas.Bool.{cases_Bool, cases_lt}
use Rattle.std.proofs.lemmas.List.{drop_more, drop_all}
use Rattle.std.proofs.lemmas.Option.{slice_get-get_or}
use Rattle.superset.specs.declared.site.Site.{Site}
use Rattle.sequence_join.specs.Chains.{Chain, after, is_there, with_links, rest, start, chains_from, address_of, goes_on, AreLinked, IsLinked}
use Rattle.sequence_join.specs.laws.Rests.{by_rest}
use Rattle.sequence_join.specs.laws.Making.{chains_end, chains_skip, chains_start}

-- the site at the front of what is left of some sites
pub record IsFront (sites : List Site) (k : ℕ) (s : Site) (ss : List Site) : Type 0 where
  pub inside : k < length sites
  pub here : slice_get sites k ≡ Some s
  pub behind : ss ≡ drop (k + 1) sites

front_at : (sites : List Site) (k : ℕ) (s x : Site) (ss ts : List Site) → k < length sites → slice_get sites k ≡ Some x → s ∷ ss ≡ x ∷ ts → ts ≡ drop (k + 1) sites → IsFront sites k s ss
front_at sites k s x ss ts l at e b =
    let first : s ≡ x = cc in
    let others : ss ≡ ts = cc in
    record { inside = l; here = at ∙ ap (λ (y : Site). Some y) (sym first); behind = others ∙ b }

pub front_of : (sites : List Site) (k : ℕ) (s : Site) (ss : List Site) → s ∷ ss ≡ drop k sites → IsFront sites k s ss
front_of sites k s ss e =
    elim (cases_lt k (length sites)) [
      | inl l ↦
          front_at sites k s (get_or sites k s) ss (drop (k + 1) sites) l (slice_get-get_or sites k s l) (e ∙ drop_more sites k s l) refl
      | inr l ↦ let none : s ∷ ss ≡ [] = e ∙ drop_all k sites l in absurd cc
    ]

-- the address at which a site is looked for
pub looked_for : (next : Option ℕ) (s : Site) → is_there next s ≡ true → next ≡ Some s.at
looked_for None s e = absurd cc
looked_for (Some a) s e = ap (λ (x : ℕ). Some x) (sym (eqb-true s.at a e))

module _ (sites : List Site) where
  pub address_at : (k : ℕ) (s : Site) → slice_get sites k ≡ Some s → address_of sites k ≡ Some s.at
  address_at k s e = ap (option_map (λ (x : Site). x.at)) e

  goes_at : (k : ℕ) (s : Site) → slice_get sites k ≡ Some s → goes_on sites k ≡ after s
  goes_at k s e = ap (option_and_then after) e

  rest_linked : (taken : ℕ → Bool) (next : Option ℕ) (k : ℕ) (ss : List Site) (j : ℕ) → ss ≡ drop k sites → goes_on sites j ≡ next → AreLinked sites j (rest taken next k ss).links (rest taken next k ss).next
  rest_linked taken next k ss =
      by_rest taken (λ (n : Option ℕ) (i : ℕ) (ts : List Site) (c : Chain). (j : ℕ) → ts ≡ drop i sites → goes_on sites j ≡ n → AreLinked sites j c.links c.next)
      (λ n i j e g. g)
      (λ n i s ts at t j e g. g)
      (λ n i s ts c at t h j e g.
      let front = front_of sites i s ts e in
      (record { at = s.at; goes = g ∙ looked_for n s at; there = address_at i s front.here }, h i front.behind (goes_at i s front.here)))
      (λ n i s ts c at h j e g. h j (front_of sites i s ts e).behind g)
      next k ss

  pub all_linked : (taken : ℕ → Bool) (k : ℕ) (ss : List Site) → ss ≡ drop k sites → AllByRecursion (IsLinked sites) (chains_from taken k ss)
  all_linked taken k [] e = subst (AllByRecursion (IsLinked sites)) (sym (chains_end taken k [] refl)) tt
  all_linked taken k (s ∷ ss) e =
      let front = front_of sites k s ss e in
      elim (cases_Bool (taken k)) [
        | inl t ↦ subst (AllByRecursion (IsLinked sites)) (sym (chains_skip taken k s ss t)) (all_linked taken (k + 1) ss front.behind)
        | inr t ↦
            let first = rest_linked taken (after s) (k + 1) ss k front.behind (goes_at k s front.here) in
            subst (AllByRecursion (IsLinked sites)) (sym (chains_start taken k s ss t)) (first, all_linked (with_links taken (start taken k s ss)) (k + 1) ss front.behind)
      ]
