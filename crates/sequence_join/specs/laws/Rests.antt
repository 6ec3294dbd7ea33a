-- The rest of a chain, site by site.
use Rattle.std.proofs.Common.{◌≡◌, ℕ, zero, suc, ◌+◌, ◌<◌, Bool, true, false, List, [], ◌∷◌, length, drop, get_or, Option, Some, None, not, eq-eqb, ne_eqb, refl, sym, ap, ◌∙◌, subst, inl, inr, arith}
use Rattle.std.specs.Bool.{then_some}
use Rattle.std.proofs.lemmas.Bool.{cases_Bool}
use Rattle.std.proofs.lemmas.Bool.Decides.{nat_tests}
use Rattle.std.proofs.lemmas.List.{drop_more}
use Rattle.std.proofs.lemmas.Option.{slice_get-get_or}
use Rattle.superset.specs.declared.site.Site.{Site}
use Rattle.superset.specs.Sites.{Ascend}
use Rattle.sequence_join.specs.Chains.{Chain, after, is_there, no_links, link, rest, goes_on}
use Rattle.sequence_join.specs.Walking.{chain_at, chain_by}

pub rest_end : (taken : ℕ → Bool) (next : Option ℕ) (k : ℕ) (ss : List Site) → ss ≡ [] → rest taken next k ss ≡ no_links next
unfolding rest
rest_end taken next k ss e = rw e refl

-- the next site isn't that which is looked for
pub rest_past : (taken : ℕ → Bool) (next : Option ℕ) (k : ℕ) (s : Site) (ss : List Site) → is_there next s ≡ false → rest taken next k (s ∷ ss) ≡ rest taken next (k + 1) ss
unfolding rest
rest_past taken next k s ss e = rw e refl

-- the next site is, and it is taken
pub rest_taken : (taken : ℕ → Bool) (next : Option ℕ) (k : ℕ) (s : Site) (ss : List Site) → is_there next s ≡ true → taken k ≡ true → rest taken next k (s ∷ ss) ≡ no_links next
unfolding rest
rest_taken taken next k s ss e t = rw (e, t) refl

-- the next site is, and it is free
pub rest_free : (taken : ℕ → Bool) (next : Option ℕ) (k : ℕ) (s : Site) (ss : List Site) → is_there next s ≡ true → taken k ≡ false → rest taken next k (s ∷ ss) ≡ link k (rest taken (after s) (k + 1) ss)
unfolding rest
rest_free taken next k s ss e t = rw (e, t) refl

-- where the flow doesn't go on by itself
pub rest_nowhere : (taken : ℕ → Bool) (k : ℕ) (ss : List Site) → rest taken None k ss ≡ no_links None
rest_nowhere taken k [] = rest_end taken None k [] refl
rest_nowhere taken k (s ∷ ss) = rest_past taken None k s ss refl ∙ rest_nowhere taken (k + 1) ss

-- where the site of an index goes on
pub goes_on_at : (sites : List Site) (k : ℕ) (d : Site) → k < length sites → goes_on sites k ≡ after (get_or sites k d)
goes_on_at sites k d l = rw (slice_get-get_or sites k d l) refl

-- behind its address a site isn't found
pub rest_none : (taken : ℕ → Bool) (a k from : ℕ) (ss : List Site) → a < from → Ascend from ss → rest taken (Some a) k ss ≡ no_links (Some a)
rest_none taken a k from [] l h = rest_end taken (Some a) k [] refl
rest_none taken a k from (s ∷ ss) l h =
    rest_past taken (Some a) k s ss (grind (arith, nat_tests)) ∙ rest_none taken a (k + 1) (s.at + 1) ss (omega (arith, h.0)) h.1

-- the address of a site that is found
pub there : (a : ℕ) (s : Site) → s.at ≡ a → is_there (Some a) s ≡ true
there a s e = eq-eqb s.at a e

pub not_there : (a : ℕ) (s : Site) → (s.at ≡ a → ⊥) → is_there (Some a) s ≡ false
not_there a s ne = ne_eqb s.at a ne

ascend_drop : (k from : ℕ) (ss : List Site) (d : Site) → k < length ss → Ascend from ss → Ascend (get_or ss k d).at (drop k ss)
ascend_drop k from [] d l h = absurd (omega arith)
ascend_drop zero from (s ∷ ss) d l h = (omega arith, h.1)
ascend_drop (suc k) from (s ∷ ss) d l h = ascend_drop k (s.at + 1) ss d (omega arith) h.1

module _ (taken : ℕ → Bool) (sites : List Site) (a k : ℕ) (d : Site) (l : k < length sites) where
  pub walk_past : ((get_or sites k d).at ≡ a → ⊥) → rest taken (Some a) k (drop k sites) ≡ rest taken (Some a) (k + 1) (drop (k + 1) sites)
  walk_past ne =
      ap (rest taken (Some a) k) (drop_more sites k d l) ∙ rest_past taken (Some a) k (get_or sites k d) (drop (k + 1) sites) (not_there a (get_or sites k d) ne)

  pub walk_beyond : Ascend 0 sites → a < (get_or sites k d).at → rest taken (Some a) k (drop k sites) ≡ no_links (Some a)
  walk_beyond h low = rest_none taken a k (get_or sites k d).at (drop k sites) low (ascend_drop k 0 sites d l h)

  free_here : (get_or sites k d).at ≡ a → taken k ≡ false → rest taken (Some a) k (drop k sites) ≡ chain_at taken sites k
  free_here e t =
      ap (rest taken (Some a) k) (drop_more sites k d l) ∙ rest_free taken (Some a) k (get_or sites k d) (drop (k + 1) sites) (there a (get_or sites k d) e) t
      ∙ ap (λ (o : Option ℕ). link k (rest taken o (k + 1) (drop (k + 1) sites))) (sym (goes_on_at sites k d l))

  taken_here : (get_or sites k d).at ≡ a → taken k ≡ true → rest taken (Some a) k (drop k sites) ≡ no_links (Some a)
  taken_here e t =
      ap (rest taken (Some a) k) (drop_more sites k d l) ∙ rest_taken taken (Some a) k (get_or sites k d) (drop (k + 1) sites) (there a (get_or sites k d) e) t

  pub walk_found : (b : Bool) → (get_or sites k d).at ≡ a → taken k ≡ b → rest taken (Some a) k (drop k sites) ≡ chain_by taken sites (Some a) (then_some (not b) k)
  walk_found true e t = taken_here e t
  walk_found false e t = free_here e t

-- what holds of each rest: where no site is left, where the next site is taken, where it is free, and where it isn't the
-- one that is looked for
module _ (taken : ℕ → Bool) (P : Option ℕ → ℕ → List Site → Chain → Type 0)
    (ends : (next : Option ℕ) (k : ℕ) → P next k [] (no_links next))
    (stops : (next : Option ℕ) (k : ℕ) (s : Site) (ss : List Site) → is_there next s ≡ true → taken k ≡ true → P next k (s ∷ ss) (no_links next))
    (links : (next : Option ℕ) (k : ℕ) (s : Site) (ss : List Site) (c : Chain) → is_there next s ≡ true → taken k ≡ false → P (after s) (k + 1) ss c → P next k (s ∷ ss) (link k c))
    (passes : (next : Option ℕ) (k : ℕ) (s : Site) (ss : List Site) (c : Chain) → is_there next s ≡ false → P next (k + 1) ss c → P next k (s ∷ ss) c) where
  pub by_rest : (next : Option ℕ) (k : ℕ) (ss : List Site) → P next k ss (rest taken next k ss)
  by_rest next k [] = subst (P next k []) (sym (rest_end taken next k [] refl)) (ends next k)
  by_rest next k (s ∷ ss) =
      elim (cases_Bool (is_there next s)) [
        | inl e ↦ elim (cases_Bool (taken k)) [
          | inl t ↦ subst (P next k (s ∷ ss)) (sym (rest_taken taken next k s ss e t)) (stops next k s ss e t)
          | inr t ↦
              subst (P next k (s ∷ ss)) (sym (rest_free taken next k s ss e t)) (links next k s ss (rest taken (after s) (k + 1) ss) e t (by_rest (after s) (k + 1) ss))
        ]
        | inr e ↦
            subst (P next k (s ∷ ss)) (sym (rest_past taken next k s ss e)) (passes next k s ss (rest taken next (k + 1) ss) e (by_rest next (k + 1) ss))
      ]
