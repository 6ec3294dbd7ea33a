-- The chains of sites, site by site.
use Rattle.std.proofs.Common.{◌≡◌, ℕ, ◌+◌, ◌^◌, ◌<◌, ◌≤◌, Bool, true, false, List, [], ◌∷◌, ◌++◌, length, drop, get_or, Option, refl, sym, ap, ◌∙◌, arith, append_assoc}
use Rattle.std.specs.List.{AllByRecursion}
use Rattle.std.proofs.Math.Path.{fun_ext}
use Rattle.std.proofs.lemmas.List.{drop_more, drop_all, append-nil}
use Rattle.superset.specs.declared.site.Site.{Site}
use Rattle.superset.specs.Sites.{Ascend, EndsLow}
use Rattle.sequence_join.specs.Chains.{Chain, with_links, link, rest, start, chains_from, chains_of}
use Rattle.sequence_join.specs.Walking.{chain_at}
use Rattle.sequence_join.specs.laws.Rests.{goes_on_at}

-- sites that ascend and end low are fewer than addresses
few_from : (from : ℕ) (s : Site) (ss : List Site) → Ascend from (s ∷ ss) → AllByRecursion EndsLow (s ∷ ss) → from + length (s ∷ ss) ≤ 0xFFFFF001
few_from from s [] h e = omega (arith, h.0, e.0)
few_from from s (t ∷ ss) h e = omega (arith, h.0, few_from (s.at + 1) t ss h.1 e.1)

pub few : (ss : List Site) → Ascend 0 ss → AllByRecursion EndsLow ss → length ss < 2 ^ 32
few [] h e = omega arith
few (s ∷ ss) h e = omega (arith, few_from 0 s ss h e)

pub chains_end : (taken : ℕ → Bool) (k : ℕ) (ss : List Site) → ss ≡ [] → chains_from taken k ss ≡ []
unfolding chains_from
chains_end taken k ss e = rw e refl

pub chains_skip : (taken : ℕ → Bool) (k : ℕ) (s : Site) (ss : List Site) → taken k ≡ true → chains_from taken k (s ∷ ss) ≡ chains_from taken (k + 1) ss
unfolding chains_from
chains_skip taken k s ss t = rw t refl

pub chains_start : (taken : ℕ → Bool) (k : ℕ) (s : Site) (ss : List Site) → taken k ≡ false → chains_from taken k (s ∷ ss) ≡ start taken k s ss ∷ chains_from (with_links taken (start taken k s ss)) (k + 1) ss
unfolding chains_from
chains_start taken k s ss t = rw t refl

start_is : (taken : ℕ → Bool) (sites : List Site) (k : ℕ) (d : Site) → k < length sites → start taken k (get_or sites k d) (drop (k + 1) sites) ≡ chain_at taken sites k
start_is taken sites k d l = ap (λ (o : Option ℕ). link k (rest taken o (k + 1) (drop (k + 1) sites))) (sym (goes_on_at sites k d l))

-- a site, of a list that has one
some_site : (sites : List Site) (k : ℕ) → k < length sites → Site
some_site [] k l = absurd (omega arith)
some_site (s ∷ ss) k l = s

module _ (sites : List Site) (taken : ℕ → Bool) (made : List Chain) (k : ℕ) (l : k < length sites) (h : chains_of sites ≡ made ++ chains_from taken k (drop k sites)) where
  -- a site that is taken
  pub skipped : taken k ≡ true → chains_of sites ≡ made ++ chains_from taken (k + 1) (drop (k + 1) sites)
  skipped t =
      let d = some_site sites k l in
      h ∙ ap (λ (cs : List Chain). made ++ cs) (ap (chains_from taken k) (drop_more sites k d l) ∙ chains_skip taken k (get_or sites k d) (drop (k + 1) sites) t)

  -- one more chain
  pub started : (now : ℕ → Bool) (c : Chain) → taken k ≡ false → c ≡ chain_at taken sites k → ((j : ℕ) → now j ≡ with_links taken c j) → chains_of sites ≡ (made ++ c ∷ []) ++ chains_from now (k + 1) (drop (k + 1) sites)
  started now c t e marks =
      let d = some_site sites k l in
      let one = start_is taken sites k d l ∙ sym e in
      let all = ap (chains_from taken k) (drop_more sites k d l) ∙ chains_start taken k (get_or sites k d) (drop (k + 1) sites) t in
      let both = ap (λ (x : Chain). x ∷ chains_from (with_links taken x) (k + 1) (drop (k + 1) sites)) one in
      let same = ap (λ (f : ℕ → Bool). c ∷ chains_from f (k + 1) (drop (k + 1) sites)) (sym (fun_ext marks)) in
      h ∙ ap (λ (cs : List Chain). made ++ cs) (all ∙ both ∙ same) ∙ sym (append_assoc made (c ∷ []) (chains_from now (k + 1) (drop (k + 1) sites)))

pub finished : (sites : List Site) (taken : ℕ → Bool) (made : List Chain) (k : ℕ) → length sites ≤ k → chains_of sites ≡ made ++ chains_from taken k (drop k sites) → made ≡ chains_of sites
finished sites taken made k l h =
    sym (h ∙ ap (λ (cs : List Chain). made ++ cs) (chains_end taken k (drop k sites) (drop_all k sites l)) ∙ append-nil made)
