-- Sites as pairs of their addresses and what is their indexes'.
use Rattle.std.proofs.Common.{◌≡◌, ◌≢◌, ℕ, zero, suc, ◌+◌, ◌<◌, ◌≤◌, eqb, List, [], ◌∷◌, length, map, Some, None, refl, ap, ◌∙◌, subst, arith}
use Rattle.std.specs.Prelude.{slice_get}
use Rattle.std.specs.List.{AllByRecursion}
use Rattle.std.proofs.lemmas.Bool.{cond_both}
use Rattle.std.proofs.lemmas.Option.{none-some, same_Some}
use Rattle.elf32_read.specs.declared.run.Run.{Run}
use Rattle.map_table.specs.Pairs.{second_of, or_zero, entry_in, firsts, Ascend, IsPair}
use Rattle.map_table.specs.laws.Skips.{second_none, second_here, second_later}
use Rattle.superset.specs.declared.site.Site.{Site}
use Rattle.image_layout.specs.Layout.{pairs_by}
use Rattle.image_layout.specs.laws.SiteFacts.{site_address}

pub firsts_pairs : (place : ℕ → ℕ) (j : ℕ) (ss : List Site) → firsts (pairs_by place j ss) ≡ map site_address ss
unfolding pairs_by
firsts_pairs place j [] = refl
firsts_pairs place j (s ∷ ss) = ap (λ (t : List ℕ). s.at ∷ t) (firsts_pairs place (j + 1) ss)

-- a site that stands later has a later address
pub address_low : (from : ℕ) (ss : List Site) (k : ℕ) (s : Site) → Ascend from (map site_address ss) → slice_get ss k ≡ Some s → from ≤ s.at
address_low from [] k s asc e = absurd (none-some s e)
address_low from (q ∷ ss) zero s asc e = omega (arith, asc.0, ap site_address (same_Some q s e))
address_low from (q ∷ ss) (suc k) s asc e = omega (arith, asc.0, address_low (q.at + 1) ss k s asc.1 e)

-- the second part of a site's pair
pub second_is : (place : ℕ → ℕ) (j from : ℕ) (ss : List Site) (k : ℕ) (s : Site) → Ascend from (map site_address ss) → slice_get ss k ≡ Some s → second_of (pairs_by place j ss) s.at ≡ Some (place (j + k))
unfolding pairs_by
second_is place j from [] k s asc e = absurd (none-some s e)
second_is place j from (q ∷ ss) zero s asc e =
    let same : j ≡ j + 0 = omega arith in
    second_here (q.at, place j) (pairs_by place (j + 1) ss) s.at (ap site_address (same_Some q s e)) ∙ ap (λ n. Some (place n)) same
second_is place j from (q ∷ ss) (suc k) s asc e =
    let next : j + 1 + k ≡ j + suc k = omega arith in
    second_later (q.at, place j) (pairs_by place (j + 1) ss) s.at (λ same. omega (arith, same, address_low (q.at + 1) ss k s asc.1 e))
    ∙ (second_is place (j + 1) (q.at + 1) ss k s asc.1 e ∙ ap (λ n. Some (place n)) next)

-- an address of no site has none
pub second_missing : (place : ℕ → ℕ) (j : ℕ) (ss : List Site) (a : ℕ) → ((k : ℕ) (s : Site) → slice_get ss k ≡ Some s → s.at ≢ a) → second_of (pairs_by place j ss) a ≡ None
unfolding pairs_by
second_missing place j [] a other = second_none a
second_missing place j (s ∷ ss) a other =
    second_later (s.at, place j) (pairs_by place (j + 1) ss) a (other 0 s refl) ∙ second_missing place (j + 1) ss a (λ k q e. other (suc k) q e)

pub all_pairs : (rs : List Run) (place : ℕ → ℕ) (j : ℕ) (ss : List Site) → ((k : ℕ) (s : Site) → slice_get ss k ≡ Some s → IsPair rs (s.at, place (j + k))) → AllByRecursion (IsPair rs) (pairs_by place j ss)
unfolding pairs_by
all_pairs rs place j [] one = tt
all_pairs rs place j (s ∷ ss) one =
    let here : j + 0 ≡ j = omega arith in (
      subst (λ n. IsPair rs (s.at, place n)) here (one 0 s refl),
      all_pairs rs place (j + 1) ss (λ k q e. let next : j + suc k ≡ j + 1 + k = omega arith in subst (λ n. IsPair rs (q.at, place n)) next (one (suc k) q e)),
    )

-- no second part is above a number that no place is above
pub entry_at_most : (place : ℕ → ℕ) (j m : ℕ) (ss : List Site) → ((k : ℕ) → k < length ss → place (j + k) ≤ m) → (a : ℕ) → entry_in (pairs_by place j ss) a ≤ m
unfolding pairs_by second_of
entry_at_most place j m [] most a = omega arith
entry_at_most place j m (s ∷ ss) most a =
    let here : place j ≤ m = let same : j + 0 ≡ j = omega arith in subst (λ n. place n ≤ m) same (most 0 (omega arith)) in
    let later : (k : ℕ) → k < length ss → place (j + 1 + k) ≤ m = λ k lt. let next : j + suc k ≡ j + 1 + k = omega arith in subst (λ n. place n ≤ m) next (most (suc k) (omega (arith, lt))) in
    cond_both (eqb s.at a) (Some (place j)) (second_of (pairs_by place (j + 1) ss) a) (λ o. or_zero o ≤ m) (λ _. here) (λ _. entry_at_most place (j + 1) m ss later a)
