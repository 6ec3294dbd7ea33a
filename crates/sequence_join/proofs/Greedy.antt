-- A chain begins at the first site that is in none, and goes on as long as it may.
use Rattle.std.proofs.Common.{◌≡◌, ℕ, zero, suc, ◌+◌, ◌<◌, ◌≤◌, Bool, true, false, ◌||◌, List, [], ◌∷◌, ◌++◌, length, drop, eqb, eq-eqb, Option, Some, None, Contains, refl, sym, ap, ◌∙◌, subst, inl, inr, arith}
use Rattle.std.specs.Prelude.{slice_get, if◌then◌else◌}
use Rattle.std.specs.List.{AllByRecursion}
use Rattle.std.proofs.Math.Bool.{or_assoc, or-true}
use Rattle.std.proofs.lemmas.Bool.{cases_Bool, cases_lt}
use Rattle.std.proofs.lemmas.Bool.Decides.{eqb_tells}
use Rattle.std.proofs.lemmas.List.{length-drop}
use Rattle.std.proofs.lemmas.Option.{none-some, same_Some, slice_get_within}
use Rattle.x86_insn.specs.Flow.{falls, flow_of}
use Rattle.superset.specs.declared.site.Site.{Site}
use Rattle.superset.specs.Sites.{Ascend, EndsLow}
use Rattle.superset.specs.Targets.{successor}
use Rattle.sequence_join.specs.Chains.{Chain, after, is_among, is_there, with_links, no_links, link, rest, start, chains_from, address_of, IsGreedy, AreGreedy}
use Rattle.sequence_join.specs.laws.Rests.{by_rest}
use Rattle.sequence_join.specs.laws.Making.{chains_end, chains_skip, chains_start}
use Rattle.sequence_join.proofs.Marks.{among-append}
use Rattle.sequence_join.specs.laws.Linked.{front_of, looked_for, address_at}

pub among_contains : (ks : List ℕ) (j : ℕ) → is_among ks j ≡ true → Contains ks j
among_contains [] j e = absurd cc
among_contains (k ∷ ks) j e =
    elim (eqb_tells k j) [
      | inl w ↦ (0, omega arith, w.1)
      | inr w ↦
          let same : is_among (k ∷ ks) j ≡ is_among ks j = rw w.0 refl in
          let later = among_contains ks j (sym same ∙ e) in
          (suc later.0, omega (arith, later.1), later.2)
    ]

pub contains_among : (ks : List ℕ) (j : ℕ) → Contains ks j → is_among ks j ≡ true
contains_among [] j h = absurd (omega (arith, h.1))
contains_among (k ∷ ks) j (zero, l, e) = rw (eq-eqb k j e) refl
contains_among (k ∷ ks) j (suc i, l, e) = ap (λ (b : Bool). eqb k j || b) (contains_among ks j (i, omega (arith, l), e)) ∙ or-true (eqb k j)

-- the site of an address, among ascending ones
site_there : (sites : List Site) (k a : ℕ) → address_of sites k ≡ Some a → (s : Site) × (slice_get sites k ≡ Some s) × (s.at ≡ a)
site_there [] k a e = absurd (none-some a e)
site_there (s ∷ ss) zero a e = (s, refl, same_Some s.at a e)
site_there (s ∷ ss) (suc k) a e = site_there ss k a e

ascend_later : (from : ℕ) (ss : List Site) (k a : ℕ) → Ascend from ss → address_of ss k ≡ Some a → from ≤ a
ascend_later from [] k a h e = absurd (none-some a e)
ascend_later from (s ∷ ss) zero a h e = omega (arith, h.0, same_Some s.at a e)
ascend_later from (s ∷ ss) (suc k) a h e = omega (arith, h.0, ascend_later (s.at + 1) ss k a h.1 e)

-- of two sites the later has the higher address
pub higher : (from : ℕ) (ss : List Site) (i j a b : ℕ) → Ascend from ss → address_of ss i ≡ Some a → address_of ss j ≡ Some b → i < j → a < b
higher from [] i j a b h e f l = absurd (none-some a e)
higher from (s ∷ ss) i zero a b h e f l = absurd (omega (arith, l))
higher from (s ∷ ss) zero (suc j) a b h e f l = omega (arith, same_Some s.at a e, ascend_later (s.at + 1) ss j b h.1 f)
higher from (s ∷ ss) (suc i) (suc j) a b h e f l = higher (s.at + 1) ss i j a b h.1 e f (omega (arith, l))

ends_at : (ss : List Site) (k : ℕ) (s : Site) → AllByRecursion EndsLow ss → slice_get ss k ≡ Some s → EndsLow s
ends_at [] k s h e = absurd (none-some s e)
ends_at (t ∷ ss) zero s h e = subst EndsLow (same_Some t s e) h.0
ends_at (t ∷ ss) (suc k) s h e = ends_at ss k s h.1 e

-- where the flow goes on by itself, it goes on behind the instruction
goes_up : (s : Site) (a : ℕ) (b : Bool) → EndsLow s → (if b then Some (successor s) else None) ≡ Some a → s.at ≤ a
goes_up s a true l e = omega (arith, l, same_Some (successor s) a e)
goes_up s a false l e = absurd (none-some a e)

after_is : (s : Site) (a : ℕ) → EndsLow s → after s ≡ Some a → s.at ≤ a
after_is s a l e = goes_up s a (falls (flow_of s.insn)) l e

module _ (sites : List Site) (ascend : Ascend 0 sites) (low : AllByRecursion EndsLow sites) where
  -- a site at which the flow goes on isn't in front
  not_before : (k j a : ℕ) (s : Site) → slice_get sites k ≡ Some s → after s ≡ Some a → address_of sites j ≡ Some a → j < k → ⊥
  not_before k j a s here goes there l =
      let up = after_is s a (ends_at sites k s low here) goes in
      omega (arith, up, higher 0 sites j k a s.at ascend there (address_at sites k s here) l)

  -- sites of one address are one
  one_site : (j k a : ℕ) → address_of sites j ≡ Some a → address_of sites k ≡ Some a → j ≡ k
  one_site j k a e f =
      elim (cases_lt j k) [
        | inl l ↦ absurd (omega (arith, higher 0 sites j k a a ascend e f l))
        | inr l ↦ elim (cases_lt k j) [
          | inl m ↦ absurd (omega (arith, higher 0 sites k j a a ascend f e m))
          | inr m ↦ omega (arith, l, m)
        ]
      ]

  -- a site at which a chain could go on is seen: in a chain before, or in this one
  abbrev Ends : (ℕ → Bool) → Option ℕ → ℕ → List Site → Chain → Type 0
  Ends taken next k ss c =
      (seen : ℕ → Bool) → ((j : ℕ) → taken j ≡ true → seen j ≡ true) → ss ≡ drop k sites → ((a j : ℕ) → next ≡ Some a → address_of sites j ≡ Some a → j < k → seen j ≡ true) → (a j : ℕ) → c.next ≡ Some a → address_of sites j ≡ Some a → (seen j || is_among c.links j) ≡ true

  within_sites : (j a : ℕ) → address_of sites j ≡ Some a → j < length sites
  within_sites j a e = let w = site_there sites j a e in slice_get_within sites j w.0 w.1

  ends_none : (taken : ℕ → Bool) (next : Option ℕ) (k : ℕ) → Ends taken next k [] (no_links next)
  ends_none taken next k seen more e before a j n there =
      let short : length sites ≤ k = omega (arith, ap length e, length-drop k sites) in
      rw (before a j n there (omega (arith, short, within_sites j a there))) refl

  ends_taken : (taken : ℕ → Bool) (next : Option ℕ) (k : ℕ) (s : Site) (ss : List Site) → is_there next s ≡ true → taken k ≡ true → Ends taken next k (s ∷ ss) (no_links next)
  ends_taken taken next k s ss at t seen more e before a j n there =
      let front = front_of sites k s ss e in
      let same : s.at ≡ a = same_Some s.at a (sym (looked_for next s at) ∙ n) in
      let one = one_site j k a there (address_at sites k s front.here ∙ ap (λ (x : ℕ). Some x) same) in
      rw (ap seen one ∙ more k t) refl

  ends_link : (taken : ℕ → Bool) (next : Option ℕ) (k : ℕ) (s : Site) (ss : List Site) (c : Chain) → Ends taken (after s) (k + 1) ss c → Ends taken next k (s ∷ ss) (link k c)
  ends_link taken next k s ss c h seen more e before a j n there =
      let front = front_of sites k s ss e in
      let now : ℕ → Bool = λ i. seen i || eqb k i in
      let kept : (i : ℕ) → taken i ≡ true → now i ≡ true = λ i t. rw (more i t) refl in
      let behind : (b i : ℕ) → after s ≡ Some b → address_of sites i ≡ Some b → i < k + 1 → now i ≡ true = λ b i goes at l. elim (cases_lt i k) [
        | inl m ↦ absurd (not_before k i b s front.here goes at m)
        | inr m ↦ rw (eq-eqb k i (omega (arith, l, m))) (or-true (seen i))
      ] in
      sym (or_assoc (seen j) (eqb k j) (is_among c.links j)) ∙ h now kept front.behind behind a j n there

  ends_pass : (taken : ℕ → Bool) (next : Option ℕ) (k : ℕ) (s : Site) (ss : List Site) (c : Chain) → is_there next s ≡ false → Ends taken next (k + 1) ss c → Ends taken next k (s ∷ ss) c
  ends_pass taken next k s ss c at h seen more e before a j n there =
      let front = front_of sites k s ss e in
      let behind : (b i : ℕ) → next ≡ Some b → address_of sites i ≡ Some b → i < k + 1 → seen i ≡ true = λ b i m there l. elim (cases_lt i k) [
        | inl o ↦ before b i m there o
        | inr o ↦
            let here : address_of sites k ≡ Some b = ap (address_of sites) (omega (arith, l, o)) ∙ there in
            let same : s.at ≡ b = same_Some s.at b (sym (address_at sites k s front.here) ∙ here) in
            let found : is_there next s ≡ true = ap (λ (x : Option ℕ). is_there x s) m ∙ eq-eqb s.at b same in
            absurd (cc (found, at))
      ] in
      h seen more front.behind behind a j n there

  rest_ends : (taken : ℕ → Bool) (next : Option ℕ) (k : ℕ) (ss : List Site) → Ends taken next k ss (rest taken next k ss)
  rest_ends taken = by_rest taken (Ends taken) (ends_none taken) (ends_taken taken) (λ n i s ts c at t h. ends_link taken n i s ts c h) (ends_pass taken)

  -- a chain from a free site on, where the sites in front are taken
  start_greedy : (taken : ℕ → Bool) (before : List ℕ) (k : ℕ) (s : Site) (ss : List Site) → s ∷ ss ≡ drop k sites → taken k ≡ false → ((j : ℕ) → taken j ≡ is_among before j) → ((j : ℕ) → j < k → taken j ≡ true) → IsGreedy sites before (start taken k s ss)
  start_greedy taken before k s ss e t all full = record {
    begins = (λ h. absurd (cc (sym (all k) ∙ t, contains_among before k h)), λ j l. among_contains before j (sym (all j) ∙ full j l));
    ends = λ a j n there.
        let c = start taken k s ss in
        let none : Ends taken None k (s ∷ ss) c = ends_link taken None k s ss (rest taken (after s) (k + 1) ss) (rest_ends taken (after s) (k + 1) ss) in
        let seen = none taken (λ i h. h) e (λ b i m. absurd (none-some b m)) a j n there in
        among_contains (before ++ c.links) j (among-append before c.links j ∙ ap (λ (b : Bool). b || is_among c.links j) (sym (all j)) ∙ seen);
  }

  pub all_greedy : (taken : ℕ → Bool) (before : List ℕ) (k : ℕ) (ss : List Site) → ss ≡ drop k sites → ((j : ℕ) → taken j ≡ is_among before j) → ((j : ℕ) → j < k → taken j ≡ true) → AreGreedy sites before (chains_from taken k ss)
  all_greedy taken before k [] e all full = subst (AreGreedy sites before) (sym (chains_end taken k [] refl)) tt
  all_greedy taken before k (s ∷ ss) e all full =
      let front = front_of sites k s ss e in
      elim (cases_Bool (taken k)) [
        | inl t ↦
            let more : (j : ℕ) → j < k + 1 → taken j ≡ true = λ j l. elim (cases_lt j k) [ inl m ↦ full j m | inr m ↦ ap taken (omega (arith, l, m)) ∙ t ] in
            subst (AreGreedy sites before) (sym (chains_skip taken k s ss t)) (all_greedy taken before (k + 1) ss front.behind all more)
        | inr t ↦
            let c = start taken k s ss in
            let more : (j : ℕ) → j < k + 1 → with_links taken c j ≡ true = λ j l. elim (cases_lt j k) [
              | inl m ↦ rw (full j m) refl
              | inr m ↦ rw (eq-eqb k j (omega (arith, l, m))) (or-true (taken j))
            ] in
            let both : (j : ℕ) → with_links taken c j ≡ is_among (before ++ c.links) j = λ j. ap (λ (b : Bool). b || is_among c.links j) (all j) ∙ sym (among-append before c.links j) in
            subst (AreGreedy sites before) (sym (chains_start taken k s ss t)) (start_greedy taken before k s ss e t all full, all_greedy (with_links taken c) (before ++ c.links) (k + 1) ss front.behind both more)
      ]
