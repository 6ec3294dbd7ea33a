-- Each site is in one chain, and in it once.
use Rattle.std.proofs.Common.{◌≡◌, ℕ, suc, ◌+◌, ◌<◌, ◌≤◌, Bool, true, false, cond, List, [], ◌∷◌, length, eq-eqb, lt-ltb, le-ltb, ◌⊎◌, Option, refl, sym, ap, ◌∙◌, subst, inl, inr, zero-add, arith}
use Rattle.std.specs.Prelude.{◌==◌, nat_lt, if◌then◌else◌}
use Rattle.std.specs.List.{count_by}
use Rattle.std.proofs.Math.Bool.{or-false, or-true}
use Rattle.std.proofs.lemmas.Bool.{cases_Bool, cases_lt}
use Rattle.std.proofs.lemmas.Bool.Decides.{eqb_tells}
use Rattle.std.proofs.lemmas.List.Sums.{sum_by-cons, sum_by-append}
use Rattle.superset.specs.declared.site.Site.{Site}
use Rattle.sequence_join.specs.Chains.{Chain, after, is_among, with_links, rest, start, chains_from, chains_of, order, EachOnce}
use Rattle.sequence_join.specs.laws.Rests.{by_rest}
use Rattle.sequence_join.specs.laws.Making.{chains_end, chains_skip, chains_start}

-- how often an index stands in a list
abbrev times : ℕ → List ℕ → ℕ
times j ks = count_by (λ i. i == j) ks

-- an index of a list: it stands there at most once, it lies between two bounds, and it wasn't taken
record Fresh (taken : ℕ → Bool) (from to : ℕ) (ks : List ℕ) (j : ℕ) : Type 0 where
  pub one : times j ks ≡ (if is_among ks j then 1 else 0)
  pub low : is_among ks j ≡ true → from ≤ j
  pub high : is_among ks j ≡ true → j < to
  pub free : is_among ks j ≡ true → taken j ≡ false

fresh_none : (taken : ℕ → Bool) (low high j : ℕ) → Fresh taken low high [] j
fresh_none taken low high j = record { one = refl; low = λ e. absurd cc; high = λ e. absurd cc; free = λ e. absurd cc }

fresh_link : (taken : ℕ → Bool) (k high : ℕ) (ks : List ℕ) (j : ℕ) → k < high → taken k ≡ false → Fresh taken (k + 1) high ks j → Fresh taken k high (k ∷ ks) j
fresh_link taken k high ks j l t h =
    elim (eqb_tells k j) [
      | inl w ↦
          let not_later : is_among ks j ≡ false = elim (cases_Bool (is_among ks j)) [ inl e ↦ absurd (omega (arith, h.low e, w.1)) | inr e ↦ e ] in
          let none : times j ks ≡ 0 = h.one ∙ ap (λ (b : Bool). if b then 1 else 0) not_later in
          record {
            one = sum_by-cons (λ (i : ℕ). cond (i == j) 1 0) k ks ∙ rw (w.0, none) refl;
            low = λ e. omega (arith, w.1);
            high = λ e. omega (arith, l, w.1);
            free = λ e. ap taken (sym w.1) ∙ t;
          }
      | inr w ↦
          let same : is_among (k ∷ ks) j ≡ is_among ks j = rw w.0 refl in
          record {
            one =
                sum_by-cons (λ (i : ℕ). cond (i == j) 1 0) k ks ∙ ap (λ (b : Bool). cond b 1 0 + times j ks) w.0 ∙ zero-add (times j ks) ∙ h.one
                ∙ ap (λ (b : Bool). if b then 1 else 0) (sym same);
            low = λ e. omega (arith, h.low (sym same ∙ e));
            high = λ e. h.high (sym same ∙ e);
            free = λ e. h.free (sym same ∙ e);
          }
    ]

fresh_wider : (taken : ℕ → Bool) (k high : ℕ) (ks : List ℕ) (j : ℕ) → Fresh taken (k + 1) high ks j → Fresh taken k high ks j
fresh_wider taken k high ks j h = record { one = h.one; low = λ e. omega (arith, h.low e); high = h.high; free = h.free }

-- the links of the rest of a chain
rest_fresh : (taken : ℕ → Bool) (next : Option ℕ) (k : ℕ) (ss : List Site) (high j : ℕ) → k + length ss ≤ high → Fresh taken k high (rest taken next k ss).links j
rest_fresh taken next k ss high j =
    by_rest taken (λ (n : Option ℕ) (i : ℕ) (ts : List Site) (c : Chain). i + length ts ≤ high → Fresh taken i high c.links j)
    (λ n i l. fresh_none taken i high j)
    (λ n i s ts e t l. fresh_none taken i high j)
    (λ n i s ts c e t h l. fresh_link taken i high c.links j (omega (arith, l)) t (h (omega (arith, l))))
    (λ n i s ts c e h l. fresh_wider taken i high c.links j (h (omega (arith, l))))
    next k ss

start_fresh : (taken : ℕ → Bool) (k : ℕ) (s : Site) (ss : List Site) (j : ℕ) → taken k ≡ false → Fresh taken k (k + suc (length ss)) (start taken k s ss).links j
start_fresh taken k s ss j t =
    fresh_link taken k (k + suc (length ss)) (rest taken (after s) (k + 1) ss).links j (omega arith) t (rest_fresh taken (after s) (k + 1) ss (k + suc (length ss)) j (omega arith))

-- how often an index is to stand among the links of the chains to come
abbrev wanted : (ℕ → Bool) → ℕ → ℕ → ℕ
wanted taken n j = if taken j then 0 else (if nat_lt j n then 1 else 0)

-- one chain more, and those behind it
one_more : (taken : ℕ → Bool) (k n : ℕ) (c : Chain) (cs : List Chain) (j : ℕ) → Fresh taken k n c.links j → times j (order cs) ≡ wanted (with_links taken c) n j → times j (order (c ∷ cs)) ≡ wanted taken n j
one_more taken k n c cs j f h =
    let both = sum_by-append (λ (i : ℕ). cond (i == j) 1 0) c.links (order cs) in
    elim (cases_Bool (is_among c.links j)) [
      | inl e ↦
          let here : times j c.links ≡ 1 = f.one ∙ rw e refl in
          let later : times j (order cs) ≡ 0 = h ∙ rw (f.free e, e) refl in
          let want : wanted taken n j ≡ 1 = rw (f.free e, lt-ltb j n (f.high e)) refl in
          omega (arith, both, here, later, want)
      | inr e ↦
          let here : times j c.links ≡ 0 = f.one ∙ rw e refl in
          let later : times j (order cs) ≡ wanted taken n j = h ∙ rw (e, or-false (taken j)) refl in
          omega (arith, both, here, later)
    ]

each : (taken : ℕ → Bool) (k n : ℕ) (ss : List Site) → k + length ss ≡ n → ((j : ℕ) → j < k → taken j ≡ true) → (j : ℕ) → times j (order (chains_from taken k ss)) ≡ wanted taken n j
each taken k n [] e low j = ap (λ (cs : List Chain). times j (order cs)) (chains_end taken k [] refl) ∙ sym (nothing (cases_Bool (taken j)))
  where
    nothing : (taken j ≡ true) ⊎ (taken j ≡ false) → wanted taken n j ≡ 0
    nothing (inl t) = rw t refl
    nothing (inr t) = elim (cases_lt j n) [
      | inl l ↦ absurd (cc (low j (omega (arith, e, l)), t))
      | inr l ↦ rw (t, le-ltb j n l) refl
    ]
each taken k n (s ∷ ss) e low j =
    elim (cases_Bool (taken k)) [
      | inl t ↦
          ap (λ (cs : List Chain). times j (order cs)) (chains_skip taken k s ss t)
          ∙ each taken (k + 1) n ss (omega (arith, e)) (λ i l. elim (cases_lt i k) [ inl m ↦ low i m | inr m ↦ ap taken (omega (arith, l, m)) ∙ t ]) j
      | inr t ↦
          let c = start taken k s ss in
          let more : (i : ℕ) → i < k + 1 → with_links taken c i ≡ true = λ i l. elim (cases_lt i k) [
            | inl m ↦ rw (low i m) refl
            | inr m ↦ rw (eq-eqb k i (omega (arith, l, m))) (or-true (taken i))
          ] in
          let size : k + suc (length ss) ≡ n = omega (arith, e) in
          let fresh = subst (λ (m : ℕ). Fresh taken k m c.links j) size (start_fresh taken k s ss j t) in
          ap (λ (cs : List Chain). times j (order cs)) (chains_start taken k s ss t)
          ∙ one_more taken k n c (chains_from (with_links taken c) (k + 1) ss) j fresh (each (with_links taken c) (k + 1) n ss (omega (arith, e)) more j)
    ]

pub each_once : (sites : List Site) → EachOnce (length sites) (order (chains_of sites))
each_once sites k = each (λ i. false) 0 (length sites) sites (zero-add (length sites)) (λ j l. absurd (omega (arith, l))) k
