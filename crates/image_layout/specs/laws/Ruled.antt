-- A plan depends on its rules through the sites that they pick, and through their numbers alone.
use Rattle.std.proofs.Common.{◌≡◌, ℕ, zero, suc, ◌+◌, ◌<◌, ◌≤◌, Bool, true, false, ◌&&◌, ◌||◌, ◌==◌, cond, List, [], ◌∷◌, ◌++◌, length, map, Some, refl, sym, ap, ◌∙◌, subst, inl, inr, arith}
use Rattle.std.specs.Prelude.{slice_get, slice_index}
use Rattle.std.specs.List.{Contains, filter, list_any}
use Rattle.std.proofs.lemmas.Bool.{cases_Bool, eq-eqb, ne_eqb}
use Rattle.std.proofs.lemmas.Option.{none-some, same_Some}
use Rattle.x86_insn.specs.Flow.{flow_of}
use Rattle.elf32_read.specs.declared.run.Run.{Run}
use Rattle.map_table.specs.Pairs.{Ascend}
use Rattle.map_table.specs.laws.Skips.{ascend_weaker}
use Rattle.counter_hooks.specs.declared.rules.Rule.TheVariants as rule
use Rattle.counter_hooks.specs.Rules as whole
use Rattle.counter_hooks.specs.Rules.{number_of, picked, is_branch}
use Rattle.edge_hooks.specs.declared.rules.EdgeRule.TheVariants as edges
use Rattle.edge_hooks.specs.Rules as edge
use Rattle.edge_hooks.specs.Rules.{edge_picked}
use Rattle.superset.specs.declared.site.Site.{Site}
use Rattle.sequence_join.specs.Chains.{Chain}
use Rattle.image_layout.specs.Layout.{size, code, plan}
use Rattle.image_layout.specs.Pieces.{counter_len, way_len, kinds_at, listed, code_lens, chain_code}
use Rattle.image_layout.specs.Rules.{Rules}
use Rattle.image_layout.specs.laws.SiteFacts.{site_address}
use Rattle.image_layout.specs.laws.Pairing.{address_low}

-- two pairs of rules pick the same of a site, and of these sites
pub record PickSame (p q : Rules) (s : Site) : Type 0 where
  pub all : picked p.all s ≡ picked q.all s
  pub ways : edge_picked p.ways s ≡ edge_picked q.ways s

abbrev pub PickAlike : Rules → Rules → List Site → Type 0
PickAlike p q ss = (s : Site) → Contains ss s → PickSame p q s

alike_first : (p q : Rules) (s : Site) (ss : List Site) → PickAlike p q (s ∷ ss) → PickSame p q s
alike_first p q s ss alike = alike s (0, omega arith, refl)

alike_rest : (p q : Rules) (s : Site) (ss : List Site) → PickAlike p q (s ∷ ss) → PickAlike p q ss
alike_rest p q s ss alike r h = alike r (suc h.0, omega (arith, h.1), h.2)

-- ---- what is made of them

pub same_lens : (p q : Rules) (ss : List Site) → PickAlike p q ss → code_lens p ss ≡ code_lens q ss
same_lens p q [] alike = refl
same_lens p q (s ∷ ss) alike =
    let first = alike_first p q s ss alike in
    let rest = same_lens p q ss (alike_rest p q s ss alike) in
    λ i. (counter_len (first.all i) + way_len (first.ways i) s) ∷ rest i

pub same_listed : (p q : Rules) (ss : List Site) → PickAlike p q ss → listed p ss ≡ listed q ss
same_listed p q [] alike = refl
same_listed p q (s ∷ ss) alike =
    let first = alike_first p q s ss alike in
    let rest = same_listed p q ss (alike_rest p q s ss alike) in
    λ i. kinds_at s.at (first.all i) (first.ways i) ++ rest i

pub same_size : (p q : Rules) (rs : List Run) (ss : List Site) (cs : List Chain) → PickAlike p q ss → size p rs ss cs ≡ size q rs ss cs
unfolding size
same_size p q rs ss cs alike = rw (same_lens p q ss alike, same_listed p q ss alike) refl

pub same_plan : (p q : Rules) (start : ℕ) (rs : List Run) (ss : List Site) (cs : List Chain) (base : ℕ) → PickAlike p q ss → number_of p.all ≡ number_of q.all → edge.number_of p.ways ≡ edge.number_of q.ways → plan start p rs ss cs base ≡ plan start q rs ss cs base
unfolding plan code chain_code
same_plan p q start rs ss cs base alike number edges = rw (same_lens p q ss alike, same_listed p q ss alike, number, edges) refl

-- ---- the addresses of the sites that pass a test

module _ (test : Site → Bool) where
  abbrev pub passing : List Site → List ℕ
  passing ss = map site_address (filter test ss)

  passing_yes : (s : Site) (ss : List Site) → test s ≡ true → passing (s ∷ ss) ≡ s.at ∷ passing ss
  passing_yes s ss t = ap (λ (u : Bool). map site_address (cond u (s ∷ filter test ss) (filter test ss))) t

  passing_no : (s : Site) (ss : List Site) → test s ≡ false → passing (s ∷ ss) ≡ passing ss
  passing_no s ss t = ap (λ (u : Bool). map site_address (cond u (s ∷ filter test ss) (filter test ss))) t

  abbrev is_among : ℕ → List ℕ → Bool
  is_among a xs = list_any (λ x. x == a) xs

  among_cons : (a x : ℕ) (xs : List ℕ) → is_among a (x ∷ xs) ≡ (x == a || is_among a xs)
  among_cons a x xs = refl

  -- an address below the sites is none of theirs
  none_below : (from : ℕ) (ss : List Site) (a : ℕ) → Ascend from (map site_address ss) → a < from → is_among a (passing ss) ≡ false
  none_below from [] a asc lt = refl
  none_below from (s ∷ ss) a asc lt =
      let rest = none_below (s.at + 1) ss a asc.1 (omega (arith, asc.0, lt)) in
      elim (cases_Bool (test s)) [
        | inl t ↦ ap (is_among a) (passing_yes s ss t) ∙ (ap (λ (u : Bool). u || is_among a (passing ss)) (ne_eqb s.at a (λ same. omega (arith, same, asc.0, lt))) ∙ rest)
        | inr t ↦ ap (is_among a) (passing_no s ss t) ∙ rest
      ]

  -- where sites ascend, a site's address is among them exactly where the site passes
  pub among : (from : ℕ) (ss : List Site) (k : ℕ) (s : Site) → Ascend from (map site_address ss) → slice_get ss k ≡ Some s → is_among s.at (passing ss) ≡ test s
  among from [] k s asc e = absurd (none-some s e)
  among from (q ∷ ss) zero s asc e =
      let same = same_Some q s e in
      elim (cases_Bool (test q)) [
        | inl t ↦ ap (is_among s.at) (passing_yes q ss t) ∙ (ap (λ (u : Bool). u || is_among s.at (passing ss)) (eq-eqb q.at s.at (ap site_address same)) ∙ (sym t ∙ ap test same))
        | inr t ↦ ap (is_among s.at) (passing_no q ss t) ∙ (none_below (q.at + 1) ss s.at asc.1 (omega (arith, ap site_address same)) ∙ (sym t ∙ ap test same))
      ]
  among from (q ∷ ss) (suc k) s asc e =
      let later = address_low (q.at + 1) ss k s asc.1 e in
      let rest = among (q.at + 1) ss k s asc.1 e in
      elim (cases_Bool (test q)) [
        | inl t ↦ ap (is_among s.at) (passing_yes q ss t) ∙ (ap (λ (u : Bool). u || is_among s.at (passing ss)) (ne_eqb q.at s.at (λ same. omega (arith, same, later))) ∙ rest)
        | inr t ↦ ap (is_among s.at) (passing_no q ss t) ∙ rest
      ]

  -- they ascend where the sites do
  ascend_passing : (from : ℕ) (ss : List Site) → Ascend from (map site_address ss) → Ascend from (passing ss)
  ascend_passing from [] asc = tt
  ascend_passing from (s ∷ ss) asc =
      let rest = ascend_passing (s.at + 1) ss asc.1 in
      elim (cases_Bool (test s)) [
        | inl t ↦ subst (λ (l : List ℕ). Ascend from l) (sym (passing_yes s ss t)) (asc.0, rest)
        | inr t ↦ subst (λ (l : List ℕ). Ascend from l) (sym (passing_no s ss t)) (ascend_weaker from (s.at + 1) (passing ss) (omega (arith, asc.0)) rest)
      ]

  lowest : (from : ℕ) (xs : List ℕ) (k : ℕ) → Ascend from xs → k < length xs → from ≤ slice_index xs k
  lowest from [] k asc lt = absurd (omega (arith, lt))
  lowest from (x ∷ xs) zero asc lt = asc.0
  lowest from (x ∷ xs) (suc k) asc lt = omega (arith, asc.0, lowest (x + 1) xs k asc.1 (omega (arith, lt)))

  ordered : (from : ℕ) (xs : List ℕ) → Ascend from xs → whole.Ascend xs
  ordered from [] asc i j lt below = absurd (omega (arith, below))
  ordered from (x ∷ xs) asc zero zero lt below = absurd (omega (arith, lt))
  ordered from (x ∷ xs) asc zero (suc j) lt below = omega (arith, lowest (x + 1) xs j asc.1 (omega (arith, below)))
  ordered from (x ∷ xs) asc (suc i) zero lt below = absurd (omega (arith, lt))
  ordered from (x ∷ xs) asc (suc i) (suc j) lt below = ordered (x + 1) xs asc.1 i j (omega (arith, lt)) (omega (arith, below))

  pub passing_ascends : (ss : List Site) → Ascend 0 (map site_address ss) → whole.Ascend (passing ss)
  passing_ascends ss asc = ordered 0 (passing ss) (ascend_passing 0 ss asc)

-- ---- rules of listed addresses

-- the addresses that such a rule picks of ascending sites pick the same of them
pub same_at : (xs : List ℕ) (ss : List Site) (k : ℕ) (s : Site) → Ascend 0 (map site_address ss) → slice_get ss k ≡ Some s → picked (rule.At (passing (picked (rule.At xs)) ss)) s ≡ picked (rule.At xs) s
same_at xs ss k s asc e = among (picked (rule.At xs)) 0 ss k s asc e

once_more : (b c : Bool) → (b && (b && c)) ≡ (b && c)
once_more true c = refl
once_more false c = refl

pub same_edges_at : (xs : List ℕ) (ss : List Site) (k : ℕ) (s : Site) → Ascend 0 (map site_address ss) → slice_get ss k ≡ Some s → edge_picked (edges.At (passing (edge_picked (edges.At xs)) ss)) s ≡ edge_picked (edges.At xs) s
same_edges_at xs ss k s asc e =
    ap (λ (u : Bool). is_branch (flow_of s.insn) && u) (among (edge_picked (edges.At xs)) 0 ss k s asc e)
    ∙ once_more (is_branch (flow_of s.insn)) (list_any (λ a. a == s.at) xs)
