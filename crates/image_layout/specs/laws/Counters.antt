-- Which counters the list has, and where they are.
use Rattle.std.proofs.Common.{◌≡◌, ◌≢◌, ℕ, zero, suc, ◌+◌, ◌*◌, ◌<◌, ◌≤◌, Bool, true, false, cond, ◌&&◌, ◌==◌, List, [], ◌∷◌, ◌++◌, length, get_or, take, map, Option, Some, None, refl, sym, ap, ◌∙◌, ◌⊎◌, inl, inr, arith, eq-or-lt_of_le}
use Rattle.std.specs.Prelude.{slice_get}
use Rattle.std.proofs.lemmas.Bool.{and_parts, true≢false}
use Rattle.std.proofs.lemmas.List.{length-append, length-take, take_more, append-nil}
use Rattle.std.proofs.lemmas.List.Concat.{flat_map-append}
use Rattle.std.proofs.lemmas.Option.{none-some, same_Some}
use Rattle.x86_insn.specs.Flow.{flow_of}
use Rattle.map_table.specs.Pairs.{Ascend}
use Rattle.counter_hooks.specs.Rules.{picked, is_branch}
use Rattle.edge_hooks.specs.declared.rules.EdgeRule.{EdgeRule}
use Rattle.edge_hooks.specs.declared.rules.EdgeRule.TheVariants as edges
use Rattle.edge_hooks.specs.Rules.{edge_picked}
use Rattle.superset.specs.declared.site.Site.{Site}
use Rattle.simulation_laws.specs.declared.anchors.Anchors.{Anchors}
use Rattle.simulation_laws.specs.Pieces.{counter_in, ways_by}
use Rattle.simulation_laws.specs.Relocated.{ways_fit}
use Rattle.simulation_laws.specs.laws.Counters.{IsThat, is_that, not_that}
use Rattle.elf32_write.specs.Frame.{IsBefore, AscendPairs}
use Rattle.image_layout.specs.Pieces.{kinds_at, kinds_of, listed, rank, counters, all_place, ways_place}
use Rattle.image_layout.specs.Rules.{Rules}
use Rattle.image_layout.specs.laws.SiteFacts.{site_address}
use Rattle.image_layout.specs.laws.Pairing.{address_low}

-- ---- how many there are

kinds_most : (a : ℕ) (all ways : Bool) → length (kinds_at a all ways) ≤ 3
kinds_most a true true = omega arith
kinds_most a true false = omega arith
kinds_most a false true = omega arith
kinds_most a false false = omega arith

pub listed_most : (rules : Rules) (ss : List Site) → length (listed rules ss) ≤ 3 * length ss
listed_most rules [] = omega arith
listed_most rules (s ∷ ss) =
    omega (arith, length-append (kinds_of rules s) (listed rules ss), kinds_most s.at (picked rules.all s) (edge_picked rules.ways s), listed_most rules ss)

pub rank_most : (rules : Rules) (ss : List Site) (k : ℕ) → k < length ss → rank rules ss k + 3 ≤ 3 * length ss
rank_most rules ss k lt = omega (arith, listed_most rules (take k ss), length-take k ss, lt)

pub listed_count : (rules : Rules) (ss : List Site) (qs : List (ℕ × ℕ)) → qs ≡ listed rules ss → length qs ≡ length (listed rules ss)
listed_count rules ss qs e = ap length e

-- the sites up to the k-th, and the k-th
pub listed_more : (rules : Rules) (ss : List Site) (k : ℕ) (d : Site) → k < length ss → listed rules (take (k + 1) ss) ≡ listed rules (take k ss) ++ kinds_of rules (get_or ss k d)
listed_more rules ss k d lt =
    ap (listed rules) (take_more ss k d lt)
    ∙ (flat_map-append (kinds_of rules) (take k ss) (get_or ss k d ∷ [])
    ∙ ap (λ (l : List (ℕ × ℕ)). listed rules (take k ss) ++ l) (append-nil (kinds_of rules (get_or ss k d))))

-- ---- they ascend, by address and then by kind

-- a pair isn't before an address and a kind
abbrev IsFromOn : ℕ → ℕ → ℕ × ℕ → Type 0
IsFromOn a kind q = (a < q.0) ⊎ ((a ≡ q.0) × (kind ≤ q.1))

abbrev Rising : ℕ → ℕ → List (ℕ × ℕ) → Type 0
Rising a kind [] = Unit {0}
Rising a kind (q ∷ qs) = IsFromOn a kind q × Rising q.0 (q.1 + 1) qs

from_then : (a kind : ℕ) (p q : ℕ × ℕ) → IsFromOn a kind p → IsFromOn p.0 (p.1 + 1) q → IsFromOn a kind q
from_then a kind p q (inl l) (inl m) = inl (omega (arith, l, m))
from_then a kind p q (inl l) (inr m) = inl (omega (arith, l, m.0))
from_then a kind p q (inr l) (inl m) = inl (omega (arith, l.0, m))
from_then a kind p q (inr l) (inr m) = inr (l.0 ∙ m.0, omega (arith, l.1, m.1))

rises_from : (a kind : ℕ) (qs : List (ℕ × ℕ)) (j : ℕ) → Rising a kind qs → j < length qs → IsFromOn a kind (get_or qs j (0, 0))
rises_from a kind [] j r lt = absurd (omega (arith, lt))
rises_from a kind (q ∷ qs) zero r lt = r.0
rises_from a kind (q ∷ qs) (suc j) r lt = from_then a kind q (get_or qs j (0, 0)) r.0 (rises_from q.0 (q.1 + 1) qs j r.1 (omega (arith, lt)))

before : (p q : ℕ × ℕ) → IsFromOn p.0 (p.1 + 1) q → IsBefore p q
before p q (inl l) = inl l
before p q (inr l) = inr (l.0, omega (arith, l.1))

rising_ascends : (a kind : ℕ) (qs : List (ℕ × ℕ)) → Rising a kind qs → AscendPairs qs
rising_ascends a kind [] r i j lt below = absurd (omega (arith, below))
rising_ascends a kind (q ∷ qs) r i zero lt below = absurd (omega (arith, lt))
rising_ascends a kind (q ∷ qs) r zero (suc j) lt below = before q (get_or qs j (0, 0)) (rises_from q.0 (q.1 + 1) qs j r.1 (omega (arith, below)))
rising_ascends a kind (q ∷ qs) r (suc i) (suc j) lt below = rising_ascends q.0 (q.1 + 1) qs r.1 i j (omega (arith, lt)) (omega (arith, below))

lower : (a b kind more : ℕ) (qs : List (ℕ × ℕ)) → a < b → Rising b more qs → Rising a kind qs
lower a b kind more [] lt r = tt
lower a b kind more (q ∷ qs) lt r = (inl (above r.0), r.1)
  where
    above : IsFromOn b more q → a < q.0
    above (inl l) = omega (arith, lt, l)
    above (inr l) = omega (arith, lt, l.0)

at_least : (from a kind : ℕ) → from ≤ a → IsFromOn from 0 (a, kind)
at_least from a kind le = go (eq-or-lt_of_le le)
  where
    go : (from ≡ a) ⊎ (from < a) → IsFromOn from 0 (a, kind)
    go (inl e) = inr (e, omega arith)
    go (inr l) = inl l

rising_kinds : (from a : ℕ) (all ways : Bool) (qs : List (ℕ × ℕ)) → from ≤ a → Rising (a + 1) 0 qs → Rising from 0 (kinds_at a all ways ++ qs)
rising_kinds from a true true qs le r = (at_least from a 0 le, (inr (refl, omega arith), (inr (refl, omega arith), lower a (a + 1) 3 0 qs (omega arith) r)))
rising_kinds from a true false qs le r = (at_least from a 0 le, lower a (a + 1) 1 0 qs (omega arith) r)
rising_kinds from a false true qs le r = (at_least from a 1 le, (inr (refl, omega arith), lower a (a + 1) 3 0 qs (omega arith) r))
rising_kinds from a false false qs le r = lower from (a + 1) 0 0 qs (omega (arith, le)) r

rising_listed : (rules : Rules) (from : ℕ) (ss : List Site) → Ascend from (map site_address ss) → Rising from 0 (listed rules ss)
rising_listed rules from [] asc = tt
rising_listed rules from (s ∷ ss) asc =
    rising_kinds from s.at (picked rules.all s) (edge_picked rules.ways s) (listed rules ss) asc.0 (rising_listed rules (s.at + 1) ss asc.1)

-- the list ascends where the sites do
pub listed_ascend : (rules : Rules) (ss : List Site) → Ascend 0 (map site_address ss) → AscendPairs (listed rules ss)
listed_ascend rules ss asc = rising_ascends 0 0 (listed rules ss) (rising_listed rules 0 ss asc)

-- ---- the places of counters

at_here : (first : ℕ) (q : ℕ × ℕ) (qs : List (ℕ × ℕ)) (kind a : ℕ) → IsThat kind a q → counter_in first (q ∷ qs) kind a ≡ Some first
unfolding counter_in
at_here first q qs kind a is = ap (λ (b : Bool). cond b (Some first) (counter_in (first + 8) qs kind a)) (is_that kind a q is)

at_other : (first : ℕ) (q : ℕ × ℕ) (qs : List (ℕ × ℕ)) (kind a : ℕ) → (IsThat kind a q → ⊥) → counter_in first (q ∷ qs) kind a ≡ counter_in (first + 8) qs kind a
unfolding counter_in
at_other first q qs kind a other = ap (λ (b : Bool). cond b (Some first) (counter_in (first + 8) qs kind a)) (not_that kind a q other)

none_left : (first kind a : ℕ) → counter_in first [] kind a ≡ None
unfolding counter_in
none_left first kind a = refl

-- in a list of two parts
in_front : (first : ℕ) (xs ys : List (ℕ × ℕ)) (kind a p : ℕ) → counter_in first xs kind a ≡ Some p → counter_in first (xs ++ ys) kind a ≡ Some p
unfolding counter_in
in_front first [] ys kind a p e = absurd (none-some p e)
in_front first (x ∷ xs) ys kind a p e = go (λ h. in_front (first + 8) xs ys kind a p h) (x.0 == a && x.1 == kind) e
  where
    go : (counter_in (first + 8) xs kind a ≡ Some p → counter_in (first + 8) (xs ++ ys) kind a ≡ Some p) → (b : Bool) → cond b (Some first) (counter_in (first + 8) xs kind a) ≡ Some p → cond b (Some first) (counter_in (first + 8) (xs ++ ys) kind a) ≡ Some p
    go rest true h = h
    go rest false h = rest h

behind_front : (first : ℕ) (xs ys : List (ℕ × ℕ)) (kind a : ℕ) → counter_in first xs kind a ≡ None → counter_in first (xs ++ ys) kind a ≡ counter_in (first + 8 * length xs) ys kind a
unfolding counter_in
behind_front first [] ys kind a e = ap (λ (n : ℕ). counter_in n ys kind a) (let same : first ≡ first + 8 * 0 = omega arith in same)
behind_front first (x ∷ xs) ys kind a e = go (λ h. behind_front (first + 8) xs ys kind a h) (x.0 == a && x.1 == kind) e
  where
    go : (counter_in (first + 8) xs kind a ≡ None → counter_in (first + 8) (xs ++ ys) kind a ≡ counter_in (first + 8 + 8 * length xs) ys kind a) → (b : Bool) → cond b (Some first) (counter_in (first + 8) xs kind a) ≡ None → cond b (Some first) (counter_in (first + 8) (xs ++ ys) kind a) ≡ counter_in (first + 8 * length (x ∷ xs)) ys kind a
    go rest true h = absurd (none-some first (sym h))
    go rest false h =
        let place : first + 8 + 8 * length xs ≡ first + 8 * length (x ∷ xs) = omega arith in
        rest h ∙ ap (λ (n : ℕ). counter_in n ys kind a) place

-- another address has none of these
kinds_other : (first b : ℕ) (all ways : Bool) (kind a : ℕ) → b ≢ a → counter_in first (kinds_at b all ways) kind a ≡ None
kinds_other first b true true kind a ne =
    at_other first (b, 0) ((b, 1) ∷ (b, 2) ∷ []) kind a (λ is. ne is.0)
    ∙ (at_other (first + 8) (b, 1) ((b, 2) ∷ []) kind a (λ is. ne is.0) ∙ (at_other (first + 8 + 8) (b, 2) [] kind a (λ is. ne is.0) ∙ none_left (first + 8 + 8 + 8) kind a))
kinds_other first b true false kind a ne = at_other first (b, 0) [] kind a (λ is. ne is.0) ∙ none_left (first + 8) kind a
kinds_other first b false true kind a ne =
    at_other first (b, 1) ((b, 2) ∷ []) kind a (λ is. ne is.0) ∙ (at_other (first + 8) (b, 2) [] kind a (λ is. ne is.0) ∙ none_left (first + 8 + 8) kind a)
kinds_other first b false false kind a ne = none_left first kind a

-- an address below the sites has none
below_none : (rules : Rules) (first from : ℕ) (ss : List Site) (kind a : ℕ) → Ascend from (map site_address ss) → a < from → counter_in first (listed rules ss) kind a ≡ None
below_none rules first from [] kind a asc lt = none_left first kind a
below_none rules first from (s ∷ ss) kind a asc lt =
    behind_front first (kinds_of rules s) (listed rules ss) kind a (kinds_other first s.at (picked rules.all s) (edge_picked rules.ways s) kind a (λ same. omega (arith, same, asc.0, lt)))
    ∙ below_none rules (first + 8 * length (kinds_of rules s)) (s.at + 1) ss kind a asc.1 (omega (arith, asc.0, lt))

-- the counters of the site of index k are its own, behind its rank
pub counter_is : (rules : Rules) (first from : ℕ) (ss : List Site) (k : ℕ) (s : Site) (kind : ℕ) → Ascend from (map site_address ss) → slice_get ss k ≡ Some s → counter_in first (listed rules ss) kind s.at ≡ counter_in (first + 8 * rank rules ss k) (kinds_of rules s) kind s.at
counter_is rules first from [] k s kind asc e = absurd (none-some s e)
counter_is rules first from (q ∷ ss) zero s kind asc e =
    let zeroth : first ≡ first + 8 * rank rules (q ∷ ss) 0 = omega arith in
    ap (λ (r : Site). counter_in first (kinds_of rules r ++ listed rules ss) kind s.at) (same_Some q s e)
    ∙ (own (counter_in first (kinds_of rules s) kind s.at) refl
    ∙ ap (λ (n : ℕ). counter_in n (kinds_of rules s) kind s.at) zeroth)
  where
    low : s.at < q.at + 1
    low = omega (arith, ap site_address (same_Some q s e))

    own : (o : Option ℕ) → counter_in first (kinds_of rules s) kind s.at ≡ o → counter_in first (kinds_of rules s ++ listed rules ss) kind s.at ≡ counter_in first (kinds_of rules s) kind s.at
    own None h = behind_front first (kinds_of rules s) (listed rules ss) kind s.at h ∙ (below_none rules (first + 8 * length (kinds_of rules s)) (q.at + 1) ss kind s.at asc.1 low ∙ sym h)
    own (Some p) h = in_front first (kinds_of rules s) (listed rules ss) kind s.at p h ∙ sym h
counter_is rules first from (q ∷ ss) (suc k) s kind asc e =
    let later = address_low (q.at + 1) ss k s asc.1 e in
    let more = length-append (kinds_of rules q) (listed rules (take k ss)) in
    let place : first + 8 * length (kinds_of rules q) + 8 * rank rules ss k ≡ first + 8 * rank rules (q ∷ ss) (suc k) = omega (arith, more) in
    behind_front first (kinds_of rules q) (listed rules ss) kind s.at (kinds_other first q.at (picked rules.all q) (edge_picked rules.ways q) kind s.at (λ same. omega (arith, same, later)))
    ∙ (counter_is rules (first + 8 * length (kinds_of rules q)) (q.at + 1) ss k s kind asc.1 e
    ∙ ap (λ (n : ℕ). counter_in n (kinds_of rules s) kind s.at) place)

-- ---- those of one site

all_there : (first a : ℕ) (all ways : Bool) → counter_in first (kinds_at a all ways) 0 a ≡ all_place first all
all_there first a true true = at_here first (a, 0) ((a, 1) ∷ (a, 2) ∷ []) 0 a (refl, refl)
all_there first a true false = at_here first (a, 0) [] 0 a (refl, refl)
all_there first a false true =
    at_other first (a, 1) ((a, 2) ∷ []) 0 a (λ is. omega (arith, is.1)) ∙ (at_other (first + 8) (a, 2) [] 0 a (λ is. omega (arith, is.1)) ∙ none_left (first + 8 + 8) 0 a)
all_there first a false false = none_left first 0 a

-- both ways, behind so many bytes
both_there : (first a : ℕ) → ways_by (counter_in first ((a, 1) ∷ (a, 2) ∷ []) 1 a) (counter_in first ((a, 1) ∷ (a, 2) ∷ []) 2 a) ≡ Some (record { taken = first; passed = first + 8 })
both_there first a =
    let taken = at_here first (a, 1) ((a, 2) ∷ []) 1 a (refl, refl) in
    let passed = at_other first (a, 1) ((a, 2) ∷ []) 2 a (λ is. omega (arith, is.1)) ∙ at_here (first + 8) (a, 2) [] 2 a (refl, refl) in
    λ i. ways_by (taken i) (passed i)

ways_there : (first a : ℕ) (all ways : Bool) → ways_by (counter_in first (kinds_at a all ways) 1 a) (counter_in first (kinds_at a all ways) 2 a) ≡ ways_place first all ways
ways_there first a true true =
    let taken = at_other first (a, 0) ((a, 1) ∷ (a, 2) ∷ []) 1 a (λ is. omega (arith, is.1)) in
    let passed = at_other first (a, 0) ((a, 1) ∷ (a, 2) ∷ []) 2 a (λ is. omega (arith, is.1)) in
    (λ i. ways_by (taken i) (passed i)) ∙ both_there (first + 8) a
ways_there first a true false =
    let taken = at_other first (a, 0) [] 1 a (λ is. omega (arith, is.1)) ∙ none_left (first + 8) 1 a in
    ap (λ o. ways_by o (counter_in first ((a, 0) ∷ []) 2 a)) taken
ways_there first a false true =
    let same : first ≡ first + 0 = omega arith in
    both_there first a ∙ ap (λ (n : ℕ). Some (record { taken = n; passed = n + 8 })) same
ways_there first a false false = ap (λ o. ways_by o (counter_in first [] 2 a)) (none_left first 1 a)

-- both or neither, and only where the way is picked
fit_there : (first a : ℕ) (all ways branches : Bool) → (ways ≡ true → branches ≡ true) → ways_fit (counter_in first (kinds_at a all ways) 1 a) (counter_in first (kinds_at a all ways) 2 a) branches ≡ true
fit_there first a true true branches is =
    let taken = at_other first (a, 0) ((a, 1) ∷ (a, 2) ∷ []) 1 a (λ is. omega (arith, is.1)) ∙ at_here (first + 8) (a, 1) ((a, 2) ∷ []) 1 a (refl, refl) in
    let passed = at_other first (a, 0) ((a, 1) ∷ (a, 2) ∷ []) 2 a (λ is. omega (arith, is.1)) ∙ (at_other (first + 8) (a, 1) ((a, 2) ∷ []) 2 a (λ is. omega (arith, is.1)) ∙ at_here (first + 8 + 8) (a, 2) [] 2 a (refl, refl)) in
    (λ i. ways_fit (taken i) (passed i) branches) ∙ is refl
fit_there first a true false branches is =
    let taken = at_other first (a, 0) [] 1 a (λ is. omega (arith, is.1)) ∙ none_left (first + 8) 1 a in
    let passed = at_other first (a, 0) [] 2 a (λ is. omega (arith, is.1)) ∙ none_left (first + 8) 2 a in
    λ i. ways_fit (taken i) (passed i) branches
fit_there first a false true branches is =
    let taken = at_here first (a, 1) ((a, 2) ∷ []) 1 a (refl, refl) in
    let passed = at_other first (a, 1) ((a, 2) ∷ []) 2 a (λ is. omega (arith, is.1)) ∙ at_here (first + 8) (a, 2) [] 2 a (refl, refl) in
    (λ i. ways_fit (taken i) (passed i) branches) ∙ is refl
fit_there first a false false branches is = λ i. ways_fit (none_left first 1 a i) (none_left first 2 a i) branches

-- an edge rule picks branches and loops alone
pub picked_branches : (rule : EdgeRule) (s : Site) → edge_picked rule s ≡ true → is_branch (flow_of s.insn) ≡ true
picked_branches edges.None s e = absurd (true≢false (sym e))
picked_branches edges.All s e = e
picked_branches (edges.At xs) s e = (and_parts (is_branch (flow_of s.insn)) _ e).0

-- where the counters of a site are, as the rules pick it
pub record IsCountedAt (rules : Rules) (place : ℕ → ℕ → Option ℕ) (s : Site) : Type 0 where
  pub first : ℕ
  pub all : place 0 s.at ≡ all_place first (picked rules.all s)
  pub ways : ways_by (place 1 s.at) (place 2 s.at) ≡ ways_place first (picked rules.all s) (edge_picked rules.ways s)

-- those of the site of index k begin behind its rank
pub counted_at : (rules : Rules) (an : Anchors) (from : ℕ) (ss : List Site) (k : ℕ) (s : Site) → Ascend from (map site_address ss) → slice_get ss k ≡ Some s → IsCountedAt rules (counters rules an ss) s
counted_at rules an from ss k s asc e =
    let first = an.private + 64 + 8 * rank rules ss k in
    let here = λ (kind : ℕ). counter_is rules (an.private + 64) from ss k s kind asc e in
    record {
      first = first;
      all = here 0 ∙ all_there first s.at (picked rules.all s) (edge_picked rules.ways s);
      ways = (λ i. ways_by (here 1 i) (here 2 i)) ∙ ways_there first s.at (picked rules.all s) (edge_picked rules.ways s);
    }

pub counted_first : (rules : Rules) (an : Anchors) (from : ℕ) (ss : List Site) (k : ℕ) (s : Site) (asc : Ascend from (map site_address ss)) (e : slice_get ss k ≡ Some s) → (counted_at rules an from ss k s asc e).first ≡ an.private + 64 + 8 * rank rules ss k
unfolding counted_at
counted_first rules an from ss k s asc e = refl

pub ways_fit_at : (rules : Rules) (an : Anchors) (from : ℕ) (ss : List Site) (k : ℕ) (s : Site) → Ascend from (map site_address ss) → slice_get ss k ≡ Some s → ways_fit (counters rules an ss 1 s.at) (counters rules an ss 2 s.at) (is_branch (flow_of s.insn)) ≡ true
ways_fit_at rules an from ss k s asc e =
    let first = an.private + 64 + 8 * rank rules ss k in
    let here = λ (kind : ℕ). counter_is rules (an.private + 64) from ss k s kind asc e in
    (λ i. ways_fit (here 1 i) (here 2 i) (is_branch (flow_of s.insn)))
    ∙ fit_there first s.at (picked rules.all s) (edge_picked rules.ways s) (is_branch (flow_of s.insn)) (picked_branches rules.ways s)
