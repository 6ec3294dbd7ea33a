-- How many bytes counters, pieces and joins have.
use Rattle.std.proofs.Common.{◌≡◌, ℕ, zero, suc, ◌+◌, ◌<◌, Bool, true, false, ◌≤◌, List, [], ◌∷◌, length, Option, Some, None, refl, sym, ap, ◌∙◌, subst, arith}
use Rattle.std.specs.Prelude.{slice_get, slice_index, IfSome}
use Rattle.std.proofs.lemmas.List.{length-append}
use Rattle.std.proofs.lemmas.Bool.{true≢false}
use Rattle.std.proofs.lemmas.Option.{none-some, same_Some}
use Rattle.x86_insn.specs.declared.insn.Flow.{Flow}
use Rattle.x86_insn.specs.declared.insn.Flow.TheVariants as flow
use Rattle.x86_insn.specs.declared.insn.Insn.{Insn}
use Rattle.x86_insn.specs.declared.insn.Insn.TheVariants as insn
use Rattle.x86_insn.specs.Flow.{flow_of}
use Rattle.step_laws.specs.laws.NearJump.{jump_len}
use Rattle.branch_lengthen.specs.Near.{near_bytes, near_size}
use Rattle.branch_lengthen.specs.laws.Branches.{branch_len, count_len}
use Rattle.call_rewrite.specs.Far.{far_size, load_of}
use Rattle.call_rewrite.specs.laws.Lengths.{far_sized}
use Rattle.image_layout.specs.Rules.{Rules}
use Rattle.counter_hooks.specs.Rules.{picked, is_branch}
use Rattle.counter_hooks.specs.laws.Counted.{counter_length}
use Rattle.edge_hooks.specs.declared.rules.EdgeRule.{EdgeRule}
use Rattle.edge_hooks.specs.Rules.{edge_picked}
use Rattle.edge_hooks.specs.Edges.{edge_size}
use Rattle.edge_hooks.specs.laws.Lengths.{edge_sized}
use Rattle.superset.specs.declared.site.Site.{Site}
use Rattle.simulation_laws.specs.declared.anchors.Anchors.{Anchors}
use Rattle.simulation_laws.specs.declared.anchors.Ways.{Ways}
use Rattle.simulation_laws.specs.Pieces.{successor, target, piece_of, piece, piece_with, counter_code, counted_piece, ways_by}
use Rattle.image_layout.specs.Parts.{Part, Piece, Join, part_len}
use Rattle.image_layout.specs.Pieces.{len_by, piece_len, counter_len, way_len, all_place, ways_place, site_len, code_lens, site_code, part_bytes}
use Rattle.image_layout.specs.Sites.{IsShort, AreShort, IsWhole, AreWhole}
use Rattle.simulation_laws.specs.laws.Loading.{far_most}
use Rattle.image_layout.specs.laws.Counters.{IsCountedAt, picked_branches}

-- the flows of direct transfers but calls
abbrev IsTransfer : Flow → Type 0
IsTransfer flow.Plain = ⊥
IsTransfer flow.System = ⊥
IsTransfer flow.Trap = ⊥
IsTransfer flow.Jump = Unit {0}
IsTransfer flow.Branch = Unit {0}
IsTransfer flow.Count = Unit {0}
IsTransfer flow.Call = ⊥
IsTransfer flow.JumpVia = ⊥
IsTransfer flow.CallVia = ⊥
IsTransfer flow.Return = ⊥

near_sized : (i : Insn) (here to len : ℕ) → IsTransfer (flow_of i) → length (near_bytes i here to) ≡ near_size (flow_of i) len
near_sized (insn.Jump rel) here to len is = jump_len here to
near_sized (insn.Branch cond rel) here to len is = branch_len cond here to
near_sized (insn.Loop kind rel) here to len is = count_len kind here to
near_sized _ here to len is = absurd is

near_is : (f : Flow) (i : Insn) (here to len : ℕ) → flow_of i ≡ f → IsTransfer f → length (near_bytes i here to) ≡ near_size f len
near_is f i here to len e is = near_sized i here to len (subst IsTransfer (sym e) is) ∙ ap (λ (g : Flow). near_size g len) e

by_flow : (f : Flow) (an : Anchors) (move : ℕ → ℕ) (code : ℕ → Option ℕ) (here : ℕ) (s : Site) → flow_of s.insn ≡ f → IsWhole code s → length (piece_of f an move code here s) ≡ len_by f s
by_flow flow.Plain an move code here s e is = is.whole
by_flow flow.System an move code here s e is = is.whole
by_flow flow.Trap an move code here s e is = is.whole
by_flow flow.Jump an move code here s e is = near_is flow.Jump s.insn here (move (target s)) s.len e tt
by_flow flow.Branch an move code here s e is = near_is flow.Branch s.insn here (move (target s)) s.len e tt
by_flow flow.Count an move code here s e is = near_is flow.Count s.insn here (move (target s)) s.len e tt
by_flow flow.Call an move code here s e is = far_sized (load_of s.insn) s.insn (successor s) here (move (target s)) an.private
by_flow flow.JumpVia an move code here s e is = far_sized (load_of s.insn) s.insn (successor s) here an.stub an.private
by_flow flow.CallVia an move code here s e is = far_sized (load_of s.insn) s.insn (successor s) here an.stub an.private
by_flow flow.Return an move code here s e is = far_sized (load_of s.insn) s.insn (successor s) here an.stub an.private

-- a piece has the length that is said of its site
pub piece_sized : (an : Anchors) (move : ℕ → ℕ) (code : ℕ → Option ℕ) (here : ℕ) (s : Site) → IsWhole code s → length (piece an move code here s) ≡ piece_len s
piece_sized an move code here s is = by_flow (flow_of s.insn) an move code here s refl is

-- a counter has as many bytes as is said of its site
pub counter_sized : (rules : Rules) (an : Anchors) (place : ℕ → ℕ → Option ℕ) (s : Site) → IsCountedAt rules place s → length (counter_code an (place 0 s.at)) ≡ counter_len (picked rules.all s)
counter_sized rules an place s at = ap (λ (o : Option ℕ). length (counter_code an o)) at.all ∙ sized (picked rules.all s)
  where
    sized : (t : Bool) → length (counter_code an (all_place at.first t)) ≡ counter_len t
    sized true = counter_length an.private at.first
    sized false = refl

-- a piece with a counter on each way has the length that is said of it too
way_sized : (rule : EdgeRule) (first : ℕ) (all : Bool) (an : Anchors) (move : ℕ → ℕ) (code : ℕ → Option ℕ) (ways : Option Ways) (here : ℕ) (s : Site) → IsWhole code s → ways ≡ ways_place first all (edge_picked rule s) → length (piece_with an move code ways here s) ≡ way_len (edge_picked rule s) s
way_sized rule first all an move code ways here s is e = ap (λ o. length (piece_with an move code o here s)) e ∙ by (edge_picked rule s) refl
  where
    by : (t : Bool) → edge_picked rule s ≡ t → length (piece_with an move code (ways_place first all t) here s) ≡ way_len t s
    by true h = edge_sized s.insn here (move (target s)) _ _ (picked_branches rule s h) (counter_length an.private _) (counter_length an.private _)
    by false h = piece_sized an move code here s is

-- a site's code has its length, where its counters are as the rules pick it
pub site_sized : (rules : Rules) (an : Anchors) (move : ℕ → ℕ) (code : ℕ → Option ℕ) (place : ℕ → ℕ → Option ℕ) (here : ℕ) (s : Site) → IsWhole code s → IsCountedAt rules place s
    → length (counted_piece an move code (place 0 s.at) (ways_by (place 1 s.at) (place 2 s.at)) here s) ≡ site_len rules s
site_sized rules an move code place here s is at =
    let behind = here + length (counter_code an (place 0 s.at)) in
    let ways = ways_by (place 1 s.at) (place 2 s.at) in
    omega (
      arith,
      length-append (counter_code an (place 0 s.at)) (piece_with an move code ways behind s),
      counter_sized rules an place s at,
      way_sized rules.ways at.first (picked rules.all s) an move code ways behind s is at.ways,
    )

pub lens_at : (rules : Rules) (ss : List Site) (k : ℕ) (s : Site) → slice_get ss k ≡ Some s → slice_index (code_lens rules ss) k ≡ site_len rules s
lens_at rules [] k s e = absurd (none-some s e)
lens_at rules (q ∷ ss) zero s e = ap (site_len rules) (same_Some q s e)
lens_at rules (q ∷ ss) (suc k) s e = lens_at rules ss k s e

-- a piece has at most 33 bytes
by_flow_most : (f : Flow) (s : Site) → IsShort s → len_by f s ≤ 33
by_flow_most flow.Plain s is = omega (arith, is.short)
by_flow_most flow.System s is = omega (arith, is.short)
by_flow_most flow.Trap s is = omega (arith, is.short)
by_flow_most flow.Jump s is = omega arith
by_flow_most flow.Branch s is = omega arith
by_flow_most flow.Count s is = omega arith
by_flow_most flow.Call s is = omega (arith, far_sized (load_of s.insn) s.insn 0 0 0 0, far_most (load_of s.insn) s.insn 0 0 0 0 is.load)
by_flow_most flow.JumpVia s is = omega (arith, far_sized (load_of s.insn) s.insn 0 0 0 0, far_most (load_of s.insn) s.insn 0 0 0 0 is.load)
by_flow_most flow.CallVia s is = omega (arith, far_sized (load_of s.insn) s.insn 0 0 0 0, far_most (load_of s.insn) s.insn 0 0 0 0 is.load)
by_flow_most flow.Return s is = omega (arith, far_sized (load_of s.insn) s.insn 0 0 0 0, far_most (load_of s.insn) s.insn 0 0 0 0 is.load)

pub piece_most : (s : Site) → IsShort s → piece_len s ≤ 33
piece_most s is = by_flow_most (flow_of s.insn) s is

lens_past : (rules : Rules) (ss : List Site) (k : ℕ) → slice_get ss k ≡ None → slice_index (code_lens rules ss) k ≡ 0
lens_past rules [] k e = refl
lens_past rules (q ∷ ss) zero e = absurd (none-some q (sym e))
lens_past rules (q ∷ ss) (suc k) e = lens_past rules ss k e

counter_most : (t : Bool) → counter_len t ≤ 46
counter_most true = omega arith
counter_most false = omega arith

edge_most : (f : Flow) → edge_size f ≤ 105
edge_most flow.Plain = omega arith
edge_most flow.System = omega arith
edge_most flow.Trap = omega arith
edge_most flow.Jump = omega arith
edge_most flow.Branch = omega arith
edge_most flow.Count = omega arith
edge_most flow.Call = omega arith
edge_most flow.JumpVia = omega arith
edge_most flow.CallVia = omega arith
edge_most flow.Return = omega arith

way_most : (t : Bool) (s : Site) → IsShort s → way_len t s ≤ 105
way_most true s is = edge_most (flow_of s.insn)
way_most false s is = omega (arith, by_flow_most (flow_of s.insn) s is)

most_at : (rules : Rules) (ss : List Site) (k : ℕ) (o : Option Site) → slice_get ss k ≡ o → IfSome o IsShort → slice_index (code_lens rules ss) k ≤ 151
most_at rules ss k None e is = omega (arith, lens_past rules ss k e)
most_at rules ss k (Some s) e is = omega (arith, lens_at rules ss k s e, counter_most (picked rules.all s), way_most (edge_picked rules.ways s) s is)

pub lens_most : (rules : Rules) (ss : List Site) → AreShort ss → (k : ℕ) → slice_index (code_lens rules ss) k ≤ 151
lens_most rules ss short k = most_at rules ss k (slice_get ss k) refl (short k)

-- the counters of sites are as the rules pick them
abbrev pub AreCounted : Rules → (ℕ → ℕ → Option ℕ) → List Site → Type 0
AreCounted rules place ss = (k : ℕ) (s : Site) → slice_get ss k ≡ Some s → IsCountedAt rules place s

code_at : (rules : Rules) (an : Anchors) (move : ℕ → ℕ) (code : ℕ → Option ℕ) (place : ℕ → ℕ → Option ℕ) (ss : List Site) → AreCounted rules place ss → (here k : ℕ) (o : Option Site) → slice_get ss k ≡ o → IfSome o (IsWhole code) → length (site_code an move code place here o) ≡ slice_index (code_lens rules ss) k
code_at rules an move code place ss are here k None e is = sym (lens_past rules ss k e)
code_at rules an move code place ss are here k (Some s) e is = site_sized rules an move code place here s is (are k s e) ∙ sym (lens_at rules ss k s e)

-- and each part the length that is said of it
pub part_sized : (rules : Rules) (an : Anchors) (move : ℕ → ℕ) (code : ℕ → Option ℕ) (place : ℕ → ℕ → Option ℕ) (ss : List Site) → AreWhole code ss → AreCounted rules place ss → (here : ℕ) (p : Part) → length (part_bytes an move code place ss here p) ≡ part_len (code_lens rules ss) p
part_sized rules an move code place ss whole are here (Piece k) = code_at rules an move code place ss are here k (slice_get ss k) refl (whole k)
part_sized rules an move code place ss whole are here (Join to) = jump_len here (move to)

-- ---- no piece is empty

abbrev IsFar : Flow → Type 0
IsFar flow.Plain = ⊥
IsFar flow.System = ⊥
IsFar flow.Trap = ⊥
IsFar flow.Jump = ⊥
IsFar flow.Branch = ⊥
IsFar flow.Count = ⊥
IsFar flow.Call = Unit {0}
IsFar flow.JumpVia = Unit {0}
IsFar flow.CallVia = Unit {0}
IsFar flow.Return = Unit {0}

far_some : (load : List ℕ) (i : Insn) → IsFar (flow_of i) → 0 < far_size load i
far_some load (insn.Call rel) is = omega arith
far_some load (insn.CallVia src) is = omega arith
far_some load (insn.JumpVia src) is = omega arith
far_some load (insn.Ret zero) is = omega arith
far_some load (insn.Ret (suc n)) is = omega arith
far_some load _ is = absurd is

some_by : (f : Flow) (s : Site) → flow_of s.insn ≡ f → 0 < s.len → 0 < len_by f s
some_by flow.Plain s e some = some
some_by flow.System s e some = some
some_by flow.Trap s e some = some
some_by flow.Jump s e some = omega arith
some_by flow.Branch s e some = omega arith
some_by flow.Count s e some = omega arith
some_by flow.Call s e some = far_some (load_of s.insn) s.insn (subst IsFar (sym e) tt)
some_by flow.JumpVia s e some = far_some (load_of s.insn) s.insn (subst IsFar (sym e) tt)
some_by flow.CallVia s e some = far_some (load_of s.insn) s.insn (subst IsFar (sym e) tt)
some_by flow.Return s e some = far_some (load_of s.insn) s.insn (subst IsFar (sym e) tt)

piece_some_by : (s : Site) → 0 < s.len → 0 < piece_len s
piece_some_by s some = some_by (flow_of s.insn) s refl some

-- nor one with counters on its ways
edge_some : (rule : EdgeRule) (s : Site) (t : Bool) → edge_picked rule s ≡ t → 0 < s.len → 0 < way_len t s
edge_some rule s true e some = branch_some (flow_of s.insn) (picked_branches rule s e)
  where
    branch_some : (f : Flow) → is_branch f ≡ true → 0 < edge_size f
    branch_some flow.Branch is = omega arith
    branch_some flow.Count is = omega arith
    branch_some flow.Plain is = absurd (true≢false (sym is))
    branch_some flow.System is = absurd (true≢false (sym is))
    branch_some flow.Trap is = absurd (true≢false (sym is))
    branch_some flow.Jump is = absurd (true≢false (sym is))
    branch_some flow.Call is = absurd (true≢false (sym is))
    branch_some flow.JumpVia is = absurd (true≢false (sym is))
    branch_some flow.CallVia is = absurd (true≢false (sym is))
    branch_some flow.Return is = absurd (true≢false (sym is))
edge_some rule s false e some = piece_some_by s some

pub site_some_by : (rules : Rules) (s : Site) → 0 < s.len → 0 < site_len rules s
site_some_by rules s some = omega (arith, edge_some rules.ways s (edge_picked rules.ways s) refl some)
