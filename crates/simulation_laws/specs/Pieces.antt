-- The code that stands for a site. This project's own.
use Rattle.std.specs.Prelude.{ℕ, ◌+◌, List, [], ◌∷◌, ◌++◌, length, Option, None, Some, ◌==◌, ◌&&◌, if◌then◌else◌}
use Rattle.mv_base.specs.Memory.{exec_bytes}
use Rattle.x86_insn.specs.declared.insn.Flow.{Flow}
use Rattle.x86_insn.specs.declared.insn.Flow.TheVariants.{Plain, Jump, Branch, Count, Call, JumpVia, CallVia, Return, Trap, System}
use Rattle.x86_insn.specs.Flow.{flow_of, falls}
use Rattle.step_laws.specs.Jumps.{jump_bytes}
use Rattle.branch_lengthen.specs.Near.{near_bytes}
use Rattle.call_rewrite.specs.Far.{far_bytes, load_of}
use Rattle.counter_hooks.specs.Counter.{counter}
use Rattle.edge_hooks.specs.Edges.{edge_bytes}
use Rattle.superset.specs.declared.site.Site.{Site}
pub use Rattle.superset.specs.Targets.{successor, target_after, target}
use Rattle.simulation_laws.specs.declared.anchors.Anchors.{Anchors}
use Rattle.simulation_laws.specs.declared.anchors.Ways.{Ways}

-- the piece of a site that stands at an address, where move says to where an address is moved: the site's own bytes, a
-- direct transfer to where the target now is, or the way through the stub
abbrev pub piece_of : Flow → Anchors → (ℕ → ℕ) → (ℕ → Option ℕ) → ℕ → Site → List ℕ
piece_of Plain anchors move code here s = exec_bytes code s.at s.len
piece_of System anchors move code here s = exec_bytes code s.at s.len
piece_of Trap anchors move code here s = exec_bytes code s.at s.len
piece_of Jump anchors move code here s = near_bytes s.insn here (move (target s))
piece_of Branch anchors move code here s = near_bytes s.insn here (move (target s))
piece_of Count anchors move code here s = near_bytes s.insn here (move (target s))
piece_of Call anchors move code here s = far_bytes (load_of s.insn) s.insn (successor s) here (move (target s)) anchors.private
piece_of JumpVia anchors move code here s = far_bytes (load_of s.insn) s.insn (successor s) here anchors.stub anchors.private
piece_of CallVia anchors move code here s = far_bytes (load_of s.insn) s.insn (successor s) here anchors.stub anchors.private
piece_of Return anchors move code here s = far_bytes (load_of s.insn) s.insn (successor s) here anchors.stub anchors.private

abbrev pub piece : Anchors → (ℕ → ℕ) → (ℕ → Option ℕ) → ℕ → Site → List ℕ
piece anchors move code here s = piece_of (flow_of s.insn) anchors move code here s

-- a jump to where the successor now is, from an address on, if the instruction may go on there
abbrev pub join : (ℕ → ℕ) → ℕ → Site → List ℕ
join move here s = if falls (flow_of s.insn) then jump_bytes here (move (successor s)) else []

-- a piece and the join behind it
abbrev pub with_join : (ℕ → ℕ) → ℕ → Site → List ℕ → List ℕ
with_join move here s p = p ++ join move (here + length p) s

-- ---- counters

-- where the counter of an address and a kind is, if the list has it: the counters stand one behind the other, eight bytes
-- each, in the order of the list
unfoldable pub counter_in : ℕ → List (ℕ × ℕ) → ℕ → ℕ → Option ℕ
counter_in first [] kind a = None
counter_in first (q ∷ qs) kind a = if q.0 == a && q.1 == kind then Some first else counter_in (first + 8) qs kind a

-- the counter in front of a piece, where the site has one
abbrev pub counter_code : Anchors → Option ℕ → List ℕ
counter_code anchors None = []
counter_code anchors (Some k) = counter anchors.private k

-- the counters of a branch's two ways, where it has both
abbrev pub ways_by : Option ℕ → Option ℕ → Option Ways
ways_by (Some taken) (Some passed) = Some (record { taken = taken; passed = passed })
ways_by (Some taken) None = None
ways_by None passed = None

-- the piece of a site: with a counter on each of its ways, where it has them
abbrev pub piece_with : Anchors → (ℕ → ℕ) → (ℕ → Option ℕ) → Option Ways → ℕ → Site → List ℕ
piece_with anchors move code None here s = piece anchors move code here s
piece_with anchors move code (Some ways) here s =
    edge_bytes s.insn here (move (target s)) (counter anchors.private ways.passed) (counter anchors.private ways.taken)

-- the code of a site that stands at an address: its counter, where it has one, and its piece
abbrev pub counted_piece : Anchors → (ℕ → ℕ) → (ℕ → Option ℕ) → Option ℕ → Option Ways → ℕ → Site → List ℕ
counted_piece anchors move code place ways here s =
    counter_code anchors place ++ piece_with anchors move code ways (here + length (counter_code anchors place)) s
