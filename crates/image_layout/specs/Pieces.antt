-- The bytes of the parts that stand behind the stub, and how many the code of a site has: its counter, where a rule picks
-- it, and its piece, with a counter on each way where an edge rule picks it. This project's own.
use Rattle.std.specs.Prelude.{ℕ, ◌+◌, Bool, true, false, List, [], ◌∷◌, ◌++◌, length, map, take, Option, Some, None, slice_get, if◌then◌else◌}
use Rattle.std.specs.List.{flat_map}
use Rattle.x86_insn.specs.declared.insn.Flow.{Flow}
use Rattle.x86_insn.specs.declared.insn.Flow.TheVariants.{Plain, Jump, Branch, Count, Call, JumpVia, CallVia, Return, Trap, System}
use Rattle.x86_insn.specs.Flow.{flow_of}
use Rattle.step_laws.specs.Jumps.{jump_bytes}
use Rattle.branch_lengthen.specs.Near.{near_size}
use Rattle.call_rewrite.specs.Far.{far_size, load_of}
use Rattle.counter_hooks.specs.Rules.{picked}
use Rattle.edge_hooks.specs.Rules.{edge_picked}
use Rattle.edge_hooks.specs.Edges.{edge_size}
use Rattle.superset.specs.declared.site.Site.{Site}
use Rattle.sequence_join.specs.Chains.{Chain}
use Rattle.simulation_laws.specs.declared.anchors.Anchors.{Anchors}
use Rattle.simulation_laws.specs.declared.anchors.Ways.{Ways}
use Rattle.simulation_laws.specs.Pieces.{counter_in, counted_piece, ways_by}
use Rattle.image_layout.specs.Parts.{Part, Piece, Join, parts, placed}
use Rattle.image_layout.specs.Rules.{Rules}

-- how many bytes the piece of a site has, by its flow
abbrev pub len_by : Flow → Site → ℕ
len_by Call s = far_size (load_of s.insn) s.insn
len_by JumpVia s = far_size (load_of s.insn) s.insn
len_by CallVia s = far_size (load_of s.insn) s.insn
len_by Return s = far_size (load_of s.insn) s.insn
len_by Plain s = s.len
len_by System s = s.len
len_by Trap s = s.len
len_by Jump s = near_size Jump s.len
len_by Branch s = near_size Branch s.len
len_by Count s = near_size Count s.len

abbrev pub piece_len : Site → ℕ
piece_len s = len_by (flow_of s.insn) s

-- a flow whose piece goes to where the instruction's own target now is
abbrev pub is_direct : Flow → Bool
is_direct Jump = true
is_direct Branch = true
is_direct Count = true
is_direct Call = true
is_direct Plain = false
is_direct System = false
is_direct Trap = false
is_direct JumpVia = false
is_direct CallVia = false
is_direct Return = false

-- a flow whose piece is the instruction's own bytes
abbrev pub is_own : Flow → Bool
is_own Plain = true
is_own System = true
is_own Trap = true
is_own Jump = false
is_own Branch = false
is_own Count = false
is_own Call = false
is_own JumpVia = false
is_own CallVia = false
is_own Return = false

-- ---- counters

-- the counters of an address, as the list has them: that of all its executions, and those of a branch or a loop that is
-- taken and that is passed
abbrev pub kinds_at : ℕ → Bool → Bool → List (ℕ × ℕ)
kinds_at a all ways = (if all then (a, 0) ∷ [] else []) ++ (if ways then (a, 1) ∷ (a, 2) ∷ [] else [])

-- those of a site, where the rules pick it
abbrev pub kinds_of : Rules → Site → List (ℕ × ℕ)
kinds_of rules s = kinds_at s.at (picked rules.all s) (edge_picked rules.ways s)

-- and of these sites, in their order
abbrev pub listed : Rules → List Site → List (ℕ × ℕ)
listed rules ss = flat_map (kinds_of rules) ss

-- how many counters stand before those of the site of index k
abbrev pub rank : Rules → List Site → ℕ → ℕ
rank rules ss k = length (listed rules (take k ss))

-- where the counter of a kind at an address is: the counters stand behind the first 64 bytes of the private area
abbrev pub counters : Rules → Anchors → List Site → ℕ → ℕ → Option ℕ
counters rules anchors ss = counter_in (anchors.private + 64) (listed rules ss)

-- where the counters of one site are, of which the first is at an address
abbrev pub all_place : ℕ → Bool → Option ℕ
all_place first all = if all then Some first else None

abbrev pub ways_place : ℕ → Bool → Bool → Option Ways
ways_place first all ways =
    if ways then Some (record { taken = first + (if all then 8 else 0); passed = first + (if all then 8 else 0) + 8 }) else None

-- how many bytes a site's counter has
abbrev pub counter_len : Bool → ℕ
counter_len is_picked = if is_picked then 46 else 0

-- and its piece, with counters on its ways or without
abbrev pub way_len : Bool → Site → ℕ
way_len ways s = if ways then edge_size (flow_of s.insn) else piece_len s

-- how many bytes the code of a site has
abbrev pub site_len : Rules → Site → ℕ
site_len rules s = counter_len (picked rules.all s) + way_len (edge_picked rules.ways s) s

abbrev pub code_lens : Rules → List Site → List ℕ
code_lens rules ss = map (site_len rules) ss

-- ---- bytes

-- the code of a site, if there is one, where place says where the counter of a kind at an address is
abbrev pub site_code : Anchors → (ℕ → ℕ) → (ℕ → Option ℕ) → (ℕ → ℕ → Option ℕ) → ℕ → Option Site → List ℕ
site_code anchors move code place here None = []
site_code anchors move code place here (Some s) =
    counted_piece anchors move code (place 0 s.at) (ways_by (place 1 s.at) (place 2 s.at)) here s

-- the bytes of a part that stands at an address, where move says to where an address is moved
abbrev pub part_bytes : Anchors → (ℕ → ℕ) → (ℕ → Option ℕ) → (ℕ → ℕ → Option ℕ) → List Site → ℕ → Part → List ℕ
part_bytes anchors move code place ss here (Piece k) = site_code anchors move code place here (slice_get ss k)
part_bytes anchors move code place ss here (Join to) = jump_bytes here (move to)

-- the bytes of parts, each at its place
abbrev pub bytes_of : (ℕ → Part → List ℕ) → List (ℕ × Part) → List ℕ
bytes_of bytes qs = flat_map (λ q. bytes q.0 q.1) qs

-- the chains of sites as they stand from an address on
unfoldable pub chain_code : Rules → Anchors → (ℕ → ℕ) → (ℕ → Option ℕ) → List Site → ℕ → List Chain → List ℕ
chain_code rules anchors move code ss here cs =
    bytes_of (part_bytes anchors move code (counters rules anchors ss) ss) (placed (code_lens rules ss) here (parts cs))
