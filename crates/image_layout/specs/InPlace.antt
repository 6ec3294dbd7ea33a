-- What stands where in code: counters and pieces at the entries of sites, and behind each what leads on. This project's
-- own.
use Rattle.std.specs.Prelude.{◌≡◌, ℕ, ◌+◌, ◌⊎◌, true, List, Option, Contains}
use Rattle.x86_insn.specs.Flow.{flow_of, falls}
use Rattle.step_laws.specs.Jumps.{jump_bytes}
use Rattle.elf32_read.specs.declared.run.Run.{Run}
use Rattle.elf32_read.specs.Runs.{code_of}
use Rattle.elf32_write.specs.declared.plan.Plan.{Plan}
use Rattle.elf32_write.specs.Parts.{Stands}
use Rattle.map_table.specs.Pairs.{entry_in}
use Rattle.image_layout.specs.Rules.{Rules}
use Rattle.superset.specs.declared.site.Site.{Site}
use Rattle.superset.specs.Targets.{successor}
use Rattle.sequence_join.specs.Chains.{Chain}
use Rattle.simulation_laws.specs.declared.anchors.Anchors.{Anchors}
use Rattle.simulation_laws.specs.Pieces.{counted_piece, ways_by}
use Rattle.image_layout.specs.Layout.{moved, pairs, anchors}
use Rattle.image_layout.specs.Pieces.{counters, site_len}

-- In code that begins at the stub, the site's code stands where the site is moved, which is an address behind the code's
-- first: its counter, where the rules pick it, and its piece, with a counter on each way where they pick its ways. Behind
-- them, where the instruction may go on, the successor is moved, or a join to it stands there. Place says where the counter
-- of a kind at an address is.
pub record IsInPlace (rules : Rules) (an : Anchors) (move : ℕ → ℕ) (bytes : ℕ → Option ℕ) (place : ℕ → ℕ → Option ℕ) (code : List ℕ) (s : Site) : Type 0 where
  pub off : ℕ
  pub entry : move s.at ≡ an.stub + off
  pub stands : Stands code off (counted_piece an move bytes (place 0 s.at) (ways_by (place 1 s.at) (place 2 s.at)) (an.stub + off) s)
  pub leads : falls (flow_of s.insn) ≡ true
      → (move (successor s) ≡ an.stub + off + site_len rules s) ⊎ Stands code (off + site_len rules s) (jump_bytes (an.stub + off + site_len rules s) (move (successor s)))

-- the plan by rules for runs, sites and chains has the code of each site in place, and no two sites are moved to one address
pub record HasPieces (rules : Rules) (rs : List Run) (ss : List Site) (cs : List Chain) (p : Plan) : Type 0 where
  pub pieces : (s : Site) → Contains ss s
      → IsInPlace rules (anchors rules rs ss cs p.base) (moved (pairs rules rs ss cs p.base)) (code_of rs) (counters rules (anchors rules rs ss cs p.base) ss) p.code s
  pub differ : (s q : Site) → Contains ss s → Contains ss q → entry_in (pairs rules rs ss cs p.base) s.at ≡ entry_in (pairs rules rs ss cs p.base) q.at → s.at ≡ q.at
