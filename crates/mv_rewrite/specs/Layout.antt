-- Where the added block of a file lies, and what is in it, for the file's runs, sites and chains and rules of what is
-- counted. This project's own.
use Rattle.std.specs.Prelude.{◌≡◌, ℕ, List, Option, Some}
use Rattle.mv_base.specs.declared.range.RunPlace.{RunPlace}
use Rattle.elf32_read.specs.Fields.{entry_at, segments}
use Rattle.elf32_read.specs.Runs.{runs_of}
use Rattle.elf32_write.specs.declared.plan.Plan.{Plan}
use Rattle.image_layout.specs.Rules.{Rules}
use Rattle.sequence_join.specs.Chains.{Chain, chains_of}
use Rattle.simulation_laws.specs.declared.anchors.Anchors.{Anchors}
use Rattle.image_layout.specs.Fit.{first_fit}
use Rattle.image_layout.specs.Layout as layout
pub use Rattle.image_layout.specs.Layout.{moved, code}
use Rattle.image_layout.specs.Pieces.{listed}
use Rattle.mv_rewrite.specs.Sites.{sites}

-- the chains of a file's sites
abbrev pub chains : List ℕ → List Chain
chains b = chains_of (sites b)

-- the counters of a file's sites, as the list has them
abbrev pub listed_at : List ℕ → Rules → List (ℕ × ℕ)
listed_at b rules = listed rules (sites b)

-- the length of the stub, of the code and of the table with the list of counters
abbrev pub stub_len : List ℕ → ℕ
stub_len b = layout.stub_len (runs_of b)

abbrev pub code_len : List ℕ → Rules → ℕ
code_len b rules = layout.code_len rules (runs_of b) (sites b) (chains b)

abbrev pub table_len : List ℕ → Rules → ℕ
table_len b rules = layout.table_len rules (runs_of b) (sites b)

-- the size of the added block, a multiple of 4,096
abbrev pub size : List ℕ → Rules → ℕ
size b rules = layout.size rules (runs_of b) (sites b) (chains b)

-- where the block of a file lies
unfoldable pub base_of : List ℕ → Rules → Option ℕ
base_of b rules = first_fit (segments b) (size b rules)

-- where the table and the private area begin, in a block at this base
abbrev pub table_from : List ℕ → Rules → ℕ → ℕ
table_from b rules base = layout.table_from rules (runs_of b) (sites b) (chains b) base

abbrev pub private_from : List ℕ → Rules → ℕ → ℕ
private_from b rules base = layout.private_from rules (runs_of b) (sites b) (chains b) base

-- each site of a file with its entry
abbrev pub pairs_at : List ℕ → Rules → ℕ → List (ℕ × ℕ)
pairs_at b rules base = layout.pairs rules (runs_of b) (sites b) (chains b) base

-- the runs of a file with the places of their directories
abbrev pub runs_at : List ℕ → Rules → ℕ → List RunPlace
runs_at b rules base = layout.run_places rules (runs_of b) (sites b) (chains b) base

-- where the stub and the private area are
abbrev pub anchors_at : List ℕ → Rules → ℕ → Anchors
anchors_at b rules base = layout.anchors rules (runs_of b) (sites b) (chains b) base

-- what is added to a file, for a block at this base
abbrev pub plan_at : List ℕ → Rules → ℕ → Plan
plan_at b rules base = layout.plan (entry_at b) rules (runs_of b) (sites b) (chains b) base

-- the one plan of a file and rules: its block lies at the lowest place that has room, and has what is laid there
pub record IsPlanned (b : List ℕ) (rules : Rules) (p : Plan) : Type 0 where
  pub base_is : base_of b rules ≡ Some p.base
  pub plan_is : p ≡ plan_at b rules p.base
