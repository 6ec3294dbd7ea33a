-- What the added block has, and where: code, table and private area, for rules and the runs, sites and chains of a file.
-- This project's own.
use Rattle.std.specs.Prelude.{ℕ, ◌+◌, ◌*◌, List, [], ◌∷◌, ◌++◌, length, map, Option}
use Rattle.mv_base.specs.Table.{entry_or}
use Rattle.mv_base.specs.declared.range.RunPlace.{RunPlace}
use Rattle.elf32_read.specs.declared.run.Run.{Run}
use Rattle.elf32_read.specs.Runs.{code_of}
use Rattle.elf32_write.specs.Format.{up, private_len}
use Rattle.elf32_write.specs.declared.plan.Plan.{Plan}
use Rattle.map_table.specs.Pairs.{entry_in}
use Rattle.map_table.specs.Paged.{table_bytes, table_size, places}
use Rattle.lookup_stub.specs.Stub.{stub, stub_size}
use Rattle.image_layout.specs.Rules.{Rules}
use Rattle.counter_hooks.specs.Rules.{number_of}
use Rattle.edge_hooks.specs.Rules as edges
use Rattle.superset.specs.declared.site.Site.{Site}
use Rattle.sequence_join.specs.Chains.{Chain}
use Rattle.simulation_laws.specs.declared.anchors.Anchors.{Anchors}
use Rattle.image_layout.specs.Parts.{parts, parts_len, entry}
use Rattle.image_layout.specs.Pieces.{listed, code_lens, chain_code}

-- the length of the stub, of the code, which is the stub and the chains behind it, and of the table with the list of
-- counters
abbrev pub stub_len : List Run → ℕ
stub_len rs = stub_size 2 (length rs)

abbrev pub code_len : Rules → List Run → List Site → List Chain → ℕ
code_len rules rs ss cs = stub_len rs + parts_len (code_lens rules ss) (parts cs)

abbrev pub table_len : Rules → List Run → List Site → ℕ
table_len rules rs ss = table_size rs (map (λ s. s.at) ss) + 8 * length (listed rules ss)

-- the size of the added block, a multiple of 4,096
unfoldable pub size : Rules → List Run → List Site → List Chain → ℕ
size rules rs ss cs = up (code_len rules rs ss cs) + up (table_len rules rs ss) + up (private_len (length (listed rules ss)))

-- where the table and the private area begin, in a block at this base
abbrev pub table_from : Rules → List Run → List Site → List Chain → ℕ → ℕ
table_from rules rs ss cs base = base + up (code_len rules rs ss cs)

abbrev pub private_from : Rules → List Run → List Site → List Chain → ℕ → ℕ
private_from rules rs ss cs base = base + up (code_len rules rs ss cs) + up (table_len rules rs ss)

-- sites from index k on, each as a pair of its address and what is its index's
unfoldable pub pairs_by : (ℕ → ℕ) → ℕ → List Site → List (ℕ × ℕ)
pairs_by place k [] = []
pairs_by place k (s ∷ ss) = (s.at, place k) ∷ pairs_by place (k + 1) ss

-- each site with its entry, where the chains begin at an address
abbrev pub pairs_from : Rules → List Site → List Chain → ℕ → List (ℕ × ℕ)
pairs_from rules ss cs first = pairs_by (entry (code_lens rules ss) first (parts cs)) 0 ss

-- and in a block at this base
abbrev pub pairs : Rules → List Run → List Site → List Chain → ℕ → List (ℕ × ℕ)
pairs rules rs ss cs base = pairs_from rules ss cs (base + stub_len rs)

-- where an address goes: the second part of its pair, or itself
abbrev pub moved : List (ℕ × ℕ) → ℕ → ℕ
moved ps a = entry_or (entry_in ps a) a

-- the runs with the places of their directories
abbrev pub run_places : Rules → List Run → List Site → List Chain → ℕ → List RunPlace
run_places rules rs ss cs base = places rs (table_from rules rs ss cs base)

-- where the stub and the private area are
abbrev pub anchors : Rules → List Run → List Site → List Chain → ℕ → Anchors
anchors rules rs ss cs base = record { stub = base; private = private_from rules rs ss cs base }

-- code over these runs: the stub for a table of form 2, and behind it the chains
unfoldable pub code : Rules → Anchors → (ℕ → ℕ) → (ℕ → Option ℕ) → List RunPlace → List Site → List Chain → List ℕ
code rules anchors move bytes runs ss cs =
    stub 2 runs anchors.private ++ chain_code rules anchors move bytes ss (anchors.stub + stub_size 2 (length runs)) cs

-- what is added to a file with this entry, for a block at this base
unfoldable pub plan : ℕ → Rules → List Run → List Site → List Chain → ℕ → Plan
plan start rules rs ss cs base = record {
  base = base;
  code = code rules (anchors rules rs ss cs base) (moved (pairs rules rs ss cs base)) (code_of rs) (run_places rules rs ss cs base) ss cs;
  table = table_bytes rs (pairs rules rs ss cs base) (table_from rules rs ss cs base);
  counted = listed rules ss;
  runs = run_places rules rs ss cs base;
  entry = moved (pairs rules rs ss cs base) start;
  rule = number_of rules.all;
  edge_rule = edges.number_of rules.ways;
}
