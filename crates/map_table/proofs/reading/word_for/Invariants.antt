use Rattle.std.proofs.Common.{◌≡◌, drop}
use Rattle.mv_base.specs.Table.{run_of}
use Rattle.map_table.specs.Paged.{places}
use Rattle.map_table.proofs.reading.word_for.Given as goal

abbrev pub invariant-loop-index : goal.invariant-loop-index
invariant-loop-index l = run_of (places l.runs l.lo) l.address ≡ run_of (drop l.index (places l.runs l.lo)) l.address
