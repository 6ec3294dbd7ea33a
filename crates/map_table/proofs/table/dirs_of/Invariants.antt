use Rattle.map_table.specs.laws.Counts.{DirsLeft}
use Rattle.map_table.proofs.table.dirs_of.Given as goal

abbrev pub invariant-loop-run : goal.invariant-loop-run
invariant-loop-run l = DirsLeft l.runs l.first l.run-index l.dirs.items l.dir
