use Rattle.elf32_read.specs.Runs.{code_of}
use Rattle.pair_check.proofs.Marks.{IsRight}
use Rattle.pair_check.proofs.counted.pairs_difference.Given as goal

abbrev pub invariant-loop-index : goal.invariant-loop-index
invariant-loop-index l = IsRight (code_of l.runs) l.frame l.index
