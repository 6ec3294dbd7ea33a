use Rattle.std.proofs.Common.{◌≡◌, take}
use Rattle.pair_check.proofs.file.runs_of.Given as goal

abbrev pub invariant-loop-index : goal.invariant-loop-index
invariant-loop-index l = l.runs.items ≡ take l.index l.frame.runs
