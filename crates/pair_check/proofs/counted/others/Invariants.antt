use Rattle.pair_check.proofs.Marks.{AreMarking}
use Rattle.pair_check.proofs.counted.others.Given as goal

abbrev pub invariant-loop-index : goal.invariant-loop-index
invariant-loop-index l = AreMarking l.frame l.ordered l.index l.marks.items
