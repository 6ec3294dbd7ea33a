use Rattle.std.proofs.Common.{◌-◌}
use Rattle.pair_check.proofs.Marks.{IsSearched}
use Rattle.pair_check.proofs.counted.place_of.Given as goal

abbrev pub invariant-loop-low : goal.invariant-loop-low
invariant-loop-low l = IsSearched l.frame l.ordered l.pair l.low l.high

abbrev pub decreases-loop-low : goal.decreases-loop-low
decreases-loop-low l = l.high - l.low
