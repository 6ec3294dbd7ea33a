use Rattle.std.proofs.Common.{◌-◌}
use Rattle.simulation_laws.specs.laws.Counters.{IsSearched}
use Rattle.simulation_laws.proofs.counters.counters_below.Given as goal

abbrev pub invariant-loop-low : goal.invariant-loop-low
invariant-loop-low l = IsSearched l.frame l.address l.low l.high

abbrev pub decreases-loop-low : goal.decreases-loop-low
decreases-loop-low l = l.high - l.low
