use Rattle.std.proofs.Common.{◌≡◌, ◌+◌, drop}
use Rattle.simulation_laws.specs.Front.{difference}
use Rattle.simulation_laws.proofs.front.first_difference.Given as goal

abbrev pub invariant-loop-i : goal.invariant-loop-i
invariant-loop-i l = difference l.from l.wanted l.bytes ≡ difference (l.from + l.i) (drop l.i l.wanted) (drop l.i l.bytes)
