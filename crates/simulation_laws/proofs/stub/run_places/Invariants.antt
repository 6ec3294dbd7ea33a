use Rattle.std.proofs.Common.{◌≡◌, ◌≤◌, length, take}
use Rattle.simulation_laws.proofs.stub.run_places.Given as goal

abbrev pub invariant-loop-i : goal.invariant-loop-i
invariant-loop-i l = (take l.i l.runs ≡ take l.i l.frame.runs) × (length l.runs ≡ 64) × (l.i ≤ length l.frame.runs)
