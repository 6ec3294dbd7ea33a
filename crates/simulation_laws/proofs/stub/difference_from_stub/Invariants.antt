use Rattle.std.proofs.Common.{◌≡◌, drop}
use Rattle.lookup_stub.specs.Stub.{stub}
use Rattle.simulation_laws.specs.Front.{difference}
use Rattle.simulation_laws.proofs.stub.difference_from_stub.Given as goal

abbrev pub invariant-loop-i : goal.invariant-loop-i
invariant-loop-i l = difference 0 (stub l.form l.runs l.private) l.code ≡ difference l.i (drop l.i (stub l.form l.runs l.private)) (drop l.i l.code)
