use Rattle.std.proofs.Common.{◌≡◌, take}
use Rattle.lookup_stub.specs.Stub.{stub as stub_of}
use Rattle.lookup_stub.proofs.code.stub.Given as goal

abbrev pub invariant-loop-i : goal.invariant-loop-i
invariant-loop-i l = l.bytes.items ≡ take l.i (stub_of 2 l.runs l.private)
