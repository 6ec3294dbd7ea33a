use Rattle.lookup_stub.specs.laws.StubBytes.{stub_length}
use Rattle.lookup_stub.proofs.laws.stub_has_its_size.Goals as goal

pub returns : goal.returns
returns c = stub_length
