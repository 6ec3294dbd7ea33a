use Rattle.lookup_stub.specs.laws.Found.{finds}
use Rattle.lookup_stub.proofs.laws.stub_finds.Goals as goal

pub returns : goal.returns
returns c = finds
