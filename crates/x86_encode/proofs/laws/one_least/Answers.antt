use Rattle.x86_encode.specs.laws.Chosen.{one_least as law}
use Rattle.x86_encode.proofs.laws.one_least.Goals as goal

pub returns : goal.returns
returns c = law
