use Rattle.x86_encode.specs.laws.Chosen as law
use Rattle.x86_encode.proofs.laws.decodes_again.Goals as goal

pub returns-clause-again : goal.returns-clause-again
returns-clause-again c = law.decodes_again
