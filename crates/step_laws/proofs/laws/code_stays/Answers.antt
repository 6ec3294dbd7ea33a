use Rattle.step_laws.specs.laws.Coding.{step_leaves}
use Rattle.step_laws.specs.laws.Lasting.{run_leaves}
use Rattle.step_laws.proofs.laws.code_stays.Goals as goal

pub returns : goal.returns
returns c = record { step = step_leaves; run = run_leaves }
