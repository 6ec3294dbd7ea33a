use Rattle.step_laws.specs.laws.Bounding.{step_fits}
use Rattle.step_laws.specs.laws.Lasting.{run_fits}
use Rattle.step_laws.proofs.laws.keeps_bounds.Goals as goal

pub returns : goal.returns
returns c = record { step = step_fits; run = run_fits }
