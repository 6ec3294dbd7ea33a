use Rattle.step_laws.specs.laws.Fetching.{standing_fetched}
use Rattle.step_laws.proofs.laws.spellings_are_fetched.Goals as goal

pub returns : goal.returns
returns c = standing_fetched
