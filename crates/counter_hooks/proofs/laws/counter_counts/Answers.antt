use Rattle.counter_hooks.specs.laws.Counted.{counts}
use Rattle.counter_hooks.proofs.laws.counter_counts.Goals as goal

pub returns : goal.returns
returns c = counts
