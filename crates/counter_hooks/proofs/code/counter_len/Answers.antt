use Rattle.std.proofs.Common.{sym}
use Rattle.counter_hooks.specs.laws.Counted.{counter_length}
use Rattle.counter_hooks.proofs.code.counter_len.Goals as goal

pub returns : goal.returns
returns c = λ p k. sym (counter_length p k)
