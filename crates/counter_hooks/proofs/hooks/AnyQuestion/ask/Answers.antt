use Rattle.std.proofs.Common.{refl}
use Rattle.counter_hooks.proofs.hooks.AnyQuestion.ask.Goals as goal

pub returns : goal.returns
returns g c = λ answer given. (given c.args.site refl).1 c.self.result c.self.ensures
