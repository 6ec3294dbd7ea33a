use Rattle.counter_hooks.specs.Rules.{picked}
use Rattle.counter_hooks.proofs.hooks.Hooks.asks.Goals as goal

pub ask-requires : goal.ask-requires
ask-requires g c = (picked c.self.inside.rule c.args.site.now, c.self.invariant.1 c.args.site.now c.is_site.ensures)
