use Rattle.edge_hooks.specs.Rules.{edge_picked}
use Rattle.edge_hooks.proofs.hooks.EdgeHooks.asks.Goals as goal

pub ask-requires : goal.ask-requires
ask-requires g c = (edge_picked c.self.inside.rule c.args.site.now, c.self.invariant.1 c.args.site.now c.is_site.ensures)
