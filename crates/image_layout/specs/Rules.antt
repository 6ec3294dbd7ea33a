-- Which sites are counted, and which branches and loops by the way that they go. This project's own.
use Rattle.counter_hooks.specs.declared.rules.Rule.{Rule}
use Rattle.edge_hooks.specs.declared.rules.EdgeRule.{EdgeRule}
use Rattle.edge_hooks.specs.declared.rules.EdgeRule.TheVariants as edges

-- the rule of all executions, and that of the two ways
pub record Rules : Type 0 where
  pub all : Rule
  pub ways : EdgeRule

abbrev pub both : Rule → EdgeRule → Rules
both rule ways = record { all = rule; ways = ways }

-- a rule of executions alone
abbrev pub alone : Rule → Rules
alone rule = both rule edges.None
