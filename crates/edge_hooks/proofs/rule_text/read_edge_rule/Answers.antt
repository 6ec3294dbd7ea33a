use Rattle.std.proofs.Common.{option_map, ap, ◌∙◌}
use Rattle.counter_hooks.specs.laws.ListTexts.{mapped}
use Rattle.edge_hooks.specs.RuleTexts.{edge_rule_in, edge_rule_of}
use Rattle.edge_hooks.specs.declared.rules.EdgeRule.TheVariants as rule
use Rattle.edge_hooks.proofs.rule_text.read_edge_rule.Goals as goal

pub returns-in_ok-read_address_list-in-Some-clause-is : goal.returns-in_ok-read_address_list-in-Some-clause-is
unfolding edge_rule_of
returns-in_ok-read_address_list-in-Some-clause-is c =
    mapped rule.At c.in_ok-read_address_list-in-Some.field-0 c.map.result c.map.ensures.cases
    ∙ ap (option_map rule.At) c.in_ok-read_address_list-in-Some.ensures.is
    ∙ ap (edge_rule_in c.args.text.now) c.in-Some.ensures

pub returns-in-None-clause-is : goal.returns-in-None-clause-is
unfolding edge_rule_of
returns-in-None-clause-is c = c.word_rule.ensures.is ∙ ap (edge_rule_in c.args.text.now) c.in-None.ensures
