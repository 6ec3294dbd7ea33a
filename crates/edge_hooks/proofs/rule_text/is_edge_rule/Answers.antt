use Rattle.std.proofs.Common.{sym, ap, ◌∙◌}
use Rattle.std.specs.Prelude.{is_some}
use Rattle.counter_hooks.specs.RuleTexts.{addresses_of, most_addresses}
use Rattle.counter_hooks.specs.laws.ListTexts.{is_some-map}
use Rattle.edge_hooks.specs.RuleTexts.{edge_rule_in, edge_rule_of}
use Rattle.edge_hooks.specs.declared.rules.EdgeRule.TheVariants as rule
use Rattle.edge_hooks.proofs.rule_text.is_edge_rule.Goals as goal

pub returns-in-Some : goal.returns-in-Some
unfolding edge_rule_of
returns-in-Some c =
    c.is_address_list.ensures
    ∙ sym (is_some-map rule.At (addresses_of most_addresses 0 c.in-Some.list.now))
    ∙ ap (λ o. is_some (edge_rule_in c.args.text.now o)) c.in-Some.ensures

pub returns-in-None : goal.returns-in-None
unfolding edge_rule_of
returns-in-None c = c.is_some.ensures ∙ ap is_some c.word_rule.ensures.is ∙ ap (λ o. is_some (edge_rule_in c.args.text.now o)) c.in-None.ensures
