use Rattle.std.proofs.Common.{sym, ap, ◌∙◌}
use Rattle.std.specs.Prelude.{is_some}
use Rattle.counter_hooks.specs.RuleTexts.{addresses_of, most_addresses, rule_in, rule_of}
use Rattle.counter_hooks.specs.declared.rules.Rule.TheVariants as rule
use Rattle.counter_hooks.specs.laws.ListTexts.{is_some-map}
use Rattle.counter_hooks.proofs.rule_text.is_rule.Goals as goal

pub returns-in-Some : goal.returns-in-Some
unfolding rule_of
returns-in-Some c =
    c.is_address_list.ensures
    ∙ sym (is_some-map rule.At (addresses_of most_addresses 0 c.in-Some.list.now))
    ∙ ap (λ o. is_some (rule_in c.args.text.now o)) c.in-Some.ensures

pub returns-in-None : goal.returns-in-None
unfolding rule_of
returns-in-None c = c.is_some.ensures ∙ ap is_some c.word_rule.ensures.is ∙ ap (λ o. is_some (rule_in c.args.text.now o)) c.in-None.ensures
