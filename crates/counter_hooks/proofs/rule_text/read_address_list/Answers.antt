use Rattle.std.proofs.Common.{◌+◌, ◌-◌, rules, tests, ◌++◌, Some, option_map, sym, ap, ◌∙◌, arith}
use Rattle.counter_hooks.specs.RuleTexts.{addresses_of, most_addresses}
use Rattle.counter_hooks.proofs.Texts.{no-address, last-address, no-comma, next-address, no-room, one-more, addresses-ascend}
use Rattle.counter_hooks.proofs.rule_text.read_address_list.Goals as goal

pub returns-in_default-clause-is : goal.returns-in_default-clause-is
returns-in_default-clause-is c =
    sym (ap (option_map (λ more. c.loop.addresses.items ++ more)) (no-address c.loop.low c.loop.rest.now (most_addresses - c.loop.counter) (sym c.in_default.ensures)))
    ∙ c.loop.invariant

pub returns-clause-is : goal.returns-clause-is
returns-clause-is c =
    sym (ap (option_map (λ more. c.loop.addresses.items ++ more)) (no-room (most_addresses - c.loop.counter) c.loop.low c.loop.rest.now (omega arith)))
    ∙ c.loop.invariant

pub returns-in_default-split_first-clause-is : goal.returns-in_default-split_first-clause-is
returns-in_default-split_first-clause-is c =
    ap Some (c.new.ensures ∙ c.in_ok-push.ensures.items)
    ∙ sym (ap (option_map (λ more. c.loop.addresses.items ++ more)) (last-address c.loop.low c.loop.rest.now c.in-Some.address c.in-Some.behind.now (sym c.in-Some.ensures) (most_addresses - c.loop.counter) (omega arith) c.in_default-split_first.ensures.cases))
    ∙ c.loop.invariant

pub returns-in_default-split_first-clause-ascends : goal.returns-in_default-split_first-clause-ascends
returns-in_default-split_first-clause-ascends c =
    addresses-ascend most_addresses c.args.text.now (Some c.new.result) (returns-in_default-split_first-clause-is c)

pub returns-then-separator-ne44-clause-is : goal.returns-then-separator-ne44-clause-is
returns-then-separator-ne44-clause-is c =
    let split = c.in-Some-split_first in
    sym (ap (option_map (λ more. c.loop.addresses.items ++ more)) (no-comma c.loop.low c.loop.rest.now c.in-Some.address c.in-Some.behind.now (sym c.in-Some.ensures) (most_addresses - c.loop.counter) split.separator.now split.more.now split.ensures.cases.0 (search (rules, tests))))
    ∙ c.loop.invariant

pub loop-preserved : goal.loop-preserved
loop-preserved c =
    let split = c.in-Some-split_first in
    let left = most_addresses - (c.loop.counter + 1) in
    let next = next-address c.loop.low c.loop.rest.now c.in-Some.address c.in-Some.behind.now (sym c.in-Some.ensures) (most_addresses - c.loop.counter) left split.separator.now split.more.now (omega arith) split.ensures.cases.0 (search (rules, tests)) in
    ap (λ a. option_map (λ more. c.push.new.self.items ++ more) (addresses_of left (a + 1) split.more.now)) c.from-low.ensures
    ∙ ap (λ items. option_map (λ more. items ++ more) (addresses_of left (c.in-Some.address + 1) split.more.now)) c.in_ok-push.ensures.items
    ∙ sym (ap (option_map (λ more. c.loop.addresses.items ++ more)) next ∙ one-more c.loop.addresses.items c.in-Some.address (addresses_of left (c.in-Some.address + 1) split.more.now))
    ∙ c.loop.invariant
