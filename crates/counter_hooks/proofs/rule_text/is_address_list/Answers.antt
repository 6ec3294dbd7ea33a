use Rattle.std.proofs.Common.{◌+◌, ◌-◌, ◌∷◌, rules, tests, sym, ap, ◌∙◌, arith}
use Rattle.std.specs.Prelude.{is_some}
use Rattle.counter_hooks.specs.RuleTexts.{addresses_of, most_addresses}
use Rattle.counter_hooks.proofs.Texts.{no-address, last-address, no-comma, next-address, no-room}
use Rattle.counter_hooks.specs.laws.ListTexts.{is_some-map}
use Rattle.counter_hooks.proofs.rule_text.is_address_list.Goals as goal

pub returns-in_default : goal.returns-in_default
returns-in_default c =
    sym (ap is_some (no-address c.loop.low c.loop.rest.now (most_addresses - c.loop.counter) (sym c.in_default.ensures)))
    ∙ c.loop.invariant

pub returns : goal.returns
returns c =
    sym (ap is_some (no-room (most_addresses - c.loop.counter) c.loop.low c.loop.rest.now (omega arith))) ∙ c.loop.invariant

pub returns-in_default-split_first : goal.returns-in_default-split_first
returns-in_default-split_first c =
    sym (ap is_some (last-address c.loop.low c.loop.rest.now c.in-Some.address c.in-Some.behind.now (sym c.in-Some.ensures) (most_addresses - c.loop.counter) (omega arith) c.in_default-split_first.ensures.cases))
    ∙ c.loop.invariant

pub returns-then-separator-ne44 : goal.returns-then-separator-ne44
returns-then-separator-ne44 c =
    let split = c.in-Some-split_first in
    sym (ap is_some (no-comma c.loop.low c.loop.rest.now c.in-Some.address c.in-Some.behind.now (sym c.in-Some.ensures) (most_addresses - c.loop.counter) split.separator.now split.more.now split.ensures.cases.0 (search (rules, tests))))
    ∙ c.loop.invariant

pub loop-preserved : goal.loop-preserved
loop-preserved c =
    let split = c.in-Some-split_first in
    let left = most_addresses - (c.loop.counter + 1) in
    let next = next-address c.loop.low c.loop.rest.now c.in-Some.address c.in-Some.behind.now (sym c.in-Some.ensures) (most_addresses - c.loop.counter) left split.separator.now split.more.now (omega arith) split.ensures.cases.0 (search (rules, tests)) in
    ap (λ a. is_some (addresses_of left (a + 1) split.more.now)) c.from-low.ensures
    ∙ sym (ap is_some next ∙ is_some-map (λ more. c.in-Some.address ∷ more) (addresses_of left (c.in-Some.address + 1) split.more.now))
    ∙ c.loop.invariant
