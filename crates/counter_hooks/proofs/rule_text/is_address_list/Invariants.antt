use Rattle.std.proofs.Common.{◌≡◌, ◌-◌}
use Rattle.std.specs.Prelude.{is_some}
use Rattle.counter_hooks.specs.RuleTexts.{addresses_of, most_addresses}
use Rattle.counter_hooks.proofs.rule_text.is_address_list.Given as goal

abbrev pub invariant-loop : goal.invariant-loop
invariant-loop l =
    is_some (addresses_of (most_addresses - l.counter) l.low l.rest) ≡ is_some (addresses_of most_addresses 0 l.text)
