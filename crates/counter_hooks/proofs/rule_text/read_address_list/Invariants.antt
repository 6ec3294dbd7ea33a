use Rattle.std.proofs.Common.{◌≡◌, ◌-◌, ◌++◌, option_map}
use Rattle.counter_hooks.specs.RuleTexts.{addresses_of, most_addresses}
use Rattle.counter_hooks.proofs.rule_text.read_address_list.Given as goal

abbrev pub invariant-loop : goal.invariant-loop
invariant-loop l =
    option_map (λ more. l.addresses.items ++ more) (addresses_of (most_addresses - l.counter) l.low l.rest)
    ≡ addresses_of most_addresses 0 l.text
