use Rattle.std.proofs.Common.{option_map, sym, ap, ◌∙◌}
use Rattle.counter_hooks.proofs.Texts.{first_of-short}
use Rattle.counter_hooks.proofs.rule_text.first.Goals as goal

pub returns-in_err-digits : goal.returns-in_err-digits
returns-in_err-digits c = ap (option_map (λ p. (p.0, p.1.now))) c.from_residual.ensures ∙ sym (first_of-short c.args.low c.args.text.now c.in_err-digits.ensures.cases)
