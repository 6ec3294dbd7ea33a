use Rattle.std.proofs.Common.{option_map, sym, ap, ◌∙◌}
use Rattle.syscall_log.proofs.Digits.{number_and-short}
use Rattle.syscall_log.proofs.words.number_and.Goals as goal

pub returns-in_err-digits : goal.returns-in_err-digits
returns-in_err-digits c = ap (option_map (λ p. (p.0, p.1.now))) c.from_residual.ensures ∙ sym (number_and-short c.args.text.now c.in_err-digits.ensures.cases)
