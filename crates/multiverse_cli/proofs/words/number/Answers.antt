use Rattle.std.proofs.Common.{◌≡◌, true, false, sym, ap, ◌∙◌}
use Rattle.std.specs.Str.{bytes_eq}
use Rattle.multiverse_cli.proofs.Numbers.{unparsed-number, own-number, other-number}
use Rattle.multiverse_cli.proofs.words.number.Goals as goal

pub returns-in_err-number : goal.returns-in_err-number
returns-in_err-number c =
    c.from_residual.ensures
    ∙ sym (unparsed-number c.args.word.now c.parse.result c.parse.ensures.value.0 (sym c.in_err-number.ensures.value))

pub returns-then-eq : goal.returns-then-eq
returns-then-eq c =
    let same : bytes_eq c.format.result.now c.args.word.now ≡ true = sym c.if-eq.ensures in
    sym (own-number c.args.word.now c.parse.result c.in_ok-number.number c.parse.ensures.value.0 (sym c.in_ok-number.ensures.value)
    (ap (λ text. bytes_eq text c.args.word.now) (sym c.format.ensures.text) ∙ same))

pub returns-else-eq : goal.returns-else-eq
returns-else-eq c =
    let differs : bytes_eq c.format.result.now c.args.word.now ≡ false = sym c.if-eq.ensures in
    sym (other-number c.args.word.now c.parse.result c.parse.ensures.value.0 c.in_ok-number.number (sym c.in_ok-number.ensures.value)
    (ap (λ text. bytes_eq text c.args.word.now) (sym c.format.ensures.text) ∙ differs))
