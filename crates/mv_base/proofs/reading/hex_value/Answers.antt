use Rattle.std.proofs.Common.{◌∙◌, sym, arith}
use Rattle.mv_base.specs.Digits.{hex_value-some, hex_value-none, hex_value-end, below-next, below-word}
use Rattle.mv_base.proofs.reading.hex_value.Goals as goal

pub overflow_mul-value : goal.overflow_mul-value
overflow_mul-value c = let b = below-word c.loop-digit.value c.loop-digit.digit-index c.loop-digit.invariant.small (omega arith) in omega arith

pub overflow_add-value : goal.overflow_add-value
overflow_add-value c = let b = below-word c.loop-digit.value c.loop-digit.digit-index c.loop-digit.invariant.small (omega arith) in omega (arith, c.in_ok-value.ensures.small)

pub returns-in_err-value-clause-value : goal.returns-in_err-value-clause-value
returns-in_err-value-clause-value c =
    let none = hex_value-none c.loop-digit.value c.args.text.now c.loop-digit.digit-index (omega arith) (sym c.in_err-value.ensures.value) in
    c.from_residual.ensures ∙ sym none ∙ c.loop-digit.invariant.on

pub loop-digit-preserved : goal.loop-digit-preserved
loop-digit-preserved c =
    let some = hex_value-some c.loop-digit.value c.args.text.now c.loop-digit.digit-index c.in_ok-value.field-0 (omega arith) (sym c.in_ok-value.ensures.value) in
    record {
      small = below-next c.loop-digit.value c.in_ok-value.field-0 c.loop-digit.digit-index c.loop-digit.invariant.small c.in_ok-value.ensures.small;
      on = sym some ∙ c.loop-digit.invariant.on;
    }

pub returns-clause-value : goal.returns-clause-value
returns-clause-value c =
    sym (hex_value-end c.loop-digit.value c.args.text.now c.loop-digit.digit-index (omega arith)) ∙ c.loop-digit.invariant.on
