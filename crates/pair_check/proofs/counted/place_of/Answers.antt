use Rattle.std.proofs.Common.{◌+◌, ◌-◌, ◌/◌, ◌∙◌, Some, sym, ap, arith}
use Rattle.pair_check.specs.Parts.{is_behind}
use Rattle.pair_check.proofs.Marks.{later, sooner, met}
use Rattle.pair_check.proofs.counted.place_of.Goals as goal

pub loop-low-preserved-then-is_behind : goal.loop-low-preserved-then-is_behind
loop-low-preserved-then-is_behind c =
    let middle = c.loop-low.low + (c.loop-low.high - c.loop-low.low) / 2 in
    later c.args.frame.now c.args.ordered c.args.pair c.loop-low.low c.loop-low.high middle c.requires c.loop-low.invariant (omega (arith, c.loop-low-test.true)) (ap (λ p. is_behind (Some p) c.args.pair) (sym c.pair_at.ensures.is) ∙ (sym c.is_behind.ensures ∙ c.if-is_behind.true))

pub loop-low-preserved : goal.loop-low-preserved
loop-low-preserved c =
    let middle = c.loop-low.low + (c.loop-low.high - c.loop-low.low) / 2 in
    sooner c.args.frame.now c.args.ordered c.args.pair c.loop-low.low c.loop-low.high middle c.requires c.loop-low.invariant (omega (arith, c.loop-low-test.true)) (ap (λ p. is_behind (Some p) c.args.pair) (sym c.pair_at.ensures.is) ∙ (sym c.is_behind.ensures ∙ c.if-is_behind.false))

pub returns : goal.returns
returns c = met c.args.frame.now c.args.ordered c.args.pair c.loop-low.low c.loop-low.high c.requires c.loop-low.invariant c.loop-low-test.false
