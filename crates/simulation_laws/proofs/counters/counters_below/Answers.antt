use Rattle.std.proofs.Common.{◌+◌, ◌-◌, ◌/◌, arith}
use Rattle.simulation_laws.specs.laws.Counters.{later, sooner, met}
use Rattle.simulation_laws.proofs.counters.counters_below.Goals as goal

pub loop-low-preserved-then-counted_at-address : goal.loop-low-preserved-then-counted_at-address
loop-low-preserved-then-counted_at-address c =
    let middle = c.loop-low.low + (c.loop-low.high - c.loop-low.low) / 2 in
    later c.args.frame.now c.args.address c.loop-low.low c.loop-low.high middle c.requires c.loop-low.invariant (omega (arith, c.loop-low-test.true)) (omega (arith, c.counted_at.ensures, c.if-counted_at-address.true))

pub loop-low-preserved : goal.loop-low-preserved
loop-low-preserved c =
    let middle = c.loop-low.low + (c.loop-low.high - c.loop-low.low) / 2 in
    sooner c.args.frame.now c.args.address c.loop-low.low c.loop-low.high middle c.requires c.loop-low.invariant (omega (arith, c.loop-low-test.true)) (omega (arith, c.counted_at.ensures, c.if-counted_at-address.false))

pub returns : goal.returns
returns c = met c.args.frame.now c.args.address c.loop-low.low c.loop-low.high c.loop-low.invariant c.loop-low-test.false
