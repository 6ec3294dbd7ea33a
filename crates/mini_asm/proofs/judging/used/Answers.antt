use Rattle.std.proofs.Common.{arith}
use Rattle.mini_asm.proofs.Misfits.{total-taken}
use Rattle.mini_asm.proofs.judging.used.Goals as goal

pub returns-then-spot-all-clause-none : goal.returns-then-spot-all-clause-none
returns-then-spot-all-clause-none c =
    let l = c.loop-place in
    let more = total-taken c.args.spots.now l.place (record { at = 0; size = 0 }) c.loop-place-test.true in
    record {
      within = c.loop-place-test.true;
      before = omega (arith, l.invariant.0, l.invariant.1);
      past = omega (arith, l.invariant.0, l.invariant.1, more, c.if-spot-all.true);
    }

pub loop-place-preserved : goal.loop-place-preserved
loop-place-preserved c =
    let l = c.loop-place in
    let more = total-taken c.args.spots.now l.place (record { at = 0; size = 0 }) c.loop-place-test.true in
    (omega (arith, l.invariant.0, more), omega (arith, l.invariant.1, c.if-spot-all.false))
