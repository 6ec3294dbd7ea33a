use Rattle.std.proofs.Common.{arith}
use Rattle.pair_check.proofs.Marks.{marking_starts, marking_goes, marking_ends, none_set}
use Rattle.pair_check.proofs.counted.others.Goals as goal

pub loop-index-init : goal.loop-index-init
loop-index-init c =
    marking_starts c.args.frame.now c.args.ordered c.in_ok-marks.marks.items (omega (arith, c.in_ok-marks.ensures.len)) (none_set c.args.ordered c.in_ok-marks.marks.items (c.in_ok-marks.ensures.items_if_clones_equal (λ y h. h)))

pub loop-index-preserved : goal.loop-index-preserved
loop-index-preserved c =
    marking_goes c.args.frame.now c.args.ordered c.loop-index.index c.pair_at.result c.loop-index.marks.items c.mark.new.marks.items (omega (arith, c.loop-index-test.true, c.counter_count-index-end.ensures)) c.pair_at.ensures.is c.loop-index.invariant c.mark.ensures

pub returns : goal.returns
returns c = marking_ends c.args.frame.now c.args.ordered c.loop-index.index c.loop-index.marks.items (omega (arith, c.loop-index-test.false, c.counter_count-index-end.ensures)) c.loop-index.invariant
