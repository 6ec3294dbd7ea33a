use Rattle.trace_run.specs.Texts.{count_line}
use Rattle.trace_run.proofs.OneByOne.{lines_more}
use Rattle.trace_run.proofs.text.put_counts.Goals as goal

pub loop-count-preserved : goal.loop-count-preserved
loop-count-preserved c =
    lines_more count_line c.args.to.now.items c.loop-count.to.items c.put_count.new.to.items c.args.counts.now c.loop-count.count-index _ c.loop-count-test.true c.loop-count.invariant c.in_ok-put_count.ensures
