use Rattle.pair_check.proofs.Lists.{take_next}
use Rattle.pair_check.proofs.file.runs_of.Goals as goal

pub loop-index-preserved : goal.loop-index-preserved
loop-index-preserved c = take_next c.args.frame.now.runs c.loop-index.index c.run_at.result c.loop-index.runs.items c.push.new.self.items c.loop-index.invariant c.in_ok-push.ensures.items c.run_at.ensures
