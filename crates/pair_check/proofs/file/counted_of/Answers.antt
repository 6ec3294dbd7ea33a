use Rattle.pair_check.proofs.Lists.{map_next}
use Rattle.pair_check.proofs.file.counted_of.Goals as goal

pub loop-index-preserved : goal.loop-index-preserved
loop-index-preserved c = map_next c.args.frame.now c.loop-index.index (c.counted_at.result, c.kind_at.result) c.loop-index.pairs.items c.push.new.self.items c.loop-index.invariant c.in_ok-push.ensures.items (λ i. (c.counted_at.ensures i, c.kind_at.ensures.value i))
