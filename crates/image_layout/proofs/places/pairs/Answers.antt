use Rattle.std.proofs.Common.{refl, arith}
use Rattle.std.specs.Prelude.{slice_index}
use Rattle.image_layout.proofs.Steps.{pairs_step_from, pairs_done, length-addresses}
use Rattle.image_layout.proofs.places.pairs.Goals as goal

pub loop-index-preserved : goal.loop-index-preserved
loop-index-preserved c =
    pairs_step_from (λ k. slice_index c.args.entries.now k) c.args._sites.now c.args.addresses.now c.loop-index.index _ _ c.loop-index.pairs.items c.push.new.self.items c.requires.addresses c.loop-index-test.true refl refl c.loop-index.invariant c.in_ok-push.ensures.items

pub returns : goal.returns
returns c = pairs_done (λ k. slice_index c.args.entries.now k) c.args._sites.now c.loop-index.index c.loop-index.pairs.items (omega (arith, c.loop-index-test.false, length-addresses c.args._sites.now c.args.addresses.now c.requires.addresses)) c.loop-index.invariant
