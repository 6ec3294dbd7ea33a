use Rattle.std.proofs.Common.{◌∙◌, arith}
use Rattle.std.proofs.lemmas.List.{length-set}
use Rattle.simulation_laws.specs.laws.Places.{put_next}
use Rattle.simulation_laws.proofs.stub.run_places.Goals as goal

pub loop-i-preserved : goal.loop-i-preserved
loop-i-preserved c =
    let few = c.run_count-i-end.ensures.few in
    let total = c.run_count-i-end.ensures.value in
    let below = c.loop-i-test.true in
    let same = c.loop-i.invariant.0 in
    let size = c.loop-i.invariant.1 in (
      put_next c.loop-i.runs c.args.frame.now.runs c.loop-i.i c.run_at.result same (omega (arith, few, total, below, size)) c.run_at.ensures,
      length-set c.loop-i.runs c.loop-i.i c.run_at.result ∙ size,
      omega (arith, total, below),
    )
