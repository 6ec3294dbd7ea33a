use Rattle.std.proofs.Common.{◌≡◌, ◌<◌, ◌∙◌, length, get_or, sym, ap, arith}
use Rattle.std.proofs.lemmas.Option.{slice_get-get_or, same_Some}
use Rattle.superset.specs.RunBytes.{apart_ends}
use Rattle.pair_check.specs.declared.differs.Part.TheVariants.{Runs}
use Rattle.pair_check.specs.Parts.{placed_at}
use Rattle.pair_check.proofs.Numbers.{run_next, run_found}
use Rattle.pair_check.proofs.parts.runs_difference.Goals as goal

pub run_difference-requires-clause-short : goal.run_difference-requires-clause-short
run_difference-requires-clause-short c = omega (arith, apart_ends 0 c.args.runs.now c.requires.spread c.loop-index.index c.index-runs-index.result (omega (arith, c.loop-index-test.true)) c.index-runs-index.is)

pub returns-in-Some : goal.returns-in-Some
returns-in-Some c =
    let few : c.loop-index.index < length c.args.frame.now.runs = omega (arith, c.loop-index-test.true, c.if-count-run_count.false, c.run_count.ensures.value) in
    let place : c.run_at-place.result ≡ get_or c.args.frame.now.runs c.loop-index.index c.run_at-place.result = same_Some _ _ (sym c.run_at-place.ensures ∙ slice_get-get_or c.args.frame.now.runs c.loop-index.index c.run_at-place.result few) in
    sym (ap (placed_at Runs) c.loop-index.invariant ∙ run_found _ c.loop-index.index c.args.runs.now c.args.frame.now.runs c.index-runs-index.result c.run_at-place.result c.in-Some.found (omega arith) (omega (arith, c.loop-index-test.true)) few c.index-runs-index.is place (sym c.run_difference.ensures ∙ c.in-Some.is))

pub loop-index-preserved : goal.loop-index-preserved
loop-index-preserved c =
    let few : c.loop-index.index < length c.args.frame.now.runs = omega (arith, c.loop-index-test.true, c.if-count-run_count.false, c.run_count.ensures.value) in
    let place : c.run_at-place.result ≡ get_or c.args.frame.now.runs c.loop-index.index c.run_at-place.result = same_Some _ _ (sym c.run_at-place.ensures ∙ slice_get-get_or c.args.frame.now.runs c.loop-index.index c.run_at-place.result few) in
    c.loop-index.invariant ∙ run_next _ c.loop-index.index c.args.runs.now c.args.frame.now.runs c.index-runs-index.result c.run_at-place.result (omega arith) (omega (arith, c.loop-index-test.true)) few c.index-runs-index.is place (sym c.run_difference.ensures ∙ c.in_default.is)
