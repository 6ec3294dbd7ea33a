use Rattle.std.proofs.Common.{arith}
use Rattle.elf32_read.specs.Runs.{code_of}
use Rattle.superset.specs.Sites.{addresses}
use Rattle.superset.specs.RunBytes.{apart_ends}
use Rattle.simulation_laws.specs.Code.{site_at}
use Rattle.pair_check.proofs.Walks.{fits_run, going_goes, going_stops, going_ends, filter_most}
use Rattle.pair_check.proofs.sites.sites_difference.Goals as goal

pub run_difference-requires-clause-ends : goal.run_difference-requires-clause-ends
run_difference-requires-clause-ends c = apart_ends 0 c.args.runs.now c.requires.spread c.loop-run.run-index c.run-item.result (omega (arith, c.loop-run-test.true)) c.run-item.is

pub returns-in-Err : goal.returns-in-Err
returns-in-Err c =
    going_stops c.args.frame.now c.args.runs.now c.loop-run.run-index c.run-item.result c.requires.spread (omega (arith, c.loop-run-test.true)) c.run-item.is c.loop-run.count c.in-Err.found c.loop-run.invariant c.in-Err.ensures

pub overflow_add-count : goal.overflow_add-count
overflow_add-count c =
    let next = going_goes c.args.frame.now c.args.runs.now c.loop-run.run-index c.run-item.result c.requires.spread (omega (arith, c.loop-run-test.true)) c.run-item.is c.loop-run.count c.in-Ok.seen c.loop-run.invariant c.in-Ok.ensures in
    omega (arith, next.sites, filter_most (site_at (code_of c.args.runs.now)) (addresses c.args.runs.now), c.requires.few)

pub loop-run-preserved : goal.loop-run-preserved
loop-run-preserved c =
    going_goes c.args.frame.now c.args.runs.now c.loop-run.run-index c.run-item.result c.requires.spread (omega (arith, c.loop-run-test.true)) c.run-item.is c.loop-run.count c.in-Ok.seen c.loop-run.invariant c.in-Ok.ensures

pub returns : goal.returns
returns c = going_ends c.args.frame.now c.args.runs.now c.loop-run.run-index c.loop-run.count (omega (arith, c.loop-run-test.false)) c.loop-run.invariant

pub run_difference-requires-clause-fits : goal.run_difference-requires-clause-fits
run_difference-requires-clause-fits c = fits_run c.args.frame.now c.args.runs.now c.loop-run.run-index c.run-item.result c.requires.spread (omega (arith, c.loop-run-test.true)) c.run-item.is c.requires.fits
