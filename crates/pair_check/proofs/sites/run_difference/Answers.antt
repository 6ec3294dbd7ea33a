use Rattle.std.proofs.Common.{[], ◌∷◌, arith}
use Rattle.elf32_read.specs.Runs.{code_of}
use Rattle.pair_check.proofs.Walks.{walk_goes, walk_stops}
use Rattle.pair_check.proofs.sites.run_difference.Goals as goal

pub returns-in-Err : goal.returns-in-Err
returns-in-Err c = walk_stops c.args.frame.now (code_of (c.args.run.now ∷ [])) c.args.run.now c.loop-offset.offset c.loop-offset.count c.in-Err.found (omega (arith, c.loop-offset-test.true, c.len-offset-end.ensures)) c.loop-offset.invariant c.in-Err.ensures

pub loop-offset-preserved : goal.loop-offset-preserved
loop-offset-preserved c = walk_goes c.args.frame.now (code_of (c.args.run.now ∷ [])) c.args.run.now c.loop-offset.offset c.loop-offset.count c.in-Ok.seen (omega (arith, c.loop-offset-test.true, c.len-offset-end.ensures)) c.loop-offset.invariant c.in-Ok.ensures
