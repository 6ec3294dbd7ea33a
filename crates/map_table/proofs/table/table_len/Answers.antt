use Rattle.std.proofs.Common.{arith}
use Rattle.map_table.specs.laws.Counts.{apart_ends, run_small, size_first, size_step, size_done, size_bound}
use Rattle.map_table.proofs.table.table_len.Goals as goal

pub loop-run-init : goal.loop-run-init
loop-run-init c = size_first c.args.runs.now c.args.sites.now

pub run_len-len-requires-clause-ends : goal.run_len-len-requires-clause-ends
run_len-len-requires-clause-ends c = apart_ends 0 c.args.runs.now c.requires.runs.apart c.loop-run.run-index c.run-item.result (omega arith) c.run-item.is

pub run_len-len-requires-clause-small : goal.run_len-len-requires-clause-small
run_len-len-requires-clause-small c = omega (arith, run_small c.args.runs.now c.loop-run.run-index c.run-item.result (omega arith) c.run-item.is, c.requires.runs.small)

pub overflow_add-len : goal.overflow_add-len
overflow_add-len c = omega (arith, size_step c.args.runs.now c.args.sites.now c.loop-run.run-index c.run-item.result _ c.loop-run.len c.run_len-len.result (omega arith) c.run-item.is c.loop-run.invariant c.run_len-len.ensures, size_bound c.args.runs.now c.args.sites.now c.requires.runs.few c.requires.runs.small)

pub loop-run-preserved : goal.loop-run-preserved
loop-run-preserved c = size_step c.args.runs.now c.args.sites.now c.loop-run.run-index c.run-item.result _ c.loop-run.len c.run_len-len.result (omega arith) c.run-item.is c.loop-run.invariant c.run_len-len.ensures

pub returns : goal.returns
returns c = size_done c.args.runs.now c.args.sites.now c.loop-run.run-index _ c.loop-run.len (omega arith) c.loop-run.invariant
