use Rattle.std.proofs.Common.{refl, arith, length, ◌+◌, ◌*◌}
use Rattle.mv_base.specs.Table.{group_count}
use Rattle.map_table.specs.laws.Counts.{apart_ends, dirs_step, dirs_done}
use Rattle.map_table.proofs.table.dirs_of.Goals as goal

pub group_count-requires : goal.group_count-requires
group_count-requires c = apart_ends 0 c.args.runs.now c.requires.apart c.loop-run.run-index c.run-item.result (omega arith) c.run-item.is

pub overflow_mul-dir : goal.overflow_mul-dir
overflow_mul-dir c = omega (arith, (dirs_step c.args.runs.now c.args.first c.loop-run.run-index c.loop-run.dirs.items c.push.new.self.items c.loop-run.dir (c.loop-run.dir + 4 * group_count (length c.run-item.result.bytes)) c.run-item.result (omega arith) c.run-item.is c.loop-run.invariant c.in_ok-push.ensures.items refl).end)

pub overflow_add-dir : goal.overflow_add-dir
overflow_add-dir c = omega (arith, (dirs_step c.args.runs.now c.args.first c.loop-run.run-index c.loop-run.dirs.items c.push.new.self.items c.loop-run.dir (c.loop-run.dir + 4 * group_count (length c.run-item.result.bytes)) c.run-item.result (omega arith) c.run-item.is c.loop-run.invariant c.in_ok-push.ensures.items refl).end)

pub loop-run-preserved : goal.loop-run-preserved
loop-run-preserved c = dirs_step c.args.runs.now c.args.first c.loop-run.run-index c.loop-run.dirs.items c.push.new.self.items c.loop-run.dir _ c.run-item.result (omega arith) c.run-item.is c.loop-run.invariant c.in_ok-push.ensures.items (omega arith)

pub returns : goal.returns
returns c = dirs_done c.args.runs.now c.args.first c.loop-run.run-index c.loop-run.dirs.items c.loop-run.dir (omega arith) c.loop-run.invariant
