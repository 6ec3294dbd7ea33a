use Rattle.std.proofs.Common.{arith}
use Rattle.map_table.specs.laws.Counts.{apart_ends, groups_step, groups_done}
use Rattle.map_table.proofs.group.groups.Goals as goal

pub put_groups-requires : goal.put_groups-requires
put_groups-requires c = apart_ends 0 c.args.runs.now c.requires c.loop-run.run-index c.run-item.result (omega arith) c.run-item.is

pub loop-run-preserved : goal.loop-run-preserved
loop-run-preserved c = groups_step c.args.runs.now c.loop-run.run-index c.run-item.result c.loop-run.groups.items c.put_groups.new.to.items (omega arith) c.run-item.is c.loop-run.invariant c.in_ok-put_groups.ensures

pub returns : goal.returns
returns c = groups_done c.args.runs.now c.loop-run.run-index c.loop-run.groups.items (omega arith) c.loop-run.invariant
