use Rattle.std.proofs.Common.{refl, arith, get_or}
use Rattle.map_table.specs.Pairs.{firsts}
use Rattle.map_table.specs.laws.Counts.{next_at}
use Rattle.map_table.proofs.Pages.{directory_step, directory_done, pages_end}
use Rattle.map_table.proofs.page.put_directories.Goals as goal

pub loop-group-init : goal.loop-group-init
loop-group-init c = record { bytes_are = refl; end = refl }

pub put_name-requires-clause-room : goal.put_name-requires-clause-room
put_name-requires-clause-room c = omega (arith, pages_end (firsts c.args.pairs.now) c.args.groups.now c.loop-group.group-index (get_or c.args.groups.now c.loop-group.group-index (record { lo = 0; len = 0 })) c.loop-group.next (next_at c.args.groups.now c.loop-group.group-index (record { lo = 0; len = 0 }) (omega arith)), c.loop-group.invariant.end, c.requires.room)

pub loop-group-preserved : goal.loop-group-preserved
loop-group-preserved c = record {
  bytes_are = directory_step (firsts c.args.pairs.now) c.args.zeros c.loop-group.next _ c.args.groups.now c.loop-group.group-index (get_or c.args.groups.now c.loop-group.group-index (record { lo = 0; len = 0 })) c.loop-group.bytes.items c.put_name.new.bytes.items _ (next_at c.args.groups.now c.loop-group.group-index (record { lo = 0; len = 0 }) (omega arith)) c.loop-group.invariant.bytes_are c.in_ok-next.ensures.word c.in_ok-next.ensures.next;
  end = omega (arith, pages_end (firsts c.args.pairs.now) c.args.groups.now c.loop-group.group-index (get_or c.args.groups.now c.loop-group.group-index (record { lo = 0; len = 0 })) c.loop-group.next (next_at c.args.groups.now c.loop-group.group-index (record { lo = 0; len = 0 }) (omega arith)), c.loop-group.invariant.end, c.in_ok-next.ensures.next);
}

pub returns : goal.returns
returns c = directory_done (firsts c.args.pairs.now) c.args.zeros c.loop-group.next c.args.groups.now c.loop-group.group-index c.loop-group.bytes.items _ (omega arith) c.loop-group.invariant.bytes_are
