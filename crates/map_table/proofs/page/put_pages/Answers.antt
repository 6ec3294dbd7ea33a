use Rattle.std.proofs.Common.{refl, arith, get_or}
use Rattle.map_table.specs.laws.Counts.{next_at}
use Rattle.map_table.proofs.Pages.{pages_step, pages_done, ends_at}
use Rattle.map_table.proofs.page.put_pages.Goals as goal

pub loop-group-init : goal.loop-group-init
loop-group-init c = refl

pub put_own_page-requires-clause-ends : goal.put_own_page-requires-clause-ends
put_own_page-requires-clause-ends c = (ends_at c.args.groups.now c.loop-group.group-index (record { lo = 0; len = 0 }) c.requires.ends (omega arith)).end

pub put_own_page-requires-clause-len : goal.put_own_page-requires-clause-len
put_own_page-requires-clause-len c = (ends_at c.args.groups.now c.loop-group.group-index (record { lo = 0; len = 0 }) c.requires.ends (omega arith)).few

pub loop-group-preserved : goal.loop-group-preserved
loop-group-preserved c = pages_step c.args.pairs.now c.args.groups.now c.loop-group.group-index (get_or c.args.groups.now c.loop-group.group-index (record { lo = 0; len = 0 })) c.loop-group.bytes.items c.put_own_page.new.bytes.items _ (next_at c.args.groups.now c.loop-group.group-index (record { lo = 0; len = 0 }) (omega arith)) c.loop-group.invariant c.in_ok-put_own_page.ensures

pub returns : goal.returns
returns c = pages_done c.args.pairs.now c.args.groups.now c.loop-group.group-index c.loop-group.bytes.items _ (omega arith) c.loop-group.invariant
