use Rattle.std.proofs.Common.{◌≡◌, true, false, arith}
use Rattle.elf32_write.proofs.RecordRuns.{pages_first, page_test, page_fails, page_holds, pages_end}
use Rattle.elf32_write.proofs.frame.table.Table.has_pages.Goals as goal

pub loop-group-init : goal.loop-group-init
loop-group-init c = pages_first c.args.self.now c.args.run.now c.group_count-group-end.result c.group_count-group-end.ensures

pub returns-then-not-holds : goal.returns-then-not-holds
returns-then-not-holds c =
    let fails : page_test c.args.self.now c.args.run.now c.loop-group.group ≡ false = cc (c.page_named.ensures, c.holds.ensures.value, c.if-not-holds.true) in
    page_fails c.args.self.now c.args.run.now _ c.loop-group.group c.group_count-group-end.result (omega arith) c.loop-group.invariant fails

pub loop-group-preserved : goal.loop-group-preserved
loop-group-preserved c =
    let holds : page_test c.args.self.now c.args.run.now c.loop-group.group ≡ true = cc (c.page_named.ensures, c.holds.ensures.value, c.if-not-holds.false) in
    page_holds c.args.self.now c.args.run.now _ c.loop-group.group c.group_count-group-end.result (omega arith) c.loop-group.invariant holds

pub returns : goal.returns
returns c = pages_end c.args.self.now c.args.run.now _ c.loop-group.group c.group_count-group-end.result (omega arith) c.loop-group.invariant
