use Rattle.std.proofs.Common.{◌∙◌, sym, arith}
use Rattle.elf32_write.proofs.RecordRuns.{search_first, search_hits, search_misses, search_end}
use Rattle.elf32_write.proofs.frame.run_with.Goals as goal

pub loop-index-init : goal.loop-index-init
loop-index-init c = search_first c.args.file.now c.args.address c.field-index-end.result c.field-index-end.ensures

pub returns-then-is_in_run : goal.returns-then-is_in_run
returns-then-is_in_run c =
    search_hits c.args.file.now c.args.address c.loop-index.index c.field-index-end.result _ c.run_place-run.result (omega arith) c.loop-index.invariant c.run_place-run.ensures
    (sym c.is_in_run.ensures ∙ c.if-is_in_run.true)

pub loop-index-preserved : goal.loop-index-preserved
loop-index-preserved c =
    search_misses c.args.file.now c.args.address c.loop-index.index c.field-index-end.result _ c.run_place-run.result (omega arith) c.loop-index.invariant c.run_place-run.ensures
    (sym c.is_in_run.ensures ∙ c.if-is_in_run.false)

pub returns : goal.returns
returns c = search_end c.args.file.now c.args.address c.loop-index.index c.field-index-end.result _ (omega arith) c.loop-index.invariant
