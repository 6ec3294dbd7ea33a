use Rattle.std.proofs.Common.{◌≡◌, ◌+◌, ap, true, false, arith}
use Rattle.mv_base.specs.declared.range.RunPlace.{RunPlace}
use Rattle.elf32_write.specs.Frame.{run_place_at, is_run, has_part}
use Rattle.elf32_write.proofs.RecordRuns.{rule_first, rule_fails, part_fails, rule_holds, rule_end}
use Rattle.elf32_write.proofs.frame.rules.has_runs.Goals as goal

pub loop-index-init : goal.loop-index-init
loop-index-init c = record { same = rule_first c.args.table.now c.args.file.now c.field-index-end.result c.field-index-end.ensures; low = omega arith }

pub returns-then-not-is_run : goal.returns-then-not-is_run
returns-then-not-is_run c =
    let x = c.args.file.now in
    let fails : is_run c.loop-index.from (run_place_at x c.loop-index.index) ≡ false = cc (c.run_place-run.ensures, c.is_run.ensures.value, c.if-not-is_run.true) in
    rule_fails c.args.table.now x _ c.loop-index.from c.loop-index.index c.field-index-end.result (omega arith) c.loop-index.invariant.same fails

pub returns-then-not-has_part : goal.returns-then-not-has_part
returns-then-not-has_part c =
    let x = c.args.file.now in
    let holds : is_run c.loop-index.from (run_place_at x c.loop-index.index) ≡ true = cc (c.run_place-run.ensures, c.is_run.ensures.value, c.if-not-is_run.false) in
    let fails : has_part c.args.table.now (run_place_at x c.loop-index.index) ≡ false = cc (c.run_place-run.ensures, c.has_part.ensures, c.if-not-has_part.true) in
    part_fails c.args.table.now x _ c.loop-index.from c.loop-index.index c.field-index-end.result (omega arith) c.loop-index.invariant.same holds fails

pub loop-index-preserved : goal.loop-index-preserved
loop-index-preserved c =
    let x = c.args.file.now in
    let holds : is_run c.loop-index.from (run_place_at x c.loop-index.index) ≡ true = cc (c.run_place-run.ensures, c.is_run.ensures.value, c.if-not-is_run.false) in
    let part : has_part c.args.table.now (run_place_at x c.loop-index.index) ≡ true = cc (c.run_place-run.ensures, c.has_part.ensures, c.if-not-has_part.false) in
    let next : c.from.result + c.from-in-loop-index.result + 1 ≡ (run_place_at x c.loop-index.index).lo + (run_place_at x c.loop-index.index).len + 1 =
    omega (arith, ap (λ (r : RunPlace). r.lo) c.run_place-run.ensures, ap (λ (r : RunPlace). r.len) c.run_place-run.ensures) in
    record {
      same = rule_holds c.args.table.now x _ c.loop-index.from _ c.loop-index.index c.field-index-end.result (omega arith) c.loop-index.invariant.same holds part next;
      low = omega (arith, c.if-not-is_run.ensures.end);
    }

pub returns : goal.returns
returns c = rule_end c.args.table.now c.args.file.now _ c.loop-index.from c.loop-index.index c.field-index-end.result (omega arith) c.loop-index.invariant.same
