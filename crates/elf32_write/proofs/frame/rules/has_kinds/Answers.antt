use Rattle.std.proofs.Common.{◌≡◌, true, false, nat_le, sym, ap, ◌∙◌, arith}
use Rattle.std.proofs.lemmas.Bool.{le-leb, lt-leb}
use Rattle.elf32_write.specs.Frame.{frame_at}
use Rattle.elf32_write.proofs.RecordRuns.{kind_test, kinds_first, kind_fails, kind_holds, kinds_end}
use Rattle.elf32_write.proofs.frame.rules.has_kinds.Goals as goal

pub loop-index-init : goal.loop-index-init
unfolding frame_at
loop-index-init c = kinds_first (frame_at c.args.file.now) c.field-index-end.result c.field-index-end.ensures

pub returns-then-kind-gt-MOST_KIND : goal.returns-then-kind-gt-MOST_KIND
returns-then-kind-gt-MOST_KIND c =
    let fails : kind_test (frame_at c.args.file.now) c.loop-index.index ≡ false = ap (λ n. nat_le n 2) (sym c.kind.ensures) ∙ lt-leb c.kind.result 2 c.if-kind-gt-MOST_KIND.true in
    kind_fails (frame_at c.args.file.now) _ c.loop-index.index c.field-index-end.result (omega arith) c.loop-index.invariant fails

pub loop-index-preserved : goal.loop-index-preserved
loop-index-preserved c =
    let holds : kind_test (frame_at c.args.file.now) c.loop-index.index ≡ true = ap (λ n. nat_le n 2) (sym c.kind.ensures) ∙ le-leb c.kind.result 2 c.if-kind-gt-MOST_KIND.false in
    kind_holds (frame_at c.args.file.now) _ c.loop-index.index c.field-index-end.result (omega arith) c.loop-index.invariant holds

pub returns : goal.returns
returns c = kinds_end (frame_at c.args.file.now) _ c.loop-index.index c.field-index-end.result (omega arith) c.loop-index.invariant
