use Rattle.std.proofs.Common.{◌≡◌, ◌+◌, sym, ap, ◌∙◌, leb, arith}
use Rattle.mv_base.specs.declared.range.RunPlace.{RunPlace}
use Rattle.elf32_write.specs.Frame.{frame_at, run_place_at}
use Rattle.elf32_write.proofs.RecordRuns.{len_of, len_first, len_next, len_end}
use Rattle.elf32_write.proofs.frame.rules.has_size.Goals as goal

pub loop-index-init : goal.loop-index-init
loop-index-init c = record { same = len_first c.args.file.now c.field-index-end.result c.field-index-end.ensures; low = omega arith }

pub loop-index-preserved : goal.loop-index-preserved
loop-index-preserved c =
    let x = c.args.file.now in
    let next : c.loop-index.size + c.from-size.result ≡ c.loop-index.size + (run_place_at x c.loop-index.index).len =
    omega (arith, ap (λ (r : RunPlace). r.len) c.run_place-run.ensures) in
    record {
      same = len_next x _ c.loop-index.size _ c.loop-index.index c.field-index-end.result (omega arith) c.loop-index.invariant.same next;
      low = omega arith;
    }

pub returns : goal.returns
returns c =
    ap (λ n. leb n c.most_code.result) (sym (len_end c.args.file.now _ c.loop-index.size c.loop-index.index c.field-index-end.result (omega arith) c.loop-index.invariant.same))
    ∙ ap (leb (len_of (frame_at c.args.file.now).runs)) c.most_code.ensures
