-- Each segment in turn.
use Rattle.std.proofs.Common.{◌≡◌, List, ◌∷◌, ◌+◌, drop, IfOk, ap, subst, sym, ◌∙◌}
use Rattle.std.proofs.lemmas.List.{at_drop_more, at_drop_all}
use Rattle.elf32_read.specs.declared.run.Run.{Run}
use Rattle.elf32_read.specs.Joining.{runs_with}
use Rattle.elf32_read.proofs.run.segment_runs.Goals as goal

pub loop-segment-preserved : goal.loop-segment-preserved
loop-segment-preserved c =
    let i = c.loop-segment.segment-index in
    c.in_ok-joining-2.ensures (drop (i + 1) c.args.segments.now)
    ∙ ap (λ s. runs_with c.args.bytes.now c.loop-segment.joining (s ∷ drop (i + 1) c.args.segments.now)) c.segment-item.is
    ∙ sym (at_drop_more (runs_with c.args.bytes.now c.loop-segment.joining) c.args.segments.now i c.segment-item.result c.loop-segment-test.true)
    ∙ c.loop-segment.invariant

pub returns : goal.returns
returns c =
    subst (λ (rs : List Run). IfOk c.into_runs.result (λ made. made.items ≡ rs))
    (sym (at_drop_all (runs_with c.args.bytes.now c.loop-segment.joining) c.args.segments.now c.loop-segment.segment-index c.loop-segment-test.false) ∙ c.loop-segment.invariant)
    c.into_runs.ensures
