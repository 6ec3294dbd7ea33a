use Rattle.std.proofs.Common.{◌∙◌, ap, sym, take}
use Rattle.mini_asm.specs.Labels.{first_place, noted}
use Rattle.mini_asm.proofs.Labelled.{first-next}
use Rattle.mini_asm.proofs.labels.labels_of.Goals as goal

pub loop-place-preserved : goal.loop-place-preserved
loop-place-preserved c = λ q.
    c.in_ok-note.ensures q
    ∙ ap (λ o. noted o c.index-forms-place.result c.loop-place.place q) (c.loop-place.invariant q)
    ∙ ap (λ f. noted (first_place 0 (take c.loop-place.place c.args.forms.now) q) f c.loop-place.place q) c.index-forms-place.is
    ∙ sym (first-next c.args.forms.now c.loop-place.place c.index-forms-place.result q c.loop-place-test.true)
