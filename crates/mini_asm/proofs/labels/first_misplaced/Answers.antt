use Rattle.std.proofs.Common.{below_more, arith, ap, sym, ◌∙◌, Some}
use Rattle.std.proofs.lemmas.Option.{slice_get-get_or}
use Rattle.mini_asm.proofs.labels.first_misplaced.Goals as goal

pub loop-place-preserved : goal.loop-place-preserved
loop-place-preserved c =
    below_more _ _ c.loop-place.invariant (record {
      says = c.index-forms-place.result;
      here = slice_get-get_or c.args.forms.now c.loop-place.place c.index-forms-place.result c.loop-place-test.true ∙ ap Some (sym c.index-forms-place.is);
      may = grind (arith, c.may_stand.ensures, c.if-not-may_stand.false, c.if-not-may_stand.ensures);
    })
