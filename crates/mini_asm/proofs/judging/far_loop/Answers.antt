use Rattle.std.proofs.Common.{below_more, arith, sym, ◌∙◌}
use Rattle.std.proofs.lemmas.Option.{slice_get_within}
use Rattle.mini_asm.specs.Labels.{place_of}
use Rattle.mini_asm.specs.Spots.{address_in}
use Rattle.mini_asm.proofs.Misfits.{not-far}
use Rattle.mini_asm.proofs.judging.far_loop.Goals as goal

pub loop-place-preserved : goal.loop-place-preserved
loop-place-preserved c =
    let addresses = address_in (place_of c.args.labels.now) c.args.spots.now in
    below_more _ _ c.loop-place.invariant
    (not-far addresses c.args.forms.now c.args.spots.now c.loop-place.place c.index-forms-place.result _ c.loop-place-test.true (omega (arith, c.loop-place-test.true, c.requires)) c.index-forms-place.is
    (sym c.is_far.ensures ∙ c.if-is_far.false))

pub returns : goal.returns
returns c = λ k far. c.loop-place.invariant k (omega (arith, slice_get_within c.args.forms.now k far.says far.is_form, c.loop-place-test.false)) far
