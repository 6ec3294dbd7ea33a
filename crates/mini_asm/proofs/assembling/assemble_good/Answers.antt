use Rattle.std.proofs.Common.{arith}
use Rattle.mini_asm.specs.Labels.{place_of}
use Rattle.mini_asm.proofs.Whole.{finished, misfit-fault, named-line, same-length}
use Rattle.mini_asm.proofs.assembling.assemble_good.Goals as goal

pub misfit-requires : goal.misfit-requires
misfit-requires c =
    same-length c.args._source.now c.args.forms.now.items.items c.as_slice-forms.result.now c.in_ok-spots.spots.items
    c.as_slice-spots.result.now (place_of c.in_ok-labels.labels) c.as_slice-forms.ensures.value c.as_slice-spots.ensures.value
    c.in_ok-labels.ensures c.requires c.in_ok-spots.ensures

pub returns-in-Some-clause-fault : goal.returns-in-Some-clause-fault
returns-in-Some-clause-fault c = λ n e.
    named-line c.args._source.now c.in_ok-number.field-0 n c.in-Some.place c.in_ok-number.ensures.is
    (misfit-fault c.args._source.now c.args.forms.now.items.items c.as_slice-forms.result.now c.in_ok-spots.spots.items
    c.as_slice-spots.result.now (place_of c.in_ok-labels.labels) c.as_slice-forms.ensures.value c.as_slice-spots.ensures.value
    c.in_ok-labels.ensures c.requires c.in_ok-spots.ensures c.in-Some.place c.in-Some.ensures) e

pub lines_of-requires : goal.lines_of-requires
lines_of-requires c =
    same-length c.args._source.now c.args.forms.now.items.items c.as_slice-forms.result.now c.in_ok-spots.spots.items
    c.as_slice-spots.result.now (place_of c.in_ok-labels.labels) c.as_slice-forms.ensures.value c.as_slice-spots.ensures.value
    c.in_ok-labels.ensures c.requires c.in_ok-spots.ensures

pub code_image-requires : goal.code_image-requires
code_image-requires c =
    let done =
    finished c.args._source.now c.args.forms.now.items.items c.as_slice-forms.result.now c.in_ok-spots.spots.items
    c.as_slice-spots.result.now (place_of c.in_ok-labels.labels) c.as_slice-forms.ensures.value c.as_slice-spots.ensures.value
    c.in_ok-labels.ensures c.requires c.in_ok-spots.ensures c.in_ok-lines.lines.items c.as_slice.result.now c.in_ok-code.code.items
    c.as_slice-2.result.now c.in_default.ensures c.in_ok-lines.ensures c.as_slice.ensures.value c.in_ok-code.ensures
    c.as_slice-2.ensures.value in
    omega (arith, done.most)

pub returns-clause-assembled : goal.returns-clause-assembled
returns-clause-assembled c =
    let done =
    finished c.args._source.now c.args.forms.now.items.items c.as_slice-forms.result.now c.in_ok-spots.spots.items
    c.as_slice-spots.result.now (place_of c.in_ok-labels.labels) c.as_slice-forms.ensures.value c.as_slice-spots.ensures.value
    c.in_ok-labels.ensures c.requires c.in_ok-spots.ensures c.in_ok-lines.lines.items c.as_slice.result.now c.in_ok-code.code.items
    c.as_slice-2.result.now c.in_default.ensures c.in_ok-lines.ensures c.as_slice.ensures.value c.in_ok-code.ensures
    c.as_slice-2.ensures.value in
    done.assembled c.in_ok-code_image.field-0.items c.in_ok-code_image.ensures.is

pub returns-clause-image : goal.returns-clause-image
returns-clause-image c =
    let done =
    finished c.args._source.now c.args.forms.now.items.items c.as_slice-forms.result.now c.in_ok-spots.spots.items
    c.as_slice-spots.result.now (place_of c.in_ok-labels.labels) c.as_slice-forms.ensures.value c.as_slice-spots.ensures.value
    c.in_ok-labels.ensures c.requires c.in_ok-spots.ensures c.in_ok-lines.lines.items c.as_slice.result.now c.in_ok-code.code.items
    c.as_slice-2.result.now c.in_default.ensures c.in_ok-lines.ensures c.as_slice.ensures.value c.in_ok-code.ensures
    c.as_slice-2.ensures.value in
    c.in_ok-code_image.ensures.faultless done.some (omega (arith, done.most))

pub returns-clause-faultless : goal.returns-clause-faultless
returns-clause-faultless c =
    let done =
    finished c.args._source.now c.args.forms.now.items.items c.as_slice-forms.result.now c.in_ok-spots.spots.items
    c.as_slice-spots.result.now (place_of c.in_ok-labels.labels) c.as_slice-forms.ensures.value c.as_slice-spots.ensures.value
    c.in_ok-labels.ensures c.requires c.in_ok-spots.ensures c.in_ok-lines.lines.items c.as_slice.result.now c.in_ok-code.code.items
    c.as_slice-2.result.now c.in_default.ensures c.in_ok-lines.ensures c.as_slice.ensures.value c.in_ok-code.ensures
    c.as_slice-2.ensures.value in
    done.none
