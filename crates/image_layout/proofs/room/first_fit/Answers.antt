use Rattle.std.proofs.Common.{sym, arith}
use Rattle.image_layout.proofs.Fit.{fits_at, fits_nowhere, fit_of}
use Rattle.image_layout.proofs.room.first_fit.Goals as goal
use Rattle.image_layout.proofs.room.first_fit.Goals.{else-size-le-TOP-via-then-size-le-TOP+else-page-size, else-size-le-TOP-via-else-size-le-TOP}

pub returns-then-page-size : goal.returns-then-page-size
returns-then-page-size c =
    let p = c.free_page-page.ensures in
    fit_of c.as_slice.result.now c.args.image.now.segments c.args.size c.as_slice.ensures
    (sym (fits_at c.as_slice.result.now c.args.size c.free_page-page.result c.requires.some p.low p.free p.lowest (omega arith)))

pub returns-else-size-le-TOP : goal.returns-else-size-le-TOP
returns-else-size-le-TOP c =
    let p = c.free_page-page.ensures in
    fit_of c.as_slice.result.now c.args.image.now.segments c.args.size c.as_slice.ensures
    (sym (fits_nowhere c.as_slice.result.now c.args.size c.free_page-page.result p.lowest (
    elim c.else-size-le-TOP.branch [
      | else-size-le-TOP-via-then-size-le-TOP+else-page-size w ↦ omega arith
      | else-size-le-TOP-via-else-size-le-TOP w ↦ omega arith
    ])))
