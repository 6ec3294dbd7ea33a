use Rattle.std.proofs.Common.{◌∙◌, sym, ap, arith}
use Rattle.mv_base.specs.Span.{Span}
use Rattle.elf32_write.specs.Frame.{frame_code}
use Rattle.lookup_stub.specs.Stub.{stub}
use Rattle.simulation_laws.specs.laws.Fronts.{place_most}
use Rattle.simulation_laws.specs.laws.Ruled.{code_fits}
use Rattle.simulation_laws.proofs.stub.stub_difference.Goals as goal

pub overflow_cast-at : goal.overflow_cast-at
overflow_cast-at c =
    let f = c.args.frame.now in
    omega (arith, place_most 0 (stub f.form f.runs f.private) (frame_code f) c.in-Some.field-0 (sym c.frame_difference.ensures ∙ c.in-Some.is), code_fits f, c.code_end-end.ensures)

pub overflow_add-at : goal.overflow_add-at
overflow_add-at c =
    let f = c.args.frame.now in
    omega (arith, place_most 0 (stub f.form f.runs f.private) (frame_code f) c.in-Some.field-0 (sym c.frame_difference.ensures ∙ c.in-Some.is), code_fits f, c.code_end-end.ensures, ap (λ (r : Span). r.lo) c.code.ensures, c.lo.ensures)
