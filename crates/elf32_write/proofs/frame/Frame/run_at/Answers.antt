use Rattle.std.proofs.Common.{◌<◌, ◌∙◌, Some, sym, ap, length, arith}
use Rattle.std.specs.List.{slice_get}
use Rattle.elf32_write.specs.Frame.{Frame, field}
use Rattle.elf32_write.proofs.RecordRuns.{run_total, run_number}
use Rattle.elf32_write.proofs.frame.Frame.run_at.Goals as goal

pub run_place-requires-clause-index : goal.run_place-requires-clause-index
run_place-requires-clause-index c =
    omega (arith, run_total c.self.inside.file.now, ap (λ (f : Frame). length f.runs) c.self.view_is, c.self.invariant.few_runs, c.requires)

pub returns : goal.returns
returns c =
    let below : c.args.index < field c.self.inside.file.now 15 = omega (arith, run_total c.self.inside.file.now, ap (λ (f : Frame). length f.runs) c.self.view_is, c.requires) in
    sym (ap (λ (f : Frame). slice_get f.runs c.args.index) c.self.view_is) ∙ (run_number c.self.inside.file.now c.args.index below ∙ ap Some (sym c.run_place.ensures))
