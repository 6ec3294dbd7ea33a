use Rattle.std.proofs.Common.{refl, sym, ap, ◌∙◌}
use Rattle.elf32_write.specs.Frame.{TableAt, frame_at, has_runs}
use Rattle.elf32_write.proofs.RecordRuns.{framed}
use Rattle.elf32_write.proofs.frame.read_frame.Goals as goal

pub invariant_of-result : goal.invariant_of-result
invariant_of-result c =
    let r = c.if-not-has_record.ensures in
    framed c.args.file.now (r.room refl) (r.version_low refl) (r.version_high refl) (r.form_low refl) (r.form_high refl) (r.runs refl) (r.input refl) (sym c.if-not-has_numbers.ensures.value)
    (sym c.if-not-has_kinds.ensures)
    (sym (ap (λ (t : TableAt). has_runs t 0 (frame_at c.args.file.now).runs) c.table_in-table.ensures.is) ∙ sym c.if-not-has_runs.ensures)
