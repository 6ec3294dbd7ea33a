use Rattle.std.proofs.Common.{◌∙◌, sym, ap, length, arith}
use Rattle.elf32_write.specs.Frame.{Frame}
use Rattle.elf32_write.proofs.RecordRuns.{run_total}
use Rattle.elf32_write.proofs.frame.Frame.run_count.Goals as goal

pub returns-clause-value : goal.returns-clause-value
returns-clause-value c = c.field.ensures ∙ (sym (run_total c.self.inside.file.now) ∙ ap (λ (f : Frame). length f.runs) c.self.view_is)

pub returns-clause-few : goal.returns-clause-few
returns-clause-few c = omega (arith, c.field.ensures, c.self.invariant.few_runs)
