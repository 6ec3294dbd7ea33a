-- How the faults of the crates below become the program's refusals.
use Rattle.elf32_read.specs.declared.fault.ImageFault.{ImageFault}
use Rattle.elf32_read.specs.declared.reader.ReadImage.{ReadImage}
use Rattle.elf32_read.specs.declared.reader.ReadImage.TheVariants as reading
use Rattle.mini_asm.specs.declared.assembling.AsmFault.{AsmFault}
use Rattle.mini_asm.specs.declared.assembling.AsmFault.TheVariants as assembling
use Rattle.mv_rewrite.specs.declared.rewriting.RewriteFault.{RewriteFault}
use Rattle.mv_rewrite.specs.declared.rewriting.RewriteFault.TheVariants as rewriting
use Rattle.pair_check.specs.declared.checking.CheckFault.{CheckFault}
use Rattle.pair_check.specs.declared.checking.CheckFault.TheVariants as checking
use Rattle.syscall_log.specs.declared.fault.LogFault.{LogFault}
use Rattle.syscall_log.specs.declared.fault.LogFault.TheVariants as log
use Rattle.trace_run.specs.declared.tracing.TraceFault.{TraceFault}
use Rattle.trace_run.specs.declared.tracing.TraceFault.TheVariants as tracing
use Rattle.multiverse_cli.specs.declared.failure.Failure.{Failure}
use Rattle.multiverse_cli.specs.declared.failure.Failure.TheVariants as failure
use Rattle.multiverse_cli.specs.declared.failure.Objection.{Objection}
use Rattle.multiverse_cli.specs.declared.failure.Objection.TheVariants as objection
use Rattle.multiverse_cli.specs.declared.refusal.Defect.TheVariants as defect
use Rattle.multiverse_cli.specs.declared.refusal.Refusal.TheVariants as refusal

-- a fault is a defect; want of memory stays so
abbrev pub unread_image : ReadImage → Objection
unread_image (reading.Bad fault) = objection.Lacking (defect.BadImage fault)
unread_image reading.NoMemory = objection.NoMemory

abbrev pub not_admitted : ImageFault → Objection
not_admitted fault = objection.Lacking (defect.BadImage fault)

abbrev pub unread_log : LogFault → Objection
unread_log (log.Line n) = objection.Lacking (defect.BadLog n)
unread_log log.NoMemory = objection.NoMemory

abbrev pub untraced : TraceFault → Objection
untraced (tracing.TooLarge n) = objection.Lacking (defect.TooLarge n)
untraced tracing.NoMemory = objection.NoMemory

abbrev pub not_rewritten : RewriteFault → Objection
not_rewritten (rewriting.Image fault) = objection.Lacking (defect.BadImage fault)
not_rewritten (rewriting.NoRoom n) = objection.Lacking (defect.NoRoom n)
not_rewritten rewriting.NoMemory = objection.NoMemory

abbrev pub not_assembled : AsmFault → Objection
not_assembled (assembling.Line n) = objection.Lacking (defect.BadSource n)
not_assembled assembling.NoMemory = objection.NoMemory

abbrev pub not_alike : CheckFault → Objection
not_alike (checking.Image fault) = objection.Lacking (defect.BadImage fault)
not_alike checking.NoFrame = objection.Lacking defect.NoFrame
not_alike (checking.Differs found) = objection.Lacking (defect.Differs found)
not_alike checking.NoMemory = objection.NoMemory

-- a defect is a refusal
abbrev pub failure_of : Objection → Failure
failure_of (objection.Lacking why) = failure.Refused (refusal.Lacking why)
failure_of objection.NoMemory = failure.NoMemory
