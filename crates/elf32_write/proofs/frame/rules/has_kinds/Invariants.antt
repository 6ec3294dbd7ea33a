use Rattle.std.proofs.Common.{◌≡◌}
use Rattle.elf32_write.specs.Frame.{frame_at, has_kinds}
use Rattle.elf32_write.proofs.RecordRuns.{kinds_from}
use Rattle.elf32_write.proofs.frame.rules.has_kinds.Given as goal

abbrev pub invariant-loop-index : goal.invariant-loop-index
invariant-loop-index l = has_kinds (frame_at l.file) ≡ kinds_from (frame_at l.file) l.index l.index-end
