use Rattle.std.proofs.Common.{◌≡◌}
use Rattle.mv_base.specs.Table.{run_of}
use Rattle.elf32_write.specs.Frame.{frame_at}
use Rattle.elf32_write.proofs.RecordRuns.{runs_from}
use Rattle.elf32_write.proofs.frame.run_with.Given as goal

abbrev pub invariant-loop-index : goal.invariant-loop-index
invariant-loop-index l = run_of (frame_at l.file).runs l.address ≡ run_of (runs_from l.file l.index l.index-end) l.address
