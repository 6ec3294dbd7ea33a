use Rattle.std.proofs.Common.{◌≡◌, ◌≤◌, ◌+◌, ◌*◌, ◌^◌}
use Rattle.elf32_write.specs.Frame.{frame_at}
use Rattle.elf32_write.proofs.RecordRuns.{runs_from, len_of}
use Rattle.elf32_write.proofs.frame.rules.has_size.Given as goal

abbrev pub invariant-loop-index : goal.invariant-loop-index
invariant-loop-index l = record {
  same : len_of (frame_at l.file).runs ≡ l.size + len_of (runs_from l.file l.index l.index-end);
  low : l.size ≤ l.index * 2 ^ 32;
}
