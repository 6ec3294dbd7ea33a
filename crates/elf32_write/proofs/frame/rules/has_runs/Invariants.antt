use Rattle.std.proofs.Common.{◌≡◌, ◌≤◌, ◌^◌}
use Rattle.elf32_write.specs.Frame.{frame_at, has_runs}
use Rattle.elf32_write.proofs.RecordRuns.{runs_from}
use Rattle.elf32_write.proofs.frame.rules.has_runs.Given as goal

abbrev pub invariant-loop-index : goal.invariant-loop-index
invariant-loop-index l = record {
  same : has_runs l.table 0 (frame_at l.file).runs ≡ has_runs l.table l.from (runs_from l.file l.index l.index-end);
  low : l.from ≤ 2 ^ 34;
}
