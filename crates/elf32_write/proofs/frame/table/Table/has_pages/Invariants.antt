use Rattle.std.proofs.Common.{◌≡◌}
use Rattle.elf32_write.specs.Frame.{has_pages}
use Rattle.elf32_write.proofs.RecordRuns.{pages_from}
use Rattle.elf32_write.proofs.frame.table.Table.has_pages.Given as goal

abbrev pub invariant-loop-group : goal.invariant-loop-group
invariant-loop-group l = has_pages l.self l.run ≡ pages_from l.self l.run l.group l.group-end
