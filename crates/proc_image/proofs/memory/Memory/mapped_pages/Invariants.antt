use Rattle.std.proofs.Common.{◌≡◌, ◌≤◌, ◌*◌}
use Rattle.proc_image.specs.Counting.{count_below, holds_mapped}
use Rattle.proc_image.specs.Paged.{cells}
use Rattle.proc_image.proofs.memory.Memory.mapped_pages.Given as goal

abbrev pub invariant-loop-table : goal.invariant-loop-table
invariant-loop-table l = record {
  counted : l.pages ≡ count_below (holds_mapped (cells l.self)) (1024 * l.table);
  most : l.pages ≤ 1024 * l.table;
}
