use Rattle.std.proofs.Common.{◌≡◌, ◌≤◌}
use Rattle.proc_image.specs.Counting.{mapped_pages_in}
use Rattle.proc_image.specs.Paged.{cells}
use Rattle.proc_image.proofs.memory.Memory.mapped_pages_in.Given as goal

abbrev pub invariant-loop-page : goal.invariant-loop-page
invariant-loop-page l = record {
  counted : l.pages ≡ mapped_pages_in (cells l.self) l.first l.page;
  most : l.pages ≤ l.page;
}
