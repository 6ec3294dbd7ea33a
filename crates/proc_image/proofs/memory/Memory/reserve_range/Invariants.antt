use Rattle.std.proofs.Common.{◌≡◌, ℕ, ◌/◌, ◌<◌, ◌≤◌, length}
use Rattle.proc_image.specs.Paged.{cells, page_of}
use Rattle.proc_image.proofs.memory.Memory.reserve_range.Given as goal

abbrev pub invariant-loop-page : goal.invariant-loop-page
invariant-loop-page l = record {
  same : cells l.self ≡ cells l.initial.self;
  room : (q : ℕ) → l.lo / 4096 ≤ q → q < l.page → 4096 ≤ length (page_of l.self q);
}
