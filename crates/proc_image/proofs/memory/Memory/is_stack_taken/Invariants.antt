use Rattle.std.proofs.Common.{◌≡◌, ℕ, ◌<◌, ◌≤◌, false}
use Rattle.proc_image.specs.Counting.{holds_mapped}
use Rattle.proc_image.specs.Paged.{cells}
use Rattle.proc_image.proofs.memory.Memory.is_stack_taken.Given as goal

abbrev pub invariant-loop-page : goal.invariant-loop-page
invariant-loop-page l = (p : ℕ) → 0xBFEFF ≤ p → p < l.page → holds_mapped (cells l.self) p ≡ false
