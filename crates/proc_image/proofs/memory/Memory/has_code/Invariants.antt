use Rattle.std.proofs.Common.{◌≡◌, ◌+◌, false}
use Rattle.mv_base.specs.Memory.{is_executable}
use Rattle.proc_image.specs.Counting.{some_below}
use Rattle.proc_image.specs.Paged.{cells}
use Rattle.proc_image.proofs.memory.Memory.has_code.Given as goal

abbrev pub invariant-loop-place : goal.invariant-loop-place
invariant-loop-place l = some_below (λ j. is_executable (cells l.self) (l.lo + j)) l.place ≡ false
