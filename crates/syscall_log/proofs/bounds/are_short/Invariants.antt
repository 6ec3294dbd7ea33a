use Rattle.std.proofs.Common.{◌≡◌, ◌+◌, length, take}
use Rattle.std.specs.List.{sum_by}
use Rattle.syscall_log.proofs.bounds.are_short.Given as goal

abbrev pub invariant-loop-arg : goal.invariant-loop-arg
invariant-loop-arg l = sum_by (λ a. length a + 1) (take l.arg-index l.args) + l.room ≡ 65536
