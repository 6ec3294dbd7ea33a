-- The code so far and the code left are all of it, and the code so far is within the limit.
use Rattle.std.proofs.Common.{◌≡◌, ◌+◌, ◌≤◌, drop}
use Rattle.elf32_read.specs.Faults.{code_size}
use Rattle.elf32_read.proofs.limit.has_too_much_code.Given as goal

abbrev pub invariant-loop-segment : goal.invariant-loop-segment
invariant-loop-segment l = record { all : l.size + code_size (drop l.segment-index l.segments) ≡ code_size l.segments; within : l.size ≤ 16777216 }
