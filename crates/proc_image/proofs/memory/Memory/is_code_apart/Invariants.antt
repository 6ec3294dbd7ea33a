use Rattle.std.proofs.Common.{◌≡◌, ◌+◌}
use Rattle.mv_base.specs.Memory.{exec_byte}
use Rattle.proc_image.specs.Paged.{cells}
use Rattle.proc_image.proofs.Executing.{StandAlike}
use Rattle.proc_image.proofs.memory.Memory.is_code_apart.Given as goal

abbrev pub invariant-loop-byte : goal.invariant-loop-byte
invariant-loop-byte l = record {
  next_is : l.next ≡ l.at + l.byte-index;
  alike : StandAlike (exec_byte (cells l.self)) l.bytes l.at l.byte-index;
}
