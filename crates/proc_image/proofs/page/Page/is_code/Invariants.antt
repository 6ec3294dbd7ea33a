use Rattle.std.proofs.Common.{◌≡◌, ◌+◌}
use Rattle.proc_image.specs.Paged.{exec_byte_in}
use Rattle.proc_image.proofs.Executing.{StandAlike}
use Rattle.proc_image.proofs.page.Page.is_code.Given as goal

abbrev pub invariant-loop-byte : goal.invariant-loop-byte
invariant-loop-byte l = record {
  next_is : l.next ≡ l.place + l.byte-index;
  alike : StandAlike (exec_byte_in l.self) l.bytes l.place l.byte-index;
}
