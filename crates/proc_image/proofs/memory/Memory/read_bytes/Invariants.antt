use Rattle.std.proofs.Common.{◌≡◌, ◌-◌, ◌++◌, length, take}
use Rattle.mv_base.specs.Memory.{read_fault, bytes_at}
use Rattle.proc_image.specs.Paged.{cells}
use Rattle.proc_image.proofs.memory.Memory.read_bytes.Given as goal

abbrev pub invariant-loop-i : goal.invariant-loop-i
invariant-loop-i l = record {
  long : length l.to ≡ length l.initial.to;
  copied : bytes_at (cells l.self) l.at (length l.initial.to) ≡ take l.i l.to ++ bytes_at (cells l.self) l.next (length l.initial.to - l.i);
  mapped : read_fault (cells l.self) l.at (length l.initial.to) ≡ read_fault (cells l.self) l.next (length l.initial.to - l.i);
}
