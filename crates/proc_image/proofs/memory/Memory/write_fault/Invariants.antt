use Rattle.std.proofs.Common.{◌≡◌, ◌-◌}
use Rattle.mv_base.specs.Memory.{write_fault}
use Rattle.proc_image.specs.Paged.{cells}
use Rattle.proc_image.proofs.memory.Memory.write_fault.Given as goal

abbrev pub invariant-loop-done : goal.invariant-loop-done
invariant-loop-done l = write_fault (cells l.self) l.at l.len ≡ write_fault (cells l.self) l.next (l.len - l._done)
