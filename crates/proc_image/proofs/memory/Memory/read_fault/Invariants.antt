use Rattle.std.proofs.Common.{◌≡◌, ◌-◌}
use Rattle.mv_base.specs.Memory.{read_fault}
use Rattle.proc_image.specs.Paged.{cells}
use Rattle.proc_image.proofs.memory.Memory.read_fault.Given as goal

abbrev pub invariant-loop-done : goal.invariant-loop-done
invariant-loop-done l = read_fault (cells l.self) l.at l.len ≡ read_fault (cells l.self) l.next (l.len - l._done)
