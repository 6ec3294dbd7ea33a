use Rattle.std.proofs.Common.{◌≡◌}
use Rattle.x86_insn.specs.Round.{limit}
use Rattle.x86_insn.specs.Step.{rounds}
use Rattle.proc_image.specs.Paged.{cells}
use Rattle.x86_machine.proofs.running.run_rounds.Given as goal

abbrev pub invariant-loop-left : goal.invariant-loop-left
invariant-loop-left l = rounds (limit l.insn l.fn.core) l.insn l.descs.made l.fn.core (cells l.fn.memory) ≡ rounds l.left l.insn l.descs.made l.core (cells l.memory)

abbrev pub decreases-loop-left : goal.decreases-loop-left
decreases-loop-left l = l.left
