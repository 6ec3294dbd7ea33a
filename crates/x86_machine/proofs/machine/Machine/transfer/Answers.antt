use Rattle.std.proofs.Common.{ap, refl}
use Rattle.x86_insn.specs.Round.{hop}
use Rattle.x86_insn.specs.Step.{after_hop}
use Rattle.proc_image.specs.Paged.{cells}
use Rattle.x86_machine.specs.Stepping.{state_of, core_of}
use Rattle.x86_machine.proofs.Coming.{comes}
use Rattle.x86_machine.proofs.Rounding.{turn-inside}
use Rattle.x86_machine.proofs.machine.Machine.transfer.Goals as goal

pub returns-in-Some-clause-is : goal.returns-in-Some-clause-is
returns-in-Some-clause-is c = λ answers.
    let m = c.args.self.now in
    let core = core_of m in
    comes _ _ _ (ap (after_hop (state_of m answers)) (turn-inside (hop c.args.next c.args.insn.now core) core (cells m.memory) c.in-Some.to (c.in-Some.ensures core refl)))
