use Rattle.std.proofs.Common.{◌∙◌, ap, sym, subst}
use Rattle.x86_insn.specs.Round.{hop}
use Rattle.x86_insn.specs.State.{Next, Stopped}
use Rattle.x86_insn.specs.Step.{turn, after_hop}
use Rattle.proc_image.specs.Paged.{cells}
use Rattle.x86_machine.specs.declared.machine.Machine.{Machine}
use Rattle.x86_machine.specs.Stepping.{state_of, core_of, ComesTo}
use Rattle.x86_machine.proofs.Coming.{comes, stops}
use Rattle.x86_machine.proofs.machine.Machine.transfer_apart.Goals as goal

pub returns-in-Ok-clause-is : goal.returns-in-Ok-clause-is
returns-in-Ok-clause-is c = λ answers.
    let m = c.args.self.now in
    let i = c.args.insn.now in
    comes _ _ _ (ap (after_hop (state_of m answers)) (ap (λ k. turn (cells m.memory) (hop c.args.next i k)) (sym c.core-core.ensures) ∙ c.in-Ok.ensures.is)
    ∙ ap (λ (n : Machine). Next (state_of (record n { eip = c.in-Ok.to }) answers)) (sym c.set_core.ensures))

pub returns-in-Err-clause-is : goal.returns-in-Err-clause-is
returns-in-Err-clause-is c = λ answers.
    let m = c.args.self.now in
    let i = c.args.insn.now in
    let why = c.in-Err.stop in
    let stopped = ap (after_hop (state_of m answers)) (ap (λ k. turn (cells m.memory) (hop c.args.next i k)) (sym c.core-core.ensures) ∙ c.in-Err.ensures.is)
    ∙ ap (λ k. Stopped why (record (state_of m answers) { memory = k })) (sym c.in-Err.ensures.kept.1) in
    subst (λ r. ComesTo _ (after_hop (state_of m answers) (turn (cells m.memory) (hop c.args.next i (core_of m)))) (state_of m answers) r (record (state_of m answers) { memory = cells c.take_turn.new.memory })) (sym c.outcome_of.ensures) (stops _ (state_of m answers) _ why stopped)
