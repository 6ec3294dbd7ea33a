use Rattle.std.proofs.Common.{[], ◌∙◌, ap, sym, subst, refl}
use Rattle.x86_insn.specs.Round.{limit}
use Rattle.x86_insn.specs.State.{Next, Stopped}
use Rattle.x86_insn.specs.Step.{rounds, after_rounds}
use Rattle.proc_image.specs.Paged.{cells}
use Rattle.x86_machine.specs.declared.machine.Machine.{Machine}
use Rattle.x86_machine.specs.Stepping.{state_of, core_of, ComesTo}
use Rattle.x86_machine.proofs.Coming.{comes, stops}
use Rattle.x86_machine.proofs.Rounding.{rounds-inside}
use Rattle.x86_machine.proofs.machine.Machine.run.Goals as goal

pub returns-then-done_inside-clause-is : goal.returns-then-done_inside-clause-is
returns-then-done_inside-clause-is c = λ answers.
    let m = c.args.self.now in
    let i = c.args.insn.now in
    let core = c.core-core.result in
    comes _ _ _ (ap (after_rounds (state_of m answers) c.args.next) (ap (λ k. rounds (limit i k) i m.descs.made k (cells m.memory)) (sym c.core-core.ensures)
    ∙ rounds-inside (limit i core) i m.descs.made core _ (cells m.memory) (c.if-done_inside.ensures.once refl) (c.if-done_inside.ensures.done m.descs.made))
    ∙ ap (λ (n : Machine). Next (state_of (record n { eip = c.args.next }) answers)) (sym c.set_inside.ensures))

pub returns-in-Ok-clause-is : goal.returns-in-Ok-clause-is
returns-in-Ok-clause-is c = λ answers.
    let m = c.args.self.now in
    let i = c.args.insn.now in
    comes _ _ _ (ap (after_rounds (state_of m answers) c.args.next) (ap (λ k. rounds (limit i k) i m.descs.made k (cells m.memory)) (sym (c.if-done_inside.ensures.done [] ∙ c.core-core.ensures)) ∙ c.in-Ok.ensures)
    ∙ ap (λ (n : Machine). Next (state_of (record n { eip = c.args.next }) answers)) (sym c.set_core.ensures))

pub returns-in-Err-clause-is : goal.returns-in-Err-clause-is
returns-in-Err-clause-is c = λ answers.
    let m = c.args.self.now in
    let i = c.args.insn.now in
    let why = c.in-Err.stop in
    let stopped = ap (after_rounds (state_of m answers) c.args.next) (ap (λ k. rounds (limit i k) i m.descs.made k (cells m.memory)) (sym (c.if-done_inside.ensures.done [] ∙ c.core-core.ensures)) ∙ c.in-Err.ensures)
    ∙ ap (λ (n : Machine). Stopped why (state_of n answers)) (sym c.set_core.ensures) in
    subst (λ r. ComesTo _ (after_rounds (state_of m answers) c.args.next (rounds (limit i (core_of m)) i m.descs.made (core_of m) (cells m.memory))) (state_of m answers) r (state_of c.set_core.new.self answers)) (sym c.outcome_of.ensures) (stops _ (state_of m answers) _ why stopped)
