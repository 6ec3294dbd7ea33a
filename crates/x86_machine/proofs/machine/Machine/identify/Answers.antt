use Rattle.std.proofs.Common.{◌+◌, ◌≤◌, length, ap, sym, subst, ◌∙◌}
use Rattle.x86_insn.specs.State.{Next}
use Rattle.x86_machine.specs.Stepping.{answers_from, state_of}
use Rattle.x86_machine.proofs.Coming.{comes}
use Rattle.x86_machine.proofs.Answering.{taken-answer, no-answer, identified-none, identified-ret, identified-gone, identified-words}
use Rattle.x86_machine.proofs.machine.Machine.identify.Goals as goal

pub returns-in-Some-Cpuid-clause-is : goal.returns-in-Some-Cpuid-clause-is
returns-in-Some-Cpuid-clause-is c =
    let log = c.args.answers.now.log.now in
    let k = c.args.answers.now.next in
    let h = c.in-Some-Cpuid.ensures {u = tt} in
    let s = state_of c.args.self.now (answers_from log k) in
    let taken = taken-answer log.answers c.as_slice.result.now k c.in-Some-Cpuid.field-0.now _ c.as_slice.ensures h.lookup.3.0 h.lookup.1 c.in-Some-Cpuid.field-0-is in
    comes _ _ s (identified-words s c.args.next _ _ _ _ _ _ taken
    ∙ ap (λ regs. Next (record s { core = record (s.core) { regs = regs }; eip = c.args.next; answers = answers_from log (k + 1) })) (sym c.with_words-self.ensures))

pub returns-in-Some-Ret-clause-is : goal.returns-in-Some-Ret-clause-is
returns-in-Some-Ret-clause-is c =
    let log = c.args.answers.now.log.now in
    let k = c.args.answers.now.next in
    let h = c.in-Some-Ret.ensures {u = tt} in
    let s = state_of c.args.self.now (answers_from log k) in
    let taken = taken-answer log.answers c.as_slice.result.now k c.in-Some-Ret.field-0.now _ c.as_slice.ensures h.lookup.3.0 h.lookup.1 c.in-Some-Ret.field-0-is in
    comes _ _ s (identified-ret s c.args.next _ _ _ _ taken)

pub returns-in-Some-Gone-clause-is : goal.returns-in-Some-Gone-clause-is
returns-in-Some-Gone-clause-is c =
    let log = c.args.answers.now.log.now in
    let k = c.args.answers.now.next in
    let h = c.in-Some-Gone.ensures {u = tt} in
    let s = state_of c.args.self.now (answers_from log k) in
    let taken = taken-answer log.answers c.as_slice.result.now k c.in-Some-Gone.field-0.now _ c.as_slice.ensures h.lookup.3.0 h.lookup.1 c.in-Some-Gone.field-0-is in
    comes _ _ s (identified-gone s c.args.next _ _ taken)

pub returns-in-None-clause-is : goal.returns-in-None-clause-is
returns-in-None-clause-is c =
    let h = c.in-None.ensures {u = tt} in
    let s = state_of c.args.self.now (answers_from c.args.answers.now.log.now c.args.answers.now.next) in
    comes _ _ s (identified-none s c.args.next _ (no-answer c.args.answers.now.log.now.answers c.args.answers.now.next (subst (λ xs. length xs ≤ c.args.answers.now.next) c.as_slice.ensures h.lookup.3)))
