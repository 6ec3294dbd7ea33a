use Rattle.std.proofs.Common.{◌<◌, ◌≤◌, ◌+◌, ◌∷◌, ◌++◌, [], length, map, get_or, slice_set, ◌∙◌, ap, sym, subst, subst₂, Ok, Err}
use Rattle.std.specs.List.{AllByRecursion}
use Rattle.mv_base.specs.Effects.{IsEffect, IsAnswer}
use Rattle.x86_insn.specs.State.{Next, Stopped}
use Rattle.x86_insn.specs.Step.{system}
use Rattle.x86_insn.specs.TakenUp.{first_effects}
use Rattle.x86_insn.specs.declared.stop.Stop.TheVariants.{Gone}
use Rattle.syscall_log.specs.Meaning.{effect_of, answer_of}
use Rattle.proc_image.specs.Paged.{cells}
use Rattle.x86_machine.specs.Bounded.{AreApplied}
use Rattle.x86_machine.specs.Stepping.{answers_from, state_of, Comes, ComesTo}
use Rattle.x86_machine.proofs.Answering.{taken-answer, no-answer, answer-keeps, ret-comes, fault-comes, gone-comes, other-comes, none-comes}
use Rattle.x86_machine.proofs.machine.Machine.call_system.Goals as goal

pub apply_all-requires-clause-bounds : goal.apply_all-requires-clause-bounds
apply_all-requires-clause-bounds c =
    let h = c.in-Some-Ret.ensures {u = tt} in
    let kept = subst (λ xs. IsAnswer (answer_of (get_or xs c.args.answers.now.next c.in-Some-Ret.field-0.now))) (sym c.as_slice.ensures)
    (answer-keeps c.args.answers.now.log.now.answers c.args.answers.now.next c.in-Some-Ret.field-0.now c.args.answers.now.log.now.bounds.answers_keep (subst (λ xs. c.args.answers.now.next < length xs) c.as_slice.ensures h.lookup.3.0)) in
    let own : IsAnswer (answer_of c.in-Some-Ret.field-0.now) = subst (λ a. IsAnswer (answer_of a)) (sym h.lookup.1) kept in
    subst (λ es. AllByRecursion IsEffect (map effect_of es)) (sym c.as_slice-in-Some-Ret.ensures) (subst (λ a. IsAnswer (answer_of a)) c.in-Some-Ret.field-0-is own).1

pub returns-in-Ok-clause-is : goal.returns-in-Ok-clause-is
returns-in-Ok-clause-is c =
    let log = c.args.answers.now.log.now in
    let k = c.args.answers.now.next in
    let h = c.in-Some-Ret.ensures {u = tt} in
    let s = state_of c.args.self.now (answers_from log k) in
    let taken = taken-answer log.answers c.as_slice.result.now k c.in-Some-Ret.field-0.now _ c.as_slice.ensures h.lookup.3.0 h.lookup.1 c.in-Some-Ret.field-0-is in
    let applied = subst (λ es. AreApplied s.memory (map effect_of es) s.descs (cells c.apply_all.new.memory) c.apply_all.new.descs.made (Ok tt)) c.as_slice-in-Some-Ret.ensures c.in-Ok.ensures.is in
    let calls = c.push.ensures.made ∙ ap (λ w. s.calls ++ w ∷ []) c.call-call.ensures in
    subst₂ (λ n made. Comes (first_effects s.answers) (system s c.args.next s.answers) s (Next (record s { core = record (s.core) { regs = slice_set s.core.regs n c.in-Some-Ret.eax }; descs = c.apply_all.new.descs.made; eip = c.args.next; memory = cells c.apply_all.new.memory; answers = answers_from log (k + 1); calls = made })))
    (sym c.number.ensures.is) (sym calls) (ret-comes s c.args.next _ _ c.in-Some-Ret.eax _ taken (cells c.apply_all.new.memory) c.apply_all.new.descs.made applied)

pub returns-in-Err-clause-is : goal.returns-in-Err-clause-is
returns-in-Err-clause-is c =
    let log = c.args.answers.now.log.now in
    let k = c.args.answers.now.next in
    let h = c.in-Some-Ret.ensures {u = tt} in
    let s = state_of c.args.self.now (answers_from log k) in
    let taken = taken-answer log.answers c.as_slice.result.now k c.in-Some-Ret.field-0.now _ c.as_slice.ensures h.lookup.3.0 h.lookup.1 c.in-Some-Ret.field-0-is in
    let faults = subst (λ es. AreApplied s.memory (map effect_of es) s.descs (cells c.apply_all.new.memory) c.apply_all.new.descs.made (Err c.in-Err.fault)) c.as_slice-in-Some-Ret.ensures c.in-Err.ensures.is in
    subst (λ r. ComesTo (first_effects s.answers) (system s c.args.next s.answers) s r (record s { descs = c.apply_all.new.descs.made; memory = cells c.apply_all.new.memory })) (sym c.refused.ensures)
    (fault-comes s c.args.next _ _ c.in-Some-Ret.eax _ taken c.in-Err.fault (cells c.apply_all.new.memory) c.apply_all.new.descs.made faults)

pub returns-in-Some-Gone-clause-is : goal.returns-in-Some-Gone-clause-is
returns-in-Some-Gone-clause-is c =
    let log = c.args.answers.now.log.now in
    let k = c.args.answers.now.next in
    let h = c.in-Some-Gone.ensures {u = tt} in
    let s = state_of c.args.self.now (answers_from log k) in
    let taken = taken-answer log.answers c.as_slice.result.now k c.in-Some-Gone.field-0.now _ c.as_slice.ensures h.lookup.3.0 h.lookup.1 c.in-Some-Gone.field-0-is in
    let calls = c.push-in-Some-Gone.ensures.made ∙ ap (λ w. s.calls ++ w ∷ []) c.call-call-in-Some-Gone.ensures in
    subst (λ made. Comes (first_effects s.answers) (system s c.args.next s.answers) s (Stopped Gone (record s { answers = answers_from log (k + 1); calls = made }))) (sym calls) (gone-comes s c.args.next _ _ taken)

pub returns-in-Some-Cpuid-clause-is : goal.returns-in-Some-Cpuid-clause-is
returns-in-Some-Cpuid-clause-is c =
    let log = c.args.answers.now.log.now in
    let k = c.args.answers.now.next in
    let h = c.in-Some-Cpuid.ensures {u = tt} in
    let s = state_of c.args.self.now (answers_from log k) in
    let taken = taken-answer log.answers c.as_slice.result.now k c.in-Some-Cpuid.field-0.now _ c.as_slice.ensures h.lookup.3.0 h.lookup.1 c.in-Some-Cpuid.field-0-is in
    other-comes s c.args.next _ _ _ _ _ _ taken

pub returns-in-None-clause-is : goal.returns-in-None-clause-is
returns-in-None-clause-is c =
    let h = c.in-None.ensures {u = tt} in
    none-comes (state_of c.args.self.now (answers_from c.args.answers.now.log.now c.args.answers.now.next)) c.args.next _ (no-answer c.args.answers.now.log.now.answers c.args.answers.now.next (subst (λ xs. length xs ≤ c.args.answers.now.next) c.as_slice.ensures h.lookup.3))
