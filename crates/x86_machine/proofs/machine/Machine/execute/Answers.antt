use Rattle.std.proofs.Common.{[], ◌∙◌, ◌+◌, ◌%◌, ◌^◌, ℕ, ap, sym, subst, refl, inl, inr}
use Rattle.x86_insn.specs.declared.insn.Flow.TheVariants as flow
use Rattle.x86_insn.specs.Step.{plainly}
use Rattle.x86_machine.specs.Stepping.{answers_from, state_of, ComesTo}
use Rattle.x86_machine.proofs.Coming.{step-comes}
use Rattle.x86_machine.proofs.machine.Machine.execute.Goals as goal

pub returns-then-is_cpuid-clause-is : goal.returns-then-is_cpuid-clause-is
returns-then-is_cpuid-clause-is c =
    let s = state_of c.args.self.now (answers_from c.args.answers.now.log.now c.args.answers.now.next) in
    let t = state_of c.identify.new.self (answers_from c.identify.new.answers.log.now c.identify.new.answers.next) in
    let i = c.args.insn.now in
    let next : ℕ = (c.args.self.now.eip + c.from.result) % 2 ^ 32 in
    let here = ap (λ n. (c.args.self.now.eip + n) % 2 ^ 32) c.from.ensures in
    step-comes s next c.args.len i here c.requires.found flow.Plain c.identify.result t (c.if-is_cpuid.ensures.plain refl)
    (subst (λ b. ComesTo [] (plainly b s i next) s c.identify.result t) c.if-is_cpuid.ensures.is c.identify.ensures.is)

pub returns-in-Plain-clause-is : goal.returns-in-Plain-clause-is
returns-in-Plain-clause-is c =
    let answers = answers_from c.args.answers.now.log.now c.args.answers.now.next in
    let s = state_of c.args.self.now answers in
    let t = state_of c.run.new.self answers in
    let i = c.args.insn.now in
    let r = c.run.result in
    let next : ℕ = (c.args.self.now.eip + c.from.result) % 2 ^ 32 in
    let here = ap (λ n. (c.args.self.now.eip + n) % 2 ^ 32) c.from.ensures in
    let by = step-comes s next c.args.len i here c.requires.found in
    let plain = subst (λ b. ComesTo [] (plainly b s i next) s r t) c.if-is_cpuid.ensures.is (c.run.ensures.is answers) in
    elim c.in-Plain.is [
      | inl e ↦ by flow.Plain r t (sym c.next_kind.ensures ∙ e) plain
      | inr e ↦ by flow.Trap r t (sym c.next_kind.ensures ∙ e) (c.run.ensures.is answers)
    ]

pub returns-in-System-clause-is : goal.returns-in-System-clause-is
returns-in-System-clause-is c =
    let s = state_of c.args.self.now (answers_from c.args.answers.now.log.now c.args.answers.now.next) in
    let next : ℕ = (c.args.self.now.eip + c.from.result) % 2 ^ 32 in
    let here = ap (λ n. (c.args.self.now.eip + n) % 2 ^ 32) c.from.ensures in
    step-comes s next c.args.len c.args.insn.now here c.requires.found flow.System c.call_system.result _ (sym c.next_kind.ensures ∙ c.in-System.is) c.call_system.ensures.is

pub returns-in-Jump-clause-is : goal.returns-in-Jump-clause-is
returns-in-Jump-clause-is c =
    let answers = answers_from c.args.answers.now.log.now c.args.answers.now.next in
    let s = state_of c.args.self.now answers in
    let t = state_of c.transfer.new.self answers in
    let next : ℕ = (c.args.self.now.eip + c.from.result) % 2 ^ 32 in
    let here = ap (λ n. (c.args.self.now.eip + n) % 2 ^ 32) c.from.ensures in
    let r = c.transfer.result in
    let by = step-comes s next c.args.len c.args.insn.now here c.requires.found in
    let kind = sym c.next_kind.ensures in
    let is = c.transfer.ensures.is answers in
    elim c.in-Jump.is [
      | inl e ↦ by flow.Jump r t (kind ∙ e) is
      | inr f ↦ elim f [
        | inl e ↦ by flow.Branch r t (kind ∙ e) is
        | inr f ↦ elim f [
          | inl e ↦ by flow.Count r t (kind ∙ e) is
          | inr f ↦ elim f [
            | inl e ↦ by flow.Call r t (kind ∙ e) is
            | inr f ↦ elim f [
              | inl e ↦ by flow.JumpVia r t (kind ∙ e) is
              | inr f ↦ elim f [
                | inl e ↦ by flow.CallVia r t (kind ∙ e) is
                | inr e ↦ by flow.Return r t (kind ∙ e) is
              ]
            ]
          ]
        ]
      ]
    ]
