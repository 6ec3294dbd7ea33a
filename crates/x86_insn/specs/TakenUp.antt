-- What of its answers a step takes up. This project's own.
use Rattle.std.specs.Prelude.{List, [], ◌∷◌, if◌then◌else◌}
use Rattle.mv_base.specs.Effects.{Effect, Answer, Ret}
use Rattle.mv_base.specs.Effects as effects
use Rattle.x86_insn.specs.declared.insn.Flow.{Flow}
use Rattle.x86_insn.specs.declared.insn.Flow.TheVariants as flow
use Rattle.x86_insn.specs.Flow.{flow_of}
use Rattle.x86_insn.specs.State.{State}
use Rattle.x86_insn.specs.declared.insn.Insn.{Insn}
use Rattle.x86_insn.specs.Step.{Fetched, Absent, Found, Unknown, fetch, is_cpuid}

-- the effects of the answer that a system call takes up: the first one left
abbrev pub first_effects : List Answer → List Effect
first_effects [] = []
first_effects (Ret eax es ∷ rest) = es
first_effects (effects.Gone ∷ rest) = []
first_effects (effects.Cpuid eax ebx ecx edx ∷ rest) = []

abbrev pub effects_by_flow : Flow → List Answer → List Effect
effects_by_flow flow.System answers = first_effects answers
effects_by_flow flow.Plain answers = []
effects_by_flow flow.Trap answers = []
effects_by_flow flow.Jump answers = []
effects_by_flow flow.Branch answers = []
effects_by_flow flow.Count answers = []
effects_by_flow flow.Call answers = []
effects_by_flow flow.JumpVia answers = []
effects_by_flow flow.CallVia answers = []
effects_by_flow flow.Return answers = []

abbrev pub effects_of : Fetched → List Answer → List Effect
effects_of Absent answers = []
effects_of (Found i len) answers = effects_by_flow (flow_of i) answers
effects_of Unknown answers = []

-- the effects that a step applies, up to a refused one: those of the answer that a system call takes up
abbrev pub applied_by : State → List Effect
applied_by s = effects_of (fetch s.memory s.eip) s.answers

-- a system call takes up the first answer left, and so does CPUID, whatever it is
abbrev pub taken_by : Insn → List Answer → List Effect
taken_by i answers = if is_cpuid i then first_effects answers else effects_by_flow (flow_of i) answers

abbrev pub taken_of : Fetched → List Answer → List Effect
taken_of Absent answers = []
taken_of (Found i len) answers = taken_by i answers
taken_of Unknown answers = []

-- the effects of the answer that a step takes up, whether it is refused or not
abbrev pub taken_up : State → List Effect
taken_up s = taken_of (fetch s.memory s.eip) s.answers
