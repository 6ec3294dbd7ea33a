-- What a step of the machine gives: the step of the definition, or want of pages or memory. This project's own.
use Rattle.std.specs.Prelude.{◌≡◌, ℕ, ◌+◌, ◌≤◌, List, length, drop}
use Rattle.mv_base.specs.Memory.{Memory}
use Rattle.mv_base.specs.Effects.{Effect, Answer, describe_all, descriptors_in}
use Rattle.x86_insn.specs.declared.registers.Core.{Core}
use Rattle.x86_insn.specs.declared.stop.Stop.{Stop}
use Rattle.x86_insn.specs.declared.stop.Stop.TheVariants as stop
use Rattle.x86_insn.specs.State.{State}
use Rattle.x86_insn.specs.State as state
use Rattle.x86_insn.specs.Step.{step}
use Rattle.x86_insn.specs.TakenUp.{applied_by}
use Rattle.syscall_log.specs.declared.log.Log.{Log}
use Rattle.syscall_log.specs.Meaning.{answers_of}
use Rattle.proc_image.specs.declared.effects.EffectFault.{EffectFault}
use Rattle.proc_image.specs.declared.effects.EffectFault.TheVariants as fault
use Rattle.proc_image.specs.Paged.{cells}
use Rattle.x86_machine.specs.Bounded.{apply_bounded, Beyond, IsWithin, PassesBound, WantsMemory}
use Rattle.x86_machine.specs.declared.machine.Machine.{Machine}
use Rattle.x86_machine.specs.declared.machine.Outcome.{Outcome}
use Rattle.x86_machine.specs.declared.machine.Outcome.TheVariants.{Next, Trap, Outside, NoAnswer, BadAnswer, Gone, TooLarge, NoMemory}

-- the answers of a log from a number on
abbrev pub answers_from : Log → ℕ → List Answer
answers_from log next = answers_of (drop next log.answers)

-- the registers, the flags and GS of a machine
abbrev pub core_of : Machine → Core
core_of m = record { regs = m.regs; flags = m.flags; gs = m.gs; gs_base = m.gs_base }

-- the state that a machine is in, with the answers that are left
abbrev pub state_of : Machine → List Answer → State
state_of m answers = record { core = core_of m; descs = m.descs.made; eip = m.eip; memory = cells m.memory; answers = answers; calls = m.calls.made }

-- an outcome of the definition, and no map of the effects goes beyond the bound
pub record Comes (effects : List Effect) (outcome : state.Outcome) (s : State) (own : state.Outcome) : Type 0 where
  pub is : outcome ≡ own
  pub within : IsWithin (apply_bounded s.memory effects)

-- nothing but memory and descriptors has changed, in which the effects before the map stand
pub record GoesBeyond (effects : List Effect) (s : State) (size : ℕ) (after : State) : Type 0 where
  pub memory : Memory
  pub beyond : apply_bounded s.memory effects ≡ Beyond size memory
  pub passes : PassesBound s.memory effects size memory
  pub same : after ≡ record s { memory = memory; descs = describe_all s.memory passes.before s.descs }

pub record LacksMemory (effects : List Effect) (s after : State) : Type 0 where
  pub memory : Memory
  pub wants : WantsMemory s.memory effects memory
  pub same : after ≡ record s { memory = memory; descs = describe_all s.memory wants.before s.descs }

-- what a machine in a state s, which applies these effects, comes to where the definition has an outcome; t is the
-- state after it
abbrev pub ComesTo : List Effect → state.Outcome → State → Outcome → State → Type 0
ComesTo effects outcome s Next t = Comes effects outcome s (state.Next t)
ComesTo effects outcome s (Trap kind at) t = Comes effects outcome s (state.Stopped (stop.Trap kind at) t)
ComesTo effects outcome s Outside t = Comes effects outcome s (state.Stopped stop.Outside t)
ComesTo effects outcome s NoAnswer t = Comes effects outcome s (state.Stopped stop.NoAnswer t)
ComesTo effects outcome s BadAnswer t = Comes effects outcome s (state.Stopped stop.BadAnswer t)
ComesTo effects outcome s Gone t = Comes effects outcome s (state.Stopped stop.Gone t)
ComesTo effects outcome s (TooLarge size) t = GoesBeyond effects s size t
ComesTo effects outcome s NoMemory t = LacksMemory effects s t

-- a step's outcome, by the states before and after it
abbrev pub IsStep : State → Outcome → State → Type 0
IsStep s result t = ComesTo (applied_by s) (step s) s result t

-- a call made lowers the spare of the calls by one, a new index that of the descriptors, and nothing else lowers them
pub record KeepsRoom (m n : Machine) : Type 0 where
  pub calls : m.calls.spare + length m.calls.made ≤ n.calls.spare + length n.calls.made
  pub descs : m.descs.spare + length m.descs.made ≤ n.descs.spare + length n.descs.made

-- there is room for the descriptors of the answers from a number on
abbrev pub HasRoom : Machine → Log → ℕ → Type 0
HasRoom m log next = descriptors_in (answers_from log next) ≤ m.descs.spare

-- the outcome of a stop, and of an effect that is not applied
abbrev pub outcome_of : Stop → Outcome
outcome_of (stop.Trap kind at) = Trap kind at
outcome_of stop.Outside = Outside
outcome_of stop.NoAnswer = NoAnswer
outcome_of stop.BadAnswer = BadAnswer
outcome_of stop.Gone = Gone

abbrev pub refused_as : EffectFault → Outcome
refused_as fault.Executable = Outside
refused_as (fault.NotMapped a) = BadAnswer
refused_as (fault.NotWritable a) = BadAnswer
refused_as (fault.TooLarge size) = TooLarge size
refused_as fault.NoMemory = NoMemory
