-- The bounds that every state of a run keeps. This project's own.
use Rattle.std.specs.Prelude.{◌^◌, ◌<◌}
use Rattle.std.specs.List.{AllByRecursion}
use Rattle.mv_base.specs.Memory.{IsMemory}
use Rattle.mv_base.specs.Effects.{IsAnswer}
use Rattle.x86_insn.specs.State.{IsCore, State, Outcome, Next, Stopped}

-- eight registers, a base of GS, bases of descriptors and an instruction pointer of 32 bits, a selector of 16, cells that
-- are bytes and lie below 0xFFFFF000, and answers that keep the bounds of a log
pub record IsState (s : State) : Type 0 where
  pub core : IsCore s.core
  pub descs : AllByRecursion (λ d. d.1 < 2 ^ 32) s.descs
  pub place : s.eip < 2 ^ 32
  pub memory : IsMemory s.memory
  pub answers : AllByRecursion IsAnswer s.answers

-- the state that a step comes to or stops with
abbrev pub IsOutcome : Outcome → Type 0
IsOutcome (Next s) = IsState s
IsOutcome (Stopped why s) = IsState s
