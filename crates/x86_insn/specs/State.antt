-- The state of the user machine. Intel SDM, volume 1, chapter 3; the answers and calls are this project's own.
use Rattle.std.specs.Prelude.{◌≡◌, ℕ, ◌^◌, ◌<◌, List, length, slice_index, IfSome}
use Rattle.mv_base.specs.Memory.{Memory}
use Rattle.mv_base.specs.Effects.{Answer, Descs}
use Rattle.x86_insn.specs.declared.insn.Reg.{Reg}
use Rattle.x86_insn.specs.declared.insn.Reg.TheVariants.{Eax, Ecx, Edx, Ebx, Esp, Ebp, Esi, Edi}
pub use Rattle.x86_insn.specs.declared.registers.Core.{Core}
pub use Rattle.x86_insn.specs.declared.stop.Kind.{Kind}
pub use Rattle.x86_insn.specs.declared.stop.Kind.TheVariants.{ReadFault, WriteFault, FetchFault, Divide, Breakpoint, Invalid, Protection}
pub use Rattle.x86_insn.specs.declared.stop.Stop.{Stop}
pub use Rattle.x86_insn.specs.declared.stop.Stop.TheVariants.{Trap, Outside, NoAnswer, BadAnswer, Gone}

-- a core (the type stands in src/) is what an instruction may change without memory: the eight general registers by
-- their number, the flags, and GS, with a base or without one
pub record IsCore (c : Core) : Type 0 where
  pub eight : length c.regs ≡ 8
  pub fits : (k : ℕ) → slice_index c.regs k < 2 ^ 32
  pub selector : c.gs < 2 ^ 16
  pub base : IfSome c.gs_base (λ b. b < 2 ^ 32)

-- a state: core, the descriptors that GS may be loaded from, instruction pointer, memory, the answers left, and the calls
-- made, the oldest first
pub record State : Type 0 where
  pub core : Core
  pub descs : Descs
  pub eip : ℕ
  pub memory : Memory
  pub answers : List Answer
  pub calls : List (List ℕ)

-- a register's number
abbrev pub reg_number : Reg → ℕ
reg_number Eax = 0
reg_number Ecx = 1
reg_number Edx = 2
reg_number Ebx = 3
reg_number Esp = 4
reg_number Ebp = 5
reg_number Esi = 6
reg_number Edi = 7

-- what a step gives: the next state, or a stop and the state there
pub data Outcome : Type 0 where
  Next : (s : State) → Outcome
  Stopped : (why : Stop) (s : State) → Outcome
