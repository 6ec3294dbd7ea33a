-- Which operands an instruction shows, the destination first, then the source, then a count or an immediate. Intel SDM,
-- volume 2. Operands that an instruction always has (the accumulator, the stack, a string's places) are not shown.
use Rattle.std.specs.Prelude.{ℕ, List, [], ◌∷◌, Option, Some, None, ◌==◌, if◌then◌else◌}
use Rattle.mv_base.specs.Memory.{address_after}
use Rattle.x86_insn.specs.declared.insn.Insn.{Insn}
use Rattle.x86_insn.specs.declared.insn.Insn.TheVariants as insn
use Rattle.x86_insn.specs.declared.insn.Width.{Width}
use Rattle.x86_insn.specs.declared.insn.Width.TheVariants.{B, W, D}
use Rattle.x86_insn.specs.declared.insn.Reg.TheVariants.{Ecx}
use Rattle.x86_insn.specs.declared.insn.Rm.{Rm}
use Rattle.x86_insn.specs.declared.insn.Rm.TheVariants as rm
use Rattle.x86_insn.specs.declared.insn.Src.{Src}
use Rattle.x86_insn.specs.declared.insn.Src.TheVariants as src
use Rattle.x86_insn.specs.declared.insn.Count.{Count}
use Rattle.x86_insn.specs.declared.insn.Count.TheVariants as count
use Rattle.insn_text.specs.declared.operand.Operand.{Operand}
use Rattle.insn_text.specs.declared.operand.Operand.TheVariants.{Register, Memory, Address, Number, Gs}

-- a register or memory of a width
abbrev pub place : Width → Rm → Operand
place w (rm.R reg) = Register w reg
place w (rm.M mem) = Memory w mem

-- a selector: in a register of a width, or in memory, which has two bytes of it
abbrev pub selector : Width → Rm → Operand
selector w (rm.R reg) = Register w reg
selector w (rm.M mem) = Memory W mem

-- a register or memory of a width, or an immediate
abbrev pub source : Width → Src → Operand
source w (src.R reg) = Register w reg
source w (src.M mem) = Memory w mem
source w (src.Imm n) = Number n

-- a count: a number, or CL
abbrev pub counted : Count → Operand
counted (count.Imm n) = Number n
counted count.Cl = Register B Ecx

abbrev pub immediate : Option ℕ → List Operand
immediate None = []
immediate (Some n) = Number n ∷ []

-- what a return drops, where it drops anything
abbrev pub dropped : ℕ → List Operand
dropped n = if n == 0 then [] else Number n ∷ []

-- the operands of an instruction, where `next` is the address behind it; that of a direct transfer is where it goes
abbrev pub operands : Insn → ℕ → List Operand
operands (insn.Alu op w lock dst s) next = place w dst ∷ source w s ∷ []
operands (insn.Test w dst s) next = place w dst ∷ source w s ∷ []
operands (insn.Mov w dst s) next = place w dst ∷ source w s ∷ []
operands (insn.Xchg w lock dst reg) next = place w dst ∷ Register w reg ∷ []
operands (insn.Lea w dst mem) next = Register w dst ∷ Address mem ∷ []
operands (insn.Movx signed from to dst s) next = Register to dst ∷ place from s ∷ []
operands (insn.Bswap reg) next = Register D reg ∷ []
operands (insn.Push s) next = source D s ∷ []
operands (insn.Pop dst) next = place D dst ∷ []
operands (insn.Bump up w lock dst) next = place w dst ∷ []
operands (insn.Unary op w lock dst) next = place w dst ∷ []
operands (insn.Mul signed w s) next = place w s ∷ []
operands (insn.Div signed w s) next = place w s ∷ []
operands (insn.Imul w dst s imm) next = Register w dst ∷ place w s ∷ immediate imm
operands (insn.Shift op w dst n) next = place w dst ∷ counted n ∷ []
operands (insn.Double left dst s n) next = place D dst ∷ Register D s ∷ counted n ∷ []
operands (insn.Bit op w lock dst index) next = place w dst ∷ source w index ∷ []
operands (insn.Scan up w dst s) next = Register w dst ∷ place w s ∷ []
operands (insn.Cmpxchg w lock dst s) next = place w dst ∷ Register w s ∷ []
operands (insn.Xadd w lock dst s) next = place w dst ∷ Register w s ∷ []
operands (insn.Set condition dst) next = place B dst ∷ []
operands (insn.Cmov condition w dst s) next = Register w dst ∷ place w s ∷ []
operands (insn.ToGs s) next = Gs ∷ selector W s ∷ []
operands (insn.FromGs w dst) next = selector w dst ∷ Gs ∷ []
operands (insn.Jump rel) next = Number (address_after next rel) ∷ []
operands (insn.Branch condition rel) next = Number (address_after next rel) ∷ []
operands (insn.Loop kind rel) next = Number (address_after next rel) ∷ []
operands (insn.Call rel) next = Number (address_after next rel) ∷ []
operands (insn.JumpVia s) next = place D s ∷ []
operands (insn.CallVia s) next = place D s ∷ []
operands (insn.Ret n) next = dropped n
operands insn.Int80 next = Number 0x80 ∷ []
operands i next = []
