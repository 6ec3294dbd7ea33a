-- What each kind of row spells, of the operands that the bytes name. Intel SDM, volume 2.
use Rattle.std.specs.Prelude.{ℕ, zero, suc, ◌%◌, ◌^◌, Bool, false, Some, None}
use Rattle.x86_insn.specs.declared.insn.Insn.{Insn}
use Rattle.x86_insn.specs.declared.insn.Insn.TheVariants as insn
use Rattle.x86_insn.specs.declared.insn.Reg.TheVariants.{Eax}
use Rattle.x86_insn.specs.declared.insn.Mem.{Mem}
use Rattle.x86_insn.specs.declared.insn.Rm.{Rm}
use Rattle.x86_insn.specs.declared.insn.Rm.TheVariants as rm
use Rattle.x86_insn.specs.declared.insn.Src.{Src}
use Rattle.x86_insn.specs.declared.insn.Src.TheVariants as src
use Rattle.x86_insn.specs.declared.insn.Count.TheVariants as count
use Rattle.x86_insn.specs.declared.insn.Cond.{Cond}
use Rattle.x86_insn.specs.declared.insn.Cond.TheVariants.{O, No, B, Ae, E, Ne, Be, A, S, Ns, P, Np, L, Ge, Le, G}
use Rattle.x86_insn.specs.declared.insn.Width.{Width}
use Rattle.x86_insn.specs.declared.insn.Width.TheVariants as width
use Rattle.x86_insn.specs.declared.row.Kind.{Kind}
use Rattle.x86_insn.specs.declared.row.Kind.TheVariants as kind
use Rattle.x86_insn.specs.declared.row.Operands.{Operands}
use Rattle.x86_insn.specs.Addressing.{reg_of}

-- the condition of a number
abbrev pub cond_of : ℕ → Cond
cond_of zero = O
cond_of (suc zero) = No
cond_of (suc (suc zero)) = B
cond_of (suc (suc (suc zero))) = Ae
cond_of (suc (suc (suc (suc zero)))) = E
cond_of (suc (suc (suc (suc (suc zero))))) = Ne
cond_of (suc (suc (suc (suc (suc (suc zero)))))) = Be
cond_of (suc (suc (suc (suc (suc (suc (suc zero))))))) = A
cond_of (suc (suc (suc (suc (suc (suc (suc (suc zero)))))))) = S
cond_of (suc (suc (suc (suc (suc (suc (suc (suc (suc zero))))))))) = Ns
cond_of (suc (suc (suc (suc (suc (suc (suc (suc (suc (suc zero)))))))))) = P
cond_of (suc (suc (suc (suc (suc (suc (suc (suc (suc (suc (suc zero))))))))))) = Np
cond_of (suc (suc (suc (suc (suc (suc (suc (suc (suc (suc (suc (suc zero)))))))))))) = L
cond_of (suc (suc (suc (suc (suc (suc (suc (suc (suc (suc (suc (suc (suc zero))))))))))))) = Ge
cond_of (suc (suc (suc (suc (suc (suc (suc (suc (suc (suc (suc (suc (suc (suc zero)))))))))))))) = Le
cond_of (suc (suc (suc (suc (suc (suc (suc (suc (suc (suc (suc (suc (suc (suc (suc n))))))))))))))) = G

-- a condition's number
abbrev pub cond_number : Cond → ℕ
cond_number O = 0
cond_number No = 1
cond_number B = 2
cond_number Ae = 3
cond_number E = 4
cond_number Ne = 5
cond_number Be = 6
cond_number A = 7
cond_number S = 8
cond_number Ns = 9
cond_number P = 10
cond_number Np = 11
cond_number L = 12
cond_number Ge = 13
cond_number Le = 14
cond_number G = 15

-- an operand that may be written, read alone
abbrev pub source_of : Rm → Src
source_of (rm.R r) = src.R r
source_of (rm.M m) = src.M m

-- memory at an address, without registers, relative to GS or not
abbrev pub at_address : Bool → ℕ → Mem
at_address gs a = record { base = None; index = None; disp = a; gs = gs }

-- the memory of an operand; a register has none, and no row that asks for it may have one
abbrev pub memory_in : Rm → Mem
memory_in (rm.R r) = at_address false 0
memory_in (rm.M m) = m

-- a selector has two bytes in memory
abbrev pub selector_width : Width → Rm → Width
selector_width w (rm.R r) = w
selector_width w (rm.M m) = width.W

abbrev pub meaning : Kind → Operands → Insn
meaning (kind.AluRmReg op) o = insn.Alu op o.width o.marks.lock o.rm (src.R o.reg)
meaning (kind.AluRegRm op) o = insn.Alu op o.width false (rm.R o.reg) (source_of o.rm)
meaning (kind.AluAccImm op) o = insn.Alu op o.width false (rm.R Eax) (src.Imm o.immediate)
meaning (kind.AluRmImm op) o = insn.Alu op o.width o.marks.lock o.rm (src.Imm o.immediate)
meaning kind.TestRmReg o = insn.Test o.width o.rm (src.R o.reg)
meaning kind.TestAccImm o = insn.Test o.width (rm.R Eax) (src.Imm o.immediate)
meaning kind.TestRmImm o = insn.Test o.width o.rm (src.Imm o.immediate)
meaning kind.MovRmReg o = insn.Mov o.width o.rm (src.R o.reg)
meaning kind.MovRegRm o = insn.Mov o.width (rm.R o.reg) (source_of o.rm)
meaning kind.MovRegImm o = insn.Mov o.width (rm.R (reg_of (o.opcode % 8))) (src.Imm o.immediate)
meaning kind.MovRmImm o = insn.Mov o.width o.rm (src.Imm o.immediate)
meaning kind.MovAccAt o = insn.Mov o.width (rm.R Eax) (src.M (at_address o.marks.gs o.immediate))
meaning kind.MovAtAcc o = insn.Mov o.width (rm.M (at_address o.marks.gs o.immediate)) (src.R Eax)
meaning kind.XchgRmReg o = insn.Xchg o.width o.marks.lock o.rm o.reg
meaning kind.XchgRegAcc o = insn.Xchg o.width false (rm.R (reg_of (o.opcode % 8))) Eax
meaning kind.Lea o = insn.Lea o.width o.reg (memory_in o.rm)
meaning (kind.Movx signed from) o = insn.Movx signed from o.width o.reg o.rm
meaning kind.Bswap o = insn.Bswap (reg_of (o.opcode % 8))
meaning kind.PushReg o = insn.Push (src.R (reg_of (o.opcode % 8)))
meaning kind.PushImm o = insn.Push (src.Imm o.immediate)
meaning kind.PushRm o = insn.Push (source_of o.rm)
meaning kind.PopReg o = insn.Pop (rm.R (reg_of (o.opcode % 8)))
meaning kind.PopRm o = insn.Pop o.rm
meaning (kind.BumpReg up) o = insn.Bump up o.width false (rm.R (reg_of (o.opcode % 8)))
meaning (kind.BumpRm up) o = insn.Bump up o.width o.marks.lock o.rm
meaning (kind.Unary op) o = insn.Unary op o.width o.marks.lock o.rm
meaning (kind.Mul signed) o = insn.Mul signed o.width o.rm
meaning (kind.Div signed) o = insn.Div signed o.width o.rm
meaning kind.ImulRegRm o = insn.Imul o.width o.reg o.rm None
meaning kind.ImulRegRmImm o = insn.Imul o.width o.reg o.rm (Some o.immediate)
meaning (kind.ShiftImm op) o = insn.Shift op o.width o.rm (count.Imm (o.immediate % 2 ^ 8))
meaning (kind.ShiftOne op) o = insn.Shift op o.width o.rm (count.Imm 1)
meaning (kind.ShiftCl op) o = insn.Shift op o.width o.rm count.Cl
meaning (kind.DoubleImm left) o = insn.Double left o.rm o.reg (count.Imm (o.immediate % 2 ^ 8))
meaning (kind.DoubleCl left) o = insn.Double left o.rm o.reg count.Cl
meaning (kind.BitReg op) o = insn.Bit op o.width o.marks.lock o.rm (src.R o.reg)
meaning (kind.BitImm op) o = insn.Bit op o.width o.marks.lock o.rm (src.Imm o.immediate)
meaning (kind.Scan up) o = insn.Scan up o.width o.reg o.rm
meaning kind.Cmpxchg o = insn.Cmpxchg o.width o.marks.lock o.rm o.reg
meaning kind.Xadd o = insn.Xadd o.width o.marks.lock o.rm o.reg
meaning kind.Set o = insn.Set (cond_of (o.opcode % 16)) o.rm
meaning kind.Cmov o = insn.Cmov (cond_of (o.opcode % 16)) o.width o.reg o.rm
meaning kind.Cbw o = insn.Cbw o.width
meaning kind.Cwd o = insn.Cwd o.width
meaning (kind.Str op) o = insn.Str op o.width o.marks.rep
meaning (kind.Flag op) o = insn.Flag op
meaning kind.Pushad o = insn.Pushad
meaning kind.Popad o = insn.Popad
meaning kind.Pushfd o = insn.Pushfd
meaning kind.Popfd o = insn.Popfd
meaning kind.Leave o = insn.Leave
meaning kind.Xlat o = insn.Xlat
meaning kind.Lahf o = insn.Lahf
meaning kind.Sahf o = insn.Sahf
meaning kind.Nop o = insn.Nop
meaning kind.Pause o = insn.Pause
meaning kind.Endbr o = insn.Endbr
meaning kind.ToGs o = insn.ToGs o.rm
meaning kind.FromGs o = insn.FromGs (selector_width o.width o.rm) o.rm
meaning kind.Cpuid o = insn.Cpuid
meaning kind.Jump o = insn.Jump o.immediate
meaning kind.Branch o = insn.Branch (cond_of (o.opcode % 16)) o.immediate
meaning (kind.Loop which) o = insn.Loop which o.immediate
meaning kind.Call o = insn.Call o.immediate
meaning kind.JumpVia o = insn.JumpVia o.rm
meaning kind.CallVia o = insn.CallVia o.rm
meaning kind.Ret o = insn.Ret (o.immediate % 2 ^ 16)
meaning kind.Int80 o = insn.Int80
meaning kind.Int3 o = insn.Int3
meaning kind.Hlt o = insn.Hlt
meaning kind.Ud2 o = insn.Ud2
