-- Where an instruction may go. Intel SDM, volume 2; the kinds are this project's own.
use Rattle.std.specs.Prelude.{Bool, true, false}
use Rattle.x86_insn.specs.declared.insn.Insn.{Insn}
use Rattle.x86_insn.specs.declared.insn.Insn.TheVariants as insn
use Rattle.x86_insn.specs.declared.insn.Flow.{Flow}
use Rattle.x86_insn.specs.declared.insn.Flow.TheVariants.{Plain, Jump, Branch, Count, Call, JumpVia, CallVia, Return, Trap, System}

-- an instruction's flow
abbrev pub flow_of : Insn → Flow
flow_of (insn.Alu op width lock dst src) = Plain
flow_of (insn.Test width dst src) = Plain
flow_of (insn.Mov width dst src) = Plain
flow_of (insn.Xchg width lock dst reg) = Plain
flow_of (insn.Lea width dst mem) = Plain
flow_of (insn.Movx signed from to dst src) = Plain
flow_of (insn.Bswap reg) = Plain
flow_of (insn.Push src) = Plain
flow_of (insn.Pop dst) = Plain
flow_of insn.Pushad = Plain
flow_of insn.Popad = Plain
flow_of insn.Pushfd = Plain
flow_of insn.Popfd = Plain
flow_of insn.Leave = Plain
flow_of (insn.Bump up width lock dst) = Plain
flow_of (insn.Unary op width lock dst) = Plain
flow_of (insn.Mul signed width src) = Plain
flow_of (insn.Div signed width src) = Plain
flow_of (insn.Imul width dst src imm) = Plain
flow_of (insn.Shift op width dst count) = Plain
flow_of (insn.Double left dst src count) = Plain
flow_of (insn.Bit op width lock dst index) = Plain
flow_of (insn.Scan up width dst src) = Plain
flow_of (insn.Cmpxchg width lock dst src) = Plain
flow_of (insn.Xadd width lock dst src) = Plain
flow_of (insn.Set cond dst) = Plain
flow_of (insn.Cmov cond width dst src) = Plain
flow_of (insn.Cbw width) = Plain
flow_of (insn.Cwd width) = Plain
flow_of (insn.Str op width rep) = Plain
flow_of insn.Xlat = Plain
flow_of insn.Lahf = Plain
flow_of insn.Sahf = Plain
flow_of (insn.Flag op) = Plain
flow_of insn.Nop = Plain
flow_of insn.Pause = Plain
flow_of insn.Endbr = Plain
flow_of (insn.ToGs src) = Plain
flow_of (insn.FromGs width dst) = Plain
flow_of insn.Cpuid = Plain
flow_of (insn.Jump rel) = Jump
flow_of (insn.Branch cond rel) = Branch
flow_of (insn.Loop kind rel) = Count
flow_of (insn.Call rel) = Call
flow_of (insn.JumpVia src) = JumpVia
flow_of (insn.CallVia src) = CallVia
flow_of (insn.Ret drop) = Return
flow_of insn.Int80 = System
flow_of insn.Int3 = Trap
flow_of insn.Hlt = Trap
flow_of insn.Ud2 = Trap

-- the instruction after this one may be next
abbrev pub falls : Flow → Bool
falls Plain = true
falls Jump = false
falls Branch = true
falls Count = true
falls Call = false
falls JumpVia = false
falls CallVia = false
falls Return = false
falls Trap = false
falls System = true
