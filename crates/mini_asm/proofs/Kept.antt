-- What of an instruction its text alone can't tell: that factors are such, that numbers fit, and widths that make no
-- difference in the text.
use Rattle.std.proofs.Common.{ℕ, ◌^◌, ◌<◌, Option, Some, None}
use Rattle.x86_insn.specs.declared.insn.Count.{Count}
use Rattle.x86_insn.specs.declared.insn.Count.TheVariants as count
use Rattle.x86_insn.specs.declared.insn.Insn.{Insn}
use Rattle.x86_insn.specs.declared.insn.Insn.TheVariants as insn
use Rattle.x86_insn.specs.declared.insn.Mem.{Mem}
use Rattle.x86_insn.specs.declared.insn.Reg.{Reg}
use Rattle.x86_insn.specs.declared.insn.Rm.{Rm}
use Rattle.x86_insn.specs.declared.insn.Rm.TheVariants as rm
use Rattle.x86_insn.specs.declared.insn.Src.{Src}
use Rattle.x86_insn.specs.declared.insn.Src.TheVariants as src
use Rattle.x86_insn.specs.declared.insn.Width.{Width}
use Rattle.x86_insn.specs.declared.insn.Width.TheVariants.{B, W, D}

pub data Factor : ℕ → Type 0 where
  One : Factor 1
  Two : Factor 2
  Four : Factor 4
  Eight : Factor 8

abbrev pub IndexKept : Option (Reg × ℕ) → Type 0
IndexKept None = Unit {0}
IndexKept (Some p) = Factor p.1

pub record MemKept (m : Mem) : Type 0 where
  pub low : m.disp < 2 ^ 32
  pub factor : IndexKept m.index

abbrev pub RmKept : Rm → Type 0
RmKept (rm.R r) = Unit {0}
RmKept (rm.M m) = MemKept m

abbrev pub SrcKept : Src → Type 0
SrcKept (src.R r) = Unit {0}
SrcKept (src.M m) = MemKept m
SrcKept (src.Imm n) = n < 2 ^ 32

abbrev pub CountKept : Count → Type 0
CountKept (count.Imm n) = n < 2 ^ 8
CountKept count.Cl = Unit {0}

abbrev pub ImmediateKept : Option ℕ → Type 0
ImmediateKept None = Unit {0}
ImmediateKept (Some n) = n < 2 ^ 32

-- the accumulator is widened from a byte or from a word
abbrev pub Wide : Width → Type 0
Wide B = ⊥
Wide W = Unit {0}
Wide D = Unit {0}

-- a selector in memory has two bytes
abbrev pub Selected : Width → Rm → Type 0
Selected w (rm.R r) = Unit {0}
Selected B (rm.M m) = ⊥
Selected W (rm.M m) = MemKept m
Selected D (rm.M m) = ⊥

abbrev pub Kept : Insn → Type 0
Kept (insn.Alu op w lock dst s) = RmKept dst × SrcKept s
Kept (insn.Test w dst s) = RmKept dst × SrcKept s
Kept (insn.Mov w dst s) = RmKept dst × SrcKept s
Kept (insn.Xchg w lock dst reg) = RmKept dst
Kept (insn.Lea w dst m) = MemKept m
Kept (insn.Movx signed from to dst s) = RmKept s
Kept (insn.Push s) = SrcKept s
Kept (insn.Pop dst) = RmKept dst
Kept (insn.Bump up w lock dst) = RmKept dst
Kept (insn.Unary op w lock dst) = RmKept dst
Kept (insn.Mul signed w s) = RmKept s
Kept (insn.Div signed w s) = RmKept s
Kept (insn.Imul w dst s imm) = RmKept s × ImmediateKept imm
Kept (insn.Shift op w dst n) = RmKept dst × CountKept n
Kept (insn.Double left dst s n) = RmKept dst × CountKept n
Kept (insn.Bit op w lock dst index) = RmKept dst × SrcKept index
Kept (insn.Scan up w dst s) = RmKept s
Kept (insn.Cmpxchg w lock dst s) = RmKept dst
Kept (insn.Xadd w lock dst s) = RmKept dst
Kept (insn.Set cond dst) = RmKept dst
Kept (insn.Cmov cond w dst s) = RmKept s
Kept (insn.Cbw w) = Wide w
Kept (insn.Cwd w) = Wide w
Kept (insn.ToGs s) = RmKept s
Kept (insn.FromGs w dst) = Selected w dst
Kept (insn.Jump rel) = rel < 2 ^ 32
Kept (insn.Branch cond rel) = rel < 2 ^ 32
Kept (insn.Loop kind rel) = rel < 2 ^ 32
Kept (insn.Call rel) = rel < 2 ^ 32
Kept (insn.JumpVia s) = RmKept s
Kept (insn.CallVia s) = RmKept s
Kept (insn.Ret n) = n < 2 ^ 16
Kept i = Unit {0}
