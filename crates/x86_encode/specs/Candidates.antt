-- The kinds of row that spell an instruction, with the operands: no instruction has more than two. An operand that the
-- kind doesn't use has the value that `plain` gives it. Intel SDM, volume 2.
use Rattle.std.specs.Prelude.{ℕ, Bool, true, false, Option, Some, None, ◌==◌, if◌then◌else◌}
use Rattle.x86_insn.specs.declared.insn.Insn.{Insn}
use Rattle.x86_insn.specs.declared.insn.Insn.TheVariants.{Alu, Test, Mov, Xchg, Lea, Movx, Bswap, Push, Pop, Pushad, Popad, Pushfd, Popfd, Leave, Bump, Unary, Mul, Div, Imul, Shift, Double, Bit, Scan, Cmpxchg, Xadd, Set, Cmov, Cbw, Cwd, Str, Xlat, Lahf, Sahf, Flag, Nop, Pause, Endbr, ToGs, FromGs, Cpuid, Jump, Branch, Loop, Call, JumpVia, CallVia, Ret, Int80, Int3, Hlt, Ud2}
use Rattle.x86_insn.specs.declared.insn.Mem.{Mem}
use Rattle.x86_insn.specs.declared.insn.Reg.{Reg}
use Rattle.x86_insn.specs.declared.insn.Reg.TheVariants.{Eax}
use Rattle.x86_insn.specs.declared.insn.Rep.{Rep}
use Rattle.x86_insn.specs.declared.insn.Rep.TheVariants.{Once, F3}
use Rattle.x86_insn.specs.declared.insn.Rm.{Rm}
use Rattle.x86_insn.specs.declared.insn.Rm.TheVariants as rm
use Rattle.x86_insn.specs.declared.insn.Src.TheVariants as src
use Rattle.x86_insn.specs.declared.insn.Count.TheVariants as count
use Rattle.x86_insn.specs.declared.insn.Width.{Width}
use Rattle.x86_insn.specs.declared.insn.Width.TheVariants.{B, W, D}
use Rattle.x86_insn.specs.declared.row.Kind.{Kind}
use Rattle.x86_insn.specs.declared.row.Kind.TheVariants as kind
use Rattle.x86_insn.specs.declared.row.Marks.{Marks}
use Rattle.x86_insn.specs.declared.row.Operands.{Operands}
use Rattle.x86_insn.specs.State.{reg_number}
use Rattle.x86_insn.specs.Meaning.{cond_number}
use Rattle.x86_encode.specs.declared.candidates.Candidate.{Candidate}

abbrev pub is_word : Width → Bool
is_word B = false
is_word W = true
is_word D = false

-- memory relative to GS
abbrev pub is_gs : Rm → Bool
is_gs (rm.R r) = false
is_gs (rm.M m) = m.gs

abbrev pub marks : Width → Bool → Rep → Bool → Marks
marks w lock rep gs = record { word = is_word w; lock = lock; rep = rep; gs = gs }

abbrev pub operands : Width → Bool → Rep → ℕ → Reg → Rm → ℕ → Operands
operands w lock rep number r x n = record { width = w; marks = marks w lock rep (is_gs x); opcode = number; reg = r; rm = x; immediate = n }

-- a kind with its operands, those that it doesn't use left out
abbrev pub alone : Kind → Width → Rep → Option Candidate
alone k w rep = Some (record { kind = k; operands = operands w false rep 0 Eax (rm.R Eax) 0 })

abbrev pub of_rm : Kind → Width → Bool → Rm → Reg → ℕ → Option Candidate
of_rm k w lock x r n = Some (record { kind = k; operands = operands w lock Once 0 r x n })

abbrev pub of_number : Kind → Width → ℕ → ℕ → Option Candidate
of_number k w number n = Some (record { kind = k; operands = operands w false Once number Eax (rm.R Eax) n })

-- with memory whose address is the immediate
abbrev pub of_address : Kind → Width → Mem → Option Candidate
of_address k w m = of_rm k w false (rm.M m) Eax m.disp

abbrev pub of_condition : Kind → Width → ℕ → Rm → Reg → Option Candidate
of_condition k w number x r = Some (record { kind = k; operands = operands w false Once number r x 0 })

-- only without F0
abbrev pub if_unlocked : Bool → Option Candidate → Option Candidate
if_unlocked false c = c
if_unlocked true c = None

-- only for AL, AX or EAX
abbrev pub if_accumulator : Reg → Option Candidate → Option Candidate
if_accumulator r c = if reg_number r == 0 then c else None

-- only for memory at an address without registers
abbrev pub if_absolute : Option Reg → Option (Reg × ℕ) → Option Candidate → Option Candidate
if_absolute None None c = c
if_absolute None (Some p) c = None
if_absolute (Some b) x c = None

-- the kind whose rows spell the instruction with the fewest conditions
unfoldable pub general : Insn → Option Candidate
general (Alu op w lock dst (src.R r)) = of_rm (kind.AluRmReg op) w lock dst r 0
general (Alu op w lock dst (src.Imm n)) = of_rm (kind.AluRmImm op) w lock dst Eax n
general (Alu op w lock (rm.R r) (src.M m)) = if_unlocked lock (of_rm (kind.AluRegRm op) w false (rm.M m) r 0)
general (Alu op w lock (rm.M x) (src.M m)) = None
general (Test w dst (src.R r)) = of_rm kind.TestRmReg w false dst r 0
general (Test w dst (src.Imm n)) = of_rm kind.TestRmImm w false dst Eax n
general (Test w dst (src.M m)) = None
general (Mov w dst (src.R r)) = of_rm kind.MovRmReg w false dst r 0
general (Mov w dst (src.Imm n)) = of_rm kind.MovRmImm w false dst Eax n
general (Mov w (rm.R r) (src.M m)) = of_rm kind.MovRegRm w false (rm.M m) r 0
general (Mov w (rm.M x) (src.M m)) = None
general (Xchg w lock dst r) = of_rm kind.XchgRmReg w lock dst r 0
general (Lea w r m) = of_rm kind.Lea w false (rm.M m) r 0
general (Movx signed from w r x) = of_rm (kind.Movx signed from) w false x r 0
general (Bswap r) = of_number kind.Bswap D (reg_number r) 0
general (Push (src.R r)) = of_rm kind.PushRm D false (rm.R r) Eax 0
general (Push (src.M m)) = of_rm kind.PushRm D false (rm.M m) Eax 0
general (Push (src.Imm n)) = of_number kind.PushImm D 0 n
general (Pop x) = of_rm kind.PopRm D false x Eax 0
general Pushad = alone kind.Pushad D Once
general Popad = alone kind.Popad D Once
general Pushfd = alone kind.Pushfd D Once
general Popfd = alone kind.Popfd D Once
general Leave = alone kind.Leave D Once
general (Bump up w lock x) = of_rm (kind.BumpRm up) w lock x Eax 0
general (Unary op w lock x) = of_rm (kind.Unary op) w lock x Eax 0
general (Mul signed w x) = of_rm (kind.Mul signed) w false x Eax 0
general (Div signed w x) = of_rm (kind.Div signed) w false x Eax 0
general (Imul w r x None) = of_rm kind.ImulRegRm w false x r 0
general (Imul w r x (Some n)) = of_rm kind.ImulRegRmImm w false x r n
general (Shift op w x (count.Imm n)) = of_rm (kind.ShiftImm op) w false x Eax n
general (Shift op w x count.Cl) = of_rm (kind.ShiftCl op) w false x Eax 0
general (Double left x r (count.Imm n)) = of_rm (kind.DoubleImm left) D false x r n
general (Double left x r count.Cl) = of_rm (kind.DoubleCl left) D false x r 0
general (Bit op w lock x (src.R r)) = of_rm (kind.BitReg op) w lock x r 0
general (Bit op w lock x (src.Imm n)) = of_rm (kind.BitImm op) w lock x Eax n
general (Bit op w lock x (src.M m)) = None
general (Scan up w r x) = of_rm (kind.Scan up) w false x r 0
general (Cmpxchg w lock x r) = of_rm kind.Cmpxchg w lock x r 0
general (Xadd w lock x r) = of_rm kind.Xadd w lock x r 0
general (Set c x) = of_condition kind.Set B (cond_number c) x Eax
general (Cmov c w r x) = of_condition kind.Cmov w (cond_number c) x r
general (Cbw w) = alone kind.Cbw w Once
general (Cwd w) = alone kind.Cwd w Once
general (Str op w rep) = alone (kind.Str op) w rep
general Xlat = alone kind.Xlat D Once
general Lahf = alone kind.Lahf D Once
general Sahf = alone kind.Sahf D Once
general (Flag op) = alone (kind.Flag op) D Once
general Nop = alone kind.Nop D Once
general Pause = alone kind.Pause D F3
general Endbr = alone kind.Endbr D F3
general (ToGs x) = of_rm kind.ToGs D false x Eax 0
general (FromGs w (rm.R r)) = of_rm kind.FromGs w false (rm.R r) Eax 0
general (FromGs W (rm.M m)) = of_rm kind.FromGs D false (rm.M m) Eax 0
general (FromGs B (rm.M m)) = None
general (FromGs D (rm.M m)) = None
general Cpuid = alone kind.Cpuid D Once
general (Jump n) = of_number kind.Jump D 0 n
general (Branch c n) = of_number kind.Branch D (cond_number c) n
general (Loop which n) = of_number (kind.Loop which) D 0 n
general (Call n) = of_number kind.Call D 0 n
general (JumpVia x) = of_rm kind.JumpVia D false x Eax 0
general (CallVia x) = of_rm kind.CallVia D false x Eax 0
general (Ret n) = of_number kind.Ret D 0 n
general Int80 = alone kind.Int80 D Once
general Int3 = alone kind.Int3 D Once
general Hlt = alone kind.Hlt D Once
general Ud2 = alone kind.Ud2 D Once

-- another kind: the register in the opcode, the accumulator, the other direction, a shift by 1, memory without registers
unfoldable pub special : Insn → Option Candidate
special (Alu op w lock (rm.R r) (src.R s)) = if_unlocked lock (of_rm (kind.AluRegRm op) w false (rm.R s) r 0)
special (Alu op w lock (rm.R r) (src.Imm n)) = if_unlocked lock (if_accumulator r (of_number (kind.AluAccImm op) w 0 n))
special (Test w (rm.R r) (src.Imm n)) = if_accumulator r (of_number kind.TestAccImm w 0 n)
special (Mov w (rm.R r) (src.R s)) = of_rm kind.MovRegRm w false (rm.R s) r 0
special (Mov w (rm.R r) (src.Imm n)) = of_number kind.MovRegImm w (reg_number r) n
special (Mov w (rm.R r) (src.M m)) = if_accumulator r (if_absolute m.base m.index (of_address kind.MovAccAt w m))
special (Mov w (rm.M m) (src.R r)) = if_accumulator r (if_absolute m.base m.index (of_address kind.MovAtAcc w m))
special (Xchg w lock (rm.R r) s) = if_unlocked lock (if_accumulator s (of_number kind.XchgRegAcc w (reg_number r) 0))
special (Push (src.R r)) = of_number kind.PushReg D (reg_number r) 0
special (Pop (rm.R r)) = of_number kind.PopReg D (reg_number r) 0
special (Bump up w lock (rm.R r)) = if_unlocked lock (of_number (kind.BumpReg up) w (reg_number r) 0)
special (Shift op w x (count.Imm n)) = if n == 1 then of_rm (kind.ShiftOne op) w false x Eax 0 else None
special i = None
