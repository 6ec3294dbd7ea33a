-- What each kind of row takes of its operands, and that the candidates of an instruction are the kinds that spell it.
use Rattle.std.proofs.Common.{◌≡◌, ℕ, ◌%◌, ◌^◌, ◌<◌, Bool, true, false, ◌⊎◌, Option, Some, None, refl, sym, ap, subst, inl, inr, arith}
use Rattle.std.specs.Prelude.{◌==◌, if◌then◌else◌}
use Rattle.std.proofs.lemmas.Bool.{eqb-true}
use Rattle.x86_insn.specs.declared.insn.Insn.{Insn}
use Rattle.x86_insn.specs.declared.insn.Insn.TheVariants as insn
use Rattle.x86_insn.specs.declared.insn.AluOp.{AluOp}
use Rattle.x86_insn.specs.declared.insn.Reg.{Reg}
use Rattle.x86_insn.specs.declared.insn.Reg.TheVariants.{Eax, Ecx, Edx, Ebx, Esp, Ebp, Esi, Edi}
use Rattle.x86_insn.specs.declared.insn.Rep.{Rep}
use Rattle.x86_insn.specs.declared.insn.Rep.TheVariants.{Once, F3}
use Rattle.x86_insn.specs.declared.insn.Mem.{Mem}
use Rattle.x86_insn.specs.declared.insn.Rm.{Rm}
use Rattle.x86_insn.specs.declared.insn.Rm.TheVariants as rm
use Rattle.x86_insn.specs.declared.insn.Src.TheVariants as src
use Rattle.x86_insn.specs.declared.insn.Count.TheVariants as count
use Rattle.x86_insn.specs.declared.insn.Cond.{Cond}
use Rattle.x86_insn.specs.declared.insn.Cond.TheVariants as cond
use Rattle.x86_insn.specs.declared.insn.Width.{Width}
use Rattle.x86_insn.specs.declared.insn.Width.TheVariants.{B, W, D}
use Rattle.x86_insn.specs.declared.row.Kind.{Kind}
use Rattle.x86_insn.specs.declared.row.Kind.TheVariants as kind
use Rattle.x86_insn.specs.declared.row.Operands.{Operands}
use Rattle.x86_insn.specs.State.{reg_number}
use Rattle.x86_insn.specs.Addressing.{reg_of}
use Rattle.x86_insn.specs.Meaning.{cond_of, cond_number, source_of, memory_in, at_address, selector_width, meaning}
use Rattle.x86_encode.specs.declared.candidates.Candidate.{Candidate}
use Rattle.x86_encode.specs.Assembling.{is_memory}
use Rattle.x86_encode.specs.Candidates.{operands, if_unlocked, if_accumulator, if_absolute, is_gs, of_rm, of_number, of_address, general, special}

-- ---- what a kind takes

-- the width: any, 32 bits, 8 bits, or a selector's, which is any of a register and has no width of its own in memory
pub data WidthUse : Type 0 where
  Given : WidthUse
  Long : WidthUse
  Short : WidthUse
  Selector : WidthUse

-- the operand that may be memory: none, the one that ModRM names, or memory at the immediate
pub data OperandUse : Type 0 where
  NoOperand : OperandUse
  Named : OperandUse
  AtImmediate : OperandUse

-- a repeat prefix: none, the one that stands, or F3
pub data RepeatUse : Type 0 where
  OnceOnly : RepeatUse
  Kept : RepeatUse
  Stands : RepeatUse

-- a number in the opcode: none, a register's or a condition's
pub data NumberUse : Type 0 where
  NoNumber : NumberUse
  ByRegister : NumberUse
  ByCondition : NumberUse

-- the immediate: not at all, all of it, its low byte or its low half
pub data ImmediateUse : Type 0 where
  Unused : ImmediateUse
  Whole : ImmediateUse
  LowByte : ImmediateUse
  LowHalf : ImmediateUse

pub record Uses : Type 0 where
  pub width : WidthUse
  pub lock : Bool
  pub reg : Bool
  pub operand : OperandUse
  pub rep : RepeatUse
  pub number : NumberUse
  pub immediate : ImmediateUse

abbrev use_of : WidthUse → Bool → Bool → OperandUse → RepeatUse → NumberUse → ImmediateUse → Uses
use_of width lock reg operand rep number immediate =
    record { width = width; lock = lock; reg = reg; operand = operand; rep = rep; number = number; immediate = immediate }

abbrev pub uses : Kind → Uses
uses (kind.AluRmReg op) = use_of Given true true Named OnceOnly NoNumber Unused
uses (kind.AluRegRm op) = use_of Given false true Named OnceOnly NoNumber Unused
uses (kind.AluAccImm op) = use_of Given false false NoOperand OnceOnly NoNumber Whole
uses (kind.AluRmImm op) = use_of Given true false Named OnceOnly NoNumber Whole
uses kind.TestRmReg = use_of Given false true Named OnceOnly NoNumber Unused
uses kind.TestAccImm = use_of Given false false NoOperand OnceOnly NoNumber Whole
uses kind.TestRmImm = use_of Given false false Named OnceOnly NoNumber Whole
uses kind.MovRmReg = use_of Given false true Named OnceOnly NoNumber Unused
uses kind.MovRegRm = use_of Given false true Named OnceOnly NoNumber Unused
uses kind.MovRegImm = use_of Given false false NoOperand OnceOnly ByRegister Whole
uses kind.MovRmImm = use_of Given false false Named OnceOnly NoNumber Whole
uses kind.MovAccAt = use_of Given false false AtImmediate OnceOnly NoNumber Whole
uses kind.MovAtAcc = use_of Given false false AtImmediate OnceOnly NoNumber Whole
uses kind.XchgRmReg = use_of Given true true Named OnceOnly NoNumber Unused
uses kind.XchgRegAcc = use_of Given false false NoOperand OnceOnly ByRegister Unused
uses kind.Lea = use_of Given false true Named OnceOnly NoNumber Unused
uses (kind.Movx signed from) = use_of Given false true Named OnceOnly NoNumber Unused
uses kind.Bswap = use_of Long false false NoOperand OnceOnly ByRegister Unused
uses kind.PushReg = use_of Long false false NoOperand OnceOnly ByRegister Unused
uses kind.PushImm = use_of Long false false NoOperand OnceOnly NoNumber Whole
uses kind.PushRm = use_of Long false false Named OnceOnly NoNumber Unused
uses kind.PopReg = use_of Long false false NoOperand OnceOnly ByRegister Unused
uses kind.PopRm = use_of Long false false Named OnceOnly NoNumber Unused
uses (kind.BumpReg up) = use_of Given false false NoOperand OnceOnly ByRegister Unused
uses (kind.BumpRm up) = use_of Given true false Named OnceOnly NoNumber Unused
uses (kind.Unary op) = use_of Given true false Named OnceOnly NoNumber Unused
uses (kind.Mul signed) = use_of Given false false Named OnceOnly NoNumber Unused
uses (kind.Div signed) = use_of Given false false Named OnceOnly NoNumber Unused
uses kind.ImulRegRm = use_of Given false true Named OnceOnly NoNumber Unused
uses kind.ImulRegRmImm = use_of Given false true Named OnceOnly NoNumber Whole
uses (kind.ShiftImm op) = use_of Given false false Named OnceOnly NoNumber LowByte
uses (kind.ShiftOne op) = use_of Given false false Named OnceOnly NoNumber Unused
uses (kind.ShiftCl op) = use_of Given false false Named OnceOnly NoNumber Unused
uses (kind.DoubleImm left) = use_of Long false true Named OnceOnly NoNumber LowByte
uses (kind.DoubleCl left) = use_of Long false true Named OnceOnly NoNumber Unused
uses (kind.BitReg op) = use_of Given true true Named OnceOnly NoNumber Unused
uses (kind.BitImm op) = use_of Given true false Named OnceOnly NoNumber Whole
uses (kind.Scan up) = use_of Given false true Named OnceOnly NoNumber Unused
uses kind.Cmpxchg = use_of Given true true Named OnceOnly NoNumber Unused
uses kind.Xadd = use_of Given true true Named OnceOnly NoNumber Unused
uses kind.Set = use_of Short false false Named OnceOnly ByCondition Unused
uses kind.Cmov = use_of Given false true Named OnceOnly ByCondition Unused
uses kind.Cbw = use_of Given false false NoOperand OnceOnly NoNumber Unused
uses kind.Cwd = use_of Given false false NoOperand OnceOnly NoNumber Unused
uses (kind.Str op) = use_of Given false false NoOperand Kept NoNumber Unused
uses (kind.Flag op) = use_of Long false false NoOperand OnceOnly NoNumber Unused
uses kind.Pushad = use_of Long false false NoOperand OnceOnly NoNumber Unused
uses kind.Popad = use_of Long false false NoOperand OnceOnly NoNumber Unused
uses kind.Pushfd = use_of Long false false NoOperand OnceOnly NoNumber Unused
uses kind.Popfd = use_of Long false false NoOperand OnceOnly NoNumber Unused
uses kind.Leave = use_of Long false false NoOperand OnceOnly NoNumber Unused
uses kind.Xlat = use_of Long false false NoOperand OnceOnly NoNumber Unused
uses kind.Lahf = use_of Long false false NoOperand OnceOnly NoNumber Unused
uses kind.Sahf = use_of Long false false NoOperand OnceOnly NoNumber Unused
uses kind.Nop = use_of Long false false NoOperand OnceOnly NoNumber Unused
uses kind.Pause = use_of Long false false NoOperand Stands NoNumber Unused
uses kind.Endbr = use_of Long false false NoOperand Stands NoNumber Unused
uses kind.ToGs = use_of Long false false Named OnceOnly NoNumber Unused
uses kind.FromGs = use_of Selector false false Named OnceOnly NoNumber Unused
uses kind.Cpuid = use_of Long false false NoOperand OnceOnly NoNumber Unused
uses kind.Jump = use_of Long false false NoOperand OnceOnly NoNumber Whole
uses kind.Branch = use_of Long false false NoOperand OnceOnly ByCondition Whole
uses (kind.Loop which) = use_of Long false false NoOperand OnceOnly NoNumber Whole
uses kind.Call = use_of Long false false NoOperand OnceOnly NoNumber Whole
uses kind.JumpVia = use_of Long false false Named OnceOnly NoNumber Unused
uses kind.CallVia = use_of Long false false Named OnceOnly NoNumber Unused
uses kind.Ret = use_of Long false false NoOperand OnceOnly NoNumber LowHalf
uses kind.Int80 = use_of Long false false NoOperand OnceOnly NoNumber Unused
uses kind.Int3 = use_of Long false false NoOperand OnceOnly NoNumber Unused
uses kind.Hlt = use_of Long false false NoOperand OnceOnly NoNumber Unused
uses kind.Ud2 = use_of Long false false NoOperand OnceOnly NoNumber Unused

abbrev pub width_by : WidthUse → Rm → Width → Width
width_by Given x w = w
width_by Long x w = D
width_by Short x w = B
width_by Selector (rm.R r) w = w
width_by Selector (rm.M m) w = D

abbrev pub rep_by : RepeatUse → Rep → Rep
rep_by OnceOnly rep = Once
rep_by Kept rep = rep
rep_by Stands rep = F3

abbrev pub number_by : NumberUse → ℕ → ℕ
number_by NoNumber n = 0
number_by ByRegister n = reg_number (reg_of (n % 8))
number_by ByCondition n = cond_number (cond_of (n % 16))

abbrev pub immediate_by : ImmediateUse → ℕ → ℕ
immediate_by Unused n = 0
immediate_by Whole n = n
immediate_by LowByte n = n % 2 ^ 8
immediate_by LowHalf n = n % 2 ^ 16

abbrev pub operand_by : OperandUse → Bool → Rm → ℕ → Rm
operand_by NoOperand gs x n = rm.R Eax
operand_by Named gs x n = x
operand_by AtImmediate gs x n = rm.M (at_address gs n)

-- the operand that is taken
abbrev pub operand_taken : Uses → Operands → Rm
operand_taken u o = operand_by u.operand o.marks.gs o.rm o.immediate

-- the operands with what isn't taken left out
abbrev pub taken : Uses → Operands → Operands
taken u o =
    operands (width_by u.width (operand_taken u o) o.width) (if u.lock then o.marks.lock else false) (rep_by u.rep o.marks.rep) (number_by u.number o.opcode) (if u.reg then o.reg else Eax) (operand_taken u o) (immediate_by u.immediate o.immediate)

-- ---- what a row means rests on what is taken

pub reg_again : (r : Reg) → reg_of (reg_number r % 8) ≡ r
reg_again Eax = refl
reg_again Ecx = refl
reg_again Edx = refl
reg_again Ebx = refl
reg_again Esp = refl
reg_again Ebp = refl
reg_again Esi = refl
reg_again Edi = refl

pub cond_again : (c : Cond) → cond_of (cond_number c % 16) ≡ c
cond_again cond.O = refl
cond_again cond.No = refl
cond_again cond.B = refl
cond_again cond.Ae = refl
cond_again cond.E = refl
cond_again cond.Ne = refl
cond_again cond.Be = refl
cond_again cond.A = refl
cond_again cond.S = refl
cond_again cond.Ns = refl
cond_again cond.P = refl
cond_again cond.Np = refl
cond_again cond.L = refl
cond_again cond.Ge = refl
cond_again cond.Le = refl
cond_again cond.G = refl

byte_again : (n : ℕ) → n % 2 ^ 8 % 2 ^ 8 ≡ n % 2 ^ 8
byte_again n = omega arith

half_again : (n : ℕ) → n % 2 ^ 16 % 2 ^ 16 ≡ n % 2 ^ 16
half_again n = omega arith

selected : (w : Width) (x : Rm) → selector_width (width_by Selector x w) x ≡ selector_width w x
selected w (rm.R r) = refl
selected w (rm.M m) = refl

pub taken_means : (k : Kind) (o : Operands) → meaning k (taken (uses k) o) ≡ meaning k o
taken_means (kind.AluRmReg op) o = refl
taken_means (kind.AluRegRm op) o = refl
taken_means (kind.AluAccImm op) o = refl
taken_means (kind.AluRmImm op) o = refl
taken_means kind.TestRmReg o = refl
taken_means kind.TestAccImm o = refl
taken_means kind.TestRmImm o = refl
taken_means kind.MovRmReg o = refl
taken_means kind.MovRegRm o = refl
taken_means kind.MovRegImm o = ap (λ (r : Reg). insn.Mov o.width (rm.R r) (src.Imm o.immediate)) (reg_again (reg_of (o.opcode % 8)))
taken_means kind.MovRmImm o = refl
taken_means kind.MovAccAt o = refl
taken_means kind.MovAtAcc o = refl
taken_means kind.XchgRmReg o = refl
taken_means kind.XchgRegAcc o = ap (λ (r : Reg). insn.Xchg o.width false (rm.R r) Eax) (reg_again (reg_of (o.opcode % 8)))
taken_means kind.Lea o = refl
taken_means (kind.Movx signed from) o = refl
taken_means kind.Bswap o = ap insn.Bswap (reg_again (reg_of (o.opcode % 8)))
taken_means kind.PushReg o = ap (λ (r : Reg). insn.Push (src.R r)) (reg_again (reg_of (o.opcode % 8)))
taken_means kind.PushImm o = refl
taken_means kind.PushRm o = refl
taken_means kind.PopReg o = ap (λ (r : Reg). insn.Pop (rm.R r)) (reg_again (reg_of (o.opcode % 8)))
taken_means kind.PopRm o = refl
taken_means (kind.BumpReg up) o = ap (λ (r : Reg). insn.Bump up o.width false (rm.R r)) (reg_again (reg_of (o.opcode % 8)))
taken_means (kind.BumpRm up) o = refl
taken_means (kind.Unary op) o = refl
taken_means (kind.Mul signed) o = refl
taken_means (kind.Div signed) o = refl
taken_means kind.ImulRegRm o = refl
taken_means kind.ImulRegRmImm o = refl
taken_means (kind.ShiftImm op) o = ap (λ (n : ℕ). insn.Shift op o.width o.rm (count.Imm n)) (byte_again o.immediate)
taken_means (kind.ShiftOne op) o = refl
taken_means (kind.ShiftCl op) o = refl
taken_means (kind.DoubleImm left) o = ap (λ (n : ℕ). insn.Double left o.rm o.reg (count.Imm n)) (byte_again o.immediate)
taken_means (kind.DoubleCl left) o = refl
taken_means (kind.BitReg op) o = refl
taken_means (kind.BitImm op) o = refl
taken_means (kind.Scan up) o = refl
taken_means kind.Cmpxchg o = refl
taken_means kind.Xadd o = refl
taken_means kind.Set o = ap (λ (c : Cond). insn.Set c o.rm) (cond_again (cond_of (o.opcode % 16)))
taken_means kind.Cmov o = ap (λ (c : Cond). insn.Cmov c o.width o.reg o.rm) (cond_again (cond_of (o.opcode % 16)))
taken_means kind.Cbw o = refl
taken_means kind.Cwd o = refl
taken_means (kind.Str op) o = refl
taken_means (kind.Flag op) o = refl
taken_means kind.Pushad o = refl
taken_means kind.Popad o = refl
taken_means kind.Pushfd o = refl
taken_means kind.Popfd o = refl
taken_means kind.Leave o = refl
taken_means kind.Xlat o = refl
taken_means kind.Lahf o = refl
taken_means kind.Sahf o = refl
taken_means kind.Nop o = refl
taken_means kind.Pause o = refl
taken_means kind.Endbr o = refl
taken_means kind.ToGs o = refl
taken_means kind.FromGs o = ap (λ (w : Width). insn.FromGs w o.rm) (selected o.width o.rm)
taken_means kind.Cpuid o = refl
taken_means kind.Jump o = refl
taken_means kind.Branch o = ap (λ (c : Cond). insn.Branch c o.immediate) (cond_again (cond_of (o.opcode % 16)))
taken_means (kind.Loop which) o = refl
taken_means kind.Call o = refl
taken_means kind.JumpVia o = refl
taken_means kind.CallVia o = refl
taken_means kind.Ret o = ap insn.Ret (half_again o.immediate)
taken_means kind.Int80 o = refl
taken_means kind.Int3 o = refl
taken_means kind.Hlt o = refl
taken_means kind.Ud2 o = refl

-- ---- each kind that spells an instruction is one of its candidates

-- LEA names memory
abbrev pub Allowed : Kind → Operands → Type 0
Allowed kind.Lea o = is_memory o.rm ≡ true
Allowed k o = Unit {0}

abbrev pub Offered : Kind → Operands → Type 0
Offered k o =
    (general (meaning k o) ≡ Some (record { kind = k; operands = taken (uses k) o }))
    ⊎ (special (meaning k o) ≡ Some (record { kind = k; operands = taken (uses k) o }))

other_alu : (op : AluOp) (w : Width) (g : Reg) (x : Rm) → (general (insn.Alu op w false (rm.R g) (source_of x)) ≡ of_rm (kind.AluRegRm op) w false x g 0) ⊎ (special (insn.Alu op w false (rm.R g) (source_of x)) ≡ of_rm (kind.AluRegRm op) w false x g 0)
unfolding general special
other_alu op w g (rm.R r) = inr refl
other_alu op w g (rm.M m) = inl refl

other_mov : (w : Width) (g : Reg) (x : Rm) → (general (insn.Mov w (rm.R g) (source_of x)) ≡ of_rm kind.MovRegRm w false x g 0) ⊎ (special (insn.Mov w (rm.R g) (source_of x)) ≡ of_rm kind.MovRegRm w false x g 0)
unfolding general special
other_mov w g (rm.R r) = inr refl
other_mov w g (rm.M m) = inl refl

pushed : (x : Rm) → general (insn.Push (source_of x)) ≡ of_rm kind.PushRm D false x Eax 0
unfolding general
pushed (rm.R r) = refl
pushed (rm.M m) = refl

lea : (w : Width) (g : Reg) (x : Rm) → is_memory x ≡ true → general (insn.Lea w g (memory_in x)) ≡ of_rm kind.Lea w false x g 0
unfolding general
lea w g (rm.R r) h = absurd (cc h)
lea w g (rm.M m) h = refl

stored : (w : Width) (x : Rm) → general (insn.FromGs (selector_width w x) x) ≡ of_rm kind.FromGs (width_by Selector x w) false x Eax 0
unfolding general
stored w (rm.R r) = refl
stored w (rm.M m) = refl

pub offered : (k : Kind) (o : Operands) → Allowed k o → Offered k o
unfolding general special
offered (kind.AluRmReg op) o h = inl refl
offered (kind.AluRegRm op) o h = other_alu op o.width o.reg o.rm
offered (kind.AluAccImm op) o h = inr refl
offered (kind.AluRmImm op) o h = inl refl
offered kind.TestRmReg o h = inl refl
offered kind.TestAccImm o h = inr refl
offered kind.TestRmImm o h = inl refl
offered kind.MovRmReg o h = inl refl
offered kind.MovRegRm o h = other_mov o.width o.reg o.rm
offered kind.MovRegImm o h = inr refl
offered kind.MovRmImm o h = inl refl
offered kind.MovAccAt o h = inr refl
offered kind.MovAtAcc o h = inr refl
offered kind.XchgRmReg o h = inl refl
offered kind.XchgRegAcc o h = inr refl
offered kind.Lea o h = inl (lea o.width o.reg o.rm h)
offered (kind.Movx signed from) o h = inl refl
offered kind.Bswap o h = inl refl
offered kind.PushReg o h = inr refl
offered kind.PushImm o h = inl refl
offered kind.PushRm o h = inl (pushed o.rm)
offered kind.PopReg o h = inr refl
offered kind.PopRm o h = inl refl
offered (kind.BumpReg up) o h = inr refl
offered (kind.BumpRm up) o h = inl refl
offered (kind.Unary op) o h = inl refl
offered (kind.Mul signed) o h = inl refl
offered (kind.Div signed) o h = inl refl
offered kind.ImulRegRm o h = inl refl
offered kind.ImulRegRmImm o h = inl refl
offered (kind.ShiftImm op) o h = inl refl
offered (kind.ShiftOne op) o h = inr refl
offered (kind.ShiftCl op) o h = inl refl
offered (kind.DoubleImm left) o h = inl refl
offered (kind.DoubleCl left) o h = inl refl
offered (kind.BitReg op) o h = inl refl
offered (kind.BitImm op) o h = inl refl
offered (kind.Scan up) o h = inl refl
offered kind.Cmpxchg o h = inl refl
offered kind.Xadd o h = inl refl
offered kind.Set o h = inl refl
offered kind.Cmov o h = inl refl
offered kind.Cbw o h = inl refl
offered kind.Cwd o h = inl refl
offered (kind.Str op) o h = inl refl
offered (kind.Flag op) o h = inl refl
offered kind.Pushad o h = inl refl
offered kind.Popad o h = inl refl
offered kind.Pushfd o h = inl refl
offered kind.Popfd o h = inl refl
offered kind.Leave o h = inl refl
offered kind.Xlat o h = inl refl
offered kind.Lahf o h = inl refl
offered kind.Sahf o h = inl refl
offered kind.Nop o h = inl refl
offered kind.Pause o h = inl refl
offered kind.Endbr o h = inl refl
offered kind.ToGs o h = inl refl
offered kind.FromGs o h = inl (stored o.width o.rm)
offered kind.Cpuid o h = inl refl
offered kind.Jump o h = inl refl
offered kind.Branch o h = inl refl
offered (kind.Loop which) o h = inl refl
offered kind.Call o h = inl refl
offered kind.JumpVia o h = inl refl
offered kind.CallVia o h = inl refl
offered kind.Ret o h = inl refl
offered kind.Int80 o h = inl refl
offered kind.Int3 o h = inl refl
offered kind.Hlt o h = inl refl
offered kind.Ud2 o h = inl refl

-- ---- each candidate means its instruction

-- an immediate of which a part is taken has no more
abbrev pub Limited : ImmediateUse → ℕ → Type 0
Limited Unused n = Unit {0}
Limited Whole n = Unit {0}
Limited LowByte n = n < 2 ^ 8
Limited LowHalf n = n < 2 ^ 16

abbrev pub MeansTo : Option Candidate → Insn → Type 0
MeansTo None i = Unit {0}
MeansTo (Some c) i = Limited (uses c.kind).immediate c.operands.immediate → meaning c.kind c.operands ≡ i

unlocked : (lock : Bool) (c : Option Candidate) (i : Bool → Insn) → MeansTo c (i false) → MeansTo (if_unlocked lock c) (i lock)
unlocked false c i h = h
unlocked true c i h = tt

accumulates : (r : Reg) (c : Option Candidate) (i : Reg → Insn) → MeansTo c (i Eax) → MeansTo (if_accumulator r c) (i r)
accumulates Eax c i h = h
accumulates Ecx c i h = tt
accumulates Edx c i h = tt
accumulates Ebx c i h = tt
accumulates Esp c i h = tt
accumulates Ebp c i h = tt
accumulates Esi c i h = tt
accumulates Edi c i h = tt

absolute : (b : Option Reg) (x : Option (Reg × ℕ)) (d : ℕ) (gs : Bool) (c : Option Candidate) (i : Mem → Insn) → MeansTo c (i (at_address gs d)) → MeansTo (if_absolute b x c) (i (record { base = b; index = x; disp = d; gs = gs }))
absolute None None d gs c i h = h
absolute None (Some p) d gs c i h = tt
absolute (Some b) x d gs c i h = tt

byte_kept : (n : ℕ) → n < 2 ^ 8 → n % 2 ^ 8 ≡ n
byte_kept n h = omega arith

half_kept : (n : ℕ) → n < 2 ^ 16 → n % 2 ^ 16 ≡ n
half_kept n h = omega arith

pub general_means : (i : Insn) → MeansTo (general i) i
unfolding general
general_means (insn.Alu op w lock dst (src.R r)) = λ h. refl
general_means (insn.Alu op w lock dst (src.Imm n)) = λ h. refl
general_means (insn.Alu op w lock (rm.R r) (src.M m)) = unlocked lock (of_rm (kind.AluRegRm op) w false (rm.M m) r 0) (λ (v : Bool). insn.Alu op w v (rm.R r) (src.M m)) (λ h. refl)
general_means (insn.Alu op w lock (rm.M x) (src.M m)) = tt
general_means (insn.Test w dst (src.R r)) = λ h. refl
general_means (insn.Test w dst (src.Imm n)) = λ h. refl
general_means (insn.Test w dst (src.M m)) = tt
general_means (insn.Mov w dst (src.R r)) = λ h. refl
general_means (insn.Mov w dst (src.Imm n)) = λ h. refl
general_means (insn.Mov w (rm.R r) (src.M m)) = λ h. refl
general_means (insn.Mov w (rm.M x) (src.M m)) = tt
general_means (insn.Xchg w lock dst r) = λ h. refl
general_means (insn.Lea w r m) = λ h. refl
general_means (insn.Movx signed from w r x) = λ h. refl
general_means (insn.Bswap r) = λ h. ap insn.Bswap (reg_again r)
general_means (insn.Push (src.R r)) = λ h. refl
general_means (insn.Push (src.M m)) = λ h. refl
general_means (insn.Push (src.Imm n)) = λ h. refl
general_means (insn.Pop x) = λ h. refl
general_means insn.Pushad = λ h. refl
general_means insn.Popad = λ h. refl
general_means insn.Pushfd = λ h. refl
general_means insn.Popfd = λ h. refl
general_means insn.Leave = λ h. refl
general_means (insn.Bump up w lock x) = λ h. refl
general_means (insn.Unary op w lock x) = λ h. refl
general_means (insn.Mul signed w x) = λ h. refl
general_means (insn.Div signed w x) = λ h. refl
general_means (insn.Imul w r x None) = λ h. refl
general_means (insn.Imul w r x (Some n)) = λ h. refl
general_means (insn.Shift op w x (count.Imm n)) = λ h. ap (λ (k : ℕ). insn.Shift op w x (count.Imm k)) (byte_kept n h)
general_means (insn.Shift op w x count.Cl) = λ h. refl
general_means (insn.Double left x r (count.Imm n)) = λ h. ap (λ (k : ℕ). insn.Double left x r (count.Imm k)) (byte_kept n h)
general_means (insn.Double left x r count.Cl) = λ h. refl
general_means (insn.Bit op w lock x (src.R r)) = λ h. refl
general_means (insn.Bit op w lock x (src.Imm n)) = λ h. refl
general_means (insn.Bit op w lock x (src.M m)) = tt
general_means (insn.Scan up w r x) = λ h. refl
general_means (insn.Cmpxchg w lock x r) = λ h. refl
general_means (insn.Xadd w lock x r) = λ h. refl
general_means (insn.Set c x) = λ h. ap (λ (d : Cond). insn.Set d x) (cond_again c)
general_means (insn.Cmov c w r x) = λ h. ap (λ (d : Cond). insn.Cmov d w r x) (cond_again c)
general_means (insn.Cbw w) = λ h. refl
general_means (insn.Cwd w) = λ h. refl
general_means (insn.Str op w rep) = λ h. refl
general_means insn.Xlat = λ h. refl
general_means insn.Lahf = λ h. refl
general_means insn.Sahf = λ h. refl
general_means (insn.Flag op) = λ h. refl
general_means insn.Nop = λ h. refl
general_means insn.Pause = λ h. refl
general_means insn.Endbr = λ h. refl
general_means (insn.ToGs x) = λ h. refl
general_means (insn.FromGs w (rm.R r)) = λ h. refl
general_means (insn.FromGs W (rm.M m)) = λ h. refl
general_means (insn.FromGs B (rm.M m)) = tt
general_means (insn.FromGs D (rm.M m)) = tt
general_means insn.Cpuid = λ h. refl
general_means (insn.Jump n) = λ h. refl
general_means (insn.Branch c n) = λ h. ap (λ (d : Cond). insn.Branch d n) (cond_again c)
general_means (insn.Loop which n) = λ h. refl
general_means (insn.Call n) = λ h. refl
general_means (insn.JumpVia x) = λ h. refl
general_means (insn.CallVia x) = λ h. refl
general_means (insn.Ret n) = λ h. ap insn.Ret (half_kept n h)
general_means insn.Int80 = λ h. refl
general_means insn.Int3 = λ h. refl
general_means insn.Hlt = λ h. refl
general_means insn.Ud2 = λ h. refl

-- a shift by 1
shifted_once : (n : ℕ) (c : Option Candidate) (i : ℕ → Insn) → MeansTo c (i 1) → MeansTo (if n == 1 then c else None) (i n)
shifted_once n c i h = go (n == 1) refl
  where
    go : (v : Bool) → (n == 1) ≡ v → MeansTo (if v then c else None) (i n)
    go true e = subst (λ (k : ℕ). MeansTo c (i k)) (sym (eqb-true n 1 e)) h
    go false e = tt

pub special_means : (i : Insn) → MeansTo (special i) i
unfolding special
special_means (insn.Alu op w lock (rm.R r) (src.R s)) = unlocked lock (of_rm (kind.AluRegRm op) w false (rm.R s) r 0) (λ (v : Bool). insn.Alu op w v (rm.R r) (src.R s)) (λ h. refl)
special_means (insn.Alu op w lock (rm.R r) (src.Imm n)) = unlocked lock (if_accumulator r (of_number (kind.AluAccImm op) w 0 n)) (λ (v : Bool). insn.Alu op w v (rm.R r) (src.Imm n)) (accumulates r (of_number (kind.AluAccImm op) w 0 n) (λ (g : Reg). insn.Alu op w false (rm.R g) (src.Imm n)) (λ h. refl))
special_means (insn.Test w (rm.R r) (src.Imm n)) = accumulates r (of_number kind.TestAccImm w 0 n) (λ (g : Reg). insn.Test w (rm.R g) (src.Imm n)) (λ h. refl)
special_means (insn.Mov w (rm.R r) (src.R s)) = λ h. refl
special_means (insn.Mov w (rm.R r) (src.Imm n)) = λ h. ap (λ (g : Reg). insn.Mov w (rm.R g) (src.Imm n)) (reg_again r)
special_means (insn.Mov w (rm.R r) (src.M m)) = accumulates r (if_absolute m.base m.index (of_address kind.MovAccAt w m)) (λ (g : Reg). insn.Mov w (rm.R g) (src.M m)) (absolute m.base m.index m.disp m.gs (of_address kind.MovAccAt w m) (λ (k : Mem). insn.Mov w (rm.R Eax) (src.M k)) (λ h. refl))
special_means (insn.Mov w (rm.M m) (src.R r)) = accumulates r (if_absolute m.base m.index (of_address kind.MovAtAcc w m)) (λ (g : Reg). insn.Mov w (rm.M m) (src.R g)) (absolute m.base m.index m.disp m.gs (of_address kind.MovAtAcc w m) (λ (k : Mem). insn.Mov w (rm.M k) (src.R Eax)) (λ h. refl))
special_means (insn.Xchg w lock (rm.R r) s) = unlocked lock (if_accumulator s (of_number kind.XchgRegAcc w (reg_number r) 0)) (λ (v : Bool). insn.Xchg w v (rm.R r) s) (accumulates s (of_number kind.XchgRegAcc w (reg_number r) 0) (λ (g : Reg). insn.Xchg w false (rm.R r) g) (λ h. ap (λ (g : Reg). insn.Xchg w false (rm.R g) Eax) (reg_again r)))
special_means (insn.Push (src.R r)) = λ h. ap (λ (g : Reg). insn.Push (src.R g)) (reg_again r)
special_means (insn.Pop (rm.R r)) = λ h. ap (λ (g : Reg). insn.Pop (rm.R g)) (reg_again r)
special_means (insn.Bump up w lock (rm.R r)) = unlocked lock (of_number (kind.BumpReg up) w (reg_number r) 0) (λ (v : Bool). insn.Bump up w v (rm.R r)) (λ h. ap (λ (g : Reg). insn.Bump up w false (rm.R g)) (reg_again r))
special_means (insn.Shift op w x (count.Imm n)) = shifted_once n (of_rm (kind.ShiftOne op) w false x Eax 0) (λ (k : ℕ). insn.Shift op w x (count.Imm k)) (λ h. refl)
special_means i = tt

-- ---- a candidate's prefix 65 is its operand's

abbrev pub Agrees : Operands → Type 0
Agrees o = o.marks.gs ≡ is_gs o.rm

abbrev pub Agreed : Option Candidate → Type 0
Agreed None = Unit {0}
Agreed (Some c) = Agrees c.operands

agreed_unlocked : (lock : Bool) (c : Option Candidate) → Agreed c → Agreed (if_unlocked lock c)
agreed_unlocked false c h = h
agreed_unlocked true c h = tt

agreed_if : (v : Bool) (c : Option Candidate) → Agreed c → Agreed (if v then c else None)
agreed_if true c h = h
agreed_if false c h = tt

agreed_absolute : (b : Option Reg) (x : Option (Reg × ℕ)) (c : Option Candidate) → Agreed c → Agreed (if_absolute b x c)
agreed_absolute None None c h = h
agreed_absolute None (Some p) c h = tt
agreed_absolute (Some b) x c h = tt

pub general_agrees : (i : Insn) → Agreed (general i)
unfolding general
general_agrees (insn.Alu op w lock (rm.R r) (src.M m)) = agreed_unlocked lock (of_rm (kind.AluRegRm op) w false (rm.M m) r 0) refl
general_agrees (insn.Alu op w lock (rm.M x) (src.M m)) = tt
general_agrees (insn.Test w dst (src.M m)) = tt
general_agrees (insn.Mov w (rm.R r) (src.M m)) = refl
general_agrees (insn.Mov w (rm.M x) (src.M m)) = tt
general_agrees (insn.Push (src.M m)) = refl
general_agrees (insn.Imul w r x None) = refl
general_agrees (insn.Shift op w x count.Cl) = refl
general_agrees (insn.Double left x r count.Cl) = refl
general_agrees (insn.Bit op w lock x (src.M m)) = tt
general_agrees (insn.FromGs w (rm.R r)) = refl
general_agrees (insn.FromGs B (rm.M m)) = tt
general_agrees (insn.FromGs D (rm.M m)) = tt
general_agrees i = refl

pub special_agrees : (i : Insn) → Agreed (special i)
unfolding special
special_agrees (insn.Alu op w lock (rm.R r) (src.R s)) = agreed_unlocked lock (of_rm (kind.AluRegRm op) w false (rm.R s) r 0) refl
special_agrees (insn.Alu op w lock (rm.R r) (src.Imm n)) = agreed_unlocked lock (if_accumulator r (of_number (kind.AluAccImm op) w 0 n)) (agreed_if (reg_number r == 0) (of_number (kind.AluAccImm op) w 0 n) refl)
special_agrees (insn.Test w (rm.R r) (src.Imm n)) = agreed_if (reg_number r == 0) (of_number kind.TestAccImm w 0 n) refl
special_agrees (insn.Mov w (rm.R r) (src.R s)) = refl
special_agrees (insn.Mov w (rm.R r) (src.Imm n)) = refl
special_agrees (insn.Mov w (rm.R r) (src.M m)) = agreed_if (reg_number r == 0) (if_absolute m.base m.index (of_address kind.MovAccAt w m)) (agreed_absolute m.base m.index (of_address kind.MovAccAt w m) refl)
special_agrees (insn.Mov w (rm.M m) (src.R r)) = agreed_if (reg_number r == 0) (if_absolute m.base m.index (of_address kind.MovAtAcc w m)) (agreed_absolute m.base m.index (of_address kind.MovAtAcc w m) refl)
special_agrees (insn.Xchg w lock (rm.R r) s) = agreed_unlocked lock (if_accumulator s (of_number kind.XchgRegAcc w (reg_number r) 0)) (agreed_if (reg_number s == 0) (of_number kind.XchgRegAcc w (reg_number r) 0) refl)
special_agrees (insn.Push (src.R r)) = refl
special_agrees (insn.Pop (rm.R r)) = refl
special_agrees (insn.Bump up w lock (rm.R r)) = agreed_unlocked lock (of_number (kind.BumpReg up) w (reg_number r) 0) refl
special_agrees (insn.Shift op w x (count.Imm n)) = agreed_if (n == 1) (of_rm (kind.ShiftOne op) w false x Eax 0) refl
special_agrees i = tt
