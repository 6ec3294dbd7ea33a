-- The names of registers, conditions and operations, in lower case. Intel SDM, volume 2; those of which the manual has
-- several, and the words in front, are this project's own choice.
use Rattle.std.specs.Prelude.{ℕ, Bool, true, false, List, [], codes}
use Rattle.x86_insn.specs.declared.insn.Insn.{Insn}
use Rattle.x86_insn.specs.declared.insn.Insn.TheVariants as insn
use Rattle.x86_insn.specs.declared.insn.Width.{Width}
use Rattle.x86_insn.specs.declared.insn.Width.TheVariants as width
use Rattle.x86_insn.specs.declared.insn.Reg.{Reg}
use Rattle.x86_insn.specs.declared.insn.Reg.TheVariants.{Eax, Ecx, Edx, Ebx, Esp, Ebp, Esi, Edi}
use Rattle.x86_insn.specs.declared.insn.Cond.{Cond}
use Rattle.x86_insn.specs.declared.insn.Cond.TheVariants as cond
use Rattle.x86_insn.specs.declared.insn.AluOp.{AluOp}
use Rattle.x86_insn.specs.declared.insn.AluOp.TheVariants.{Add, Or, Adc, Sbb, And, Sub, Xor, Cmp}
use Rattle.x86_insn.specs.declared.insn.ShiftOp.{ShiftOp}
use Rattle.x86_insn.specs.declared.insn.ShiftOp.TheVariants.{Rol, Ror, Rcl, Rcr, Shl, Shr, Sar}
use Rattle.x86_insn.specs.declared.insn.UnOp.{UnOp}
use Rattle.x86_insn.specs.declared.insn.UnOp.TheVariants.{Not, Neg}
use Rattle.x86_insn.specs.declared.insn.BitOp.{BitOp}
use Rattle.x86_insn.specs.declared.insn.BitOp.TheVariants.{Bt, Bts, Btr, Btc}
use Rattle.x86_insn.specs.declared.insn.StrOp.{StrOp}
use Rattle.x86_insn.specs.declared.insn.StrOp.TheVariants.{Movs, Cmps, Stos, Lods, Scas}
use Rattle.x86_insn.specs.declared.insn.Rep.{Rep}
use Rattle.x86_insn.specs.declared.insn.Rep.TheVariants.{Once, F3, F2}
use Rattle.x86_insn.specs.declared.insn.LoopKind.{LoopKind}
use Rattle.x86_insn.specs.declared.insn.LoopKind.TheVariants as loop
use Rattle.x86_insn.specs.declared.insn.FlagOp.{FlagOp}
use Rattle.x86_insn.specs.declared.insn.FlagOp.TheVariants.{Cmc, Clc, Stc, Cld, Std}

-- ---- registers and widths

-- the name of a register, as far as a width reaches; of eight bits these are AL to BL and then AH to BH
abbrev pub register_name : Width → Reg → List ℕ
register_name width.B Eax = codes "al"
register_name width.B Ecx = codes "cl"
register_name width.B Edx = codes "dl"
register_name width.B Ebx = codes "bl"
register_name width.B Esp = codes "ah"
register_name width.B Ebp = codes "ch"
register_name width.B Esi = codes "dh"
register_name width.B Edi = codes "bh"
register_name width.W Eax = codes "ax"
register_name width.W Ecx = codes "cx"
register_name width.W Edx = codes "dx"
register_name width.W Ebx = codes "bx"
register_name width.W Esp = codes "sp"
register_name width.W Ebp = codes "bp"
register_name width.W Esi = codes "si"
register_name width.W Edi = codes "di"
register_name width.D Eax = codes "eax"
register_name width.D Ecx = codes "ecx"
register_name width.D Edx = codes "edx"
register_name width.D Ebx = codes "ebx"
register_name width.D Esp = codes "esp"
register_name width.D Ebp = codes "ebp"
register_name width.D Esi = codes "esi"
register_name width.D Edi = codes "edi"

-- the word in front of memory of a width
abbrev pub width_word : Width → List ℕ
width_word width.B = codes "byte "
width_word width.W = codes "word "
width_word width.D = codes "dword "

-- the word before the brackets of an address, where it is relative to GS
abbrev pub segment_word : Bool → List ℕ
segment_word true = codes "gs:"
segment_word false = []

-- ---- endings

-- the letters of a condition
abbrev pub condition_name : Cond → List ℕ
condition_name cond.O = codes "o"
condition_name cond.No = codes "no"
condition_name cond.B = codes "b"
condition_name cond.Ae = codes "ae"
condition_name cond.E = codes "e"
condition_name cond.Ne = codes "ne"
condition_name cond.Be = codes "be"
condition_name cond.A = codes "a"
condition_name cond.S = codes "s"
condition_name cond.Ns = codes "ns"
condition_name cond.P = codes "p"
condition_name cond.Np = codes "np"
condition_name cond.L = codes "l"
condition_name cond.Ge = codes "ge"
condition_name cond.Le = codes "le"
condition_name cond.G = codes "g"

-- the letter of the elements of a string instruction
abbrev pub element_name : Width → List ℕ
element_name width.B = codes "b"
element_name width.W = codes "w"
element_name width.D = codes "d"

-- what follows an instruction's stem in its mnemonic: a condition, or the width of a string's elements
abbrev pub ending : Insn → List ℕ
ending (insn.Branch condition rel) = condition_name condition
ending (insn.Set condition dst) = condition_name condition
ending (insn.Cmov condition width dst src) = condition_name condition
ending (insn.Str op width rep) = element_name width
ending i = []

-- ---- operations

abbrev pub alu_name : AluOp → List ℕ
alu_name Add = codes "add"
alu_name Or = codes "or"
alu_name Adc = codes "adc"
alu_name Sbb = codes "sbb"
alu_name And = codes "and"
alu_name Sub = codes "sub"
alu_name Xor = codes "xor"
alu_name Cmp = codes "cmp"

abbrev pub shift_name : ShiftOp → List ℕ
shift_name Rol = codes "rol"
shift_name Ror = codes "ror"
shift_name Rcl = codes "rcl"
shift_name Rcr = codes "rcr"
shift_name Shl = codes "shl"
shift_name Shr = codes "shr"
shift_name Sar = codes "sar"

abbrev pub unary_name : UnOp → List ℕ
unary_name Not = codes "not"
unary_name Neg = codes "neg"

abbrev pub bit_name : BitOp → List ℕ
bit_name Bt = codes "bt"
bit_name Bts = codes "bts"
bit_name Btr = codes "btr"
bit_name Btc = codes "btc"

abbrev pub string_name : StrOp → List ℕ
string_name Movs = codes "movs"
string_name Cmps = codes "cmps"
string_name Stos = codes "stos"
string_name Lods = codes "lods"
string_name Scas = codes "scas"

abbrev pub flag_name : FlagOp → List ℕ
flag_name Cmc = codes "cmc"
flag_name Clc = codes "clc"
flag_name Stc = codes "stc"
flag_name Cld = codes "cld"
flag_name Std = codes "std"

abbrev pub loop_name : LoopKind → List ℕ
loop_name loop.Ne = codes "loopne"
loop_name loop.E = codes "loope"
loop_name loop.Plain = codes "loop"
loop_name loop.Ecxz = codes "jecxz"

-- a name for signed operands, and one for unsigned or unmarked ones
abbrev pub by_sign : Bool → List ℕ → List ℕ → List ℕ
by_sign true signed unsigned = signed
by_sign false signed unsigned = unsigned

-- the name of a widening within the accumulator, and of one into the data register
abbrev pub widening_name : Width → List ℕ
widening_name width.B = codes "cbw"
widening_name width.W = codes "cbw"
widening_name width.D = codes "cwde"

abbrev pub doubling_name : Width → List ℕ
doubling_name width.B = codes "cwd"
doubling_name width.W = codes "cwd"
doubling_name width.D = codes "cdq"

-- an instruction's mnemonic but for its ending
abbrev pub stem : Insn → List ℕ
stem (insn.Alu op width lock dst src) = alu_name op
stem (insn.Test width dst src) = codes "test"
stem (insn.Mov width dst src) = codes "mov"
stem (insn.Xchg width lock dst reg) = codes "xchg"
stem (insn.Lea width dst mem) = codes "lea"
stem (insn.Movx signed from to dst src) = by_sign signed (codes "movsx") (codes "movzx")
stem (insn.Bswap reg) = codes "bswap"
stem (insn.Push src) = codes "push"
stem (insn.Pop dst) = codes "pop"
stem insn.Pushad = codes "pushad"
stem insn.Popad = codes "popad"
stem insn.Pushfd = codes "pushfd"
stem insn.Popfd = codes "popfd"
stem insn.Leave = codes "leave"
stem (insn.Bump up width lock dst) = by_sign up (codes "inc") (codes "dec")
stem (insn.Unary op width lock dst) = unary_name op
stem (insn.Mul signed width src) = by_sign signed (codes "imul") (codes "mul")
stem (insn.Div signed width src) = by_sign signed (codes "idiv") (codes "div")
stem (insn.Imul width dst src imm) = codes "imul"
stem (insn.Shift op width dst count) = shift_name op
stem (insn.Double left dst src count) = by_sign left (codes "shld") (codes "shrd")
stem (insn.Bit op width lock dst index) = bit_name op
stem (insn.Scan up width dst src) = by_sign up (codes "bsf") (codes "bsr")
stem (insn.Cmpxchg width lock dst src) = codes "cmpxchg"
stem (insn.Xadd width lock dst src) = codes "xadd"
stem (insn.Set condition dst) = codes "set"
stem (insn.Cmov condition width dst src) = codes "cmov"
stem (insn.Cbw width) = widening_name width
stem (insn.Cwd width) = doubling_name width
stem (insn.Str op width rep) = string_name op
stem insn.Xlat = codes "xlatb"
stem insn.Lahf = codes "lahf"
stem insn.Sahf = codes "sahf"
stem (insn.Flag op) = flag_name op
stem insn.Nop = codes "nop"
stem insn.Pause = codes "pause"
stem insn.Endbr = codes "endbr32"
stem (insn.ToGs src) = codes "mov"
stem (insn.FromGs width dst) = codes "mov"
stem insn.Cpuid = codes "cpuid"
stem (insn.Jump rel) = codes "jmp"
stem (insn.Branch condition rel) = codes "j"
stem (insn.Loop kind rel) = loop_name kind
stem (insn.Call rel) = codes "call"
stem (insn.JumpVia src) = codes "jmp"
stem (insn.CallVia src) = codes "call"
stem (insn.Ret drop) = codes "ret"
stem insn.Int80 = codes "int"
stem insn.Int3 = codes "int3"
stem insn.Hlt = codes "hlt"
stem insn.Ud2 = codes "ud2"

-- ---- the word in front

abbrev pub lock_word : Bool → List ℕ
lock_word true = codes "lock "
lock_word false = []

-- the word of a repeat before an operation: F3 repeats a comparison while it finds equal elements
abbrev pub repeat_word : Rep → StrOp → List ℕ
repeat_word Once op = []
repeat_word F2 op = codes "repne "
repeat_word F3 Movs = codes "rep "
repeat_word F3 Stos = codes "rep "
repeat_word F3 Lods = codes "rep "
repeat_word F3 Cmps = codes "repe "
repeat_word F3 Scas = codes "repe "

-- the word in front of an instruction's mnemonic
abbrev pub front_word : Insn → List ℕ
front_word (insn.Alu op width lock dst src) = lock_word lock
front_word (insn.Xchg width lock dst reg) = lock_word lock
front_word (insn.Bump up width lock dst) = lock_word lock
front_word (insn.Unary op width lock dst) = lock_word lock
front_word (insn.Bit op width lock dst index) = lock_word lock
front_word (insn.Cmpxchg width lock dst src) = lock_word lock
front_word (insn.Xadd width lock dst src) = lock_word lock
front_word (insn.Str op width rep) = repeat_word rep op
front_word i = []
