-- The rows of the spelling table by kind: no kind has more than three. The one of 8-bit operands; the one of wider operands
-- with a whole immediate, or without one; and a shorter one, with an immediate byte that is extended by its sign, or
-- without an immediate. The columns are those of the table. The long form of NOP is left out: it is never the least.
use Rattle.std.specs.Prelude.{ℕ, ◌+◌, ◌*◌, Bool, true, false, Option, Some, None}
use Rattle.x86_insn.specs.declared.insn.AluOp.{AluOp}
use Rattle.x86_insn.specs.declared.insn.AluOp.TheVariants as alu
use Rattle.x86_insn.specs.declared.insn.ShiftOp.{ShiftOp}
use Rattle.x86_insn.specs.declared.insn.ShiftOp.TheVariants.{Rol, Ror, Rcl, Rcr, Shl, Shr, Sar}
use Rattle.x86_insn.specs.declared.insn.BitOp.{BitOp}
use Rattle.x86_insn.specs.declared.insn.BitOp.TheVariants.{Bt, Bts, Btr, Btc}
use Rattle.x86_insn.specs.declared.insn.UnOp.TheVariants.{Not, Neg}
use Rattle.x86_insn.specs.declared.insn.StrOp.TheVariants.{Movs, Cmps, Stos, Lods, Scas}
use Rattle.x86_insn.specs.declared.insn.FlagOp.TheVariants.{Cmc, Clc, Stc, Cld, Std}
use Rattle.x86_insn.specs.declared.insn.LoopKind.TheVariants.{Ne, E, Plain, Ecxz}
use Rattle.x86_insn.specs.declared.insn.Width.TheVariants.{B, W}
use Rattle.x86_insn.specs.declared.row.Lead.TheVariants.{Bare, Escape, Interrupt, Hint}
use Rattle.x86_insn.specs.declared.row.Layout.TheVariants.{NoModrm, Any, Memory, Register}
use Rattle.x86_insn.specs.declared.row.Immediate.TheVariants.{Absent, Ib, SignedIb, Iw, Id, Iz}
use Rattle.x86_insn.specs.declared.row.Size.TheVariants.{Byte, Vary, Dword}
use Rattle.x86_insn.specs.declared.row.Repeat.TheVariants.{Never, Idle, Needed, Rep, Repe}
use Rattle.x86_insn.specs.declared.row.Kind.{Kind}
use Rattle.x86_insn.specs.declared.row.Kind.TheVariants.{AluRmReg, AluRegRm, AluAccImm, AluRmImm, TestRmReg, TestAccImm, TestRmImm, MovRmReg, MovRegRm, MovRegImm, MovRmImm, MovAccAt, MovAtAcc, XchgRmReg, XchgRegAcc, Lea, Movx, Bswap, PushReg, PushImm, PushRm, PopReg, PopRm, BumpReg, BumpRm, Unary, Mul, Div, ImulRegRm, ImulRegRmImm, ShiftImm, ShiftOne, ShiftCl, DoubleImm, DoubleCl, BitReg, BitImm, Scan, Cmpxchg, Xadd, Set, Cmov, Cbw, Cwd, Str, Flag, Pushad, Popad, Pushfd, Popfd, Leave, Xlat, Lahf, Sahf, Nop, Pause, Endbr, ToGs, FromGs, Cpuid, Jump, Branch, Loop, Call, JumpVia, CallVia, Ret, Int80, Int3, Hlt, Ud2}
use Rattle.x86_insn.specs.declared.row.Row.{Row}
use Rattle.x86_insn.specs.Rows.{row}

-- an operation's number, and whether F0 may stand before it
abbrev pub alu_number : AluOp → ℕ
alu_number alu.Add = 0
alu_number alu.Or = 1
alu_number alu.Adc = 2
alu_number alu.Sbb = 3
alu_number alu.And = 4
alu_number alu.Sub = 5
alu_number alu.Xor = 6
alu_number alu.Cmp = 7

abbrev pub can_lock_alu : AluOp → Bool
can_lock_alu alu.Add = true
can_lock_alu alu.Or = true
can_lock_alu alu.Adc = true
can_lock_alu alu.Sbb = true
can_lock_alu alu.And = true
can_lock_alu alu.Sub = true
can_lock_alu alu.Xor = true
can_lock_alu alu.Cmp = false

abbrev pub shift_number : ShiftOp → ℕ
shift_number Rol = 0
shift_number Ror = 1
shift_number Rcl = 2
shift_number Rcr = 3
shift_number Shl = 4
shift_number Shr = 5
shift_number Sar = 7

abbrev pub bit_number : BitOp → ℕ
bit_number Bt = 0
bit_number Bts = 1
bit_number Btr = 2
bit_number Btc = 3

abbrev pub can_lock_bit : BitOp → Bool
can_lock_bit Bt = false
can_lock_bit Bts = true
can_lock_bit Btr = true
can_lock_bit Btc = true

-- of 8-bit operands
unfoldable pub byte_row : Kind → Option Row
byte_row (AluRmReg op) = Some (row Bare (8 * alu_number op) 1 None Any Absent Byte (can_lock_alu op) Never (AluRmReg op))
byte_row (AluRegRm op) = Some (row Bare (8 * alu_number op + 2) 1 None Any Absent Byte false Never (AluRegRm op))
byte_row (AluAccImm op) = Some (row Bare (8 * alu_number op + 4) 1 None NoModrm Ib Byte false Never (AluAccImm op))
byte_row (AluRmImm op) = Some (row Bare 0x80 1 (Some (alu_number op)) Any Ib Byte (can_lock_alu op) Never (AluRmImm op))
byte_row (ShiftImm op) = Some (row Bare 0xC0 1 (Some (shift_number op)) Any Ib Byte false Never (ShiftImm op))
byte_row (ShiftOne op) = Some (row Bare 0xD0 1 (Some (shift_number op)) Any Absent Byte false Never (ShiftOne op))
byte_row (ShiftCl op) = Some (row Bare 0xD2 1 (Some (shift_number op)) Any Absent Byte false Never (ShiftCl op))
byte_row MovRmReg = Some (row Bare 0x88 1 None Any Absent Byte false Never MovRmReg)
byte_row MovRegRm = Some (row Bare 0x8A 1 None Any Absent Byte false Never MovRegRm)
byte_row MovAccAt = Some (row Bare 0xA0 1 None NoModrm Id Byte false Never MovAccAt)
byte_row MovAtAcc = Some (row Bare 0xA2 1 None NoModrm Id Byte false Never MovAtAcc)
byte_row MovRegImm = Some (row Bare 0xB0 8 None NoModrm Ib Byte false Never MovRegImm)
byte_row MovRmImm = Some (row Bare 0xC6 1 (Some 0) Any Ib Byte false Never MovRmImm)
byte_row XchgRmReg = Some (row Bare 0x86 1 None Any Absent Byte true Never XchgRmReg)
byte_row Set = Some (row Escape 0x90 16 (Some 0) Any Absent Byte false Never Set)
byte_row TestRmReg = Some (row Bare 0x84 1 None Any Absent Byte false Never TestRmReg)
byte_row TestAccImm = Some (row Bare 0xA8 1 None NoModrm Ib Byte false Never TestAccImm)
byte_row TestRmImm = Some (row Bare 0xF6 1 (Some 0) Any Ib Byte false Never TestRmImm)
byte_row (BumpRm true) = Some (row Bare 0xFE 1 (Some 0) Any Absent Byte true Never (BumpRm true))
byte_row (BumpRm false) = Some (row Bare 0xFE 1 (Some 1) Any Absent Byte true Never (BumpRm false))
byte_row (Unary Not) = Some (row Bare 0xF6 1 (Some 2) Any Absent Byte true Never (Unary Not))
byte_row (Unary Neg) = Some (row Bare 0xF6 1 (Some 3) Any Absent Byte true Never (Unary Neg))
byte_row (Mul false) = Some (row Bare 0xF6 1 (Some 4) Any Absent Byte false Never (Mul false))
byte_row (Mul true) = Some (row Bare 0xF6 1 (Some 5) Any Absent Byte false Never (Mul true))
byte_row (Div false) = Some (row Bare 0xF6 1 (Some 6) Any Absent Byte false Never (Div false))
byte_row (Div true) = Some (row Bare 0xF6 1 (Some 7) Any Absent Byte false Never (Div true))
byte_row Cmpxchg = Some (row Escape 0xB0 1 None Any Absent Byte true Never Cmpxchg)
byte_row Xadd = Some (row Escape 0xC0 1 None Any Absent Byte true Never Xadd)
byte_row (Str Movs) = Some (row Bare 0xA4 1 None NoModrm Absent Byte false Rep (Str Movs))
byte_row (Str Cmps) = Some (row Bare 0xA6 1 None NoModrm Absent Byte false Repe (Str Cmps))
byte_row (Str Stos) = Some (row Bare 0xAA 1 None NoModrm Absent Byte false Rep (Str Stos))
byte_row (Str Lods) = Some (row Bare 0xAC 1 None NoModrm Absent Byte false Rep (Str Lods))
byte_row (Str Scas) = Some (row Bare 0xAE 1 None NoModrm Absent Byte false Repe (Str Scas))
byte_row k = None

-- of wider operands, with a whole immediate or without one
unfoldable pub full_row : Kind → Option Row
full_row (AluRmReg op) = Some (row Bare (8 * alu_number op + 1) 1 None Any Absent Vary (can_lock_alu op) Never (AluRmReg op))
full_row (AluRegRm op) = Some (row Bare (8 * alu_number op + 3) 1 None Any Absent Vary false Never (AluRegRm op))
full_row (AluAccImm op) = Some (row Bare (8 * alu_number op + 5) 1 None NoModrm Iz Vary false Never (AluAccImm op))
full_row (AluRmImm op) = Some (row Bare 0x81 1 (Some (alu_number op)) Any Iz Vary (can_lock_alu op) Never (AluRmImm op))
full_row (ShiftImm op) = Some (row Bare 0xC1 1 (Some (shift_number op)) Any Ib Vary false Never (ShiftImm op))
full_row (ShiftOne op) = Some (row Bare 0xD1 1 (Some (shift_number op)) Any Absent Vary false Never (ShiftOne op))
full_row (ShiftCl op) = Some (row Bare 0xD3 1 (Some (shift_number op)) Any Absent Vary false Never (ShiftCl op))
full_row (BitReg op) = Some (row Escape (0xA3 + 8 * bit_number op) 1 None Register Absent Vary false Never (BitReg op))
full_row (BitImm op) = Some (row Escape 0xBA 1 (Some (4 + bit_number op)) Any Ib Vary (can_lock_bit op) Never (BitImm op))
full_row MovRmReg = Some (row Bare 0x89 1 None Any Absent Vary false Never MovRmReg)
full_row MovRegRm = Some (row Bare 0x8B 1 None Any Absent Vary false Never MovRegRm)
full_row MovAccAt = Some (row Bare 0xA1 1 None NoModrm Id Vary false Never MovAccAt)
full_row MovAtAcc = Some (row Bare 0xA3 1 None NoModrm Id Vary false Never MovAtAcc)
full_row MovRegImm = Some (row Bare 0xB8 8 None NoModrm Iz Vary false Never MovRegImm)
full_row MovRmImm = Some (row Bare 0xC7 1 (Some 0) Any Iz Vary false Never MovRmImm)
full_row XchgRmReg = Some (row Bare 0x87 1 None Any Absent Vary true Never XchgRmReg)
full_row XchgRegAcc = Some (row Bare 0x91 7 None NoModrm Absent Vary false Never XchgRegAcc)
full_row Lea = Some (row Bare 0x8D 1 None Memory Absent Vary false Never Lea)
full_row (Movx false B) = Some (row Escape 0xB6 1 None Any Absent Vary false Never (Movx false B))
full_row (Movx false W) = Some (row Escape 0xB7 1 None Any Absent Dword false Never (Movx false W))
full_row (Movx true B) = Some (row Escape 0xBE 1 None Any Absent Vary false Never (Movx true B))
full_row (Movx true W) = Some (row Escape 0xBF 1 None Any Absent Dword false Never (Movx true W))
full_row Bswap = Some (row Escape 0xC8 8 None NoModrm Absent Dword false Never Bswap)
full_row Cmov = Some (row Escape 0x40 16 None Any Absent Vary false Never Cmov)
full_row Xlat = Some (row Bare 0xD7 1 None NoModrm Absent Dword false Never Xlat)
full_row PushReg = Some (row Bare 0x50 8 None NoModrm Absent Dword false Never PushReg)
full_row PushImm = Some (row Bare 0x68 1 None NoModrm Id Dword false Never PushImm)
full_row PushRm = Some (row Bare 0xFF 1 (Some 6) Any Absent Dword false Never PushRm)
full_row PopReg = Some (row Bare 0x58 8 None NoModrm Absent Dword false Never PopReg)
full_row PopRm = Some (row Bare 0x8F 1 (Some 0) Any Absent Dword false Never PopRm)
full_row Pushad = Some (row Bare 0x60 1 None NoModrm Absent Dword false Never Pushad)
full_row Popad = Some (row Bare 0x61 1 None NoModrm Absent Dword false Never Popad)
full_row Pushfd = Some (row Bare 0x9C 1 None NoModrm Absent Dword false Never Pushfd)
full_row Popfd = Some (row Bare 0x9D 1 None NoModrm Absent Dword false Never Popfd)
full_row Leave = Some (row Bare 0xC9 1 None NoModrm Absent Dword false Never Leave)
full_row TestRmReg = Some (row Bare 0x85 1 None Any Absent Vary false Never TestRmReg)
full_row TestAccImm = Some (row Bare 0xA9 1 None NoModrm Iz Vary false Never TestAccImm)
full_row TestRmImm = Some (row Bare 0xF7 1 (Some 0) Any Iz Vary false Never TestRmImm)
full_row (BumpReg true) = Some (row Bare 0x40 8 None NoModrm Absent Vary false Never (BumpReg true))
full_row (BumpReg false) = Some (row Bare 0x48 8 None NoModrm Absent Vary false Never (BumpReg false))
full_row (BumpRm true) = Some (row Bare 0xFF 1 (Some 0) Any Absent Vary true Never (BumpRm true))
full_row (BumpRm false) = Some (row Bare 0xFF 1 (Some 1) Any Absent Vary true Never (BumpRm false))
full_row (Unary Not) = Some (row Bare 0xF7 1 (Some 2) Any Absent Vary true Never (Unary Not))
full_row (Unary Neg) = Some (row Bare 0xF7 1 (Some 3) Any Absent Vary true Never (Unary Neg))
full_row (Mul false) = Some (row Bare 0xF7 1 (Some 4) Any Absent Vary false Never (Mul false))
full_row (Mul true) = Some (row Bare 0xF7 1 (Some 5) Any Absent Vary false Never (Mul true))
full_row (Div false) = Some (row Bare 0xF7 1 (Some 6) Any Absent Vary false Never (Div false))
full_row (Div true) = Some (row Bare 0xF7 1 (Some 7) Any Absent Vary false Never (Div true))
full_row ImulRegRm = Some (row Escape 0xAF 1 None Any Absent Vary false Never ImulRegRm)
full_row ImulRegRmImm = Some (row Bare 0x69 1 None Any Iz Vary false Never ImulRegRmImm)
full_row (DoubleImm true) = Some (row Escape 0xA4 1 None Any Ib Dword false Never (DoubleImm true))
full_row (DoubleCl true) = Some (row Escape 0xA5 1 None Any Absent Dword false Never (DoubleCl true))
full_row (DoubleImm false) = Some (row Escape 0xAC 1 None Any Ib Dword false Never (DoubleImm false))
full_row (DoubleCl false) = Some (row Escape 0xAD 1 None Any Absent Dword false Never (DoubleCl false))
full_row (Scan true) = Some (row Escape 0xBC 1 None Any Absent Vary false Never (Scan true))
full_row (Scan false) = Some (row Escape 0xBD 1 None Any Absent Vary false Never (Scan false))
full_row Cmpxchg = Some (row Escape 0xB1 1 None Any Absent Vary true Never Cmpxchg)
full_row Xadd = Some (row Escape 0xC1 1 None Any Absent Vary true Never Xadd)
full_row Cbw = Some (row Bare 0x98 1 None NoModrm Absent Vary false Never Cbw)
full_row Cwd = Some (row Bare 0x99 1 None NoModrm Absent Vary false Never Cwd)
full_row (Str Movs) = Some (row Bare 0xA5 1 None NoModrm Absent Vary false Rep (Str Movs))
full_row (Str Cmps) = Some (row Bare 0xA7 1 None NoModrm Absent Vary false Repe (Str Cmps))
full_row (Str Stos) = Some (row Bare 0xAB 1 None NoModrm Absent Vary false Rep (Str Stos))
full_row (Str Lods) = Some (row Bare 0xAD 1 None NoModrm Absent Vary false Rep (Str Lods))
full_row (Str Scas) = Some (row Bare 0xAF 1 None NoModrm Absent Vary false Repe (Str Scas))
full_row Sahf = Some (row Bare 0x9E 1 None NoModrm Absent Dword false Never Sahf)
full_row Lahf = Some (row Bare 0x9F 1 None NoModrm Absent Dword false Never Lahf)
full_row (Flag Cmc) = Some (row Bare 0xF5 1 None NoModrm Absent Dword false Never (Flag Cmc))
full_row (Flag Clc) = Some (row Bare 0xF8 1 None NoModrm Absent Dword false Never (Flag Clc))
full_row (Flag Stc) = Some (row Bare 0xF9 1 None NoModrm Absent Dword false Never (Flag Stc))
full_row (Flag Cld) = Some (row Bare 0xFC 1 None NoModrm Absent Dword false Never (Flag Cld))
full_row (Flag Std) = Some (row Bare 0xFD 1 None NoModrm Absent Dword false Never (Flag Std))
full_row Nop = Some (row Bare 0x90 1 None NoModrm Absent Vary false Never Nop)
full_row Pause = Some (row Bare 0x90 1 None NoModrm Absent Dword false Needed Pause)
full_row Endbr = Some (row Hint 0xFB 1 None NoModrm Absent Dword false Needed Endbr)
full_row ToGs = Some (row Bare 0x8E 1 (Some 5) Any Absent Vary false Never ToGs)
full_row FromGs = Some (row Bare 0x8C 1 (Some 5) Any Absent Vary false Never FromGs)
full_row Cpuid = Some (row Escape 0xA2 1 None NoModrm Absent Dword false Never Cpuid)
full_row Branch = Some (row Escape 0x80 16 None NoModrm Id Dword false Never Branch)
full_row Jump = Some (row Bare 0xE9 1 None NoModrm Id Dword false Never Jump)
full_row JumpVia = Some (row Bare 0xFF 1 (Some 4) Any Absent Dword false Never JumpVia)
full_row Call = Some (row Bare 0xE8 1 None NoModrm Id Dword false Never Call)
full_row CallVia = Some (row Bare 0xFF 1 (Some 2) Any Absent Dword false Never CallVia)
full_row Ret = Some (row Bare 0xC2 1 None NoModrm Iw Dword false Idle Ret)
full_row Int80 = Some (row Interrupt 0x80 1 None NoModrm Absent Dword false Never Int80)
full_row Int3 = Some (row Bare 0xCC 1 None NoModrm Absent Dword false Never Int3)
full_row Hlt = Some (row Bare 0xF4 1 None NoModrm Absent Dword false Never Hlt)
full_row Ud2 = Some (row Escape 0x0B 1 None NoModrm Absent Dword false Never Ud2)
full_row k = None

-- shorter
unfoldable pub short_row : Kind → Option Row
short_row (AluRmImm op) = Some (row Bare 0x83 1 (Some (alu_number op)) Any SignedIb Vary (can_lock_alu op) Never (AluRmImm op))
short_row PushImm = Some (row Bare 0x6A 1 None NoModrm SignedIb Dword false Never PushImm)
short_row ImulRegRmImm = Some (row Bare 0x6B 1 None Any SignedIb Vary false Never ImulRegRmImm)
short_row Branch = Some (row Bare 0x70 16 None NoModrm SignedIb Dword false Never Branch)
short_row Jump = Some (row Bare 0xEB 1 None NoModrm SignedIb Dword false Never Jump)
short_row (Loop Ne) = Some (row Bare 0xE0 1 None NoModrm SignedIb Dword false Never (Loop Ne))
short_row (Loop E) = Some (row Bare 0xE1 1 None NoModrm SignedIb Dword false Never (Loop E))
short_row (Loop Plain) = Some (row Bare 0xE2 1 None NoModrm SignedIb Dword false Never (Loop Plain))
short_row (Loop Ecxz) = Some (row Bare 0xE3 1 None NoModrm SignedIb Dword false Never (Loop Ecxz))
short_row Ret = Some (row Bare 0xC3 1 None NoModrm Absent Dword false Idle Ret)
short_row k = None
