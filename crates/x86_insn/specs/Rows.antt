-- The spelling table: one row for each form of an opcode. Intel SDM, volume 2, chapters 3 to 5 and appendix A; the
-- choice of rows, and of the prefixes that may stand before each, is this project's own.
use Rattle.std.specs.Prelude.{ℕ, ◌+◌, ◌*◌, Bool, true, false, List, [], ◌∷◌, ◌++◌, Option, Some, None}
use Rattle.x86_insn.specs.declared.insn.AluOp.{AluOp}
use Rattle.x86_insn.specs.declared.insn.AluOp.TheVariants.{Add, Or, Adc, Sbb, And, Sub, Xor, Cmp}
use Rattle.x86_insn.specs.declared.insn.ShiftOp.{ShiftOp}
use Rattle.x86_insn.specs.declared.insn.ShiftOp.TheVariants.{Rol, Ror, Rcl, Rcr, Shl, Shr, Sar}
use Rattle.x86_insn.specs.declared.insn.BitOp.{BitOp}
use Rattle.x86_insn.specs.declared.insn.BitOp.TheVariants.{Bt, Bts, Btr, Btc}
use Rattle.x86_insn.specs.declared.insn.UnOp.TheVariants.{Not, Neg}
use Rattle.x86_insn.specs.declared.insn.StrOp.TheVariants.{Movs, Cmps, Stos, Lods, Scas}
use Rattle.x86_insn.specs.declared.insn.FlagOp.TheVariants.{Cmc, Clc, Stc, Cld, Std}
use Rattle.x86_insn.specs.declared.insn.LoopKind.TheVariants.{Ne, E, Plain, Ecxz}
use Rattle.x86_insn.specs.declared.insn.Width.TheVariants.{B, W}
use Rattle.x86_insn.specs.declared.row.Lead.{Lead}
use Rattle.x86_insn.specs.declared.row.Lead.TheVariants.{Bare, Escape, Interrupt, Hint}
use Rattle.x86_insn.specs.declared.row.Layout.{Layout}
use Rattle.x86_insn.specs.declared.row.Layout.TheVariants.{NoModrm, Any, Memory, Register}
use Rattle.x86_insn.specs.declared.row.Immediate.{Immediate}
use Rattle.x86_insn.specs.declared.row.Immediate.TheVariants.{Absent, Ib, SignedIb, Iw, Id, Iz}
use Rattle.x86_insn.specs.declared.row.Size.{Size}
use Rattle.x86_insn.specs.declared.row.Size.TheVariants.{Byte, Vary, Dword}
use Rattle.x86_insn.specs.declared.row.Repeat.{Repeat}
use Rattle.x86_insn.specs.declared.row.Repeat.TheVariants.{Never, Idle, Needed, Rep, Repe}
use Rattle.x86_insn.specs.declared.row.Kind.{Kind}
use Rattle.x86_insn.specs.declared.row.Kind.TheVariants.{AluRmReg, AluRegRm, AluAccImm, AluRmImm, TestRmReg, TestAccImm, TestRmImm, MovRmReg, MovRegRm, MovRegImm, MovRmImm, MovAccAt, MovAtAcc, XchgRmReg, XchgRegAcc, Lea, Movx, Bswap, PushReg, PushImm, PushRm, PopReg, PopRm, BumpReg, BumpRm, Unary, Mul, Div, ImulRegRm, ImulRegRmImm, ShiftImm, ShiftOne, ShiftCl, DoubleImm, DoubleCl, BitReg, BitImm, Scan, Cmpxchg, Xadd, Set, Cmov, Cbw, Cwd, Str, Flag, Pushad, Popad, Pushfd, Popfd, Leave, Xlat, Lahf, Sahf, Nop, Pause, Endbr, ToGs, FromGs, Cpuid, Jump, Branch, Loop, Call, JumpVia, CallVia, Ret, Int80, Int3, Hlt, Ud2}
use Rattle.x86_insn.specs.declared.row.Row.{Row}

-- a row: the bytes before the opcode byte, the first opcode byte, how many there are from it on, what ModRM's reg
-- field has to be, what ModRM may name, the immediate, the width, whether F0 may stand, which of F2 and F3 may,
-- and what the row spells
abbrev pub row : Lead → ℕ → ℕ → Option ℕ → Layout → Immediate → Size → Bool → Repeat → Kind → Row
row lead opcode span digit layout immediate size lock repeat kind =
    record {
      lead = lead;
      opcode = opcode;
      span = span;
      form = record { digit = digit; layout = layout; immediate = immediate; size = size; lock = lock; repeat = repeat; kind = kind };
    }

-- ADD, OR, ADC, SBB, AND, SUB, XOR and CMP: an operation and its number
abbrev pub alu_rows : AluOp → ℕ → Bool → List Row
alu_rows op k lock =
    row Bare (8 * k) 1 None Any Absent Byte lock Never (AluRmReg op) ∷
    row Bare (8 * k + 1) 1 None Any Absent Vary lock Never (AluRmReg op) ∷
    row Bare (8 * k + 2) 1 None Any Absent Byte false Never (AluRegRm op) ∷
    row Bare (8 * k + 3) 1 None Any Absent Vary false Never (AluRegRm op) ∷
    row Bare (8 * k + 4) 1 None NoModrm Ib Byte false Never (AluAccImm op) ∷
    row Bare (8 * k + 5) 1 None NoModrm Iz Vary false Never (AluAccImm op) ∷
    row Bare 0x80 1 (Some k) Any Ib Byte lock Never (AluRmImm op) ∷
    row Bare 0x81 1 (Some k) Any Iz Vary lock Never (AluRmImm op) ∷
    row Bare 0x83 1 (Some k) Any SignedIb Vary lock Never (AluRmImm op) ∷
    []

-- ROL, ROR, RCL, RCR, SHL, SHR and SAR
abbrev pub shift_rows : ShiftOp → ℕ → List Row
shift_rows op n =
    row Bare 0xC0 1 (Some n) Any Ib Byte false Never (ShiftImm op) ∷
    row Bare 0xC1 1 (Some n) Any Ib Vary false Never (ShiftImm op) ∷
    row Bare 0xD0 1 (Some n) Any Absent Byte false Never (ShiftOne op) ∷
    row Bare 0xD1 1 (Some n) Any Absent Vary false Never (ShiftOne op) ∷
    row Bare 0xD2 1 (Some n) Any Absent Byte false Never (ShiftCl op) ∷
    row Bare 0xD3 1 (Some n) Any Absent Vary false Never (ShiftCl op) ∷
    []

-- BT, BTS, BTR and BTC
abbrev pub bit_rows : BitOp → ℕ → Bool → List Row
bit_rows op k lock =
    row Escape (0xA3 + 8 * k) 1 None Register Absent Vary false Never (BitReg op) ∷
    row Escape 0xBA 1 (Some (4 + k)) Any Ib Vary lock Never (BitImm op) ∷
    []

-- MOV, XCHG, LEA, MOVZX, MOVSX, BSWAP, CMOVcc, SETcc, XLAT
abbrev pub moves : List Row
moves =
    row Bare 0x88 1 None Any Absent Byte false Never MovRmReg ∷
    row Bare 0x89 1 None Any Absent Vary false Never MovRmReg ∷
    row Bare 0x8A 1 None Any Absent Byte false Never MovRegRm ∷
    row Bare 0x8B 1 None Any Absent Vary false Never MovRegRm ∷
    row Bare 0xA0 1 None NoModrm Id Byte false Never MovAccAt ∷
    row Bare 0xA1 1 None NoModrm Id Vary false Never MovAccAt ∷
    row Bare 0xA2 1 None NoModrm Id Byte false Never MovAtAcc ∷
    row Bare 0xA3 1 None NoModrm Id Vary false Never MovAtAcc ∷
    row Bare 0xB0 8 None NoModrm Ib Byte false Never MovRegImm ∷
    row Bare 0xB8 8 None NoModrm Iz Vary false Never MovRegImm ∷
    row Bare 0xC6 1 (Some 0) Any Ib Byte false Never MovRmImm ∷
    row Bare 0xC7 1 (Some 0) Any Iz Vary false Never MovRmImm ∷
    row Bare 0x86 1 None Any Absent Byte true Never XchgRmReg ∷
    row Bare 0x87 1 None Any Absent Vary true Never XchgRmReg ∷
    row Bare 0x91 7 None NoModrm Absent Vary false Never XchgRegAcc ∷
    row Bare 0x8D 1 None Memory Absent Vary false Never Lea ∷
    row Escape 0xB6 1 None Any Absent Vary false Never (Movx false B) ∷
    row Escape 0xB7 1 None Any Absent Dword false Never (Movx false W) ∷
    row Escape 0xBE 1 None Any Absent Vary false Never (Movx true B) ∷
    row Escape 0xBF 1 None Any Absent Dword false Never (Movx true W) ∷
    row Escape 0xC8 8 None NoModrm Absent Dword false Never Bswap ∷
    row Escape 0x40 16 None Any Absent Vary false Never Cmov ∷
    row Escape 0x90 16 (Some 0) Any Absent Byte false Never Set ∷
    row Bare 0xD7 1 None NoModrm Absent Dword false Never Xlat ∷
    []

-- PUSH, POP, PUSHAD, POPAD, PUSHFD, POPFD, LEAVE
abbrev pub stack : List Row
stack =
    row Bare 0x50 8 None NoModrm Absent Dword false Never PushReg ∷
    row Bare 0x68 1 None NoModrm Id Dword false Never PushImm ∷
    row Bare 0x6A 1 None NoModrm SignedIb Dword false Never PushImm ∷
    row Bare 0xFF 1 (Some 6) Any Absent Dword false Never PushRm ∷
    row Bare 0x58 8 None NoModrm Absent Dword false Never PopReg ∷
    row Bare 0x8F 1 (Some 0) Any Absent Dword false Never PopRm ∷
    row Bare 0x60 1 None NoModrm Absent Dword false Never Pushad ∷
    row Bare 0x61 1 None NoModrm Absent Dword false Never Popad ∷
    row Bare 0x9C 1 None NoModrm Absent Dword false Never Pushfd ∷
    row Bare 0x9D 1 None NoModrm Absent Dword false Never Popfd ∷
    row Bare 0xC9 1 None NoModrm Absent Dword false Never Leave ∷
    []

-- TEST, INC, DEC, NOT, NEG, MUL, IMUL, DIV, IDIV, SHLD, SHRD, BSF, BSR, CMPXCHG, XADD, CBW, CWDE, CWD, CDQ
abbrev pub arithmetic : List Row
arithmetic =
    row Bare 0x84 1 None Any Absent Byte false Never TestRmReg ∷
    row Bare 0x85 1 None Any Absent Vary false Never TestRmReg ∷
    row Bare 0xA8 1 None NoModrm Ib Byte false Never TestAccImm ∷
    row Bare 0xA9 1 None NoModrm Iz Vary false Never TestAccImm ∷
    row Bare 0xF6 1 (Some 0) Any Ib Byte false Never TestRmImm ∷
    row Bare 0xF7 1 (Some 0) Any Iz Vary false Never TestRmImm ∷
    row Bare 0x40 8 None NoModrm Absent Vary false Never (BumpReg true) ∷
    row Bare 0x48 8 None NoModrm Absent Vary false Never (BumpReg false) ∷
    row Bare 0xFE 1 (Some 0) Any Absent Byte true Never (BumpRm true) ∷
    row Bare 0xFF 1 (Some 0) Any Absent Vary true Never (BumpRm true) ∷
    row Bare 0xFE 1 (Some 1) Any Absent Byte true Never (BumpRm false) ∷
    row Bare 0xFF 1 (Some 1) Any Absent Vary true Never (BumpRm false) ∷
    row Bare 0xF6 1 (Some 2) Any Absent Byte true Never (Unary Not) ∷
    row Bare 0xF7 1 (Some 2) Any Absent Vary true Never (Unary Not) ∷
    row Bare 0xF6 1 (Some 3) Any Absent Byte true Never (Unary Neg) ∷
    row Bare 0xF7 1 (Some 3) Any Absent Vary true Never (Unary Neg) ∷
    row Bare 0xF6 1 (Some 4) Any Absent Byte false Never (Mul false) ∷
    row Bare 0xF7 1 (Some 4) Any Absent Vary false Never (Mul false) ∷
    row Bare 0xF6 1 (Some 5) Any Absent Byte false Never (Mul true) ∷
    row Bare 0xF7 1 (Some 5) Any Absent Vary false Never (Mul true) ∷
    row Bare 0xF6 1 (Some 6) Any Absent Byte false Never (Div false) ∷
    row Bare 0xF7 1 (Some 6) Any Absent Vary false Never (Div false) ∷
    row Bare 0xF6 1 (Some 7) Any Absent Byte false Never (Div true) ∷
    row Bare 0xF7 1 (Some 7) Any Absent Vary false Never (Div true) ∷
    row Escape 0xAF 1 None Any Absent Vary false Never ImulRegRm ∷
    row Bare 0x69 1 None Any Iz Vary false Never ImulRegRmImm ∷
    row Bare 0x6B 1 None Any SignedIb Vary false Never ImulRegRmImm ∷
    row Escape 0xA4 1 None Any Ib Dword false Never (DoubleImm true) ∷
    row Escape 0xA5 1 None Any Absent Dword false Never (DoubleCl true) ∷
    row Escape 0xAC 1 None Any Ib Dword false Never (DoubleImm false) ∷
    row Escape 0xAD 1 None Any Absent Dword false Never (DoubleCl false) ∷
    row Escape 0xBC 1 None Any Absent Vary false Never (Scan true) ∷
    row Escape 0xBD 1 None Any Absent Vary false Never (Scan false) ∷
    row Escape 0xB0 1 None Any Absent Byte true Never Cmpxchg ∷
    row Escape 0xB1 1 None Any Absent Vary true Never Cmpxchg ∷
    row Escape 0xC0 1 None Any Absent Byte true Never Xadd ∷
    row Escape 0xC1 1 None Any Absent Vary true Never Xadd ∷
    row Bare 0x98 1 None NoModrm Absent Vary false Never Cbw ∷
    row Bare 0x99 1 None NoModrm Absent Vary false Never Cwd ∷
    []

-- MOVS, CMPS, STOS, LODS, SCAS
abbrev pub strings : List Row
strings =
    row Bare 0xA4 1 None NoModrm Absent Byte false Rep (Str Movs) ∷
    row Bare 0xA5 1 None NoModrm Absent Vary false Rep (Str Movs) ∷
    row Bare 0xA6 1 None NoModrm Absent Byte false Repe (Str Cmps) ∷
    row Bare 0xA7 1 None NoModrm Absent Vary false Repe (Str Cmps) ∷
    row Bare 0xAA 1 None NoModrm Absent Byte false Rep (Str Stos) ∷
    row Bare 0xAB 1 None NoModrm Absent Vary false Rep (Str Stos) ∷
    row Bare 0xAC 1 None NoModrm Absent Byte false Rep (Str Lods) ∷
    row Bare 0xAD 1 None NoModrm Absent Vary false Rep (Str Lods) ∷
    row Bare 0xAE 1 None NoModrm Absent Byte false Repe (Str Scas) ∷
    row Bare 0xAF 1 None NoModrm Absent Vary false Repe (Str Scas) ∷
    []

-- SAHF, LAHF, CMC, CLC, STC, CLD, STD, NOP, PAUSE, ENDBR32
abbrev pub flags_and_hints : List Row
flags_and_hints =
    row Bare 0x9E 1 None NoModrm Absent Dword false Never Sahf ∷
    row Bare 0x9F 1 None NoModrm Absent Dword false Never Lahf ∷
    row Bare 0xF5 1 None NoModrm Absent Dword false Never (Flag Cmc) ∷
    row Bare 0xF8 1 None NoModrm Absent Dword false Never (Flag Clc) ∷
    row Bare 0xF9 1 None NoModrm Absent Dword false Never (Flag Stc) ∷
    row Bare 0xFC 1 None NoModrm Absent Dword false Never (Flag Cld) ∷
    row Bare 0xFD 1 None NoModrm Absent Dword false Never (Flag Std) ∷
    row Bare 0x90 1 None NoModrm Absent Vary false Never Nop ∷
    row Escape 0x1F 1 (Some 0) Any Absent Vary false Never Nop ∷
    row Bare 0x90 1 None NoModrm Absent Dword false Needed Pause ∷
    row Hint 0xFB 1 None NoModrm Absent Dword false Needed Endbr ∷
    []

-- Jcc, JMP, LOOP, LOOPcc, JECXZ, CALL, RET, INT, HLT, UD2
abbrev pub transfers : List Row
transfers =
    row Bare 0x70 16 None NoModrm SignedIb Dword false Never Branch ∷
    row Escape 0x80 16 None NoModrm Id Dword false Never Branch ∷
    row Bare 0xE9 1 None NoModrm Id Dword false Never Jump ∷
    row Bare 0xEB 1 None NoModrm SignedIb Dword false Never Jump ∷
    row Bare 0xFF 1 (Some 4) Any Absent Dword false Never JumpVia ∷
    row Bare 0xE0 1 None NoModrm SignedIb Dword false Never (Loop Ne) ∷
    row Bare 0xE1 1 None NoModrm SignedIb Dword false Never (Loop E) ∷
    row Bare 0xE2 1 None NoModrm SignedIb Dword false Never (Loop Plain) ∷
    row Bare 0xE3 1 None NoModrm SignedIb Dword false Never (Loop Ecxz) ∷
    row Bare 0xE8 1 None NoModrm Id Dword false Never Call ∷
    row Bare 0xFF 1 (Some 2) Any Absent Dword false Never CallVia ∷
    row Bare 0xC2 1 None NoModrm Iw Dword false Idle Ret ∷
    row Bare 0xC3 1 None NoModrm Absent Dword false Idle Ret ∷
    row Interrupt 0x80 1 None NoModrm Absent Dword false Never Int80 ∷
    row Bare 0xCC 1 None NoModrm Absent Dword false Never Int3 ∷
    row Bare 0xF4 1 None NoModrm Absent Dword false Never Hlt ∷
    row Escape 0x0B 1 None NoModrm Absent Dword false Never Ud2 ∷
    []

-- MOV to and from GS, CPUID
abbrev pub system : List Row
system =
    row Bare 0x8E 1 (Some 5) Any Absent Vary false Never ToGs ∷
    row Bare 0x8C 1 (Some 5) Any Absent Vary false Never FromGs ∷
    row Escape 0xA2 1 None NoModrm Absent Dword false Never Cpuid ∷
    []

-- all rows
unfoldable pub rows : List Row
rows =
    alu_rows Add 0 true ++ alu_rows Or 1 true ++ alu_rows Adc 2 true ++ alu_rows Sbb 3 true
    ++ alu_rows And 4 true ++ alu_rows Sub 5 true ++ alu_rows Xor 6 true ++ alu_rows Cmp 7 false
    ++ shift_rows Rol 0 ++ shift_rows Ror 1 ++ shift_rows Rcl 2 ++ shift_rows Rcr 3
    ++ shift_rows Shl 4 ++ shift_rows Shr 5 ++ shift_rows Sar 7
    ++ bit_rows Bt 0 false ++ bit_rows Bts 1 true ++ bit_rows Btr 2 true ++ bit_rows Btc 3 true
    ++ moves ++ stack ++ arithmetic ++ strings ++ flags_and_hints ++ system ++ transfers
