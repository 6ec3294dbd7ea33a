-- The rows of the kinds are the rows of the table, and each row fits what its kind takes. Each is one test, which computes
-- over the whole table.
use Rattle.std.proofs.Common.{◌≡◌, ℕ, zero, suc, ◌+◌, ◌*◌, ◌%◌, ◌^◌, ◌<◌, ◌≤◌, Bool, true, false, ◌⊎◌, List, [], ◌∷◌, length, map, Option, Some, None, refl, subst, inl, inr, arith}
use Rattle.std.specs.Prelude.{not, ◌&&◌, ◌||◌, Contains, slice_index_or, nat_lt, nat_le, nat_eq}
use Rattle.std.proofs.lemmas.Bool.{ltb-true, leb-true}
use Rattle.x86_insn.specs.declared.insn.AluOp.TheVariants as alu
use Rattle.x86_insn.specs.declared.insn.ShiftOp.TheVariants.{Rol, Ror, Rcl, Rcr, Shl, Shr, Sar}
use Rattle.x86_insn.specs.declared.insn.BitOp.TheVariants.{Bt, Bts, Btr, Btc}
use Rattle.x86_insn.specs.declared.insn.UnOp.TheVariants.{Not, Neg}
use Rattle.x86_insn.specs.declared.insn.StrOp.TheVariants.{Movs, Cmps, Stos, Lods, Scas}
use Rattle.x86_insn.specs.declared.insn.FlagOp.TheVariants.{Cmc, Clc, Stc, Cld, Std}
use Rattle.x86_insn.specs.declared.insn.LoopKind.TheVariants.{Ne, E, Plain, Ecxz}
use Rattle.x86_insn.specs.declared.insn.Width.TheVariants.{B, W, D}
use Rattle.x86_insn.specs.declared.row.Lead.{Lead}
use Rattle.x86_insn.specs.declared.row.Lead.TheVariants.{Bare, Escape, Interrupt, Hint}
use Rattle.x86_insn.specs.declared.row.Layout.{Layout}
use Rattle.x86_insn.specs.declared.row.Layout.TheVariants.{NoModrm, Any, Memory, Register}
use Rattle.x86_insn.specs.declared.row.Immediate.{Immediate}
use Rattle.x86_insn.specs.declared.row.Immediate.TheVariants.{Absent, Ib, SignedIb, Iw}
use Rattle.x86_insn.specs.declared.row.Size.{Size}
use Rattle.x86_insn.specs.declared.row.Size.TheVariants.{Byte, Vary, Dword}
use Rattle.x86_insn.specs.declared.row.Repeat.{Repeat}
use Rattle.x86_insn.specs.declared.row.Repeat.TheVariants.{Never, Idle, Needed, Rep, Repe}
use Rattle.x86_insn.specs.declared.row.Kind.{Kind}
use Rattle.x86_insn.specs.declared.row.Kind.TheVariants.{AluRmReg, AluRegRm, AluAccImm, AluRmImm, TestRmReg, TestAccImm, TestRmImm, MovRmReg, MovRegRm, MovRegImm, MovRmImm, MovAccAt, MovAtAcc, XchgRmReg, XchgRegAcc, Lea, Movx, Bswap, PushReg, PushImm, PushRm, PopReg, PopRm, BumpReg, BumpRm, Unary, Mul, Div, ImulRegRm, ImulRegRmImm, ShiftImm, ShiftOne, ShiftCl, DoubleImm, DoubleCl, BitReg, BitImm, Scan, Cmpxchg, Xadd, Set, Cmov, Cbw, Cwd, Str, Flag, Pushad, Popad, Pushfd, Popfd, Leave, Xlat, Lahf, Sahf, Nop, Pause, Endbr, ToGs, FromGs, Cpuid, Jump, Branch, Loop, Call, JumpVia, CallVia, Ret, Int80, Int3, Hlt, Ud2}
use Rattle.x86_insn.specs.declared.row.Row.{Row}
use Rattle.x86_insn.specs.Rows.{rows}
use Rattle.x86_insn.specs.Spelling.{takes_gs}
use Rattle.x86_insn.specs.Agreeing.{both_true}
use Rattle.x86_encode.specs.Slots.{byte_row, full_row, short_row}
use Rattle.x86_encode.specs.laws.Taken.{WidthUse, Given, Long, Short, Selector, OperandUse, NoOperand, Named, AtImmediate, RepeatUse, OnceOnly, Kept, Stands, NumberUse, NoNumber, ByRegister, ByCondition, ImmediateUse, Unused, Whole, LowByte, LowHalf, Uses, uses}

-- ---- each row of the table is one of its kind's

pub data Slot : Type 0 where
  AtByte : Slot
  AtFull : Slot
  AtShort : Slot

abbrev pub slot_row : Slot → Kind → Option Row
slot_row AtByte k = byte_row k
slot_row AtFull k = full_row k
slot_row AtShort k = short_row k

abbrev slot_by : Size → Immediate → Bool → Slot
slot_by Byte i other = AtByte
slot_by Vary SignedIb other = AtShort
slot_by Dword SignedIb other = AtShort
slot_by s i true = AtShort
slot_by s i false = AtFull

-- RET without an immediate stands with the shorter rows
abbrev pub slot_of : Row → Slot
slot_of r = slot_by r.form.size r.form.immediate (nat_eq r.opcode 0xC3)

abbrev pub is_nop : Kind → Bool
is_nop Nop = true
is_nop k = false

abbrev pub is_escape : Lead → Bool
is_escape Bare = false
is_escape Escape = true
is_escape Interrupt = false
is_escape Hint = false

-- the long NOP alone has operands that mean nothing, and isn't among its kind's rows
abbrev is_long_nop : Row → Bool
is_long_nop r = is_nop r.form.kind && is_escape r.lead

pub record IsLongNop (r : Row) : Type 0 where
  pub nop : is_nop r.form.kind ≡ true
  pub escape : is_escape r.lead ≡ true

abbrev own : Row → Option Row
own r = elim (is_long_nop r) [ true ↦ Some r | false ↦ slot_row (slot_of r) r.form.kind ]

table_slotted : map own rows ≡ map Some rows
unfolding rows byte_row full_row short_row
table_slotted = refl

mapped : (rs : List Row) (k : ℕ) (d : Row) → map own rs ≡ map Some rs → k < length rs → own (slice_index_or rs k d) ≡ Some (slice_index_or rs k d)
mapped [] k d e l = absurd (omega arith)
mapped (r ∷ rs) zero d e l = cc e
mapped (r ∷ rs) (suc k) d e l = let f : map own rs ≡ map Some rs = cc e in mapped rs k d f (omega arith)

pub slotted : (r : Row) → Contains rows r → (slot_row (slot_of r) r.form.kind ≡ Some r) ⊎ IsLongNop r
slotted r h = let e = mapped rows h.0 r table_slotted h.1 in go (is_long_nop r) refl (subst (λ (x : Row). own x ≡ Some x) h.2 e)
  where
    go : (v : Bool) → is_long_nop r ≡ v → (elim v as (λ _. Option Row) [ true ↦ Some r | false ↦ slot_row (slot_of r) r.form.kind ]) ≡ Some r → (slot_row (slot_of r) r.form.kind ≡ Some r) ⊎ IsLongNop r
    go true e h = let w = both_true (is_nop r.form.kind) (is_escape r.lead) e in inr (record { nop = w.0; escape = w.1 })
    go false e h = inl h

-- ---- each row fits what its kind takes

abbrev pub fits_width : WidthUse → Size → Immediate → Bool
fits_width Given s i = true
fits_width Long Byte i = false
fits_width Long Vary Absent = true
fits_width Long Vary i = false
fits_width Long Dword i = true
fits_width Short Byte i = true
fits_width Short Vary i = false
fits_width Short Dword i = false
fits_width Selector Byte i = false
fits_width Selector Vary Absent = true
fits_width Selector Vary i = false
fits_width Selector Dword i = false

abbrev pub fits_repeat : RepeatUse → Repeat → Bool
fits_repeat OnceOnly Never = true
fits_repeat OnceOnly Idle = true
fits_repeat OnceOnly Needed = false
fits_repeat OnceOnly Rep = true
fits_repeat OnceOnly Repe = true
fits_repeat Kept r = true
fits_repeat Stands Never = false
fits_repeat Stands Idle = false
fits_repeat Stands Needed = true
fits_repeat Stands Rep = false
fits_repeat Stands Repe = false

abbrev pub is_never : Repeat → Bool
is_never Never = true
is_never Idle = false
is_never Needed = false
is_never Rep = false
is_never Repe = false

abbrev pub fits_field : Bool → Option ℕ → Bool
fits_field reg None = reg
fits_field reg (Some d) = not reg && nat_lt d 8

abbrev pub is_none : Option ℕ → Bool
is_none None = true
is_none (Some d) = false

abbrev pub is_named : OperandUse → Bool
is_named NoOperand = false
is_named Named = true
is_named AtImmediate = false

abbrev pub fits_modrm : Layout → Bool → OperandUse → Bool → Option ℕ → Bool
fits_modrm NoModrm reg x lock digit = not reg && not (is_named x) && not lock && is_none digit
fits_modrm Any reg x lock digit = is_named x && fits_field reg digit
fits_modrm Memory reg x lock digit = is_named x && fits_field reg digit
fits_modrm Register reg x lock digit = is_named x && fits_field reg digit

abbrev pub fits_number : NumberUse → ℕ → ℕ → Bool
fits_number NoNumber span opcode = nat_eq span 1
fits_number ByRegister span opcode = (nat_eq span 8 && nat_eq (opcode % 8) 0) || (nat_eq span 7 && nat_eq (opcode % 8) 1)
fits_number ByCondition span opcode = nat_eq span 16 && nat_eq (opcode % 16) 0

abbrev pub fits_immediate : ImmediateUse → Immediate → Bool
fits_immediate Unused Absent = true
fits_immediate Unused i = false
fits_immediate Whole i = true
fits_immediate LowByte Ib = true
fits_immediate LowByte i = false
fits_immediate LowHalf Absent = true
fits_immediate LowHalf Iw = true
fits_immediate LowHalf i = false

abbrev pub is_lea : Kind → Bool
is_lea Lea = true
is_lea k = false

abbrev pub only_memory : Layout → Bool
only_memory NoModrm = false
only_memory Any = false
only_memory Memory = true
only_memory Register = false

-- the lead of two bytes; no row that takes 65 has it, so that what is made has 15 bytes at most
abbrev pub is_hint : Lead → Bool
is_hint Bare = false
is_hint Escape = false
is_hint Interrupt = false
is_hint Hint = true

abbrev fits : Uses → Row → Bool
fits u r =
    fits_width u.width r.form.size r.form.immediate
    && (u.lock || not r.form.lock)
    && fits_repeat u.rep r.form.repeat
    && (not r.form.lock || is_never r.form.repeat)
    && fits_modrm r.form.layout u.reg u.operand r.form.lock r.form.digit
    && fits_number u.number r.span r.opcode
    && nat_le (r.opcode + r.span) 256
    && fits_immediate u.immediate r.form.immediate
    && (not (is_lea r.form.kind) || only_memory r.form.layout)
    && (not (takes_gs r.form) || not (is_hint r.lead))

abbrev fits_or_long : Row → Bool
fits_or_long r = fits (uses r.form.kind) r || is_long_nop r

abbrev all_fit : List Row → Bool
all_fit [] = true
all_fit (r ∷ rs) = fits_or_long r && all_fit rs

table_fits : all_fit rows ≡ true
unfolding rows
table_fits = refl

pub either_true : (a b : Bool) → (a || b) ≡ true → (a ≡ true) ⊎ (b ≡ true)
either_true true b h = inl refl
either_true false b h = inr h

each_fits : (rs : List Row) (k : ℕ) (d : Row) → all_fit rs ≡ true → k < length rs → fits_or_long (slice_index_or rs k d) ≡ true
each_fits [] k d e l = absurd (omega arith)
each_fits (r ∷ rs) zero d e l = (both_true (fits_or_long r) (all_fit rs) e).0
each_fits (r ∷ rs) (suc k) d e l = each_fits rs k d (both_true (fits_or_long r) (all_fit rs) e).1 (omega arith)

pub record RowFits (r : Row) : Type 0 where
  pub width : fits_width (uses r.form.kind).width r.form.size r.form.immediate ≡ true
  pub lock : ((uses r.form.kind).lock || not r.form.lock) ≡ true
  pub repeat : fits_repeat (uses r.form.kind).rep r.form.repeat ≡ true
  pub apart : (not r.form.lock || is_never r.form.repeat) ≡ true
  pub modrm : fits_modrm r.form.layout (uses r.form.kind).reg (uses r.form.kind).operand r.form.lock r.form.digit ≡ true
  pub number : fits_number (uses r.form.kind).number r.span r.opcode ≡ true
  pub opcode : r.opcode + r.span ≤ 256
  pub immediate : fits_immediate (uses r.form.kind).immediate r.form.immediate ≡ true
  pub lea : (not (is_lea r.form.kind) || only_memory r.form.layout) ≡ true
  pub lead : (not (takes_gs r.form) || not (is_hint r.lead)) ≡ true

row_fits : (r : Row) → fits (uses r.form.kind) r ≡ true → RowFits r
row_fits r h =
    let y = both_true _ (not (takes_gs r.form) || not (is_hint r.lead)) h in
    let z = both_true _ (not (is_lea r.form.kind) || only_memory r.form.layout) y.0 in
    let a = both_true _ (fits_immediate (uses r.form.kind).immediate r.form.immediate) z.0 in
    let b = both_true _ (nat_le (r.opcode + r.span) 256) a.0 in
    let c = both_true _ (fits_number (uses r.form.kind).number r.span r.opcode) b.0 in
    let d = both_true _ (fits_modrm r.form.layout (uses r.form.kind).reg (uses r.form.kind).operand r.form.lock r.form.digit) c.0 in
    let e = both_true _ (not r.form.lock || is_never r.form.repeat) d.0 in
    let f = both_true _ (fits_repeat (uses r.form.kind).rep r.form.repeat) e.0 in
    let g = both_true (fits_width (uses r.form.kind).width r.form.size r.form.immediate) _ f.0 in
    record { width = g.0; lock = g.1; repeat = f.1; apart = e.1; modrm = d.1; number = c.1; opcode = leb-true _ _ b.1; immediate = a.1; lea = z.1; lead = y.1 }

pub fitted : (r : Row) → Contains rows r → RowFits r ⊎ IsLongNop r
fitted r h =
    let e : fits_or_long r ≡ true = subst (λ (x : Row). fits_or_long x ≡ true) h.2 (each_fits rows h.0 r table_fits h.1) in
    elim (either_true (fits (uses r.form.kind) r) _ e) [
      | inl p ↦ inl (row_fits r p)
      | inr p ↦ let w = both_true (is_nop r.form.kind) (is_escape r.lead) p in inr (record { nop = w.0; escape = w.1 })
    ]

-- ---- each row of a kind is in the table

abbrev lead_code : Lead → ℕ
lead_code Bare = 0
lead_code Escape = 1
lead_code Interrupt = 2
lead_code Hint = 3

abbrev digit_code : Option ℕ → ℕ
digit_code None = 0
digit_code (Some d) = d + 1

abbrev repeat_code : Repeat → ℕ
repeat_code Never = 0
repeat_code Idle = 0
repeat_code Needed = 1
repeat_code Rep = 0
repeat_code Repe = 0

-- no two rows of the table have the same lead, opcode, digit and need of F3
abbrev row_code : Row → ℕ
row_code r = 2 ^ 16 * lead_code r.lead + 2 ^ 8 * r.opcode + 2 ^ 4 * repeat_code r.form.repeat + digit_code r.form.digit

abbrev place_in : List Row → ℕ → ℕ
place_in [] code = 0
place_in (r ∷ rs) code = elim (nat_eq (row_code r) code) [ true ↦ 0 | false ↦ suc (place_in rs code) ]

abbrev place_of : Row → ℕ
place_of r = place_in rows (row_code r)

abbrev Listed : Kind → Option Row → Type 0
Listed k None = Unit {0}
Listed k (Some r) =
    (nat_lt (place_of r) (length rows) ≡ true) × (slice_index_or rows (place_of r) r ≡ r) × (r.form.kind ≡ k) × (fits (uses r.form.kind) r ≡ true)

kind_listed : (k : Kind) → Listed k (byte_row k) × Listed k (full_row k) × Listed k (short_row k)
unfolding rows byte_row full_row short_row
kind_listed (AluRmReg alu.Add) = ((refl, refl, refl, refl), (refl, refl, refl, refl), tt)
kind_listed (AluRmReg alu.Or) = ((refl, refl, refl, refl), (refl, refl, refl, refl), tt)
kind_listed (AluRmReg alu.Adc) = ((refl, refl, refl, refl), (refl, refl, refl, refl), tt)
kind_listed (AluRmReg alu.Sbb) = ((refl, refl, refl, refl), (refl, refl, refl, refl), tt)
kind_listed (AluRmReg alu.And) = ((refl, refl, refl, refl), (refl, refl, refl, refl), tt)
kind_listed (AluRmReg alu.Sub) = ((refl, refl, refl, refl), (refl, refl, refl, refl), tt)
kind_listed (AluRmReg alu.Xor) = ((refl, refl, refl, refl), (refl, refl, refl, refl), tt)
kind_listed (AluRmReg alu.Cmp) = ((refl, refl, refl, refl), (refl, refl, refl, refl), tt)
kind_listed (AluRegRm alu.Add) = ((refl, refl, refl, refl), (refl, refl, refl, refl), tt)
kind_listed (AluRegRm alu.Or) = ((refl, refl, refl, refl), (refl, refl, refl, refl), tt)
kind_listed (AluRegRm alu.Adc) = ((refl, refl, refl, refl), (refl, refl, refl, refl), tt)
kind_listed (AluRegRm alu.Sbb) = ((refl, refl, refl, refl), (refl, refl, refl, refl), tt)
kind_listed (AluRegRm alu.And) = ((refl, refl, refl, refl), (refl, refl, refl, refl), tt)
kind_listed (AluRegRm alu.Sub) = ((refl, refl, refl, refl), (refl, refl, refl, refl), tt)
kind_listed (AluRegRm alu.Xor) = ((refl, refl, refl, refl), (refl, refl, refl, refl), tt)
kind_listed (AluRegRm alu.Cmp) = ((refl, refl, refl, refl), (refl, refl, refl, refl), tt)
kind_listed (AluAccImm alu.Add) = ((refl, refl, refl, refl), (refl, refl, refl, refl), tt)
kind_listed (AluAccImm alu.Or) = ((refl, refl, refl, refl), (refl, refl, refl, refl), tt)
kind_listed (AluAccImm alu.Adc) = ((refl, refl, refl, refl), (refl, refl, refl, refl), tt)
kind_listed (AluAccImm alu.Sbb) = ((refl, refl, refl, refl), (refl, refl, refl, refl), tt)
kind_listed (AluAccImm alu.And) = ((refl, refl, refl, refl), (refl, refl, refl, refl), tt)
kind_listed (AluAccImm alu.Sub) = ((refl, refl, refl, refl), (refl, refl, refl, refl), tt)
kind_listed (AluAccImm alu.Xor) = ((refl, refl, refl, refl), (refl, refl, refl, refl), tt)
kind_listed (AluAccImm alu.Cmp) = ((refl, refl, refl, refl), (refl, refl, refl, refl), tt)
kind_listed (AluRmImm alu.Add) = ((refl, refl, refl, refl), (refl, refl, refl, refl), (refl, refl, refl, refl))
kind_listed (AluRmImm alu.Or) = ((refl, refl, refl, refl), (refl, refl, refl, refl), (refl, refl, refl, refl))
kind_listed (AluRmImm alu.Adc) = ((refl, refl, refl, refl), (refl, refl, refl, refl), (refl, refl, refl, refl))
kind_listed (AluRmImm alu.Sbb) = ((refl, refl, refl, refl), (refl, refl, refl, refl), (refl, refl, refl, refl))
kind_listed (AluRmImm alu.And) = ((refl, refl, refl, refl), (refl, refl, refl, refl), (refl, refl, refl, refl))
kind_listed (AluRmImm alu.Sub) = ((refl, refl, refl, refl), (refl, refl, refl, refl), (refl, refl, refl, refl))
kind_listed (AluRmImm alu.Xor) = ((refl, refl, refl, refl), (refl, refl, refl, refl), (refl, refl, refl, refl))
kind_listed (AluRmImm alu.Cmp) = ((refl, refl, refl, refl), (refl, refl, refl, refl), (refl, refl, refl, refl))
kind_listed TestRmReg = ((refl, refl, refl, refl), (refl, refl, refl, refl), tt)
kind_listed TestAccImm = ((refl, refl, refl, refl), (refl, refl, refl, refl), tt)
kind_listed TestRmImm = ((refl, refl, refl, refl), (refl, refl, refl, refl), tt)
kind_listed MovRmReg = ((refl, refl, refl, refl), (refl, refl, refl, refl), tt)
kind_listed MovRegRm = ((refl, refl, refl, refl), (refl, refl, refl, refl), tt)
kind_listed MovRegImm = ((refl, refl, refl, refl), (refl, refl, refl, refl), tt)
kind_listed MovRmImm = ((refl, refl, refl, refl), (refl, refl, refl, refl), tt)
kind_listed MovAccAt = ((refl, refl, refl, refl), (refl, refl, refl, refl), tt)
kind_listed MovAtAcc = ((refl, refl, refl, refl), (refl, refl, refl, refl), tt)
kind_listed XchgRmReg = ((refl, refl, refl, refl), (refl, refl, refl, refl), tt)
kind_listed XchgRegAcc = (tt, (refl, refl, refl, refl), tt)
kind_listed Lea = (tt, (refl, refl, refl, refl), tt)
kind_listed (Movx false B) = (tt, (refl, refl, refl, refl), tt)
kind_listed (Movx false W) = (tt, (refl, refl, refl, refl), tt)
kind_listed (Movx false D) = (tt, tt, tt)
kind_listed (Movx true B) = (tt, (refl, refl, refl, refl), tt)
kind_listed (Movx true W) = (tt, (refl, refl, refl, refl), tt)
kind_listed (Movx true D) = (tt, tt, tt)
kind_listed Bswap = (tt, (refl, refl, refl, refl), tt)
kind_listed PushReg = (tt, (refl, refl, refl, refl), tt)
kind_listed PushImm = (tt, (refl, refl, refl, refl), (refl, refl, refl, refl))
kind_listed PushRm = (tt, (refl, refl, refl, refl), tt)
kind_listed PopReg = (tt, (refl, refl, refl, refl), tt)
kind_listed PopRm = (tt, (refl, refl, refl, refl), tt)
kind_listed (BumpReg false) = (tt, (refl, refl, refl, refl), tt)
kind_listed (BumpReg true) = (tt, (refl, refl, refl, refl), tt)
kind_listed (BumpRm false) = ((refl, refl, refl, refl), (refl, refl, refl, refl), tt)
kind_listed (BumpRm true) = ((refl, refl, refl, refl), (refl, refl, refl, refl), tt)
kind_listed (Unary Not) = ((refl, refl, refl, refl), (refl, refl, refl, refl), tt)
kind_listed (Unary Neg) = ((refl, refl, refl, refl), (refl, refl, refl, refl), tt)
kind_listed (Mul false) = ((refl, refl, refl, refl), (refl, refl, refl, refl), tt)
kind_listed (Mul true) = ((refl, refl, refl, refl), (refl, refl, refl, refl), tt)
kind_listed (Div false) = ((refl, refl, refl, refl), (refl, refl, refl, refl), tt)
kind_listed (Div true) = ((refl, refl, refl, refl), (refl, refl, refl, refl), tt)
kind_listed ImulRegRm = (tt, (refl, refl, refl, refl), tt)
kind_listed ImulRegRmImm = (tt, (refl, refl, refl, refl), (refl, refl, refl, refl))
kind_listed (ShiftImm Rol) = ((refl, refl, refl, refl), (refl, refl, refl, refl), tt)
kind_listed (ShiftImm Ror) = ((refl, refl, refl, refl), (refl, refl, refl, refl), tt)
kind_listed (ShiftImm Rcl) = ((refl, refl, refl, refl), (refl, refl, refl, refl), tt)
kind_listed (ShiftImm Rcr) = ((refl, refl, refl, refl), (refl, refl, refl, refl), tt)
kind_listed (ShiftImm Shl) = ((refl, refl, refl, refl), (refl, refl, refl, refl), tt)
kind_listed (ShiftImm Shr) = ((refl, refl, refl, refl), (refl, refl, refl, refl), tt)
kind_listed (ShiftImm Sar) = ((refl, refl, refl, refl), (refl, refl, refl, refl), tt)
kind_listed (ShiftOne Rol) = ((refl, refl, refl, refl), (refl, refl, refl, refl), tt)
kind_listed (ShiftOne Ror) = ((refl, refl, refl, refl), (refl, refl, refl, refl), tt)
kind_listed (ShiftOne Rcl) = ((refl, refl, refl, refl), (refl, refl, refl, refl), tt)
kind_listed (ShiftOne Rcr) = ((refl, refl, refl, refl), (refl, refl, refl, refl), tt)
kind_listed (ShiftOne Shl) = ((refl, refl, refl, refl), (refl, refl, refl, refl), tt)
kind_listed (ShiftOne Shr) = ((refl, refl, refl, refl), (refl, refl, refl, refl), tt)
kind_listed (ShiftOne Sar) = ((refl, refl, refl, refl), (refl, refl, refl, refl), tt)
kind_listed (ShiftCl Rol) = ((refl, refl, refl, refl), (refl, refl, refl, refl), tt)
kind_listed (ShiftCl Ror) = ((refl, refl, refl, refl), (refl, refl, refl, refl), tt)
kind_listed (ShiftCl Rcl) = ((refl, refl, refl, refl), (refl, refl, refl, refl), tt)
kind_listed (ShiftCl Rcr) = ((refl, refl, refl, refl), (refl, refl, refl, refl), tt)
kind_listed (ShiftCl Shl) = ((refl, refl, refl, refl), (refl, refl, refl, refl), tt)
kind_listed (ShiftCl Shr) = ((refl, refl, refl, refl), (refl, refl, refl, refl), tt)
kind_listed (ShiftCl Sar) = ((refl, refl, refl, refl), (refl, refl, refl, refl), tt)
kind_listed (DoubleImm false) = (tt, (refl, refl, refl, refl), tt)
kind_listed (DoubleImm true) = (tt, (refl, refl, refl, refl), tt)
kind_listed (DoubleCl false) = (tt, (refl, refl, refl, refl), tt)
kind_listed (DoubleCl true) = (tt, (refl, refl, refl, refl), tt)
kind_listed (BitReg Bt) = (tt, (refl, refl, refl, refl), tt)
kind_listed (BitReg Bts) = (tt, (refl, refl, refl, refl), tt)
kind_listed (BitReg Btr) = (tt, (refl, refl, refl, refl), tt)
kind_listed (BitReg Btc) = (tt, (refl, refl, refl, refl), tt)
kind_listed (BitImm Bt) = (tt, (refl, refl, refl, refl), tt)
kind_listed (BitImm Bts) = (tt, (refl, refl, refl, refl), tt)
kind_listed (BitImm Btr) = (tt, (refl, refl, refl, refl), tt)
kind_listed (BitImm Btc) = (tt, (refl, refl, refl, refl), tt)
kind_listed (Scan false) = (tt, (refl, refl, refl, refl), tt)
kind_listed (Scan true) = (tt, (refl, refl, refl, refl), tt)
kind_listed Cmpxchg = ((refl, refl, refl, refl), (refl, refl, refl, refl), tt)
kind_listed Xadd = ((refl, refl, refl, refl), (refl, refl, refl, refl), tt)
kind_listed Set = ((refl, refl, refl, refl), tt, tt)
kind_listed Cmov = (tt, (refl, refl, refl, refl), tt)
kind_listed Cbw = (tt, (refl, refl, refl, refl), tt)
kind_listed Cwd = (tt, (refl, refl, refl, refl), tt)
kind_listed (Str Movs) = ((refl, refl, refl, refl), (refl, refl, refl, refl), tt)
kind_listed (Str Cmps) = ((refl, refl, refl, refl), (refl, refl, refl, refl), tt)
kind_listed (Str Stos) = ((refl, refl, refl, refl), (refl, refl, refl, refl), tt)
kind_listed (Str Lods) = ((refl, refl, refl, refl), (refl, refl, refl, refl), tt)
kind_listed (Str Scas) = ((refl, refl, refl, refl), (refl, refl, refl, refl), tt)
kind_listed (Flag Cmc) = (tt, (refl, refl, refl, refl), tt)
kind_listed (Flag Clc) = (tt, (refl, refl, refl, refl), tt)
kind_listed (Flag Stc) = (tt, (refl, refl, refl, refl), tt)
kind_listed (Flag Cld) = (tt, (refl, refl, refl, refl), tt)
kind_listed (Flag Std) = (tt, (refl, refl, refl, refl), tt)
kind_listed Pushad = (tt, (refl, refl, refl, refl), tt)
kind_listed Popad = (tt, (refl, refl, refl, refl), tt)
kind_listed Pushfd = (tt, (refl, refl, refl, refl), tt)
kind_listed Popfd = (tt, (refl, refl, refl, refl), tt)
kind_listed Leave = (tt, (refl, refl, refl, refl), tt)
kind_listed Xlat = (tt, (refl, refl, refl, refl), tt)
kind_listed Lahf = (tt, (refl, refl, refl, refl), tt)
kind_listed Sahf = (tt, (refl, refl, refl, refl), tt)
kind_listed Nop = (tt, (refl, refl, refl, refl), tt)
kind_listed Pause = (tt, (refl, refl, refl, refl), tt)
kind_listed Endbr = (tt, (refl, refl, refl, refl), tt)
kind_listed ToGs = (tt, (refl, refl, refl, refl), tt)
kind_listed FromGs = (tt, (refl, refl, refl, refl), tt)
kind_listed Cpuid = (tt, (refl, refl, refl, refl), tt)
kind_listed Jump = (tt, (refl, refl, refl, refl), (refl, refl, refl, refl))
kind_listed Branch = (tt, (refl, refl, refl, refl), (refl, refl, refl, refl))
kind_listed (Loop Ne) = (tt, tt, (refl, refl, refl, refl))
kind_listed (Loop E) = (tt, tt, (refl, refl, refl, refl))
kind_listed (Loop Plain) = (tt, tt, (refl, refl, refl, refl))
kind_listed (Loop Ecxz) = (tt, tt, (refl, refl, refl, refl))
kind_listed Call = (tt, (refl, refl, refl, refl), tt)
kind_listed JumpVia = (tt, (refl, refl, refl, refl), tt)
kind_listed CallVia = (tt, (refl, refl, refl, refl), tt)
kind_listed Ret = (tt, (refl, refl, refl, refl), (refl, refl, refl, refl))
kind_listed Int80 = (tt, (refl, refl, refl, refl), tt)
kind_listed Int3 = (tt, (refl, refl, refl, refl), tt)
kind_listed Hlt = (tt, (refl, refl, refl, refl), tt)
kind_listed Ud2 = (tt, (refl, refl, refl, refl), tt)

pub record SlotRow (k : Kind) (r : Row) : Type 0 where
  pub listed : Contains rows r
  pub kind : r.form.kind ≡ k
  pub fits : RowFits r

listed_row : (k : Kind) (o : Option Row) (r : Row) → Listed k o → o ≡ Some r → SlotRow k r
listed_row k None r h e = absurd (cc e)
listed_row k (Some q) r h e =
    let same : q ≡ r = cc e in
    subst (SlotRow k) same (record { listed = (place_of q, ltb-true (place_of q) (length rows) h.0, h.1); kind = h.2; fits = row_fits q h.3 })

pub slot_facts : (s : Slot) (k : Kind) (r : Row) → slot_row s k ≡ Some r → SlotRow k r
slot_facts AtByte k r e = listed_row k (byte_row k) r (kind_listed k).0 e
slot_facts AtFull k r e = listed_row k (full_row k) r (kind_listed k).1 e
slot_facts AtShort k r e = listed_row k (short_row k) r (kind_listed k).2 e
