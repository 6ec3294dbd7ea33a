-- What is made of operands by a row spells them.
use Rattle.std.proofs.Common.{◌≡◌, ℕ, zero, suc, ◌+◌, ◌*◌, ◌/◌, ◌%◌, ◌^◌, ◌<◌, ◌≤◌, Bool, true, false, ◌⊎◌, List, [], ◌∷◌, ◌++◌, length, Option, Some, None, refl, sym, ◌∙◌, ap, ap₂, subst, inl, inr, arith, append_assoc}
use Rattle.std.specs.Prelude.{not, ◌&&◌, ◌||◌, Contains, nat_lt, nat_le, nat_eq, ◌==◌, if◌then◌else◌}
use Rattle.std.proofs.lemmas.Bool.{eqb-true, eq-eqb, ltb-true, ne_eqb}
use Rattle.std.proofs.lemmas.List.{length-append}
use Rattle.mv_base.specs.Bytes.{AreBytes}
use Rattle.x86_insn.specs.declared.insn.Insn.{Insn}
use Rattle.x86_insn.specs.declared.insn.Reg.{Reg}
use Rattle.x86_insn.specs.declared.insn.Reg.TheVariants.{Eax}
use Rattle.x86_insn.specs.declared.insn.Rep.{Rep}
use Rattle.x86_insn.specs.declared.insn.Rep.TheVariants.{Once, F3, F2}
use Rattle.x86_insn.specs.declared.insn.Rm.{Rm}
use Rattle.x86_insn.specs.declared.insn.Width.{Width}
use Rattle.x86_insn.specs.declared.insn.Width.TheVariants.{B, W, D}
use Rattle.x86_insn.specs.declared.row.Lead.{Lead}
use Rattle.x86_insn.specs.declared.row.Lead.TheVariants.{Bare, Escape, Interrupt, Hint}
use Rattle.x86_insn.specs.declared.row.Layout.{Layout}
use Rattle.x86_insn.specs.declared.row.Layout.TheVariants.{NoModrm, Any, Memory, Register}
use Rattle.x86_insn.specs.declared.row.Immediate.{Immediate}
use Rattle.x86_insn.specs.declared.row.Immediate.TheVariants.{Absent, Ib, SignedIb, Iw, Id, Iz}
use Rattle.x86_insn.specs.declared.row.Repeat.{Repeat}
use Rattle.x86_insn.specs.declared.row.Repeat.TheVariants.{Never, Idle, Needed, Rep as Repeats, Repe}
use Rattle.x86_insn.specs.declared.row.Row.{Row}
use Rattle.x86_insn.specs.declared.row.Marks.{Marks}
use Rattle.x86_insn.specs.declared.row.Operands.{Operands}
use Rattle.x86_insn.specs.State.{reg_number}
use Rattle.x86_insn.specs.Addressing.{byte_at, reg_of, reg_field, names_memory, rm_of, with_gs}
use Rattle.x86_insn.specs.Meaning.{cond_of, cond_number, meaning}
use Rattle.x86_insn.specs.Rows.{rows}
use Rattle.x86_insn.specs.Spelling.{lead_bytes, width_of, has_modrm, takes_digit, takes_operand, takes_repeat, takes_gs, takes_marks, asks_memory, takes_modrm, immediate_length, immediate_of, immediate_place, addressed, from_modrm, form_width, operand_length, operands_of, is_opcode, Spells}
use Rattle.x86_insn.specs.Agreeing.{both_true, and_true}
use Rattle.x86_insn.specs.OperandBytes.{SameOperand, same_operand}
use Rattle.x86_insn.specs.Laws.{bytes_listed}
use Rattle.x86_encode.specs.Address.{address_bytes}
use Rattle.x86_encode.specs.Assembling.{same_width, is_memory, group_bytes, word_bytes, segment_bytes, prefix_bytes, immediate_bytes, opcode_byte, field_of, takes, addressed_bytes, both, operand_bytes, front_bytes, behind, assembled}
use Rattle.x86_encode.specs.Candidates.{operands}
use Rattle.x86_encode.specs.laws.Leading.{Apart, Sets, sets, prefixes_short}
use Rattle.x86_encode.specs.laws.Addressed.{reg_back, reg_low, gs_again, memory_with, address_named, address_low, no_bytes, bytes_after}
use Rattle.x86_encode.specs.laws.Immediates.{Holds, immediate_holds, immediate_behind}
use Rattle.x86_encode.specs.laws.Taken.{width_by, OperandUse, NoOperand, Named, AtImmediate, operand_by, operand_taken, NumberUse, NoNumber, ByRegister, ByCondition, ImmediateUse, Unused, Whole, LowByte, LowHalf, Uses, uses, number_by, immediate_by, taken, taken_means, Limited, Agrees}
use Rattle.x86_encode.specs.laws.Tabled.{either_true, fits_field, is_none, is_named, fits_modrm, is_hint, is_never, fits_number, fits_immediate, RowFits}

-- ---- single columns

width_same : (a b : Width) → same_width a b ≡ true → a ≡ b
width_same B B h = refl
width_same B W h = absurd (cc h)
width_same B D h = absurd (cc h)
width_same W B h = absurd (cc h)
width_same W W h = refl
width_same W D h = absurd (cc h)
width_same D B h = absurd (cc h)
width_same D W h = absurd (cc h)
width_same D D h = refl

pub with_modrm : (l : Layout) (reg : Bool) (x : OperandUse) (lock : Bool) (digit : Option ℕ) → has_modrm l ≡ true → fits_modrm l reg x lock digit ≡ true → (is_named x ≡ true) × (fits_field reg digit ≡ true)
with_modrm NoModrm reg x lock digit e h = absurd (cc e)
with_modrm Any reg x lock digit e h = both_true (is_named x) _ h
with_modrm Memory reg x lock digit e h = both_true (is_named x) _ h
with_modrm Register reg x lock digit e h = both_true (is_named x) _ h

not_true : (b : Bool) → not b ≡ true → b ≡ false
not_true true h = absurd (cc h)
not_true false h = refl

none_is : (digit : Option ℕ) → is_none digit ≡ true → digit ≡ None
none_is None h = refl
none_is (Some d) h = absurd (cc h)

pub record Without (reg : Bool) (x : OperandUse) (lock : Bool) (digit : Option ℕ) : Type 0 where
  pub no_reg : reg ≡ false
  pub no_rm : is_named x ≡ false
  pub no_lock : lock ≡ false
  pub no_digit : digit ≡ None

pub without_modrm : (l : Layout) (reg : Bool) (x : OperandUse) (lock : Bool) (digit : Option ℕ) → has_modrm l ≡ false → fits_modrm l reg x lock digit ≡ true → Without reg x lock digit
without_modrm NoModrm reg x lock digit e h =
    let a = both_true (not reg && not (is_named x) && not lock) (is_none digit) h in
    let b = both_true (not reg && not (is_named x)) (not lock) a.0 in
    let c = both_true (not reg) (not (is_named x)) b.0 in
    record { no_reg = not_true reg c.0; no_rm = not_true (is_named x) c.1; no_lock = not_true lock b.1; no_digit = none_is digit a.1 }
without_modrm Any reg x lock digit e h = absurd (cc e)
without_modrm Memory reg x lock digit e h = absurd (cc e)
without_modrm Register reg x lock digit e h = absurd (cc e)

pub any_operand : (l : Layout) (v : Bool) → has_modrm l ≡ false → takes_operand l v ≡ true
any_operand NoModrm v e = refl
any_operand Any v e = absurd (cc e)
any_operand Memory v e = absurd (cc e)
any_operand Register v e = absurd (cc e)

field_low : (digit : Option ℕ) (g : Reg) → field_of digit g < 8
field_low None g = reg_low g
field_low (Some d) g = omega arith

digit_takes : (digit : Option ℕ) (reg : Bool) (g : Reg) → fits_field reg digit ≡ true → takes_digit digit (field_of digit g) ≡ true
digit_takes None reg g h = refl
digit_takes (Some d) reg g h = let w = both_true (not reg) (nat_lt d 8) h in let l = ltb-true d 8 w.1 in eq-eqb (d % 8) d (omega arith)

reg_read : (digit : Option ℕ) (reg : Bool) (g : Reg) → fits_field reg digit ≡ true → (if reg then reg_of (field_of digit g) else Eax) ≡ (if reg then g else Eax)
reg_read digit false g h = refl
reg_read None true g h = reg_back g
reg_read (Some d) true g h = absurd (cc (both_true (not true) (nat_lt d 8) h).0)

number_kept : (kept : NumberUse) (span opcode n : ℕ) → fits_number kept span opcode ≡ true → number_by kept (if span == 1 then opcode else (opcode / 8 * 8 + n) % 2 ^ 8) ≡ number_by kept n
number_kept NoNumber span opcode n h = refl
number_kept ByRegister span opcode n h =
    let wide : (span ≡ 1 → ⊥) = λ e. elim (either_true (nat_eq span 8 && nat_eq (opcode % 8) 0) _ h) [
      | inl p ↦ let s = eqb-true span 8 (both_true (nat_eq span 8) _ p).0 in omega arith
      | inr p ↦ let s = eqb-true span 7 (both_true (nat_eq span 7) _ p).0 in omega arith
    ] in
    let low : (opcode / 8 * 8 + n) % 2 ^ 8 % 8 ≡ n % 8 = omega arith in
    ap (λ (v : Bool). reg_number (reg_of ((if v then opcode else (opcode / 8 * 8 + n) % 2 ^ 8) % 8))) (ne_eqb span 1 wide) ∙ ap (λ (k : ℕ). reg_number (reg_of k)) low
number_kept ByCondition span opcode n h =
    let w = both_true (nat_eq span 16) (nat_eq (opcode % 16) 0) h in
    let s = eqb-true span 16 w.0 in
    let r = eqb-true (opcode % 16) 0 w.1 in
    let low : (opcode / 8 * 8 + n) % 2 ^ 8 % 16 ≡ n % 16 = omega arith in
    ap (λ (v : Bool). cond_number (cond_of ((if v then opcode else (opcode / 8 * 8 + n) % 2 ^ 8) % 16))) (ne_eqb span 1 (λ e. omega arith)) ∙ ap (λ (k : ℕ). cond_number (cond_of k)) low

byte_front : (a b : List ℕ) (k : ℕ) → k < length a → byte_at a k ≡ byte_at (a ++ b) k
byte_front [] b k l = absurd (omega arith)
byte_front (x ∷ a) b zero l = refl
byte_front (x ∷ a) b (suc k) l = byte_front a b k (omega arith)

pub bytes_joined : (a b : List ℕ) → AreBytes a → AreBytes b → AreBytes (a ++ b)
bytes_joined [] b h t = t
bytes_joined (x ∷ a) b h t = bytes_after x (a ++ b) (h zero) (bytes_joined a b (λ k. h (suc k)) t)

-- ---- what is taken of operands

pub operands_same : (w w' : Width) (l l' : Bool) (p p' : Rep) (n n' : ℕ) (g g' : Reg) (x x' : Rm) (i i' : ℕ) → w ≡ w' → l ≡ l' → p ≡ p' → n ≡ n' → g ≡ g' → x ≡ x' → i ≡ i' → operands w l p n g x i ≡ operands w' l' p' n' g' x' i'
operands_same w w' l l' p p' n n' g g' x x' i i' a b c d e f h = cc

-- the parts of the test
record Takes (r : Row) (o : Operands) : Type 0 where
  width : width_of r.form.size o.marks.word ≡ o.width
  marks : takes_marks r.form o.marks ≡ true
  operand : takes_operand r.form.layout (is_memory o.rm) ≡ true
  asked : (not (asks_memory o.marks) || is_memory o.rm) ≡ true
  opcode : is_opcode r (opcode_byte r o.opcode) ≡ true

takes_parts : (r : Row) (o : Operands) → takes r o ≡ true → Takes r o
takes_parts r o h =
    let a = both_true _ (is_opcode r (opcode_byte r o.opcode)) h in
    let b = both_true _ (not (asks_memory o.marks) || is_memory o.rm) a.0 in
    let c = both_true _ (takes_operand r.form.layout (is_memory o.rm)) b.0 in
    let d = both_true (same_width (width_of r.form.size o.marks.word) o.width) _ c.0 in
    record { width = width_same _ _ d.0; marks = d.1; operand = c.1; asked = b.1; opcode = a.1 }

-- what the operand bytes come to
record Reads (r : Row) (o : Operands) (u : List ℕ) : Type 0 where
  modrm : takes_modrm r.form o.marks u ≡ true
  size : length u ≡ operand_length r.form o.marks u
  short : length u ≤ 10
  bytes : AreBytes u
  same : taken (uses r.form.kind) (operands_of r.form o.marks (opcode_byte r o.opcode) u) ≡ taken (uses r.form.kind) o

immediate_short : (i : Immediate) (w : Width) → immediate_length i w ≤ 4
immediate_short Absent w = omega arith
immediate_short Ib w = omega arith
immediate_short SignedIb w = omega arith
immediate_short Iw w = omega arith
immediate_short Id w = omega arith
immediate_short Iz W = omega arith
immediate_short Iz B = omega arith
immediate_short Iz D = omega arith

pub or_true : (b : Bool) → (b || true) ≡ true
or_true true = refl
or_true false = refl

-- only the operand that ModRM names comes from there
pub named_operand : (k : OperandUse) (g : Bool) (x : Rm) (n : ℕ) → is_named k ≡ true → operand_by k g x n ≡ x
named_operand NoOperand g x n h = absurd (cc h)
named_operand Named g x n h = refl
named_operand AtImmediate g x n h = absurd (cc h)

other_operand : (k : OperandUse) (g : Bool) (x y : Rm) (n : ℕ) → is_named k ≡ false → operand_by k g x n ≡ operand_by k g y n
other_operand NoOperand g x y n h = refl
other_operand Named g x y n h = absurd (cc h)
other_operand AtImmediate g x y n h = refl

module _ (r : Row) (o : Operands) (f : RowFits r) (t : Takes r o) (agrees : Agrees o) where
  abbrev u : Uses
  u = uses r.form.kind

  reads : (a b v : List ℕ) → a ++ b ≡ v → length a ≤ 6 → AreBytes a → Holds r.form.immediate o.width o.immediate b → takes_modrm r.form o.marks v ≡ true → immediate_place (has_modrm r.form.layout) v ≡ length a → (if u.reg then reg_of (reg_field (from_modrm r.form v)) else Eax) ≡ (if u.reg then o.reg else Eax) → ((n : ℕ) → operand_by u.operand o.marks.gs (with_gs o.marks.gs (rm_of (from_modrm r.form v))) n ≡ operand_by u.operand o.marks.gs o.rm n) → Reads r o v
  reads a b v e l bytes h modrm place reg x =
      let size : immediate_length r.form.immediate (form_width r.form o.marks) ≡ immediate_length r.form.immediate o.width = ap (immediate_length r.form.immediate) t.width in
      let joined : length v ≡ length a + length b = sym (ap length e) ∙ length-append a b in
      let imm : immediate_of r.form.immediate (form_width r.form o.marks) v (immediate_place (has_modrm r.form.layout) v) ≡ o.immediate =
      ap₂ (λ (w : Width) (k : ℕ). immediate_of r.form.immediate w v k) t.width place ∙ ap (λ (s : List ℕ). immediate_of r.form.immediate o.width s (length a)) (sym e) ∙ immediate_behind r.form.immediate o.width a b ∙ h.holds in
      let operand : operand_taken u (operands_of r.form o.marks (opcode_byte r o.opcode) v) ≡ operand_taken u o =
      x (immediate_of r.form.immediate (form_width r.form o.marks) v (immediate_place (has_modrm r.form.layout) v)) ∙ ap (operand_by u.operand o.marks.gs o.rm) imm in
      record {
        modrm = modrm;
        size = omega (arith, joined, h.size, place, size);
        short = omega (arith, joined, h.size, immediate_short r.form.immediate o.width);
        bytes = subst AreBytes e (bytes_joined a b bytes h.bytes);
        same = operands_same _ _ _ _ _ _ _ _ _ _ _ _ _ _ (ap₂ (width_by u.width) operand t.width) refl refl (number_kept u.number r.span r.opcode o.opcode f.number) reg operand (ap (immediate_by u.immediate) imm);
      }

  -- ModRM stands
  reads_modrm : (a b : List ℕ) → has_modrm r.form.layout ≡ true → address_bytes (field_of r.form.digit o.reg) o.rm ≡ Some a → immediate_bytes r.form.immediate o.width o.immediate ≡ Some b → Reads r o (a ++ b)
  reads_modrm a b e ea eb =
      let n = address_named (field_of r.form.digit o.reg) o.rm a (field_low r.form.digit o.reg) ea in
      let w : SameOperand a (a ++ b) = same_operand a (a ++ b) (λ k l. byte_front a b k (omega (arith, n.size))) in
      let h = immediate_holds r.form.immediate o.width o.immediate b eb in
      let g = with_modrm r.form.layout u.reg u.operand r.form.lock r.form.digit e f.modrm in
      let from : from_modrm r.form (a ++ b) ≡ a ++ b = ap (λ (v : Bool). addressed v (a ++ b)) e in
      let field : reg_field (from_modrm r.form (a ++ b)) ≡ field_of r.form.digit o.reg = ap reg_field from ∙ sym w.reg ∙ n.reg in
      let names : names_memory (from_modrm r.form (a ++ b)) ≡ is_memory o.rm = ap names_memory from ∙ sym w.names ∙ n.names ∙ memory_with false o.rm in
      let x : with_gs o.marks.gs (rm_of (from_modrm r.form (a ++ b))) ≡ o.rm = ap (with_gs o.marks.gs) (ap rm_of from ∙ sym w.rm ∙ n.rm) ∙ gs_again o.marks.gs o.rm agrees in
      let place : immediate_place (has_modrm r.form.layout) (a ++ b) ≡ length a = ap (λ (v : Bool). immediate_place v (a ++ b)) e ∙ sym w.length ∙ n.size in
      let modrm : takes_modrm r.form o.marks (a ++ b) ≡ true =
      and_true _ _ (and_true _ _ (ap (takes_digit r.form.digit) field ∙ digit_takes r.form.digit u.reg o.reg g.1) (ap (takes_operand r.form.layout) names ∙ t.operand)) (ap (λ (v : Bool). not (asks_memory o.marks) || v) names ∙ t.asked) in
      let reg : (if u.reg then reg_of (reg_field (from_modrm r.form (a ++ b))) else Eax) ≡ (if u.reg then o.reg else Eax) =
      ap (λ (k : ℕ). if u.reg then reg_of k else Eax) field ∙ reg_read r.form.digit u.reg o.reg g.1 in
      reads a b (a ++ b) refl (omega (arith, n.size, address_low a)) n.bytes h modrm place reg (λ k. ap (λ (y : Rm). operand_by u.operand o.marks.gs y k) x)

  -- no ModRM stands
  reads_bare : (b : List ℕ) → has_modrm r.form.layout ≡ false → immediate_bytes r.form.immediate o.width o.immediate ≡ Some b → Reads r o b
  reads_bare b e eb =
      let h = immediate_holds r.form.immediate o.width o.immediate b eb in
      let g = without_modrm r.form.layout u.reg u.operand r.form.lock r.form.digit e f.modrm in
      let from : from_modrm r.form b ≡ [] = ap (λ (v : Bool). addressed v b) e in
      let place : immediate_place (has_modrm r.form.layout) b ≡ 0 = ap (λ (v : Bool). immediate_place v b) e in
      let digit : takes_digit r.form.digit (reg_field (from_modrm r.form b)) ≡ true = ap (λ (d : Option ℕ). takes_digit d (reg_field (from_modrm r.form b))) g.no_digit in
      let asked : (not (asks_memory o.marks) || names_memory (from_modrm r.form b)) ≡ true = ap (λ (s : List ℕ). not (asks_memory o.marks) || names_memory s) from ∙ or_true (not (asks_memory o.marks)) in
      let modrm : takes_modrm r.form o.marks b ≡ true = and_true _ _ (and_true _ _ digit (any_operand r.form.layout (names_memory (from_modrm r.form b)) e)) asked in
      reads [] b b refl (omega arith) no_bytes h modrm place (ap (λ (v : Bool). if v then reg_of (reg_field (from_modrm r.form b)) else Eax) g.no_reg ∙ sym (ap (λ (v : Bool). if v then o.reg else Eax) g.no_reg)) (λ k. other_operand u.operand o.marks.gs (with_gs o.marks.gs (rm_of (from_modrm r.form b))) o.rm k g.no_rm)

  both_read : (a b : Option (List ℕ)) (v : List ℕ) → both a b ≡ Some v → (x : List ℕ) × (y : List ℕ) × (a ≡ Some x) × (b ≡ Some y) × (v ≡ x ++ y)
  both_read None b v h = absurd (cc h)
  both_read (Some x) None v h = absurd (cc h)
  both_read (Some x) (Some y) v h = (x, y, refl, refl, cc h)

  operands_read : (v : List ℕ) → operand_bytes r o ≡ Some v → Reads r o v
  operands_read v h = go (has_modrm r.form.layout) refl (both_read _ _ v h)
    where
      go : (m : Bool) → has_modrm r.form.layout ≡ m → (x : List ℕ) × (y : List ℕ) × (addressed_bytes (has_modrm r.form.layout) (field_of r.form.digit o.reg) o.rm ≡ Some x) × (immediate_bytes r.form.immediate o.width o.immediate ≡ Some y) × (v ≡ x ++ y) → Reads r o v
      go true e p = subst (Reads r o) (sym p.4) (reads_modrm p.0 p.1 e (sym (ap (λ (m : Bool). addressed_bytes m (field_of r.form.digit o.reg) o.rm) e) ∙ p.2) p.3)
      go false e p =
          let nil : [] ≡ p.0 = cc (ap (λ (m : Bool). addressed_bytes m (field_of r.form.digit o.reg) o.rm) e, p.2) in
          subst (Reads r o) (ap (λ (s : List ℕ). s ++ p.1) nil ∙ sym p.4) (reads_bare p.1 e p.3)

-- a part of the immediate is all of it, where it was made
limited_by : (k : ImmediateUse) (i : Immediate) (w : Width) (n : ℕ) (s : List ℕ) → fits_immediate k i ≡ true → Holds i w n s → Limited k n
limited_by Unused i w n s f h = tt
limited_by Whole i w n s f h = tt
limited_by LowByte Absent w n s f h = absurd (cc f)
limited_by LowByte Ib w n s f h = omega (arith, h.holds, h.bytes 0)
limited_by LowByte SignedIb w n s f h = absurd (cc f)
limited_by LowByte Iw w n s f h = absurd (cc f)
limited_by LowByte Id w n s f h = absurd (cc f)
limited_by LowByte Iz w n s f h = absurd (cc f)
limited_by LowHalf Absent w n s f h = omega (arith, h.holds)
limited_by LowHalf Ib w n s f h = absurd (cc f)
limited_by LowHalf SignedIb w n s f h = absurd (cc f)
limited_by LowHalf Iw w n s f h = omega (arith, h.holds, h.bytes 0, h.bytes 1)
limited_by LowHalf Id w n s f h = absurd (cc f)
limited_by LowHalf Iz w n s f h = absurd (cc f)

pub row_limited : (r : Row) (o : Operands) (s : List ℕ) → RowFits r → assembled r o ≡ Some s → Limited (uses r.form.kind).immediate o.immediate
unfolding assembled
row_limited r o s f e = go (takes r o) (immediate_bytes r.form.immediate o.width o.immediate) refl (addressed_bytes (has_modrm r.form.layout) (field_of r.form.digit o.reg) o.rm) e
  where
    go : (t : Bool) (b : Option (List ℕ)) → immediate_bytes r.form.immediate o.width o.immediate ≡ b → (a : Option (List ℕ)) → (if t then behind (front_bytes r o) (both a b) else None) ≡ Some s → Limited (uses r.form.kind).immediate o.immediate
    go false b g a e = absurd (cc e)
    go true None g None e = absurd (cc e)
    go true None g (Some x) e = absurd (cc e)
    go true (Some y) g a e = limited_by (uses r.form.kind).immediate r.form.immediate o.width o.immediate y f.immediate (immediate_holds r.form.immediate o.width o.immediate y g)

-- ---- the whole

lead_are_bytes : (l : Lead) → (length (lead_bytes l) ≤ 2) × AreBytes (lead_bytes l)
lead_are_bytes Bare = (omega arith, bytes_listed (lead_bytes Bare) refl)
lead_are_bytes Escape = (omega arith, bytes_listed (lead_bytes Escape) refl)
lead_are_bytes Interrupt = (omega arith, bytes_listed (lead_bytes Interrupt) refl)
lead_are_bytes Hint = (omega arith, bytes_listed (lead_bytes Hint) refl)

prefixes_are_bytes : (m : Marks) → AreBytes (prefix_bytes m)
prefixes_are_bytes m =
    bytes_joined (segment_bytes m.gs ++ word_bytes m.word) (group_bytes m.lock m.rep) (bytes_joined (segment_bytes m.gs) (word_bytes m.word) (segments m.gs) (words m.word)) (groups m.lock m.rep)
  where
    segments : (gs : Bool) → AreBytes (segment_bytes gs)
    segments true = bytes_listed (segment_bytes true) refl
    segments false = no_bytes

    words : (word : Bool) → AreBytes (word_bytes word)
    words true = bytes_listed (word_bytes true) refl
    words false = no_bytes

    groups : (lock : Bool) (rep : Rep) → AreBytes (group_bytes lock rep)
    groups true rep = bytes_listed (group_bytes true rep) refl
    groups false Once = no_bytes
    groups false F2 = bytes_listed (group_bytes false F2) refl
    groups false F3 = bytes_listed (group_bytes false F3) refl

-- 65 stands before no lead of two bytes
front_short : (l : Lead) (takes gs : Bool) → (not takes || not (is_hint l)) ≡ true → (not gs || takes) ≡ true → length (segment_bytes gs) + length (lead_bytes l) ≤ 2
front_short l takes false h k = omega (arith, (lead_are_bytes l).0)
front_short Bare takes true h k = omega arith
front_short Escape takes true h k = omega arith
front_short Interrupt takes true h k = omega arith
front_short Hint true true h k = absurd (cc h)
front_short Hint false true h k = absurd (cc k)

-- the row of a lock doesn't take F2 and F3
marks_apart : (r : Row) (m : Marks) → (not r.form.lock || is_never r.form.repeat) ≡ true → takes_marks r.form m ≡ true → Apart m
marks_apart r m h t =
    let g = both_true _ (not m.gs || takes_gs r.form) t in
    let a = both_true _ (not m.lock || r.form.lock) g.0 in
    let b = both_true _ (takes_repeat r.form.repeat m.rep) a.0 in
    go m.lock r.form.lock r.form.repeat m.rep h b.1 a.1
  where
    go : (lock can : Bool) (q : Repeat) (p : Rep) → (not can || is_never q) ≡ true → takes_repeat q p ≡ true → (not lock || can) ≡ true → (lock ≡ false) ⊎ (p ≡ Once)
    go false can q p h t l = inl refl
    go true false q p h t l = absurd (cc l)
    go true true Never Once h t l = inr refl
    go true true Never F3 h t l = absurd (cc t)
    go true true Never F2 h t l = absurd (cc t)
    go true true Idle p h t l = absurd (cc h)
    go true true Needed p h t l = absurd (cc h)
    go true true Repeats p h t l = absurd (cc h)
    go true true Repe p h t l = absurd (cc h)

in_span : (r : Row) (b : ℕ) → is_opcode r b ≡ true → r.opcode + r.span ≤ 256 → b < 256
in_span r b h l = let w = both_true (nat_le r.opcode b) _ h in omega (arith, ltb-true b (r.opcode + r.span) w.1)

pub row_spells : (r : Row) (o : Operands) (s : List ℕ) (i : Insn) → Contains rows r → RowFits r → assembled r o ≡ Some s → Agrees o → meaning r.form.kind o ≡ i → Spells s i
unfolding assembled
row_spells r o s i listed f e agrees means = go (takes r o) refl (operand_bytes r o) refl e
  where
    spelt : (v : List ℕ) → Takes r o → Reads r o v → Spells (front_bytes r o ++ v) i
    spelt v t w =
        let p : Sets o.marks = sets o.marks (marks_apart r o.marks f.apart t.marks) in
        let c = opcode_byte r o.opcode in
        let lead = lead_are_bytes r.lead in
        let short = front_short r.lead (takes_gs r.form) o.marks.gs f.lead (both_true _ (not o.marks.gs || takes_gs r.form) t.marks).1 in
        let parts : front_bytes r o ++ v ≡ prefix_bytes o.marks ++ lead_bytes r.lead ++ c ∷ v = append_assoc (prefix_bytes o.marks ++ lead_bytes r.lead) (c ∷ []) v in
        let low : c < 256 = in_span r c t.opcode f.opcode in
        let size : length (front_bytes r o ++ v) ≡ length (prefix_bytes o.marks) + length (lead_bytes r.lead) + 1 + length v = omega (arith, length-append (front_bytes r o) v, length-append (prefix_bytes o.marks ++ lead_bytes r.lead) (c ∷ []), length-append (prefix_bytes o.marks) (lead_bytes r.lead)) in
        let meant : meaning r.form.kind (operands_of r.form o.marks c v) ≡ i = sym (taken_means r.form.kind (operands_of r.form o.marks c v)) ∙ ap (meaning r.form.kind) w.same ∙ taken_means r.form.kind o ∙ means in
        record {
          prefixes = prefix_bytes o.marks;
          row = r;
          opcode = c;
          operands = v;
          parts = parts;
          limit = omega (arith, size, prefixes_short o.marks, short, w.short);
          bytes = bytes_joined (front_bytes r o) v (bytes_joined (prefix_bytes o.marks ++ lead_bytes r.lead) (c ∷ []) (bytes_joined (prefix_bytes o.marks) (lead_bytes r.lead) (prefixes_are_bytes o.marks) lead.1) (bytes_after c [] low no_bytes)) w.bytes;
          are_prefixes = p.are_prefixes;
          together = p.together;
          listed = listed;
          is_opcode = t.opcode;
          marks = subst (λ (m : Marks). takes_marks r.form m ≡ true) (sym p.marks) t.marks;
          modrm = subst (λ (m : Marks). takes_modrm r.form m v ≡ true) (sym p.marks) w.modrm;
          whole = subst (λ (m : Marks). length v ≡ operand_length r.form m v) (sym p.marks) w.size;
          means = subst (λ (m : Marks). meaning r.form.kind (operands_of r.form m c v) ≡ i) (sym p.marks) meant;
        }

    go : (t : Bool) → takes r o ≡ t → (x : Option (List ℕ)) → operand_bytes r o ≡ x → (if t then behind (front_bytes r o) x else None) ≡ Some s → Spells s i
    go false h x g e = absurd (cc e)
    go true h None g e = absurd (cc e)
    go true h (Some v) g e =
        let t = takes_parts r o h in
        let same : front_bytes r o ++ v ≡ s = cc e in
        subst (λ (q : List ℕ). Spells q i) same (spelt v t (operands_read r o f t agrees v g))
