-- No spelling by a row is less than what is made of its operands by the row.
use Rattle.std.proofs.Common.{◌≡◌, ℕ, zero, suc, ◌+◌, ◌*◌, ◌/◌, ◌%◌, ◌^◌, ◌<◌, ◌≤◌, Bool, true, false, ◌⊎◌, List, [], ◌∷◌, ◌++◌, length, take, drop, Option, Some, None, refl, sym, ◌∙◌, ap, ap₂, subst, inl, inr, arith, append_assoc, length-take-le}
use Rattle.std.specs.Prelude.{not, ◌&&◌, ◌||◌, nat_le, nat_eq, ◌==◌, if◌then◌else◌}
use Rattle.std.proofs.lemmas.Bool.{eqb-true, ltb-true, leb-true, ne_eqb}
use Rattle.std.proofs.lemmas.List.{length-drop, take-append-drop}
use Rattle.mv_base.specs.Bytes.{AreBytes}
use Rattle.x86_insn.specs.declared.insn.Reg.TheVariants.{Eax}
use Rattle.x86_insn.specs.declared.insn.Rep.{Rep}
use Rattle.x86_insn.specs.declared.insn.Rep.TheVariants.{Once, F3, F2}
use Rattle.x86_insn.specs.declared.insn.Rm.{Rm}
use Rattle.x86_insn.specs.declared.insn.Rm.TheVariants as rm
use Rattle.x86_insn.specs.declared.insn.Width.{Width}
use Rattle.x86_insn.specs.declared.row.Immediate.{Immediate}
use Rattle.x86_insn.specs.declared.row.Immediate.TheVariants.{Absent, Ib, SignedIb, Iw, Id, Iz}
use Rattle.x86_insn.specs.declared.row.Size.{Size}
use Rattle.x86_insn.specs.declared.row.Size.TheVariants.{Byte, Vary, Dword}
use Rattle.x86_insn.specs.declared.row.Repeat.{Repeat}
use Rattle.x86_insn.specs.declared.row.Repeat.TheVariants.{Never, Idle, Needed, Rep as Repeats, Repe}
use Rattle.x86_insn.specs.declared.row.Row.{Row}
use Rattle.x86_insn.specs.declared.row.Marks.{Marks}
use Rattle.x86_insn.specs.declared.row.Operands.{Operands}
use Rattle.x86_insn.specs.State.{reg_number}
use Rattle.x86_insn.specs.Addressing.{byte_at, reg_of, reg_field, names_memory, memory_of, rm_field, address_length, rm_of, with_gs}
use Rattle.x86_insn.specs.Meaning.{cond_of, cond_number}
use Rattle.x86_insn.specs.Prefixes.{marks_of}
use Rattle.x86_insn.specs.Spelling.{lead_bytes, width_of, has_modrm, takes_digit, takes_operand, takes_repeat, takes_word, takes_gs, takes_marks, asks_memory, takes_modrm, immediate_length, immediate_of, immediate_place, addressed, from_modrm, form_width, operand_length, operands_of, is_opcode}
use Rattle.x86_insn.specs.Agreeing.{both_true, and_true}
use Rattle.x86_encode.specs.Order.{Upto}
use Rattle.x86_encode.specs.Address.{address_bytes}
use Rattle.x86_encode.specs.Assembling.{same_width, is_memory, prefix_bytes, immediate_bytes, opcode_byte, field_of, takes, addressed_bytes, both, operand_bytes, front_bytes, behind, assembled}
use Rattle.x86_encode.specs.Candidates.{is_word, is_gs}
use Rattle.x86_encode.specs.laws.Ordered.{upto_self, upto_same, upto_joined}
use Rattle.x86_encode.specs.laws.Leading.{Within, prefixes_least}
use Rattle.x86_encode.specs.laws.Addressed.{number_back, gs_with, memory_with, address_with}
use Rattle.x86_encode.specs.laws.Shortest.{address_least}
use Rattle.x86_encode.specs.laws.Immediates.{immediate_behind, immediate_made}
use Rattle.x86_encode.specs.laws.Taken.{WidthUse, Given, Long, Short, Selector, OperandUse, NoOperand, Named, AtImmediate, RepeatUse, OnceOnly, Kept, Stands, NumberUse, NoNumber, ByRegister, ByCondition, ImmediateUse, Unused, Whole, LowByte, LowHalf, Uses, uses, width_by, operand_by, rep_by, number_by, immediate_by, taken}
use Rattle.x86_encode.specs.laws.Tabled.{either_true, fits_width, fits_repeat, fits_field, fits_number, fits_immediate, RowFits}
use Rattle.x86_encode.specs.laws.Spelt.{with_modrm, without_modrm, any_operand, or_true, named_operand}

-- ---- single columns

-- the width that is taken, of a row
record WidthTaken (k : WidthUse) (x : Rm) (s : Size) (i : Immediate) (word : Bool) : Type 0 where
  same : same_width (width_of s (is_word (width_by k x (width_of s word)))) (width_by k x (width_of s word)) ≡ true
  takes : (not (is_word (width_by k x (width_of s word))) || takes_word s) ≡ true
  within : is_word (width_by k x (width_of s word)) ≡ true → word ≡ true
  immediate : (n : ℕ) → immediate_bytes i (width_by k x (width_of s word)) n ≡ immediate_bytes i (width_of s word) n

width_taken : (k : WidthUse) (x : Rm) (s : Size) (i : Immediate) (word : Bool) → fits_width k s i ≡ true → WidthTaken k x s i word
width_taken Given x Byte i word h = record { same = refl; takes = refl; within = λ e. absurd (cc e); immediate = λ n. refl }
width_taken Given x Vary i true h = record { same = refl; takes = refl; within = λ e. refl; immediate = λ n. refl }
width_taken Given x Vary i false h = record { same = refl; takes = refl; within = λ e. absurd (cc e); immediate = λ n. refl }
width_taken Given x Dword i word h = record { same = refl; takes = refl; within = λ e. absurd (cc e); immediate = λ n. refl }
width_taken Long x Byte i word h = absurd (cc h)
width_taken Long x Vary Absent word h = record { same = refl; takes = refl; within = λ e. absurd (cc e); immediate = λ n. refl }
width_taken Long x Vary Ib word h = absurd (cc h)
width_taken Long x Vary SignedIb word h = absurd (cc h)
width_taken Long x Vary Iw word h = absurd (cc h)
width_taken Long x Vary Id word h = absurd (cc h)
width_taken Long x Vary Iz word h = absurd (cc h)
width_taken Long x Dword i word h = record { same = refl; takes = refl; within = λ e. absurd (cc e); immediate = λ n. refl }
width_taken Short x Byte i word h = record { same = refl; takes = refl; within = λ e. absurd (cc e); immediate = λ n. refl }
width_taken Short x Vary i word h = absurd (cc h)
width_taken Short x Dword i word h = absurd (cc h)
width_taken Selector x Byte i word h = absurd (cc h)
width_taken Selector (rm.R r) Vary Absent true h = record { same = refl; takes = refl; within = λ e. refl; immediate = λ n. refl }
width_taken Selector (rm.R r) Vary Absent false h = record { same = refl; takes = refl; within = λ e. absurd (cc e); immediate = λ n. refl }
width_taken Selector (rm.M m) Vary Absent word h = record { same = refl; takes = refl; within = λ e. absurd (cc e); immediate = λ n. refl }
width_taken Selector x Vary Ib word h = absurd (cc h)
width_taken Selector x Vary SignedIb word h = absurd (cc h)
width_taken Selector x Vary Iw word h = absurd (cc h)
width_taken Selector x Vary Id word h = absurd (cc h)
width_taken Selector x Vary Iz word h = absurd (cc h)
width_taken Selector x Dword i word h = absurd (cc h)

rep_taken : (k : RepeatUse) (q : Repeat) (p : Rep) → fits_repeat k q ≡ true → takes_repeat q p ≡ true → (takes_repeat q (rep_by k p) ≡ true) × ((rep_by k p ≡ Once) ⊎ (rep_by k p ≡ p))
rep_taken OnceOnly Never p h t = (refl, inl refl)
rep_taken OnceOnly Idle p h t = (refl, inl refl)
rep_taken OnceOnly Needed p h t = absurd (cc h)
rep_taken OnceOnly Repeats p h t = (refl, inl refl)
rep_taken OnceOnly Repe p h t = (refl, inl refl)
rep_taken Kept q p h t = (t, inr refl)
rep_taken Stands Never p h t = absurd (cc h)
rep_taken Stands Idle p h t = absurd (cc h)
rep_taken Stands Needed Once h t = absurd (cc t)
rep_taken Stands Needed F3 h t = (refl, inr refl)
rep_taken Stands Needed F2 h t = absurd (cc t)
rep_taken Stands Repeats p h t = absurd (cc h)
rep_taken Stands Repe p h t = absurd (cc h)

lock_taken : (k can lock : Bool) → (k || not can) ≡ true → (not lock || can) ≡ true → ((not (if k then lock else false) || can) ≡ true) × ((if k then lock else false) ≡ true → lock ≡ true)
lock_taken true can lock h t = (t, λ e. e)
lock_taken false can lock h t = (refl, λ e. absurd (cc e))

cond_number_back : (n : ℕ) → n < 16 → cond_number (cond_of n) ≡ n
cond_number_back zero h = refl
cond_number_back (suc zero) h = refl
cond_number_back (suc (suc zero)) h = refl
cond_number_back (suc (suc (suc zero))) h = refl
cond_number_back (suc (suc (suc (suc zero)))) h = refl
cond_number_back (suc (suc (suc (suc (suc zero))))) h = refl
cond_number_back (suc (suc (suc (suc (suc (suc zero)))))) h = refl
cond_number_back (suc (suc (suc (suc (suc (suc (suc zero))))))) h = refl
cond_number_back (suc (suc (suc (suc (suc (suc (suc (suc zero)))))))) h = refl
cond_number_back (suc (suc (suc (suc (suc (suc (suc (suc (suc zero))))))))) h = refl
cond_number_back (suc (suc (suc (suc (suc (suc (suc (suc (suc (suc zero)))))))))) h = refl
cond_number_back (suc (suc (suc (suc (suc (suc (suc (suc (suc (suc (suc zero))))))))))) h = refl
cond_number_back (suc (suc (suc (suc (suc (suc (suc (suc (suc (suc (suc (suc zero)))))))))))) h = refl
cond_number_back (suc (suc (suc (suc (suc (suc (suc (suc (suc (suc (suc (suc (suc zero))))))))))))) h = refl
cond_number_back (suc (suc (suc (suc (suc (suc (suc (suc (suc (suc (suc (suc (suc (suc zero)))))))))))))) h = refl
cond_number_back (suc (suc (suc (suc (suc (suc (suc (suc (suc (suc (suc (suc (suc (suc (suc zero))))))))))))))) h = refl
cond_number_back (suc (suc (suc (suc (suc (suc (suc (suc (suc (suc (suc (suc (suc (suc (suc (suc n)))))))))))))))) h = absurd (omega arith)

number_made : (k : NumberUse) (span opcode c : ℕ) → fits_number k span opcode ≡ true → opcode + span ≤ 256 → opcode ≤ c → c < opcode + span → (if span == 1 then opcode else (opcode / 8 * 8 + number_by k c) % 2 ^ 8) ≡ c
number_made NoNumber span opcode c h l low high =
    let s = eqb-true span 1 h in
    ap (λ (v : Bool). if v then opcode else (opcode / 8 * 8 + 0) % 2 ^ 8) h ∙ omega arith
number_made ByRegister span opcode c h l low high =
    let n : reg_number (reg_of (c % 8)) ≡ c % 8 = number_back (c % 8) (omega arith) in
    elim (either_true (nat_eq span 8 && nat_eq (opcode % 8) 0) _ h) [
      | inl p ↦
          let w = both_true (nat_eq span 8) _ p in
          let s = eqb-true span 8 w.0 in
          let r = eqb-true (opcode % 8) 0 w.1 in
          ap (λ (v : Bool). if v then opcode else (opcode / 8 * 8 + reg_number (reg_of (c % 8))) % 2 ^ 8) (ne_eqb span 1 (λ e. omega arith)) ∙ omega arith
      | inr p ↦
          let w = both_true (nat_eq span 7) _ p in
          let s = eqb-true span 7 w.0 in
          let r = eqb-true (opcode % 8) 1 w.1 in
          ap (λ (v : Bool). if v then opcode else (opcode / 8 * 8 + reg_number (reg_of (c % 8))) % 2 ^ 8) (ne_eqb span 1 (λ e. omega arith)) ∙ omega arith
    ]
number_made ByCondition span opcode c h l low high =
    let n : cond_number (cond_of (c % 16)) ≡ c % 16 = cond_number_back (c % 16) (omega arith) in
    let w = both_true (nat_eq span 16) _ h in
    let s = eqb-true span 16 w.0 in
    let r = eqb-true (opcode % 16) 0 w.1 in
    ap (λ (v : Bool). if v then opcode else (opcode / 8 * 8 + cond_number (cond_of (c % 16))) % 2 ^ 8) (ne_eqb span 1 (λ e. omega arith)) ∙ omega arith

-- the immediate that is taken is the one that is spelled
immediate_taken : (k : ImmediateUse) (i : Immediate) (w : Width) (s : List ℕ) → fits_immediate k i ≡ true → AreBytes s → immediate_by k (immediate_of i w s 0) ≡ immediate_of i w s 0
immediate_taken Whole i w s h bytes = refl
immediate_taken Unused Absent w s h bytes = refl
immediate_taken Unused Ib w s h bytes = absurd (cc h)
immediate_taken Unused SignedIb w s h bytes = absurd (cc h)
immediate_taken Unused Iw w s h bytes = absurd (cc h)
immediate_taken Unused Id w s h bytes = absurd (cc h)
immediate_taken Unused Iz w s h bytes = absurd (cc h)
immediate_taken LowByte Absent w s h bytes = absurd (cc h)
immediate_taken LowByte Ib w s h bytes = let l : byte_at s 0 < 256 = bytes 0 in omega arith
immediate_taken LowByte SignedIb w s h bytes = absurd (cc h)
immediate_taken LowByte Iw w s h bytes = absurd (cc h)
immediate_taken LowByte Id w s h bytes = absurd (cc h)
immediate_taken LowByte Iz w s h bytes = absurd (cc h)
immediate_taken LowHalf Absent w s h bytes = refl
immediate_taken LowHalf Ib w s h bytes = absurd (cc h)
immediate_taken LowHalf SignedIb w s h bytes = absurd (cc h)
immediate_taken LowHalf Iw w s h bytes = let l : byte_at s 0 < 256 = bytes 0 in let m : byte_at s 1 < 256 = bytes 1 in omega arith
immediate_taken LowHalf Id w s h bytes = absurd (cc h)
immediate_taken LowHalf Iz w s h bytes = absurd (cc h)

memory_names : (s : List ℕ) → is_memory (rm_of s) ≡ names_memory s
memory_names s = go (names_memory s)
  where
    go : (v : Bool) → is_memory (if v then rm.M (memory_of s) else rm.R (reg_of (rm_field s))) ≡ v
    go true = refl
    go false = refl

field_made : (digit : Option ℕ) (reg : Bool) (n : ℕ) → n < 8 → fits_field reg digit ≡ true → takes_digit digit n ≡ true → field_of digit (if reg then reg_of n else Eax) ≡ n
field_made None true n l h t = number_back n l
field_made None false n l h t = absurd (cc h)
field_made (Some d) reg n l h t = let e = eqb-true n d t in omega arith

bytes_dropped : (n : ℕ) (s : List ℕ) → AreBytes s → AreBytes (drop n s)
bytes_dropped zero s h = h
bytes_dropped (suc n) [] h = h
bytes_dropped (suc n) (x ∷ s) h = bytes_dropped n s (λ k. h (suc k))

pub record RowLeast (r : Row) (o : Operands) (t : List ℕ) : Type 0 where
  pub bytes : List ℕ
  pub made : assembled r o ≡ Some bytes
  pub least : Upto bytes t

record OperandsLeast (r : Row) (o : Operands) (t : List ℕ) : Type 0 where
  bytes : List ℕ
  made : operand_bytes r o ≡ Some bytes
  least : Upto bytes t

-- F0 and 65 ask for memory, and that is the operand's where it is relative to GS
asked_taken : (lock : Bool) (x : Rm) → (lock ≡ true → is_memory x ≡ true) → (not (lock || is_gs x) || is_memory x) ≡ true
asked_taken true x h = h refl
asked_taken false (rm.R r) h = refl
asked_taken false (rm.M m) h = or_true (not m.gs)

lock_names : (lock gs v : Bool) → (not (lock || gs) || v) ≡ true → lock ≡ true → v ≡ true
lock_names true gs v h e = h
lock_names false gs v h e = absurd (cc e)

not_locked : (lock can : Bool) → (not lock || can) ≡ true → can ≡ false → lock ≡ true → ⊥
not_locked true can h e l = absurd (cc (h, e))
not_locked false can h e l = absurd (cc l)

gs_within : (k : OperandUse) (g : Bool) (x : Rm) (n : ℕ) → is_gs (operand_by k g (with_gs g x) n) ≡ true → g ≡ true
gs_within NoOperand g x n h = absurd (cc h)
gs_within Named g x n h = gs_with g x h
gs_within AtImmediate g x n h = h

weaker : (a b c : Bool) → (a ≡ true → b ≡ true) → (not b || c) ≡ true → (not a || c) ≡ true
weaker false b c h t = refl
weaker true true c h t = t
weaker true false c h t = absurd (cc (h refl))

module _ (r : Row) (m : Marks) (c : ℕ) (s : List ℕ) (f : RowFits r) (bytes : AreBytes s) (in_span : is_opcode r c ≡ true) (marks : takes_marks r.form m ≡ true) (modrm : takes_modrm r.form m s ≡ true) (size : length s ≡ operand_length r.form m s) where
  abbrev u : Uses
  u = uses r.form.kind

  abbrev o : Operands
  o = taken (uses r.form.kind) (operands_of r.form m c s)

  width : WidthTaken u.width o.rm r.form.size r.form.immediate m.word
  width = width_taken u.width o.rm r.form.size r.form.immediate m.word f.width

  marks_parts : ((not m.word || takes_word r.form.size) ≡ true) × (takes_repeat r.form.repeat m.rep ≡ true) × ((not m.lock || r.form.lock) ≡ true) × ((not m.gs || takes_gs r.form) ≡ true)
  marks_parts =
      let g = both_true _ (not m.gs || takes_gs r.form) marks in
      let a = both_true _ (not m.lock || r.form.lock) g.0 in
      let b = both_true (not m.word || takes_word r.form.size) _ a.0 in
      (b.0, b.1, a.1, g.1)

  modrm_parts : (takes_digit r.form.digit (reg_field (from_modrm r.form s)) ≡ true) × (takes_operand r.form.layout (names_memory (from_modrm r.form s)) ≡ true) × ((not (asks_memory m) || names_memory (from_modrm r.form s)) ≡ true)
  modrm_parts =
      let a = both_true _ (not (asks_memory m) || names_memory (from_modrm r.form s)) modrm in
      let b = both_true (takes_digit r.form.digit (reg_field (from_modrm r.form s))) _ a.0 in
      (b.0, b.1, a.1)

  opcode_made : opcode_byte r o.opcode ≡ c
  opcode_made =
      let w = both_true (nat_le r.opcode c) _ in_span in
      number_made u.number r.span r.opcode c f.number f.opcode (leb-true r.opcode c w.0) (ltb-true c (r.opcode + r.span) w.1)

  gs_kept : o.marks.gs ≡ true → m.gs ≡ true
  gs_kept = gs_within u.operand m.gs (rm_of (from_modrm r.form s)) (immediate_of r.form.immediate (form_width r.form m) s (immediate_place (has_modrm r.form.layout) s))

  lock_kept : o.marks.lock ≡ true → m.lock ≡ true
  lock_kept = (lock_taken u.lock r.form.lock m.lock f.lock marks_parts.2).1

  within : (p : List ℕ) → m ≡ marks_of p → Within o.marks (marks_of p)
  within p e =
      subst (Within o.marks) e (record {
        word = width.within;
        lock = lock_kept;
        rep = (rep_taken u.rep r.form.repeat m.rep f.repeat marks_parts.1).1;
        gs = gs_kept;
      })

  -- the bytes of the immediate
  immediate_part : (k : ℕ) → k ≤ length s → immediate_place (has_modrm r.form.layout) s ≡ k → length s ≡ k + immediate_length r.form.immediate (form_width r.form m) → immediate_bytes r.form.immediate o.width o.immediate ≡ Some (drop k s)
  immediate_part k l place whole =
      let i = r.form.immediate in
      let w = form_width r.form m in
      let b : List ℕ = drop k s in
      let front : length (take k s) ≡ k = length-take-le k s l in
      let rest : length b ≡ immediate_length i w = omega (arith, length-drop {A = ℕ} k s) in
      let read : immediate_of i w s (immediate_place (has_modrm r.form.layout) s) ≡ immediate_of i w b 0 =
      ap (immediate_of i w s) (place ∙ sym front) ∙ ap (λ (t : List ℕ). immediate_of i w t (length (take k s))) (sym (take-append-drop k s)) ∙ immediate_behind i w (take k s) b in
      let number : o.immediate ≡ immediate_of i w b 0 = ap (immediate_by u.immediate) read ∙ immediate_taken u.immediate i w b f.immediate (bytes_dropped k s bytes) in
      width.immediate o.immediate ∙ ap (immediate_bytes i w) number ∙ immediate_made i w b (bytes_dropped k s bytes) rest

  -- what follows the opcode byte, and what the row asks of the operand
  record Behind : Type 0 where
    operands : OperandsLeast r o s
    operand : takes_operand r.form.layout (is_memory o.rm) ≡ true
    asked : (not (asks_memory o.marks) || is_memory o.rm) ≡ true

  with_address : has_modrm r.form.layout ≡ true → Behind
  with_address e =
      let g = with_modrm r.form.layout u.reg u.operand r.form.lock r.form.digit e f.modrm in
      let from : from_modrm r.form s ≡ s = ap (λ (v : Bool). addressed v s) e in
      let x : o.rm ≡ with_gs m.gs (rm_of s) = named_operand u.operand m.gs (with_gs m.gs (rm_of (from_modrm r.form s))) _ g.0 ∙ ap (λ (b : List ℕ). with_gs m.gs (rm_of b)) from in
      let names : is_memory o.rm ≡ names_memory (from_modrm r.form s) = ap is_memory x ∙ memory_with m.gs (rm_of s) ∙ memory_names s ∙ ap names_memory (sym from) in
      let field : field_of r.form.digit o.reg ≡ reg_field s = field_made r.form.digit u.reg (reg_field (from_modrm r.form s)) (omega arith) g.1 modrm_parts.0 ∙ ap reg_field from in
      let place : immediate_place (has_modrm r.form.layout) s ≡ address_length s = ap (λ (v : Bool). immediate_place v s) e in
      let whole : length s ≡ address_length s + immediate_length r.form.immediate (form_width r.form m) = omega (arith, size, place) in
      let a = address_least s bytes (omega arith) in
      let addressed : addressed_bytes (has_modrm r.form.layout) (field_of r.form.digit o.reg) o.rm ≡ Some a.bytes = ap (λ (v : Bool). addressed_bytes v (field_of r.form.digit o.reg) o.rm) e ∙ ap₂ address_bytes field x ∙ address_with (reg_field s) m.gs (rm_of s) ∙ a.made in
      let b : List ℕ = drop (address_length s) s in
      let imm = immediate_part (address_length s) (omega arith) place whole in
      record {
        operands = record {
          bytes = a.bytes ++ b;
          made = ap₂ both addressed imm;
          least = subst (Upto (a.bytes ++ b)) (take-append-drop (address_length s) s) (upto_joined a.bytes (take (address_length s) s) b b a.least (upto_self b));
        };
        operand = ap (takes_operand r.form.layout) names ∙ modrm_parts.1;
        asked = asked_taken o.marks.lock o.rm (λ e. names ∙ lock_names m.lock m.gs _ modrm_parts.2 (lock_kept e));
      }

  without_address : has_modrm r.form.layout ≡ false → Behind
  without_address e =
      let g = without_modrm r.form.layout u.reg u.operand r.form.lock r.form.digit e f.modrm in
      let place : immediate_place (has_modrm r.form.layout) s ≡ 0 = ap (λ (v : Bool). immediate_place v s) e in
      let imm = immediate_part 0 (omega arith) place (omega (arith, size, place)) in
      record {
        operands = record {
          bytes = s;
          made = ap₂ both (ap (λ (v : Bool). addressed_bytes v (field_of r.form.digit o.reg) o.rm) e) imm;
          least = upto_self s;
        };
        operand = any_operand r.form.layout (is_memory o.rm) e;
        asked = asked_taken o.marks.lock o.rm (λ e. absurd (not_locked m.lock r.form.lock marks_parts.2 g.no_lock (lock_kept e)));
      }

  behind_opcode : Behind
  behind_opcode = go (has_modrm r.form.layout) refl
    where
      go : (v : Bool) → has_modrm r.form.layout ≡ v → Behind
      go true e = with_address e
      go false e = without_address e

  takes_taken : Behind → takes r o ≡ true
  takes_taken w =
      let rep = (rep_taken u.rep r.form.repeat m.rep f.repeat marks_parts.1).0 in
      let lock = (lock_taken u.lock r.form.lock m.lock f.lock marks_parts.2).0 in
      let gs = weaker o.marks.gs m.gs (takes_gs r.form) gs_kept marks_parts.3 in
      let marked : takes_marks r.form o.marks ≡ true = and_true _ _ (and_true _ _ (and_true _ _ width.takes rep) lock) gs in
      and_true _ _ (and_true _ _ (and_true _ _ (and_true _ _ width.same marked) w.operand) w.asked) (ap (is_opcode r) opcode_made ∙ in_span)

  pub row_least : (p : List ℕ) → m ≡ marks_of p → RowLeast r o (p ++ lead_bytes r.lead ++ c ∷ s)
  unfolding assembled
  row_least p e =
      let w = behind_opcode in
      let front : Upto (front_bytes r o) (p ++ lead_bytes r.lead ++ c ∷ []) =
      upto_joined (prefix_bytes o.marks ++ lead_bytes r.lead) (p ++ lead_bytes r.lead) (opcode_byte r o.opcode ∷ []) (c ∷ []) (upto_joined (prefix_bytes o.marks) p (lead_bytes r.lead) (lead_bytes r.lead) (prefixes_least o.marks p (within p e)) (upto_self (lead_bytes r.lead))) (upto_same _ _ (ap (λ (k : ℕ). k ∷ []) opcode_made)) in
      record {
        bytes = front_bytes r o ++ w.operands.bytes;
        made = ap (λ (v : Bool). if v then behind (front_bytes r o) (operand_bytes r o) else None) (takes_taken w) ∙ ap (behind (front_bytes r o)) w.operands.made;
        least = subst (Upto (front_bytes r o ++ w.operands.bytes)) (append_assoc (p ++ lead_bytes r.lead) (c ∷ []) s) (upto_joined (front_bytes r o) (p ++ lead_bytes r.lead ++ c ∷ []) w.operands.bytes s front w.operands.least);
      }
