-- The scan of rows is right, since no two rows of the table give byte lists that agree.
use Rattle.std.specs.Prelude.{◌≡◌, ℕ, suc, ◌+◌, ◌/◌, ◌%◌, ◌<◌, ◌≤◌, Bool, true, false, not, ◌&&◌, ◌||◌, ◌⊎◌, List, [], ◌∷◌, ◌++◌, length, Option, Some, None, refl, nat_eq, nat_le, nat_lt, ◌==◌}
use Rattle.std.proofs.Common.{sym, ◌∙◌, ap, subst, inl, inr, arith}
use Rattle.std.proofs.lemmas.Bool.{eqb-true, eq-eqb, leb-true}
use Rattle.x86_insn.specs.declared.insn.Insn.{Insn}
use Rattle.x86_insn.specs.declared.insn.Rep.{Rep}
use Rattle.x86_insn.specs.declared.insn.Rep.TheVariants as rep
use Rattle.x86_insn.specs.declared.row.Lead.{Lead}
use Rattle.x86_insn.specs.declared.row.Lead.TheVariants.{Bare, Escape, Interrupt, Hint}
use Rattle.x86_insn.specs.declared.row.Repeat.{Repeat}
use Rattle.x86_insn.specs.declared.row.Form.{Form}
use Rattle.x86_insn.specs.declared.row.Row.{Row}
use Rattle.x86_insn.specs.declared.row.Marks.{Marks}
use Rattle.x86_insn.specs.Addressing.{byte_at, reg_field, names_memory, address_length}
use Rattle.x86_insn.specs.Meaning.{meaning}
use Rattle.x86_insn.specs.Rows.{rows}
use Rattle.x86_insn.specs.Spelling.{lead_bytes, immediate_length, immediate_place, form_width, has_modrm, takes_word, takes_digit, takes_operand, takes_repeat, takes_marks, takes_modrm, from_modrm, addressed, operand_length, operands_of, is_opcode, spelled_operands, spelled_opcode, behind_lead, spelled_row, spelled_rows, are_bytes}
use Rattle.x86_insn.specs.Scanning.{Scan, Found, More, Nothing, unseen, seeded, sized, scan_operands, scan_opcode, scan_lead, scan_row, scan_rows, Agree, IsScan}
use Rattle.x86_insn.specs.Agreeing.{chosen, both_true, true_not_false, or_cases, agree_byte}
use Rattle.x86_insn.specs.Scanned.{Speller, Exclude, best_of, step_unseen, step_seen}
use Rattle.x86_insn.specs.OperandBytes.{address_above}
use Rattle.x86_insn.specs.OperandScan.{small_digit, operands_scan}

-- ---- one row

-- a missing operand doesn't depend on the instruction
unseen_sized : (c : Bool) (i j : Insn) (n : ℕ) → unseen (elim c as (λ _. Scan) [ true ↦ sized i n 0 | false ↦ Nothing ]) ≡ unseen (elim c as (λ _. Scan) [ true ↦ sized j n 0 | false ↦ Nothing ])
unseen_sized false i j n = refl
unseen_sized true i j n = by_size (nat_le n 0)
  where
    by_size : (v : Bool) → unseen (elim v as (λ _. Scan) [ true ↦ Found i n | false ↦ More n ]) ≡ unseen (elim v as (λ _. Scan) [ true ↦ Found j n | false ↦ More n ])
    by_size true = refl
    by_size false = refl

unseen_same : (r : Form) (m : Marks) (a b : ℕ) → unseen (scan_operands r m a []) ≡ unseen (scan_operands r m b [])
unseen_same r m a b = unseen_sized (takes_marks r m && takes_modrm r m (seeded r [])) (meaning r.kind (operands_of r m a [])) (meaning r.kind (operands_of r m b [])) (operand_length r m (seeded r []))

-- the columns of a row are in order
abbrev pub is_sound : Row → Bool
is_sound r = small_digit r.form.digit && is_opcode r r.opcode && nat_lt r.opcode 256

opcode_scan : (r : Row) (m : Marks) → is_sound r ≡ true → (b : List ℕ) → IsScan (spelled_opcode r m) b (scan_opcode r m b)
opcode_scan r m h (x ∷ t) =
    let w = both_true (small_digit r.form.digit && is_opcode r r.opcode) _ h in
    let v = both_true (small_digit r.form.digit) _ w.0 in
    step_seen (spelled_opcode r m) (is_opcode r) (spelled_operands r.form m) x t (scan_operands r.form m x t) (record { empty = refl; more = λ b s. refl }) (λ e. operands_scan r.form m x v.0 t)
opcode_scan r m h [] =
    let w = both_true (small_digit r.form.digit && is_opcode r r.opcode) _ h in
    let v = both_true (small_digit r.form.digit) _ w.0 in
    step_unseen (spelled_opcode r m) (is_opcode r) (spelled_operands r.form m) r.opcode (scan_operands r.form m r.opcode []) (record { empty = refl; more = λ b s. refl }) v.1 (leb-true (suc r.opcode) 256 w.1) (operands_scan r.form m r.opcode v.0 []) (λ b e. (scan_operands r.form m b [], operands_scan r.form m b v.0 [], unseen_same r.form m b r.opcode))

lead_scan : (lead : List ℕ) (f : Speller) (h : List ℕ → Scan) → are_bytes lead ≡ true → ((b : List ℕ) → IsScan f b (h b)) → (b : List ℕ) → IsScan (behind_lead lead f) b (scan_lead lead h b)
lead_scan [] f h e w b = w b
lead_scan (x ∷ lead) f h e w [] =
    let v = both_true (nat_lt x 256) (are_bytes lead) e in
    step_unseen (behind_lead (x ∷ lead) f) (λ b. nat_eq b x) (λ b. behind_lead lead f) x (scan_lead lead h []) (record { empty = refl; more = λ b s. refl }) (eq-eqb x x refl) (leb-true (suc x) 256 v.0) (lead_scan lead f h v.1 w []) (λ b p. (scan_lead lead h [], lead_scan lead f h v.1 w [], refl))
lead_scan (x ∷ lead) f h e w (y ∷ t) =
    let v = both_true (nat_lt x 256) (are_bytes lead) e in
    step_seen (behind_lead (x ∷ lead) f) (λ b. nat_eq b x) (λ b. behind_lead lead f) y t (scan_lead lead h t) (record { empty = refl; more = λ b s. refl }) (λ p. lead_scan lead f h v.1 w t)

leads_are_bytes : (l : Lead) → are_bytes (lead_bytes l) ≡ true
leads_are_bytes Bare = refl
leads_are_bytes Escape = refl
leads_are_bytes Interrupt = refl
leads_are_bytes Hint = refl

pub row_scan : (r : Row) (m : Marks) → is_sound r ≡ true → (b : List ℕ) → IsScan (spelled_row r m) b (scan_row r m b)
row_scan r m h b = lead_scan (lead_bytes r.lead) (spelled_opcode r m) (scan_opcode r m) (leads_are_bytes r.lead) (opcode_scan r m h) b

-- ---- two rows

-- the bytes before the operands, each by the first that may stand there and how many there are
abbrev pub ranges : List ℕ → ℕ → ℕ → List (ℕ × ℕ)
ranges [] a n = (a, n) ∷ []
ranges (x ∷ lead) a n = (x, 1) ∷ ranges lead a n

abbrev pub pattern : Row → List (ℕ × ℕ)
pattern r = ranges (lead_bytes r.lead) r.opcode r.span

-- two patterns can't both begin a byte list
abbrev pub clash : List (ℕ × ℕ) → List (ℕ × ℕ) → Bool
clash [] q = false
clash (x ∷ p) [] = false
clash (x ∷ p) (y ∷ q) = nat_le (x.0 + x.1) y.0 || nat_le (y.0 + y.1) x.0 || clash p q

abbrev pub differ : Option ℕ → Option ℕ → Bool
differ None d = false
differ (Some a) None = false
differ (Some a) (Some b) = not (a == b)

abbrev pub neither : Repeat → Repeat → Rep → Bool
neither a b p = not (takes_repeat a p && takes_repeat b p)

-- no byte list of the one agrees with one of the other: they differ before the operands, in the digit, or in the
-- prefixes F2 and F3
abbrev pub apart : Row → Row → Bool
apart r q =
    clash (pattern r) (pattern q)
    || (nat_eq (length (lead_bytes r.lead)) (length (lead_bytes q.lead)) && has_modrm r.form.layout && has_modrm q.form.layout && differ r.form.digit q.form.digit)
    || (neither r.form.repeat q.form.repeat rep.Once && neither r.form.repeat q.form.repeat rep.F3 && neither r.form.repeat q.form.repeat rep.F2)

abbrev pub apart_from : Row → List Row → Bool
apart_from r [] = true
apart_from r (q ∷ rs) = apart r q && apart_from r rs

-- a byte list begins as a pattern says
abbrev pub Begins : List (ℕ × ℕ) → List ℕ → Type 0
Begins [] s = Unit {0}
Begins (x ∷ p) [] = ⊥
Begins (x ∷ p) (b ∷ s) = (x.0 ≤ b) × (b < x.0 + x.1) × Begins p s

either_true : (a b : Bool) → (a || b) ≡ true → (a ≡ true) ⊎ (b ≡ true)
either_true true b h = inl refl
either_true false b h = inr h

clash_apart : (p q : List (ℕ × ℕ)) (s t : List ℕ) → clash p q ≡ true → Begins p s → Begins q t → Agree s t → ⊥
clash_apart [] q s t c h k a = absurd (cc c)
clash_apart (x ∷ p) [] s t c h k a = absurd (cc c)
clash_apart (x ∷ p) (y ∷ q) [] t c h k a = h
clash_apart (x ∷ p) (y ∷ q) (b ∷ s) [] c h k a = k
clash_apart (x ∷ p) (y ∷ q) (b ∷ s) (d ∷ t) c h k a =
    elim (either_true (nat_le (x.0 + x.1) y.0 || nat_le (y.0 + y.1) x.0) _ c) [
      | inl e ↦ elim (either_true (nat_le (x.0 + x.1) y.0) _ e) [
        | inl l ↦ let n = leb-true _ _ l in omega (arith, n, h.1, k.0, a.0)
        | inr l ↦ let n = leb-true _ _ l in omega (arith, n, h.0, k.1, a.0)
      ]
      | inr e ↦ clash_apart p q s t e h.2 k.2 a.1
    ]

-- what a row spells, by its parts
pub record RowParts (r : Row) (m : Marks) (s : List ℕ) (j : Insn) : Type 0 where
  pub opcode : ℕ
  pub operands : List ℕ
  pub parts : s ≡ lead_bytes r.lead ++ opcode ∷ operands
  pub in_span : is_opcode r opcode ≡ true
  pub spells : spelled_operands r.form m opcode operands ≡ Some j
  pub begins : Begins (pattern r) s

opcode_parts : (r : Row) (m : Marks) (s : List ℕ) (j : Insn) → spelled_opcode r m s ≡ Some j → (b : ℕ) × (u : List ℕ) × (s ≡ b ∷ u) × (is_opcode r b ≡ true) × (spelled_operands r.form m b u ≡ Some j)
opcode_parts r m [] j e = absurd (cc e)
opcode_parts r m (b ∷ u) j e = let c = chosen (is_opcode r b) (spelled_operands r.form m b u) j e in (b, u, refl, c.0, c.1)

lead_parts : (lead : List ℕ) (f : Speller) (s : List ℕ) (j : Insn) → behind_lead lead f s ≡ Some j → (u : List ℕ) × (s ≡ lead ++ u) × (f u ≡ Some j)
lead_parts [] f s j e = (s, refl, e)
lead_parts (x ∷ lead) f [] j e = absurd (cc e)
lead_parts (x ∷ lead) f (b ∷ s) j e =
    let c = chosen (nat_eq b x) (behind_lead lead f s) j e in
    let w = lead_parts lead f s j c.1 in
    let p : b ≡ x = eqb-true b x c.0 in
    (w.0, cc (p, w.1), w.2)

ranges_begin : (lead : List ℕ) (a n b : ℕ) (u : List ℕ) → a ≤ b → b < a + n → Begins (ranges lead a n) (lead ++ b ∷ u)
ranges_begin [] a n b u h k = (h, k, tt)
ranges_begin (x ∷ lead) a n b u h k = (omega arith, omega arith, ranges_begin lead a n b u h k)

pub row_parts : (r : Row) (m : Marks) (s : List ℕ) (j : Insn) → spelled_row r m s ≡ Some j → RowParts r m s j
row_parts r m s j e =
    let w = lead_parts (lead_bytes r.lead) (spelled_opcode r m) s j e in
    let v = opcode_parts r m w.0 j w.2 in
    let p : s ≡ lead_bytes r.lead ++ v.0 ∷ v.1 = w.1 ∙ ap (λ (u : List ℕ). lead_bytes r.lead ++ u) v.2 in
    let in_span = both_true (nat_le r.opcode v.0) _ v.3 in
    record {
      opcode = v.0;
      operands = v.1;
      parts = p;
      in_span = v.3;
      spells = v.4;
      begins = subst (Begins (pattern r)) (sym p) (ranges_begin (lead_bytes r.lead) r.opcode r.span v.0 v.1 (leb-true _ _ in_span.0) (leb-true _ _ in_span.1));
    }

agree_behind : (a b s t : List ℕ) → length a ≡ length b → Agree (a ++ s) (b ++ t) → Agree s t
agree_behind [] [] s t e h = h
agree_behind [] (y ∷ b) s t e h = absurd (omega arith)
agree_behind (x ∷ a) [] s t e h = absurd (omega arith)
agree_behind (x ∷ a) (y ∷ b) s t e h = agree_behind a b s t (omega arith) h.1

-- what operand bytes that are spelled meet
record OperandParts (r : Form) (m : Marks) (s : List ℕ) : Type 0 where
  rep : takes_repeat r.repeat m.rep ≡ true
  digit : takes_digit r.digit (reg_field (from_modrm r s)) ≡ true
  whole : length s ≡ operand_length r m s

operand_parts : (r : Form) (m : Marks) (o : ℕ) (s : List ℕ) (j : Insn) → spelled_operands r m o s ≡ Some j → OperandParts r m s
operand_parts r m o s j e =
    let c = chosen (takes_marks r m && takes_modrm r m s && (length s == operand_length r m s)) (Some (meaning r.kind (operands_of r m o s))) j e in
    let w = both_true (takes_marks r m && takes_modrm r m s) _ c.0 in
    let v = both_true (takes_marks r m) _ w.0 in
    let marks = both_true ((not m.word || takes_word r.size) && takes_repeat r.repeat m.rep) _ (both_true ((not m.word || takes_word r.size) && takes_repeat r.repeat m.rep && (not m.lock || r.lock)) _ v.0).0 in
    let modrm = both_true (takes_digit r.digit (reg_field (from_modrm r s)) && takes_operand r.layout (names_memory (from_modrm r s))) _ v.1 in
    record {
      rep = (both_true (not m.word || takes_word r.size) _ marks.0).1;
      digit = (both_true (takes_digit r.digit (reg_field (from_modrm r s))) _ modrm.0).0;
      whole = eqb-true (length s) (operand_length r m s) w.1;
    }

first_byte : (r : Form) (m : Marks) (s : List ℕ) → has_modrm r.layout ≡ true → OperandParts r m s → 0 < length s
first_byte r m s e w =
    let n : operand_length r m s ≡ address_length s + immediate_length r.immediate (form_width r m) = ap (λ (v : Bool). immediate_place v s + immediate_length r.immediate (form_width r m)) e in
    omega (arith, w.whole, n, address_above s)

digits_apart : (a b : Option ℕ) (n k : ℕ) → differ a b ≡ true → takes_digit a n ≡ true → takes_digit b k ≡ true → n ≡ k → ⊥
digits_apart None b n k d t u e = absurd (cc d)
digits_apart (Some a) None n k d t u e = absurd (cc d)
digits_apart (Some a) (Some b) n k d t u e =
    let p : a ≡ b = sym (eqb-true n a t) ∙ e ∙ eqb-true k b u in
    let q : not (a == b) ≡ false = ap not (eq-eqb a b p) in
    true_not_false (sym d ∙ q)

never_both : (a b : Bool) → not (a && b) ≡ true → a ≡ true → b ≡ true → ⊥
never_both true true h p q = absurd (cc h)
never_both true false h p q = absurd (cc q)
never_both false b h p q = absurd (cc p)

repeats_apart : (a b : Repeat) (p : Rep) → (neither a b rep.Once && neither a b rep.F3 && neither a b rep.F2) ≡ true → takes_repeat a p ≡ true → takes_repeat b p ≡ true → ⊥
repeats_apart a b rep.Once h t u = let w = both_true (neither a b rep.Once && neither a b rep.F3) _ h in never_both _ _ (both_true (neither a b rep.Once) _ w.0).0 t u
repeats_apart a b rep.F3 h t u = let w = both_true (neither a b rep.Once && neither a b rep.F3) _ h in never_both _ _ (both_true (neither a b rep.Once) _ w.0).1 t u
repeats_apart a b rep.F2 h t u = let w = both_true (neither a b rep.Once && neither a b rep.F3) _ h in never_both _ _ w.1 t u

rows_apart : (r q : Row) (m : Marks) → apart r q ≡ true → Exclude (spelled_row r m) (spelled_row q m)
rows_apart r q m h s t i j e f a =
    let w = row_parts r m s i e in
    let v = row_parts q m t j f in
    let ow = operand_parts r.form m w.opcode w.operands i w.spells in
    let ov = operand_parts q.form m v.opcode v.operands j v.spells in
    elim (either_true (clash (pattern r) (pattern q) || _) _ h) [
      | inl c ↦ elim (either_true (clash (pattern r) (pattern q)) _ c) [
        | inl p ↦ clash_apart (pattern r) (pattern q) s t p w.begins v.begins a
        | inr p ↦
            let l2 = both_true (nat_eq (length (lead_bytes r.lead)) (length (lead_bytes q.lead)) && has_modrm r.form.layout && has_modrm q.form.layout) _ p in
            let l1 = both_true (nat_eq (length (lead_bytes r.lead)) (length (lead_bytes q.lead)) && has_modrm r.form.layout) _ l2.0 in
            let l0 = both_true (nat_eq (length (lead_bytes r.lead)) (length (lead_bytes q.lead))) _ l1.0 in
            let whole : Agree (lead_bytes r.lead ++ w.opcode ∷ w.operands) (lead_bytes q.lead ++ v.opcode ∷ v.operands) =
            subst (Agree (lead_bytes r.lead ++ w.opcode ∷ w.operands)) v.parts (subst (λ (u : List ℕ). Agree u t) w.parts a) in
            let behind = agree_behind (lead_bytes r.lead) (lead_bytes q.lead) (w.opcode ∷ w.operands) (v.opcode ∷ v.operands) (eqb-true _ _ l0.0) whole in
            let byte : byte_at w.operands 0 ≡ byte_at v.operands 0 = agree_byte w.operands v.operands 0 behind.1 (first_byte r.form m w.operands l0.1 ow) (first_byte q.form m v.operands l1.1 ov) in
            let fr : reg_field (from_modrm r.form w.operands) ≡ reg_field w.operands = ap (λ (b : Bool). reg_field (addressed b w.operands)) l0.1 in
            let fq : reg_field (from_modrm q.form v.operands) ≡ reg_field v.operands = ap (λ (b : Bool). reg_field (addressed b v.operands)) l1.1 in
            digits_apart r.form.digit q.form.digit _ _ l2.1 ow.digit ov.digit (fr ∙ ap (λ (b : ℕ). b / 8 % 8) byte ∙ sym fq)
      ]
      | inr c ↦ repeats_apart r.form.repeat q.form.repeat m.rep c ow.rep ov.rep
    ]

-- ---- all rows

abbrev pub are_apart : List Row → Bool
are_apart [] = true
are_apart (r ∷ rs) = is_sound r && apart_from r rs && are_apart rs

pub exclude_rows : (r : Row) (rs : List Row) (m : Marks) → apart_from r rs ≡ true → Exclude (spelled_row r m) (spelled_rows rs m)
exclude_rows r [] m h s t i j e f a = absurd (cc f)
exclude_rows r (q ∷ rs) m h s t i j e f a =
    let w = both_true (apart r q) _ h in
    elim (or_cases _ _ j f) [
      | inl p ↦ rows_apart r q m w.0 s t i j e p a
      | inr p ↦ exclude_rows r rs m w.1 s t i j e p a
    ]

rows_scan_of : (rs : List Row) (m : Marks) → are_apart rs ≡ true → (b : List ℕ) → IsScan (spelled_rows rs m) b (scan_rows rs m b)
rows_scan_of [] m h b = λ s j e a. absurd (cc e)
rows_scan_of (r ∷ rs) m h b =
    let w = both_true (is_sound r && apart_from r rs) _ h in
    let v = both_true (is_sound r) _ w.0 in
    best_of (spelled_row r m) (spelled_rows rs m) b (scan_row r m b) (scan_rows rs m b) (exclude_rows r rs m v.1) (row_scan r m v.0 b) (rows_scan_of rs m w.1 b)

-- any two rows of the table are apart
pub table_is_apart : are_apart rows ≡ true
unfolding rows
table_is_apart = refl

pub rows_scan : (m : Marks) (b : List ℕ) → IsScan (spelled_rows rows m) b (scan_rows rows m b)
rows_scan m b = rows_scan_of rows m table_is_apart b
