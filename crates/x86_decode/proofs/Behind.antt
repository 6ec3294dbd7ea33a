-- A byte of the opcode maps: what bytes come to is what the bytes behind the first come to by the rows behind it.
use Rattle.std.proofs.Common.{◌≡◌, ◌≢◌, ℕ, Bool, true, false, not, ◌&&◌, List, [], ◌∷◌, refl, sym, ◌∙◌, ap, arith}
use Rattle.std.specs.Prelude.{nat_eq, if◌then◌else◌}
use Rattle.std.proofs.lemmas.Bool.{eqb-true}
use Rattle.std.proofs.lemmas.Bool.Decides.{nat_tests}
use Rattle.x86_insn.specs.declared.row.Form.{Form}
use Rattle.x86_insn.specs.declared.row.Row.{Row}
use Rattle.x86_insn.specs.declared.row.Marks.{Marks}
use Rattle.x86_insn.specs.Prefixes.{is_among}
use Rattle.x86_insn.specs.Rows.{rows}
use Rattle.x86_insn.specs.Spelling.{is_opcode}
use Rattle.x86_insn.specs.Scanning.{Scan, Nothing, later, best, scan_operands, scan_opcode, scan_lead, scan_row, scan_rows}
use Rattle.x86_insn.specs.Agreeing.{both_true, true_not_false}
use Rattle.x86_decode.specs.Candidates.{Rest, whole_rows, keep_lead, behind_byte, rows_behind, keep_form, forms_at, scan_rest, scan_forms}
use Rattle.x86_decode.proofs.Best.{best_nothing, best_later}

rest_of_rows : (rs : List Row) (m : Marks) (s : List ℕ) → scan_rest (whole_rows rs) m s ≡ scan_rows rs m s
rest_of_rows [] m s = refl
rest_of_rows (r ∷ rs) m s = ap (best (scan_row r m s)) (rest_of_rows rs m s)

pub rest_of_table : (m : Marks) (s : List ℕ) → scan_rest (rows_behind []) m s ≡ scan_rows rows m s
unfolding rows_behind
rest_of_table m s = rest_of_rows rows m s

-- ---- a lead byte

-- no row has this opcode byte next
abbrev is_no_opcode : ℕ → List ℕ → Row → Bool
is_no_opcode b [] r = not (is_opcode r b)
is_no_opcode b (x ∷ lead) r = true

abbrev no_opcode : ℕ → Rest → Bool
no_opcode b [] = true
no_opcode b (r ∷ rs) = is_no_opcode b r.0 r.1 && no_opcode b rs

not_true : (v : Bool) → not v ≡ true → v ≡ false
not_true true h = absurd (cc h)
not_true false h = refl

lead_one : (b : ℕ) (m : Marks) (s : List ℕ) (lead : List ℕ) (r : Row) (rest : Rest) → is_no_opcode b lead r ≡ true → best (scan_lead lead (scan_opcode r m) (b ∷ s)) (later 1 (scan_rest rest m s)) ≡ later 1 (scan_rest (keep_lead b lead r rest) m s)
lead_one b m s [] r rest h = ap (λ (v : Bool). best (elim v as (λ _. Scan) [ true ↦ later 1 (scan_operands r.form m b s) | false ↦ Nothing ]) (later 1 (scan_rest rest m s))) (not_true (is_opcode r b) h)
lead_one b m s (x ∷ lead) r rest h = by_test (nat_eq b x)
  where
    by_test : (v : Bool) → best (elim v as (λ _. Scan) [ true ↦ later 1 (scan_lead lead (scan_opcode r m) s) | false ↦ Nothing ]) (later 1 (scan_rest rest m s)) ≡ later 1 (scan_rest (if v then (lead, r) ∷ rest else rest) m s)
    by_test true = best_later 1 (scan_lead lead (scan_opcode r m) s) (scan_rest rest m s)
    by_test false = refl

lead_step : (b : ℕ) (m : Marks) (s : List ℕ) (rs : Rest) → no_opcode b rs ≡ true → scan_rest rs m (b ∷ s) ≡ later 1 (scan_rest (behind_byte b rs) m s)
lead_step b m s [] h = refl
lead_step b m s (r ∷ rs) h =
    let w = both_true (is_no_opcode b r.0 r.1) (no_opcode b rs) h in
    ap (best (scan_lead r.0 (scan_opcode r.1 m) (b ∷ s))) (lead_step b m s rs w.1) ∙ lead_one b m s r.0 r.1 (behind_byte b rs) w.0

-- ---- an opcode byte

-- each lead byte that may be next is one of a list
abbrev is_head : List ℕ → List ℕ → Bool
is_head xs [] = true
is_head xs (x ∷ lead) = is_among xs x

abbrev heads_are : List ℕ → Rest → Bool
heads_are xs [] = true
heads_are xs (r ∷ rs) = is_head xs r.0 && heads_are xs rs

apart_byte : (xs : List ℕ) (b x : ℕ) → is_among xs x ≡ true → is_among xs b ≡ false → nat_eq b x ≡ false
apart_byte xs b x h n = by_test (nat_eq b x) refl
  where
    by_test : (v : Bool) → nat_eq b x ≡ v → v ≡ false
    by_test true e = let p : b ≡ x = eqb-true b x e in absurd (true_not_false (sym h ∙ ap (is_among xs) (sym p) ∙ n))
    by_test false e = refl

form_one : (xs : List ℕ) (b : ℕ) (m : Marks) (s : List ℕ) (lead : List ℕ) (r : Row) (forms : List Form) → is_head xs lead ≡ true → is_among xs b ≡ false → best (scan_lead lead (scan_opcode r m) (b ∷ s)) (later 1 (scan_forms forms m b s)) ≡ later 1 (scan_forms (keep_form b lead r forms) m b s)
form_one xs b m s [] r forms h n = by_test (is_opcode r b)
  where
    by_test : (v : Bool) → best (elim v as (λ _. Scan) [ true ↦ later 1 (scan_operands r.form m b s) | false ↦ Nothing ]) (later 1 (scan_forms forms m b s)) ≡ later 1 (scan_forms (if v then r.form ∷ forms else forms) m b s)
    by_test true = best_later 1 (scan_operands r.form m b s) (scan_forms forms m b s)
    by_test false = refl
form_one xs b m s (x ∷ lead) r forms h n = ap (λ (v : Bool). best (elim v as (λ _. Scan) [ true ↦ later 1 (scan_lead lead (scan_opcode r m) s) | false ↦ Nothing ]) (later 1 (scan_forms forms m b s))) (apart_byte xs b x h n)

form_step : (xs : List ℕ) (b : ℕ) (m : Marks) (s : List ℕ) (rs : Rest) → heads_are xs rs ≡ true → is_among xs b ≡ false → scan_rest rs m (b ∷ s) ≡ later 1 (scan_forms (forms_at b rs) m b s)
form_step xs b m s [] h n = refl
form_step xs b m s (r ∷ rs) h n =
    let w = both_true (is_head xs r.0) (heads_are xs rs) h in
    ap (best (scan_lead r.0 (scan_opcode r.1 m) (b ∷ s))) (form_step xs b m s rs w.1 n) ∙ form_one xs b m s r.0 r.1 (forms_at b rs) w.0 n

-- ---- the bytes of the table's maps

pub at_escape : (m : Marks) (s : List ℕ) → scan_rest (rows_behind []) m (0x0F ∷ s) ≡ later 1 (scan_rest (rows_behind (0x0F ∷ [])) m s)
unfolding rows_behind
at_escape m s = lead_step 0x0F m s (whole_rows rows) (unfold rows in refl)

pub at_interrupt : (m : Marks) (s : List ℕ) → scan_rest (rows_behind []) m (0xCD ∷ s) ≡ later 1 (scan_rest (rows_behind (0xCD ∷ [])) m s)
unfolding rows_behind
at_interrupt m s = lead_step 0xCD m s (whole_rows rows) (unfold rows in refl)

pub at_hint : (m : Marks) (s : List ℕ) → scan_rest (rows_behind (0x0F ∷ [])) m (0x1E ∷ s) ≡ later 1 (scan_rest (rows_behind (0x0F ∷ 0x1E ∷ [])) m s)
unfolding rows_behind
at_hint m s = lead_step 0x1E m s (behind_byte 0x0F (whole_rows rows)) (unfold rows in refl)

pub at_one_byte : (b : ℕ) (m : Marks) (s : List ℕ) → is_among (0x0F ∷ 0xCD ∷ []) b ≡ false → scan_rest (rows_behind []) m (b ∷ s) ≡ later 1 (scan_forms (forms_at b (rows_behind [])) m b s)
unfolding rows_behind
at_one_byte b m s n = form_step (0x0F ∷ 0xCD ∷ []) b m s (whole_rows rows) (unfold rows in refl) n

pub at_two_byte : (b : ℕ) (m : Marks) (s : List ℕ) → is_among (0x1E ∷ []) b ≡ false → scan_rest (rows_behind (0x0F ∷ [])) m (b ∷ s) ≡ later 1 (scan_forms (forms_at b (rows_behind (0x0F ∷ []))) m b s)
unfolding rows_behind
at_two_byte b m s n = form_step (0x1E ∷ []) b m s (behind_byte 0x0F (whole_rows rows)) (unfold rows in refl) n

pub at_number : (b : ℕ) (m : Marks) (s : List ℕ) → scan_rest (rows_behind (0xCD ∷ [])) m (b ∷ s) ≡ later 1 (scan_forms (forms_at b (rows_behind (0xCD ∷ []))) m b s)
unfolding rows_behind
at_number b m s = form_step [] b m s (behind_byte 0xCD (whole_rows rows)) (unfold rows in refl) refl

pub at_hinted : (b : ℕ) (m : Marks) (s : List ℕ) → scan_rest (rows_behind (0x0F ∷ 0x1E ∷ [])) m (b ∷ s) ≡ later 1 (scan_forms (forms_at b (rows_behind (0x0F ∷ 0x1E ∷ []))) m b s)
unfolding rows_behind
at_hinted b m s = form_step [] b m s (behind_byte 0x1E (behind_byte 0x0F (whole_rows rows))) (unfold rows in refl) refl

-- ---- one form, or none

pub one_form : (f : Form) (fs : List Form) (m : Marks) (b : ℕ) (s : List ℕ) (r : Scan) → f ∷ [] ≡ fs → r ≡ scan_operands f m b s → r ≡ scan_forms fs m b s
one_form f fs m b s r e h = h ∙ sym (best_nothing (scan_operands f m b s)) ∙ ap (λ (gs : List Form). scan_forms gs m b s) e

pub no_form : (fs : List Form) (m : Marks) (b : ℕ) (s : List ℕ) → [] ≡ fs → Nothing ≡ scan_forms fs m b s
no_form fs m b s e = ap (λ (gs : List Form). scan_forms gs m b s) e

-- ---- bytes by their first

pub through : (rs : Rest) (m : Marks) (bytes t : List ℕ) (b : ℕ) (w a r : Scan) → bytes ≡ b ∷ t → scan_rest rs m (b ∷ t) ≡ later 1 w → a ≡ w → r ≡ later 1 a → r ≡ scan_rest rs m bytes
through rs m bytes t b w a r e f g h = h ∙ ap (later 1) g ∙ sym f ∙ ap (scan_rest rs m) (sym e)

pub escape_byte : (b : ℕ) (m : Marks) (s : List ℕ) → b ≡ 0x0F → scan_rest (rows_behind []) m (b ∷ s) ≡ later 1 (scan_rest (rows_behind (0x0F ∷ [])) m s)
escape_byte b m s e = ap (λ (x : ℕ). scan_rest (rows_behind []) m (x ∷ s)) e ∙ at_escape m s

pub interrupt_byte : (b : ℕ) (m : Marks) (s : List ℕ) → b ≡ 0xCD → scan_rest (rows_behind []) m (b ∷ s) ≡ later 1 (scan_rest (rows_behind (0xCD ∷ [])) m s)
interrupt_byte b m s e = ap (λ (x : ℕ). scan_rest (rows_behind []) m (x ∷ s)) e ∙ at_interrupt m s

pub hint_byte : (b : ℕ) (m : Marks) (s : List ℕ) → b ≡ 0x1E → scan_rest (rows_behind (0x0F ∷ [])) m (b ∷ s) ≡ later 1 (scan_rest (rows_behind (0x0F ∷ 0x1E ∷ [])) m s)
hint_byte b m s e = ap (λ (x : ℕ). scan_rest (rows_behind (0x0F ∷ [])) m (x ∷ s)) e ∙ at_hint m s

pub one_byte_opcode : (b : ℕ) (m : Marks) (s : List ℕ) → b ≢ 0x0F → b ≢ 0xCD → scan_rest (rows_behind []) m (b ∷ s) ≡ later 1 (scan_forms (forms_at b (rows_behind [])) m b s)
one_byte_opcode b m s h k = at_one_byte b m s (neither b h k)
  where
    neither : (x : ℕ) → x ≢ 0x0F → x ≢ 0xCD → is_among (0x0F ∷ 0xCD ∷ []) x ≡ false
    neither x p q = grind (arith, nat_tests)

pub two_byte_opcode : (b : ℕ) (m : Marks) (s : List ℕ) → b ≢ 0x1E → scan_rest (rows_behind (0x0F ∷ [])) m (b ∷ s) ≡ later 1 (scan_forms (forms_at b (rows_behind (0x0F ∷ []))) m b s)
two_byte_opcode b m s h = at_two_byte b m s (other b h)
  where
    other : (x : ℕ) → x ≢ 0x1E → is_among (0x1E ∷ []) x ≡ false
    other x p = grind (arith, nat_tests)
