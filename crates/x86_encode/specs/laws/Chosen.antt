-- The least over an instruction's candidates and their rows is the least of all its spellings.
use Rattle.std.proofs.Common.{◌≡◌, ℕ, suc, ◌+◌, Bool, true, false, List, [], ◌∷◌, ◌++◌, length, Option, Some, None, refl, sym, ◌∙◌, ap, subst, inl, inr, arith, take_all}
use Rattle.std.specs.Prelude.{◌≤◌, not, ◌&&◌, ◌||◌, IfSome, if◌then◌else◌}
use Rattle.std.proofs.lemmas.List.{length-append, take-append-le}
use Rattle.mv_base.specs.Bytes.{AreBytes}
use Rattle.x86_insn.specs.declared.insn.Insn.{Insn}
use Rattle.x86_insn.specs.declared.insn.Insn.TheVariants as insn
use Rattle.x86_insn.specs.declared.insn.Rm.TheVariants as rm
use Rattle.x86_insn.specs.declared.row.Lead.{Lead}
use Rattle.x86_insn.specs.declared.row.Lead.TheVariants.{Bare, Escape, Interrupt, Hint}
use Rattle.x86_insn.specs.declared.row.Layout.{Layout}
use Rattle.x86_insn.specs.declared.row.Layout.TheVariants.{NoModrm, Any, Memory, Register}
use Rattle.x86_insn.specs.declared.row.Kind.{Kind}
use Rattle.x86_insn.specs.declared.row.Kind.TheVariants as kind
use Rattle.x86_insn.specs.declared.row.Row.{Row}
use Rattle.x86_insn.specs.declared.row.Operands.{Operands}
use Rattle.x86_insn.specs.Addressing.{names_memory, memory_of, rm_field, reg_of, rm_of, reg_field}
use Rattle.x86_insn.specs.Meaning.{meaning}
use Rattle.x86_insn.specs.Prefixes.{marks_of}
use Rattle.x86_insn.specs.Spelling.{lead_bytes, takes_digit, takes_operand, from_modrm, operands_of, Spells, spelled, decoded}
use Rattle.x86_insn.specs.Agreeing.{both_true}
use Rattle.x86_insn.specs.Laws.{spells_spelled, decoded_of}
use Rattle.x86_encode.specs.declared.candidates.Candidate.{Candidate}
use Rattle.x86_encode.specs.Order.{Upto, is_upto}
use Rattle.x86_encode.specs.Encoding.{IsLeast, IsLeastOf}
use Rattle.x86_encode.specs.Assembling.{is_memory, assembled}
use Rattle.x86_encode.specs.Candidates.{general, special}
use Rattle.x86_encode.specs.Slots.{byte_row, full_row, short_row}
use Rattle.x86_encode.specs.Least.{lesser, by_row, by_rows, by_candidate, least}
use Rattle.x86_encode.specs.laws.Ordered.{Decided, upto_test, upto_chain, upto_both}
use Rattle.x86_encode.specs.laws.Addressed.{memory_with}
use Rattle.x86_encode.specs.laws.Taken.{uses, taken, Allowed, offered, MeansTo, Limited, general_means, special_means, Agreed, general_agrees, special_agrees}
use Rattle.x86_encode.specs.laws.Tabled.{Slot, AtByte, AtFull, AtShort, slot_row, slot_of, slotted, is_nop, is_escape, IsLongNop, is_lea, only_memory, RowFits, fitted, SlotRow, slot_facts}
use Rattle.x86_encode.specs.laws.Spelt.{row_limited, row_spells}
use Rattle.x86_encode.specs.laws.Covered.{RowLeast, row_least}

-- ---- the lesser of two

-- what it is spells the instruction
abbrev Good : Insn → Option (List ℕ) → Type 0
Good i None = Unit {0}
Good i (Some s) = Spells s i

-- it is no greater than some bytes
abbrev Below : List ℕ → Option (List ℕ) → Type 0
Below t None = ⊥
Below t (Some s) = Upto s t

lesser_good : (i : Insn) (a b : Option (List ℕ)) → Good i a → Good i b → Good i (lesser a b)
lesser_good i None b g h = h
lesser_good i (Some s) None g h = g
lesser_good i (Some s) (Some t) g h = go (is_upto s t)
  where
    go : (v : Bool) → Good i (if v then Some s else Some t)
    go true = g
    go false = h

lesser_left : (t : List ℕ) (a b : Option (List ℕ)) → Below t a → Below t (lesser a b)
lesser_left t None b h = absurd h
lesser_left t (Some s) None h = h
lesser_left t (Some s) (Some q) h = go (is_upto s q) (upto_test s q (is_upto s q) refl)
  where
    go : (v : Bool) → Decided v (Upto s q) (Upto q s) → Below t (if v then Some s else Some q)
    go true d = h
    go false d = upto_chain q s t d h

lesser_right : (t : List ℕ) (a b : Option (List ℕ)) → Below t b → Below t (lesser a b)
lesser_right t None b h = h
lesser_right t (Some s) None h = absurd h
lesser_right t (Some s) (Some q) h = go (is_upto s q) (upto_test s q (is_upto s q) refl)
  where
    go : (v : Bool) → Decided v (Upto s q) (Upto q s) → Below t (if v then Some s else Some q)
    go true d = upto_chain s q t d h
    go false d = h

-- ---- what is chosen spells the instruction

row_good : (s : Slot) (c : Candidate) (i : Insn) → Agreed (Some c) → MeansTo (Some c) i → Good i (by_row (slot_row s c.kind) c.operands)
row_good s c i agrees means = go (slot_row s c.kind) refl
  where
    made : (r : Row) (o : Option (List ℕ)) → SlotRow c.kind r → assembled r c.operands ≡ o → Good i o
    made r None f e = tt
    made r (Some q) f e =
        let limit = row_limited r c.operands q f.fits e in
        let meant : meaning r.form.kind c.operands ≡ i = ap (λ (k : Kind). meaning k c.operands) f.kind ∙ means (subst (λ (k : Kind). Limited (uses k).immediate c.operands.immediate) f.kind limit) in
        row_spells r c.operands q i f.listed f.fits e agrees meant

    go : (x : Option Row) → slot_row s c.kind ≡ x → Good i (by_row x c.operands)
    go None e = tt
    go (Some r) e = made r (assembled r c.operands) (slot_facts s c.kind r e) refl

candidate_good : (x : Option Candidate) (i : Insn) → Agreed x → MeansTo x i → Good i (by_candidate x)
unfolding by_rows
candidate_good None i agrees means = tt
candidate_good (Some c) i agrees means =
    lesser_good i _ _ (row_good AtByte c i agrees means) (lesser_good i _ _ (row_good AtFull c i agrees means) (row_good AtShort c i agrees means))

least_good : (i : Insn) → Good i (least i)
unfolding least
least_good i = lesser_good i _ _ (candidate_good (general i) i (general_agrees i) (general_means i)) (candidate_good (special i) i (special_agrees i) (special_means i))

-- ---- nothing that spells it is less

row_below : (s : Slot) (c : Candidate) (r : Row) (t : List ℕ) → slot_row s c.kind ≡ Some r → RowLeast r c.operands t → Below t (by_row (slot_row s c.kind) c.operands)
row_below s c r t e w = subst (λ (x : Option Row). Below t (by_row x c.operands)) (sym e) (subst (Below t) (sym w.made) w.least)

rows_below : (s : Slot) (c : Candidate) (t : List ℕ) → Below t (by_row (slot_row s c.kind) c.operands) → Below t (by_rows c)
unfolding by_rows
rows_below AtByte c t h = lesser_left t _ _ h
rows_below AtFull c t h = lesser_right t (by_row (byte_row c.kind) c.operands) _ (lesser_left t _ _ h)
rows_below AtShort c t h = lesser_right t (by_row (byte_row c.kind) c.operands) _ (lesser_right t (by_row (full_row c.kind) c.operands) _ h)

candidate_below : (x : Option Candidate) (c : Candidate) (t : List ℕ) → x ≡ Some c → Below t (by_rows c) → Below t (by_candidate x)
candidate_below x c t e h = subst (λ (y : Option Candidate). Below t (by_candidate y)) (sym e) h

-- LEA names memory
lea_memory : (l : Layout) (v : Bool) → only_memory l ≡ true → takes_operand l v ≡ true → v ≡ true
lea_memory NoModrm v o h = absurd (cc o)
lea_memory Any v o h = absurd (cc o)
lea_memory Memory v o h = h
lea_memory Register v o h = absurd (cc o)

names_rm : (s : List ℕ) → names_memory s ≡ true → is_memory (rm_of s) ≡ true
names_rm s e = ap (λ (v : Bool). is_memory (if v then rm.M (memory_of s) else rm.R (reg_of (rm_field s)))) e

needs : (v w : Bool) → (not v || w) ≡ true → v ≡ true → w ≡ true
needs true w h e = h
needs false w h e = absurd (cc e)

allowed_by : (k : Kind) (o : Operands) → (is_lea k ≡ true → is_memory o.rm ≡ true) → Allowed k o
allowed_by kind.Lea o h = h refl
allowed_by k o h = tt

pub bytes_behind : (a b : List ℕ) → AreBytes (a ++ b) → AreBytes b
bytes_behind [] b h = h
bytes_behind (x ∷ a) b h = bytes_behind a b (λ k. h (suc k))

-- a spelling by a row that fits its kind
fitted_below : (i : Insn) (t : List ℕ) (w : Spells t i) → RowFits w.row → slot_row (slot_of w.row) w.row.form.kind ≡ Some w.row → Below t (least i)
unfolding least
fitted_below i t w f slot =
    let m = marks_of w.prefixes in
    let k = w.row.form.kind in
    let o = operands_of w.row.form m w.opcode w.operands in
    let a = both_true (takes_digit w.row.form.digit (reg_field (from_modrm w.row.form w.operands)) && takes_operand w.row.form.layout (names_memory (from_modrm w.row.form w.operands))) _ w.modrm in
    let b = both_true (takes_digit w.row.form.digit (reg_field (from_modrm w.row.form w.operands))) _ a.0 in
    let allowed : Allowed k o = allowed_by k o (λ e. memory_with m.gs (rm_of (from_modrm w.row.form w.operands)) ∙ names_rm (from_modrm w.row.form w.operands) (lea_memory w.row.form.layout _ (needs (is_lea k) _ f.lea e) b.1)) in
    let c : Candidate = record { kind = k; operands = taken (uses k) o } in
    let bytes : AreBytes w.operands = λ n. bytes_behind (w.prefixes ++ lead_bytes w.row.lead) (w.opcode ∷ w.operands) (subst AreBytes w.parts w.bytes) (suc n) in
    let v = row_least w.row m w.opcode w.operands f bytes w.is_opcode w.marks w.modrm w.whole w.prefixes refl in
    let here : RowLeast w.row c.operands t = subst (RowLeast w.row c.operands) (sym w.parts) v in
    let rows : Below t (by_rows c) = rows_below (slot_of w.row) c t (row_below (slot_of w.row) c w.row t slot here) in
    elim (offered k o allowed) [
      | inl e ↦ lesser_left t (by_candidate (general i)) (by_candidate (special i)) (candidate_below (general i) c t (ap general (sym w.means) ∙ e) rows)
      | inr e ↦ lesser_right t (by_candidate (general i)) (by_candidate (special i)) (candidate_below (special i) c t (ap special (sym w.means) ∙ e) rows)
    ]

-- the long NOP isn't the least
nop_means : (k : Kind) (o : Operands) → is_nop k ≡ true → meaning k o ≡ insn.Nop
nop_means kind.Nop o h = refl
nop_means k o h = absurd (cc h)

least_nop : least insn.Nop ≡ Some (0x90 ∷ [])
unfolding least by_rows general special byte_row full_row short_row assembled
least_nop = refl

escape_some : (l : Lead) → is_escape l ≡ true → length (lead_bytes l) ≡ 1
escape_some Bare h = absurd (cc h)
escape_some Escape h = refl
escape_some Interrupt h = absurd (cc h)
escape_some Hint h = absurd (cc h)

long_below : (i : Insn) (t : List ℕ) (w : Spells t i) → IsLongNop w.row → Below t (least i)
long_below i t w n =
    let nop : insn.Nop ≡ i = sym (nop_means w.row.form.kind (operands_of w.row.form (marks_of w.prefixes) w.opcode w.operands) n.nop) ∙ w.means in
    let size : length t ≡ length w.prefixes + length (lead_bytes w.row.lead) + suc (length w.operands) = ap length w.parts ∙ omega (arith, length-append (w.prefixes ++ lead_bytes w.row.lead) (w.opcode ∷ w.operands), length-append w.prefixes (lead_bytes w.row.lead)) in
    subst (λ (j : Insn). Below t (least j)) nop (subst (Below t) (sym least_nop) (inl (omega (arith, size, escape_some w.row.lead n.escape))))

least_below : (i : Insn) (t : List ℕ) → Spells t i → Below t (least i)
least_below i t w =
    elim (fitted w.row w.listed) [
      | inr n ↦ long_below i t w n
      | inl f ↦ elim (slotted w.row w.listed) [
        | inr n ↦ long_below i t w n
        | inl e ↦ fitted_below i t w f e
      ]
    ]

pub least_of : (i : Insn) → IsLeastOf i (least i)
least_of i = go (least i) (least_good i) (least_below i)
  where
    go : (o : Option (List ℕ)) → Good i o → ((t : List ℕ) → Spells t i → Below t o) → IsLeastOf i o
    go None g h = h
    go (Some s) g h = record { spells = g; least = h }

-- ---- laws

-- what is least has at most 15 bytes
pub least_short : (i : Insn) (o : Option (List ℕ)) → IsLeastOf i o → IfSome o (λ s. length s ≤ 15)
least_short i None h = tt
least_short i (Some s) h = h.spells.limit

pub decodes_again : (i : Insn) (s rest : List ℕ) → IsLeast i s → decoded (s ++ rest) ≡ Some (i, length s)
decodes_again i s rest w = decoded_of (length s) (s ++ rest) i (ap spelled (take-append-le (length s) s rest (omega arith) ∙ take_all (length s) s (omega arith)) ∙ spells_spelled s i w.spells) (omega (arith, length-append s rest))

pub one_least : (i : Insn) (s t : List ℕ) → IsLeast i s → IsLeast i t → s ≡ t
one_least i s t v w = upto_both s t (v.least t w.spells) (w.least s v.spells)
