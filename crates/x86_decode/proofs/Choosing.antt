-- The forms that may not take some operand bytes, and the one that is chosen among others.
use Rattle.std.proofs.Common.{◌≡◌, ℕ, suc, ◌+◌, ◌<◌, ◌≤◌, Bool, true, false, ◌&&◌, List, [], ◌∷◌, length, get_or, drop, refl, sym, ◌∙◌, ap, subst, arith, drop-cons, drop_of_length-le}
use Rattle.x86_insn.specs.declared.row.Form.{Form}
use Rattle.x86_insn.specs.declared.row.Marks.{Marks}
use Rattle.x86_insn.specs.Meaning.{meaning}
use Rattle.x86_insn.specs.Spelling.{takes_marks, takes_modrm, takes_operand, takes_digit, from_modrm, operand_length, operands_of}
use Rattle.x86_insn.specs.Addressing.{reg_field, names_memory}
use Rattle.x86_insn.specs.Scanning.{Scan, Found, More, Nothing, later, best, sized, scan_operands}
use Rattle.x86_decode.specs.Candidates.{Rest, scan_rest, scan_forms, may_take}
use Rattle.x86_decode.specs.Choice.{IsChoice}
use Rattle.x86_decode.specs.declared.choice.Choice.{Choice}
use Rattle.x86_decode.specs.declared.choice.Choice.TheVariants.{By, Nowhere, Open}

false_second : (a : Bool) → (a && false) ≡ false
false_second true = refl
false_second false = refl

takes_none : (f : Form) (m : Marks) (opcode : ℕ) (s : List ℕ) → may_take f s ≡ false → scan_operands f m opcode s ≡ Nothing
takes_none f m opcode [] h = absurd (cc h)
takes_none f m opcode (b ∷ s) h =
    let rest = takes_operand f.layout (names_memory (from_modrm f (b ∷ s))) in
    let all = sized (meaning f.kind (operands_of f m opcode (b ∷ s))) (operand_length f m (b ∷ s)) (length (b ∷ s)) in
    ap (λ (v : Bool). elim (takes_marks f m && v) as (λ _. Scan) [ true ↦ all | false ↦ Nothing ]) (no_modrm f m (b ∷ s) h)
    ∙ ap (λ (v : Bool). elim v as (λ _. Scan) [ true ↦ all | false ↦ Nothing ]) (false_second (takes_marks f m))
  where
    no_modrm : (f : Form) (m : Marks) (s : List ℕ) → takes_digit f.digit (reg_field (from_modrm f s)) ≡ false → takes_modrm f m s ≡ false
    no_modrm f m s h = rw h refl

-- one form less, which may not take the bytes
pub skip_step : (forms : List Form) (m : Marks) (opcode : ℕ) (s : List ℕ) (k : ℕ) (d : Form) (whole : Scan) → k < length forms → may_take (get_or forms k d) s ≡ false → whole ≡ scan_forms (drop k forms) m opcode s → whole ≡ scan_forms (drop (k + 1) forms) m opcode s
skip_step forms m opcode s k d whole h n e =
    let next : suc k ≡ k + 1 = omega arith in
    e ∙ ap (λ (fs : List Form). scan_forms fs m opcode s) (drop-cons forms k d h)
    ∙ ap (λ (x : Scan). best x (scan_forms (drop (suc k) forms) m opcode s)) (takes_none (get_or forms k d) m opcode s n)
    ∙ ap (λ (j : ℕ). scan_forms (drop j forms) m opcode s) next

pub skip_end : (forms : List Form) (m : Marks) (opcode : ℕ) (s : List ℕ) (k before : ℕ) (whole : Scan) → length forms ≤ k → whole ≡ scan_forms (drop k forms) m opcode s → later before whole ≡ Nothing
skip_end forms m opcode s k before whole h e =
    ap (later before) (e ∙ ap (λ (fs : List Form). scan_forms fs m opcode s) (drop_of_length-le forms h))

found_first : (k : ℕ) (a b : Scan) (i : _) (n : ℕ) → later k a ≡ Found i n → later k (best a b) ≡ Found i n
found_first k (Found j l) b i n e = e
found_first k (More l) b i n e = absurd (cc e)
found_first k Nothing b i n e = absurd (cc e)

-- what is chosen of a form is chosen of it and those behind it
pub chosen_first : (c : Choice) (m : Marks) (k : ℕ) (a b : Scan) → (c ≡ Nowhere → ⊥) → IsChoice c m (later k a) → IsChoice c m (later k (best a b))
chosen_first (By form opcode operands len) m k a b n h = found_first k a b _ _ h
chosen_first Nowhere m k a b n h = absurd (n refl)
chosen_first Open m k a b n h = tt

pub chosen_at : (c : Choice) (forms : List Form) (m : Marks) (opcode : ℕ) (s : List ℕ) (k before : ℕ) (d : Form) (whole : Scan) → k < length forms → whole ≡ scan_forms (drop k forms) m opcode s → (c ≡ Nowhere → ⊥) → IsChoice c m (later before (scan_operands (get_or forms k d) m opcode s)) → IsChoice c m (later before whole)
chosen_at c forms m opcode s k before d whole h e n i =
    subst (λ (x : Scan). IsChoice c m (later before x)) (sym (e ∙ ap (λ (fs : List Form). scan_forms fs m opcode s) (drop-cons forms k d h)))
    (chosen_first c m before (scan_operands (get_or forms k d) m opcode s) (scan_forms (drop (suc k) forms) m opcode s) n i)

-- a choice by bytes from their first
pub chosen_through : (c : Choice) (m : Marks) (a b : Scan) → a ≡ b → IsChoice c m b → IsChoice c m a
chosen_through c m a b e h = subst (λ (x : Scan). IsChoice c m x) (sym e) h

later_later : (a b : ℕ) (s : Scan) → later a (later b s) ≡ later (a + b) s
later_later a b (Found i n) = ap (Found i) (omega arith)
later_later a b (More n) = ap More (omega arith)
later_later a b Nothing = refl

later_none : (s : Scan) → later 0 s ≡ s
later_none (Found i n) = ap (Found i) (omega arith)
later_none (More n) = ap More (omega arith)
later_none Nothing = refl

-- a choice among the forms at an opcode, by the bytes from the opcode on, behind others
pub chosen_behind : (c : Choice) (rs : Rest) (m : Marks) (bytes s : List ℕ) (b before : ℕ) (at forms : List Form) → bytes ≡ b ∷ s → scan_rest rs m (b ∷ s) ≡ later 1 (scan_forms at m b s) → forms ≡ at → IsChoice c m (later (before + 1) (scan_forms forms m b s)) → IsChoice c m (later before (scan_rest rs m bytes))
chosen_behind c rs m bytes s b before at forms e g f h =
    chosen_through c m _ _
    (ap (λ (t : List ℕ). later before (scan_rest rs m t)) e ∙ ap (later before) g ∙ later_later before 1 (scan_forms at m b s) ∙ ap (λ (fs : List Form). later (before + 1) (scan_forms fs m b s)) (sym f))
    h

pub chosen_bare : (c : Choice) (m : Marks) (s : Scan) → IsChoice c m (later 0 s) → IsChoice c m s
chosen_bare c m s h = chosen_through c m s (later 0 s) (sym (later_none s)) h
