-- The scan of a row's operand bytes is right.
use Rattle.std.specs.Prelude.{◌≡◌, ℕ, zero, suc, ◌+◌, ◌-◌, ◌/◌, ◌%◌, ◌<◌, ◌≤◌, Bool, true, false, not, ◌&&◌, ◌||◌, List, [], ◌∷◌, ◌++◌, length, take, replicate, Option, Some, None, refl, nat_le, nat_lt, ◌==◌, if◌then◌else◌}
use Rattle.std.proofs.Common.{sym, ◌∙◌, ap, ap₂, subst, inl, inr, arith, length-take-le}
use Rattle.std.proofs.lemmas.Bool.{eqb-true, eq-eqb, leb-true, le-leb, cases_lt}
use Rattle.x86_insn.specs.declared.insn.Insn.{Insn}
use Rattle.x86_insn.specs.declared.row.Layout.{Layout}
use Rattle.x86_insn.specs.declared.row.Layout.TheVariants.{NoModrm, Any, Memory, Register}
use Rattle.x86_insn.specs.declared.row.Form.{Form}
use Rattle.x86_insn.specs.declared.row.Marks.{Marks}
use Rattle.x86_insn.specs.Addressing.{byte_at, reg_field, rm_field, base_field, base_number, names_memory, has_sib, has_base, mod_field, displacement_place, displacement_bytes, address_length}
use Rattle.x86_insn.specs.Meaning.{meaning}
use Rattle.x86_insn.specs.Spelling.{has_modrm, takes_digit, takes_operand, immediate_length, immediate_place, addressed, from_modrm, form_width, operand_length, takes_marks, asks_memory, takes_modrm, operands_of, spelled_operands}
use Rattle.x86_insn.specs.Scanning.{Scan, Found, More, Nothing, mod_of, digit_of, sized, scan_operands, Agree, IsScan}
use Rattle.x86_insn.specs.Agreeing.{chosen, both_true, and_true, true_not_false, agree_byte, agree_swap, byte_of_take, byte_of_padded, zeros_are_bytes, padded_length, are_bytes_cons}
use Rattle.x86_insn.specs.OperandBytes.{address_above, same_length, same_operands}

-- a row's digit is a reg field
abbrev pub small_digit : Option ℕ → Bool
small_digit None = true
small_digit (Some d) = nat_lt d 8

-- operand bytes of a row are a spelling
pub record Fits (r : Form) (m : Marks) (opcode : ℕ) (s : List ℕ) (i : Insn) : Type 0 where
  pub marks : takes_marks r m ≡ true
  pub modrm : takes_modrm r m s ≡ true
  pub whole : length s ≡ operand_length r m s
  pub means : meaning r.kind (operands_of r m opcode s) ≡ i

pub fits_of : (r : Form) (m : Marks) (opcode : ℕ) (s : List ℕ) (i : Insn) → spelled_operands r m opcode s ≡ Some i → Fits r m opcode s i
fits_of r m opcode s i e =
    let c = chosen _ (Some (meaning r.kind (operands_of r m opcode s))) i e in
    let w = both_true (takes_marks r m && takes_modrm r m s) _ c.0 in
    let v = both_true (takes_marks r m) _ w.0 in
    record { marks = v.0; modrm = v.1; whole = eqb-true (length s) (operand_length r m s) w.1; means = cc (c.1) }

pub spelled_of : (r : Form) (m : Marks) (opcode : ℕ) (s : List ℕ) (i : Insn) → Fits r m opcode s i → spelled_operands r m opcode s ≡ Some i
spelled_of r m opcode s i w =
    let t : (takes_marks r m && takes_modrm r m s && (length s == operand_length r m s)) ≡ true =
    and_true _ _ (and_true _ _ w.marks w.modrm) (eq-eqb (length s) (operand_length r m s) w.whole) in
    ap (λ (v : Bool). elim v as (λ _. Option Insn) [ true ↦ Some (meaning r.kind (operands_of r m opcode s)) | false ↦ None ]) t ∙ ap Some w.means

-- a front as long as the operand is one
front_fits : (r : Form) (m : Marks) (opcode : ℕ) (b : List ℕ) → takes_marks r m ≡ true → takes_modrm r m b ≡ true → operand_length r m b ≤ length b → Fits r m opcode (take (operand_length r m b) b) (meaning r.kind (operands_of r m opcode b))
front_fits r m opcode b t u l =
    let n = operand_length r m b in
    let w = same_operands r m opcode b (take n b) (λ k h. sym (byte_of_take n b k h)) in
    record { marks = t; modrm = sym w.modrm ∙ u; whole = length-take-le n b l ∙ w.length; means = ap (meaning r.kind) (sym w.operands) }

-- zeros for what is missing make one
padded_fits : (r : Form) (m : Marks) (opcode : ℕ) (b : List ℕ) → takes_marks r m ≡ true → takes_modrm r m b ≡ true → length b ≤ operand_length r m b → Fits r m opcode (b ++ replicate (operand_length r m b - length b) 0) (meaning r.kind (operands_of r m opcode b))
padded_fits r m opcode b t u l =
    let n = operand_length r m b in
    let w = same_operands r m opcode b (b ++ replicate (n - length b) 0) (λ k h. sym (byte_of_padded b (n - length b) k)) in
    record { marks = t; modrm = sym w.modrm ∙ u; whole = padded_length b n l ∙ w.length; means = ap (meaning r.kind) (sym w.operands) }

-- the length of what fits and agrees, where it isn't longer
same_size : (r : Form) (m : Marks) (opcode : ℕ) (s b : List ℕ) (j : Insn) → Fits r m opcode s j → Agree s b → length s ≤ length b → length s ≡ operand_length r m b
same_size r m opcode s b j w a l =
    let e = same_operands r m opcode s b (λ k h. agree_byte s b k a (omega (arith, w.whole)) (omega (arith, w.whole))) in
    w.whole ∙ e.length

found_size : (r : Form) (m : Marks) (opcode : ℕ) (s b : List ℕ) (j : Insn) → Fits r m opcode s j → Agree s b → operand_length r m b ≤ length b → length s ≡ operand_length r m b
found_size r m opcode s b j w a l =
    elim (cases_lt (length b) (length s)) [
      | inl h ↦
          let e = same_operands r m opcode b s (λ k p. agree_byte b s k (agree_swap s b a) (omega arith) (omega arith)) in
          absurd (omega (arith, w.whole, e.length))
      | inr h ↦ same_size r m opcode s b j w a h
    ]

-- a SIB byte that is missing counts least
least_displaced : (k : ℕ) (v : Bool) → displacement_bytes k true ≤ displacement_bytes k v
least_displaced zero true = omega arith
least_displaced zero false = omega arith
least_displaced (suc zero) v = omega arith
least_displaced (suc (suc zero)) v = omega arith
least_displaced (suc (suc (suc k))) v = omega arith

and_false : (b : Bool) → (b && false) ≡ false
and_false true = refl
and_false false = refl

-- by ModRM alone: the bytes of an address whose SIB, if there is one, is missing
lone_modrm : (x : ℕ) (s : List ℕ) → byte_at s 0 ≡ x → address_length (x ∷ []) ≤ address_length s
lone_modrm x s e =
    let place : displacement_place s ≡ displacement_place (x ∷ []) = ap (λ (b : ℕ). if not (b / 64 == 3) && (b % 8 == 4) then 2 else 1) e in
    let bytes : displacement_bytes (mod_field (x ∷ [])) (has_base (x ∷ [])) ≤ displacement_bytes (mod_field s) (has_base s) = by_sib (has_sib (x ∷ [])) refl in
    omega (arith, place, bytes)
  where
    modes : mod_field s ≡ mod_field (x ∷ [])
    modes = ap (λ (b : ℕ). b / 64) e

    sibs : has_sib s ≡ has_sib (x ∷ [])
    sibs = ap (λ (b : ℕ). not (b / 64 == 3) && (b % 8 == 4)) e

    by_sib : (v : Bool) → has_sib (x ∷ []) ≡ v → displacement_bytes (mod_field (x ∷ [])) (has_base (x ∷ [])) ≤ displacement_bytes (mod_field s) (has_base s)
    by_sib true h =
        let number : base_number (x ∷ []) ≡ 0 = ap (λ (v : Bool). if v then base_field (x ∷ []) else rm_field (x ∷ [])) h in
        let base : has_base (x ∷ []) ≡ true = ap (λ (n : ℕ). not ((mod_field (x ∷ []) == 0) && (n == 5))) number ∙ ap not (and_false (mod_field (x ∷ []) == 0)) in
        let low = least_displaced (mod_field s) (has_base s) in
        let same : displacement_bytes (mod_field (x ∷ [])) (has_base (x ∷ [])) ≡ displacement_bytes (mod_field s) true = ap₂ displacement_bytes (sym modes) base in
        omega (arith, low, same)
    by_sib false h =
        let here : base_number (x ∷ []) ≡ rm_field (x ∷ []) = ap (λ (v : Bool). if v then base_field (x ∷ []) else rm_field (x ∷ [])) h in
        let there : base_number s ≡ rm_field s = ap (λ (v : Bool). if v then base_field s else rm_field s) (sibs ∙ h) in
        let number : base_number s ≡ base_number (x ∷ []) = there ∙ ap (λ (b : ℕ). b % 8) e ∙ sym here in
        let base : has_base s ≡ has_base (x ∷ []) = ap₂ (λ (m n : ℕ). not ((m == 0) && (n == 5))) modes number in
        let same : displacement_bytes (mod_field (x ∷ [])) (has_base (x ∷ [])) ≡ displacement_bytes (mod_field s) (has_base s) = ap₂ displacement_bytes (sym modes) (sym base) in
        omega (arith, same)

address_grows : (x : ℕ) (b s : List ℕ) → Agree s (x ∷ b) → length (x ∷ b) < length s → address_length (x ∷ b) ≤ address_length s
address_grows x [] s a l = lone_modrm x s (agree_byte s (x ∷ []) 0 a (omega arith) (omega arith))
address_grows x (y ∷ b) s a l =
    let e = same_length s (x ∷ y ∷ b) (agree_byte s (x ∷ y ∷ b) 0 a (omega arith) (omega arith)) (agree_byte s (x ∷ y ∷ b) 1 a (omega arith) (omega arith)) in
    omega (arith, e)

place_by : (v : Bool) (s t : List ℕ) → (v ≡ true → address_length s ≤ address_length t) → immediate_place v s ≤ immediate_place v t
place_by true s t h = h refl
place_by false s t h = omega arith

operand_grows : (r : Form) (m : Marks) (x : ℕ) (b s : List ℕ) → Agree s (x ∷ b) → length (x ∷ b) < length s → operand_length r m (x ∷ b) ≤ operand_length r m s
operand_grows r m x b s a l = let p = place_by (has_modrm r.layout) (x ∷ b) s (λ _. address_grows x b s a l) in omega (arith, p)

more_size : (r : Form) (m : Marks) (opcode : ℕ) (s : List ℕ) (x : ℕ) (b : List ℕ) (j : Insn) → Fits r m opcode s j → Agree s (x ∷ b) → operand_length r m (x ∷ b) ≤ length s
more_size r m opcode s x b j w a =
    elim (cases_lt (length (x ∷ b)) (length s)) [
      | inl h ↦ let g = operand_grows r m x b s a h in omega (arith, g, w.whole)
      | inr h ↦ let e = same_size r m opcode s (x ∷ b) j w a h in omega (arith, e)
    ]

takes_by : (r : Form) (m : Marks) (a b : ℕ) (v w : Bool) → a ≡ b → v ≡ w → (takes_digit r.digit a && takes_operand r.layout v && (not (asks_memory m) || v)) ≡ (takes_digit r.digit b && takes_operand r.layout w && (not (asks_memory m) || w))
takes_by r m a b v w e f = ap₂ (λ (x : ℕ) (y : Bool). takes_digit r.digit x && takes_operand r.layout y && (not (asks_memory m) || y)) e f

-- what ModRM says is the first byte's
takes_first : (r : Form) (m : Marks) (x : ℕ) (b : List ℕ) (s : List ℕ) → Agree s (x ∷ b) → length s ≡ operand_length r m s → takes_modrm r m s ≡ takes_modrm r m (x ∷ b)
takes_first r m x b s a l = by_layout (has_modrm r.layout) refl
  where
    by_layout : (v : Bool) → has_modrm r.layout ≡ v → takes_modrm r m s ≡ takes_modrm r m (x ∷ b)
    by_layout true e =
        let len : operand_length r m s ≡ address_length s + immediate_length r.immediate (form_width r m) = ap (λ (v : Bool). immediate_place v s + immediate_length r.immediate (form_width r m)) e in
        let first : byte_at s 0 ≡ x = agree_byte s (x ∷ b) 0 a (omega (arith, l, len, address_above s)) (omega arith) in
        let fs : from_modrm r s ≡ s = ap (λ (v : Bool). addressed v s) e in
        let fb : from_modrm r (x ∷ b) ≡ x ∷ b = ap (λ (v : Bool). addressed v (x ∷ b)) e in
        let reg : reg_field (from_modrm r s) ≡ reg_field (from_modrm r (x ∷ b)) = ap reg_field fs ∙ ap (λ (y : ℕ). y / 8 % 8) first ∙ ap reg_field (sym fb) in
        let names : names_memory (from_modrm r s) ≡ names_memory (from_modrm r (x ∷ b)) = ap names_memory fs ∙ ap (λ (y : ℕ). not (y / 64 == 3)) first ∙ ap names_memory (sym fb) in
        takes_by r m _ _ _ _ reg names
    by_layout false e =
        let f : from_modrm r s ≡ from_modrm r (x ∷ b) = ap (λ (v : Bool). addressed v s) e ∙ ap (λ (v : Bool). addressed v (x ∷ b)) (sym e) in
        takes_by r m _ _ _ _ (ap reg_field f) (ap names_memory f)

-- the byte that stands for a ModRM byte that is missing
abbrev seed : Layout → Option ℕ → List ℕ
seed l d = (mod_of l + digit_of d) ∷ []

digit_small : (d : Option ℕ) → small_digit d ≡ true → digit_of d ≤ 56
digit_small None h = omega arith
digit_small (Some d) h = let l = leb-true (suc d) 8 h in omega (arith, l)

seed_is_byte : (l : Layout) (d : Option ℕ) → small_digit d ≡ true → mod_of l + digit_of d < 256
seed_is_byte NoModrm d h = omega (arith, digit_small d h)
seed_is_byte Any d h = omega (arith, digit_small d h)
seed_is_byte Memory d h = omega (arith, digit_small d h)
seed_is_byte Register d h = omega (arith, digit_small d h)

low_digit : (d : Option ℕ) → digit_of d % 8 ≡ 0
low_digit None = refl
low_digit (Some d) = omega arith

seed_digit : (l : Layout) (d : Option ℕ) → small_digit d ≡ true → takes_digit d (reg_field (seed l d)) ≡ true
seed_digit l None h = refl
seed_digit l (Some d) h = eq-eqb (reg_field (seed l (Some d))) d (by_layout l)
  where
    by_layout : (k : Layout) → reg_field (seed k (Some d)) ≡ d
    by_layout NoModrm = let b = leb-true (suc d) 8 h in omega (arith, b)
    by_layout Any = let b = leb-true (suc d) 8 h in omega (arith, b)
    by_layout Memory = let b = leb-true (suc d) 8 h in omega (arith, b)
    by_layout Register = let b = leb-true (suc d) 8 h in omega (arith, b)

seed_memory : (d : Option ℕ) → small_digit d ≡ true → mod_field (seed Any d) ≡ 0
seed_memory d h = omega (arith, digit_small d h)

seed_register : (d : Option ℕ) → small_digit d ≡ true → mod_field (seed Register d) ≡ 3
seed_register d h = omega (arith, digit_small d h)

seed_rm : (l : Layout) (d : Option ℕ) → rm_field (seed l d) ≡ 0
seed_rm NoModrm d = omega (arith, low_digit d)
seed_rm Any d = omega (arith, low_digit d)
seed_rm Memory d = omega (arith, low_digit d)
seed_rm Register d = omega (arith, low_digit d)

-- one byte, by its mod and rm fields
abbrev lone_length : ℕ → ℕ → ℕ
lone_length m n = (if not (m == 3) && (n == 4) then 2 else 1) + displacement_bytes m (not ((m == 0) && ((if not (m == 3) && (n == 4) then 0 else n) == 5)))

seed_length : (l : Layout) (d : Option ℕ) → small_digit d ≡ true → address_length (seed l d) ≡ 1
seed_length NoModrm d h = ap₂ lone_length (seed_memory d h) (seed_rm NoModrm d)
seed_length Any d h = ap₂ lone_length (seed_memory d h) (seed_rm Any d)
seed_length Memory d h = ap₂ lone_length (seed_memory d h) (seed_rm Memory d)
seed_length Register d h = ap₂ lone_length (seed_register d h) (seed_rm Register d)

or_true : (b : Bool) → (b || true) ≡ true
or_true true = refl
or_true false = refl

-- it names what the row asks for
seed_operand : (l : Layout) (d : Option ℕ) (lock v : Bool) → small_digit d ≡ true → takes_operand l v ≡ true → (not lock || v) ≡ true → (takes_operand l (names_memory (seed l d)) ≡ true) × ((not lock || names_memory (seed l d)) ≡ true)
seed_operand NoModrm d lock v h p q = (refl, ap (λ (k : ℕ). not lock || not (k == 3)) (seed_memory d h) ∙ or_true (not lock))
seed_operand Any d lock v h p q = (refl, ap (λ (k : ℕ). not lock || not (k == 3)) (seed_memory d h) ∙ or_true (not lock))
seed_operand Memory d lock v h p q = (ap (λ (k : ℕ). not (k == 3)) (seed_memory d h), ap (λ (k : ℕ). not lock || not (k == 3)) (seed_memory d h) ∙ or_true (not lock))
seed_operand Register d lock true h p q = absurd (cc p)
seed_operand Register d lock false h p q = (ap (λ (k : ℕ). not (not (k == 3))) (seed_register d h), ap (λ (k : ℕ). not lock || not (k == 3)) (seed_register d h) ∙ q)

-- of a row with ModRM: what it takes with some operand bytes it takes with the seed, which asks for no more
seed_takes : (r : Form) (m : Marks) (s : List ℕ) → has_modrm r.layout ≡ true → small_digit r.digit ≡ true → takes_modrm r m s ≡ true → takes_modrm r m (seed r.layout r.digit) ≡ true
seed_takes r m s e h t =
    let f : from_modrm r (seed r.layout r.digit) ≡ seed r.layout r.digit = ap (λ (v : Bool). addressed v (seed r.layout r.digit)) e in
    let w = both_true (takes_digit r.digit (reg_field (from_modrm r s)) && takes_operand r.layout (names_memory (from_modrm r s))) _ t in
    let v = both_true (takes_digit r.digit (reg_field (from_modrm r s))) _ w.0 in
    let o = seed_operand r.layout r.digit (asks_memory m) (names_memory (from_modrm r s)) h v.1 w.1 in
    let here = and_true _ _ (and_true _ _ (seed_digit r.layout r.digit h) o.0) o.1 in
    takes_by r m _ _ _ _ (ap reg_field f) (ap names_memory f) ∙ here

length_with : (r : Form) (m : Marks) (s : List ℕ) → has_modrm r.layout ≡ true → operand_length r m s ≡ address_length s + immediate_length r.immediate (form_width r m)
length_with r m s e = ap (λ (v : Bool). immediate_place v s + immediate_length r.immediate (form_width r m)) e

length_without : (r : Form) (m : Marks) (s : List ℕ) → has_modrm r.layout ≡ false → operand_length r m s ≡ immediate_length r.immediate (form_width r m)
length_without r m s e = ap (λ (v : Bool). immediate_place v s + immediate_length r.immediate (form_width r m)) e ∙ omega arith

takes_without : (r : Form) (m : Marks) (s t : List ℕ) → has_modrm r.layout ≡ false → takes_modrm r m s ≡ takes_modrm r m t
takes_without r m s t e =
    let f : from_modrm r s ≡ from_modrm r t = ap (λ (v : Bool). addressed v s) e ∙ ap (λ (v : Bool). addressed v t) (sym e) in
    takes_by r m _ _ _ _ (ap reg_field f) (ap names_memory f)

-- bytes that take the marks and the ModRM byte, by their length
abbrev sized_scan : Form → Marks → ℕ → List ℕ → ℕ → Scan
sized_scan r m opcode b n = sized (meaning r.kind (operands_of r m opcode b)) n (length b)

sized_right : (r : Form) (m : Marks) (opcode : ℕ) (b : List ℕ) → takes_marks r m ≡ true → takes_modrm r m b ≡ true → ((s : List ℕ) (j : Insn) → Fits r m opcode s j → Agree s b → operand_length r m b ≤ length s) → IsScan (spelled_operands r m opcode) b (sized_scan r m opcode b (operand_length r m b))
sized_right r m opcode b t u low = by_size (nat_le (operand_length r m b) (length b)) refl
  where
    by_size : (v : Bool) → nat_le (operand_length r m b) (length b) ≡ v → IsScan (spelled_operands r m opcode) b (elim v [ true ↦ Found (meaning r.kind (operands_of r m opcode b)) (operand_length r m b) | false ↦ More (operand_length r m b) ])
    by_size true e =
        let l : operand_length r m b ≤ length b = leb-true _ _ e in
        (l, spelled_of r m opcode _ _ (front_fits r m opcode b t u l), λ s j p a. found_size r m opcode s b j (fits_of r m opcode s j p) a l)
    by_size false e =
        let l : length b < operand_length r m b = elim (cases_lt (length b) (operand_length r m b)) [ inl h ↦ h | inr h ↦ absurd (true_not_false (sym (le-leb _ _ h) ∙ e)) ] in
        let n = operand_length r m b in
        (l, (replicate (n - length b) 0, padded_length b n (omega arith), zeros_are_bytes (n - length b), (_, spelled_of r m opcode _ _ (padded_fits r m opcode b t u (omega arith)))), λ s j p a. low s j (fits_of r m opcode s j p) a)

-- no byte is there, of a row with ModRM and of one without
seed_only : (r : Form) (m : Marks) (opcode : ℕ) → has_modrm r.layout ≡ true → small_digit r.digit ≡ true → takes_marks r m ≡ true → takes_modrm r m (seed r.layout r.digit) ≡ true → IsScan (spelled_operands r m opcode) [] (sized_scan r m opcode [] (operand_length r m (seed r.layout r.digit)))
seed_only r m opcode e h t u =
    by_size (nat_le (operand_length r m (seed r.layout r.digit)) 0) refl
  where
    by_size : (v : Bool) → nat_le (operand_length r m (seed r.layout r.digit)) 0 ≡ v → IsScan (spelled_operands r m opcode) [] (elim v [ true ↦ Found (meaning r.kind (operands_of r m opcode [])) (operand_length r m (seed r.layout r.digit)) | false ↦ More (operand_length r m (seed r.layout r.digit)) ])
    by_size true b =
        let l = leb-true _ _ b in
        let len = length_with r m (seed r.layout r.digit) e in
        absurd (omega (arith, l, len, seed_length r.layout r.digit h))
    by_size false b =
        let w = seed r.layout r.digit in
        let n = operand_length r m w in
        let len = length_with r m w e in
        let one = seed_length r.layout r.digit h in
        let p : length w ≤ n = omega (arith, len, one) in (
          omega arith,
          (w ++ replicate (n - length w) 0, padded_length w n p, are_bytes_cons (mod_of r.layout + digit_of r.digit) (replicate (n - length w) 0) (seed_is_byte r.layout r.digit h) (zeros_are_bytes (n - length w)), (meaning r.kind (operands_of r m opcode w), spelled_of r m opcode (w ++ replicate (n - length w) 0) (meaning r.kind (operands_of r m opcode w)) (padded_fits r m opcode w t u p))),
          λ s j q a.
              let f = fits_of r m opcode s j q in
              omega (arith, len, one, f.whole, length_with r m s e, address_above s),
        )

no_bytes : (r : Form) (m : Marks) (opcode : ℕ) → small_digit r.digit ≡ true → IsScan (spelled_operands r m opcode) [] (scan_operands r m opcode [])
no_bytes r m opcode h = by_marks (takes_marks r m && takes_modrm r m (seed r.layout r.digit)) refl
  where
    by_layout : (v : Bool) → has_modrm r.layout ≡ v → takes_marks r m ≡ true → takes_modrm r m (seed r.layout r.digit) ≡ true → IsScan (spelled_operands r m opcode) [] (sized_scan r m opcode [] (operand_length r m (seed r.layout r.digit)))
    by_layout true e t u = seed_only r m opcode e h t u
    by_layout false e t u =
        let len : operand_length r m [] ≡ operand_length r m (seed r.layout r.digit) = length_without r m [] e ∙ sym (length_without r m (seed r.layout r.digit) e) in
        let here = sized_right r m opcode [] t (takes_without r m [] (seed r.layout r.digit) e ∙ u) (λ s j f a. omega (arith, f.whole, length_without r m s e, length_without r m [] e)) in
        subst (λ (n : ℕ). IsScan (spelled_operands r m opcode) [] (sized_scan r m opcode [] n)) len here

    seeds : (v : Bool) (s : List ℕ) → has_modrm r.layout ≡ v → takes_modrm r m s ≡ true → takes_modrm r m (seed r.layout r.digit) ≡ true
    seeds true s e t = seed_takes r m s e h t
    seeds false s e t = takes_without r m (seed r.layout r.digit) s e ∙ t

    by_marks : (v : Bool) → (takes_marks r m && takes_modrm r m (seed r.layout r.digit)) ≡ v → IsScan (spelled_operands r m opcode) [] (elim v [ true ↦ sized_scan r m opcode [] (operand_length r m (seed r.layout r.digit)) | false ↦ Nothing ])
    by_marks true e = let w = both_true (takes_marks r m) _ e in by_layout (has_modrm r.layout) refl w.0 w.1
    by_marks false e = λ s j p a.
        let f = fits_of r m opcode s j p in
        true_not_false (sym (and_true _ _ f.marks (seeds (has_modrm r.layout) s refl f.modrm)) ∙ e)

pub operands_scan : (r : Form) (m : Marks) (opcode : ℕ) → small_digit r.digit ≡ true → (b : List ℕ) → IsScan (spelled_operands r m opcode) b (scan_operands r m opcode b)
operands_scan r m opcode h (x ∷ b) = by_marks (takes_marks r m && takes_modrm r m (x ∷ b)) refl
  where
    by_marks : (v : Bool) → (takes_marks r m && takes_modrm r m (x ∷ b)) ≡ v → IsScan (spelled_operands r m opcode) (x ∷ b) (elim v [ true ↦ sized_scan r m opcode (x ∷ b) (operand_length r m (x ∷ b)) | false ↦ Nothing ])
    by_marks true e = let w = both_true (takes_marks r m) _ e in sized_right r m opcode (x ∷ b) w.0 w.1 (λ s j p a. more_size r m opcode s x b j p a)
    by_marks false e = λ s j p a.
        let w = fits_of r m opcode s j p in
        true_not_false (sym (and_true _ _ w.marks (sym (takes_first r m x b s a w.whole) ∙ w.modrm)) ∙ e)
operands_scan r m opcode h [] = no_bytes r m opcode h
