-- What operand bytes name depends on the bytes that they have alone, and a byte that is missing counts as 0.
use Rattle.std.specs.Prelude.{◌≡◌, ℕ, zero, suc, ◌+◌, ◌*◌, ◌/◌, ◌%◌, ◌^◌, ◌<◌, ◌≤◌, Bool, true, false, not, ◌&&◌, ◌||◌, ◌⊎◌, List, [], Option, Some, None, refl, ◌==◌, if◌then◌else◌}
use Rattle.std.proofs.Common.{sym, ◌∙◌, ap, ap₂, inl, inr, arith}
use Rattle.x86_insn.specs.declared.insn.Reg.{Reg}
use Rattle.x86_insn.specs.declared.insn.Mem.{Mem}
use Rattle.x86_insn.specs.declared.insn.Rm.{Rm}
use Rattle.x86_insn.specs.declared.insn.Rm.TheVariants.{R, M}
use Rattle.x86_insn.specs.declared.insn.Width.{Width}
use Rattle.x86_insn.specs.declared.insn.Width.TheVariants.{B, W, D}
use Rattle.x86_insn.specs.declared.row.Immediate.{Immediate}
use Rattle.x86_insn.specs.declared.row.Immediate.TheVariants.{Absent, Ib, SignedIb, Iw, Id, Iz}
use Rattle.x86_insn.specs.declared.row.Form.{Form}
use Rattle.x86_insn.specs.declared.row.Marks.{Marks}
use Rattle.x86_insn.specs.declared.row.Operands.{Operands}
use Rattle.x86_insn.specs.Addressing.{byte_at, dword_at, sign_extended, reg_of, mod_field, reg_field, rm_field, base_field, names_memory, has_sib, base_number, has_base, displacement_place, displacement_bytes, displacement_of, displacement_length, address_length, factor_of, memory_of, rm_of, with_gs}
use Rattle.x86_insn.specs.Spelling.{has_modrm, takes_digit, takes_operand, immediate_length, signed_byte, half_number, immediate_of, immediate_place, addressed, from_modrm, form_width, operand_length, asks_memory, takes_modrm, operands_of}

-- the same bytes stand in both below a place
abbrev pub Same : ℕ → List ℕ → List ℕ → Type 0
Same n s t = (k : ℕ) → k < n → byte_at s k ≡ byte_at t k

half_same : (s t : List ℕ) (k : ℕ) → Same (k + 2) s t → half_number s k ≡ half_number t k
half_same s t k h = ap₂ (λ (a b : ℕ). a + 2 ^ 8 * b) (h k (omega arith)) (h (k + 1) (omega arith))

dword_same : (s t : List ℕ) (k : ℕ) → Same (k + 4) s t → dword_at s k ≡ dword_at t k
dword_same s t k h = rw (h k (omega arith), h (k + 1) (omega arith), h (k + 2) (omega arith), h (k + 3) (omega arith)) refl

immediate_same : (i : Immediate) (w : Width) (s t : List ℕ) (k : ℕ) → Same (k + immediate_length i w) s t → immediate_of i w s k ≡ immediate_of i w t k
immediate_same Absent w s t k h = refl
immediate_same Ib w s t k h = h k (omega arith)
immediate_same SignedIb w s t k h = ap (signed_byte w) (h k (omega arith))
immediate_same Iw w s t k h = half_same s t k h
immediate_same Id w s t k h = dword_same s t k h
immediate_same Iz W s t k h = half_same s t k h
immediate_same Iz B s t k h = dword_same s t k h
immediate_same Iz D s t k h = dword_same s t k h

-- what ModRM alone says
record SameModrm (s t : List ℕ) : Type 0 where
  byte : byte_at s 0 ≡ byte_at t 0
  names : names_memory s ≡ names_memory t
  sib : has_sib s ≡ has_sib t
  place : displacement_place s ≡ displacement_place t

same_modrm : (s t : List ℕ) → byte_at s 0 ≡ byte_at t 0 → SameModrm s t
same_modrm s t e =
    let sib : has_sib s ≡ has_sib t = ap (λ (b : ℕ). not (b / 64 == 3) && (b % 8 == 4)) e in
    record {
      byte = e;
      names = ap (λ (b : ℕ). not (b / 64 == 3)) e;
      sib = sib;
      place = ap (λ (v : Bool). if v then 2 else 1) sib;
    }

place_above : (s : List ℕ) → 1 ≤ displacement_place s
place_above s = go (has_sib s)
  where
    go : (v : Bool) → 1 ≤ (if v then 2 else 1)
    go true = omega arith
    go false = omega arith

pub address_above : (s : List ℕ) → 1 ≤ address_length s
address_above s = omega (arith, place_above s)

-- the base register's number, the index and what is displaced, where SIB is the same or there is none
record SameAddress (s t : List ℕ) : Type 0 where
  base : base_number s ≡ base_number t
  index : (memory_of s).index ≡ (memory_of t).index

abbrev index_by : Bool → ℕ → Option (Reg × ℕ)
index_by v b = if v && not (b / 8 % 8 == 4) then Some (reg_of (b / 8 % 8), factor_of (b / 64)) else None

same_address : (s t : List ℕ) → SameModrm s t → (has_sib s ≡ true → byte_at s 1 ≡ byte_at t 1) → SameAddress s t
same_address s t m h = go (has_sib s) refl
  where
    go : (v : Bool) → has_sib s ≡ v → SameAddress s t
    go true e =
        let f : has_sib t ≡ true = sym m.sib ∙ e in
        let b = h e in
        record {
          base = ap (λ (v : Bool). if v then base_field s else rm_field s) e ∙ ap (λ (x : ℕ). x % 8) b ∙ ap (λ (v : Bool). if v then base_field t else rm_field t) (sym f);
          index = ap (λ (v : Bool). index_by v (byte_at s 1)) e ∙ ap (index_by true) b ∙ ap (λ (v : Bool). index_by v (byte_at t 1)) (sym f);
        }
    go false e =
        let f : has_sib t ≡ false = sym m.sib ∙ e in
        record {
          base = ap (λ (v : Bool). if v then base_field s else rm_field s) e ∙ ap (λ (x : ℕ). x % 8) m.byte ∙ ap (λ (v : Bool). if v then base_field t else rm_field t) (sym f);
          index = ap (λ (v : Bool). index_by v (byte_at s 1)) e ∙ ap (λ (v : Bool). index_by v (byte_at t 1)) (sym f);
        }

same_has_base : (s t : List ℕ) → SameModrm s t → SameAddress s t → has_base s ≡ has_base t
same_has_base s t m a = ap₂ (λ (x n : ℕ). not ((x / 64 == 0) && (n == 5))) m.byte a.base

same_displaced : (s t : List ℕ) → SameModrm s t → SameAddress s t → displacement_length s ≡ displacement_length t
same_displaced s t m a = ap₂ (λ (x : ℕ) (v : Bool). displacement_bytes (x / 64) v) m.byte (same_has_base s t m a)

pub same_length : (s t : List ℕ) → byte_at s 0 ≡ byte_at t 0 → byte_at s 1 ≡ byte_at t 1 → address_length s ≡ address_length t
same_length s t e f = let m = same_modrm s t e in let a = same_address s t m (λ _. f) in ap₂ (λ (x y : ℕ). x + y) m.place (same_displaced s t m a)

displacement_cases : (k : ℕ) (v : Bool) → (displacement_bytes k v ≡ 0) ⊎ (displacement_bytes k v ≡ 1) ⊎ (displacement_bytes k v ≡ 4)
displacement_cases zero true = inl refl
displacement_cases zero false = inr (inr refl)
displacement_cases (suc zero) v = inr (inl refl)
displacement_cases (suc (suc zero)) v = inr (inr refl)
displacement_cases (suc (suc (suc k))) v = inl refl

displacement_same : (s t : List ℕ) (n p : ℕ) → (n ≡ 0) ⊎ (n ≡ 1) ⊎ (n ≡ 4) → displacement_place s ≡ p → displacement_place t ≡ p → Same (p + n) s t → displacement_of s n ≡ displacement_of t n
displacement_same s t n p three e f h =
    elim three [
      | inl z ↦ ap (displacement_of s) z ∙ ap (displacement_of t) (sym z)
      | inr more ↦ elim more [
        | inl z ↦
            let b : byte_at s (displacement_place s) ≡ byte_at t (displacement_place t) = ap (byte_at s) e ∙ h p (omega arith) ∙ ap (byte_at t) (sym f) in
            ap (displacement_of s) z ∙ ap (sign_extended 32) b ∙ ap (displacement_of t) (sym z)
        | inr z ↦
            let d : dword_at s (displacement_place s) ≡ dword_at t (displacement_place t) = ap (dword_at s) e ∙ dword_same s t p (λ k l. h k (omega arith)) ∙ ap (dword_at t) (sym f) in
            ap (displacement_of s) z ∙ d ∙ ap (displacement_of t) (sym z)
      ]
    ]

mem_same : (b b' : Option Reg) (x x' : Option (Reg × ℕ)) (d d' : ℕ) → b ≡ b' → x ≡ x' → d ≡ d' → ◌≡◌ {A = Mem} (record { base = b; index = x; disp = d; gs = false }) (record { base = b'; index = x'; disp = d'; gs = false })
mem_same b b' x x' d d' p q e = cc

-- the bytes of an address say all
pub record SameOperand (s t : List ℕ) : Type 0 where
  pub length : address_length s ≡ address_length t
  pub reg : reg_field s ≡ reg_field t
  pub names : names_memory s ≡ names_memory t
  pub rm : rm_of s ≡ rm_of t

sib_within : (s : List ℕ) → has_sib s ≡ true → 1 < address_length s
sib_within s e = let p : displacement_place s ≡ 2 = ap (λ (v : Bool). if v then 2 else 1) e in omega arith

pub same_operand : (s t : List ℕ) → Same (address_length s) s t → SameOperand s t
same_operand s t h =
    let m = same_modrm s t (h 0 (omega (arith, address_above s))) in
    let a = same_address s t m (λ e. h 1 (sib_within s e)) in
    let len = same_displaced s t m a in
    let disp : displacement_of s (displacement_length s) ≡ displacement_of t (displacement_length t) =
    displacement_same s t (displacement_length s) (displacement_place s) (displacement_cases (mod_field s) (has_base s)) refl (sym m.place) h ∙ ap (displacement_of t) len in
    let base : (memory_of s).base ≡ (memory_of t).base = ap₂ (λ (v : Bool) (n : ℕ). if v then Some (reg_of n) else None) (same_has_base s t m a) a.base in
    let mem : memory_of s ≡ memory_of t = mem_same _ _ _ _ _ _ base a.index disp in
    record {
      length = ap₂ (λ (x y : ℕ). x + y) m.place len;
      reg = ap (λ (x : ℕ). x / 8 % 8) m.byte;
      names = m.names;
      rm = ap₂ (λ (v : Bool) (e : Mem). if v then M e else R (reg_of (rm_field s))) m.names mem ∙ ap (λ (x : ℕ). if names_memory t then M (memory_of t) else R (reg_of (x % 8))) m.byte;
    }

-- with the immediate, of a row
pub record SameOperands (r : Form) (m : Marks) (opcode : ℕ) (s t : List ℕ) : Type 0 where
  pub length : operand_length r m s ≡ operand_length r m t
  pub modrm : takes_modrm r m s ≡ takes_modrm r m t
  pub operands : operands_of r m opcode s ≡ operands_of r m opcode t

abbrev takes_by : Form → Marks → ℕ → Bool → Bool
takes_by r m n v = takes_digit r.digit n && takes_operand r.layout v && (not (asks_memory m) || v)

immediate_at : (r : Form) (m : Marks) (s t : List ℕ) (p : ℕ) → Same (p + immediate_length r.immediate (form_width r m)) s t → immediate_of r.immediate (form_width r m) s p ≡ immediate_of r.immediate (form_width r m) t p
immediate_at r m s t p h = immediate_same r.immediate (form_width r m) s t p h

operands_same : (w : Width) (m : Marks) (o : ℕ) (g g' : Reg) (x x' : Rm) (i i' : ℕ) → g ≡ g' → x ≡ x' → i ≡ i' → ◌≡◌ {A = Operands} (record { width = w; marks = m; opcode = o; reg = g; rm = x; immediate = i }) (record { width = w; marks = m; opcode = o; reg = g'; rm = x'; immediate = i' })
operands_same w m o g g' x x' i i' p q e = cc

pub same_operands : (r : Form) (m : Marks) (opcode : ℕ) (s t : List ℕ) → Same (operand_length r m s) s t → SameOperands r m opcode s t
same_operands r m opcode s t h = go (has_modrm r.layout) refl
  where
    made : reg_field (from_modrm r s) ≡ reg_field (from_modrm r t) → names_memory (from_modrm r s) ≡ names_memory (from_modrm r t) → rm_of (from_modrm r s) ≡ rm_of (from_modrm r t) → immediate_place (has_modrm r.layout) s ≡ immediate_place (has_modrm r.layout) t → SameOperands r m opcode s t
    made reg names rm place =
        let imm : (operands_of r m opcode s).immediate ≡ (operands_of r m opcode t).immediate =
        immediate_at r m s t (immediate_place (has_modrm r.layout) s) h ∙ ap (immediate_of r.immediate (form_width r m) t) place in
        let regs : reg_of (reg_field (from_modrm r s)) ≡ reg_of (reg_field (from_modrm r t)) = ap reg_of reg in
        let rms = ap (with_gs m.gs) rm in
        record {
          length = ap (λ (k : ℕ). k + immediate_length r.immediate (form_width r m)) place;
          modrm = ap₂ (takes_by r m) reg names;
          operands = operands_same _ _ _ _ _ _ _ _ _ regs rms imm;
        }

    go : (v : Bool) → has_modrm r.layout ≡ v → SameOperands r m opcode s t
    go true e =
        let len : operand_length r m s ≡ address_length s + immediate_length r.immediate (form_width r m) = ap (λ (v : Bool). immediate_place v s + immediate_length r.immediate (form_width r m)) e in
        let o = same_operand s t (λ k l. h k (omega (arith, len))) in
        let fs : from_modrm r s ≡ s = ap (λ (v : Bool). addressed v s) e in
        let ft : from_modrm r t ≡ t = ap (λ (v : Bool). addressed v t) e in
        let ps : immediate_place (has_modrm r.layout) s ≡ address_length s = ap (λ (v : Bool). immediate_place v s) e in
        let pt : immediate_place (has_modrm r.layout) t ≡ address_length t = ap (λ (v : Bool). immediate_place v t) e in
        let reg : reg_field (from_modrm r s) ≡ reg_field (from_modrm r t) = ap reg_field fs ∙ o.reg ∙ ap reg_field (sym ft) in
        let names : names_memory (from_modrm r s) ≡ names_memory (from_modrm r t) = ap names_memory fs ∙ o.names ∙ ap names_memory (sym ft) in
        let rm : rm_of (from_modrm r s) ≡ rm_of (from_modrm r t) = ap rm_of fs ∙ o.rm ∙ ap rm_of (sym ft) in
        let place : immediate_place (has_modrm r.layout) s ≡ immediate_place (has_modrm r.layout) t = ps ∙ o.length ∙ sym pt in
        made reg names rm place
    go false e =
        let fs : from_modrm r s ≡ [] = ap (λ (v : Bool). addressed v s) e in
        let ft : from_modrm r t ≡ [] = ap (λ (v : Bool). addressed v t) e in
        let ps : immediate_place (has_modrm r.layout) s ≡ 0 = ap (λ (v : Bool). immediate_place v s) e in
        let pt : immediate_place (has_modrm r.layout) t ≡ 0 = ap (λ (v : Bool). immediate_place v t) e in
        made (ap reg_field (fs ∙ sym ft)) (ap names_memory (fs ∙ sym ft)) (ap rm_of (fs ∙ sym ft)) (ps ∙ sym pt)
