-- No bytes that name an operand are less than those that the encoder gives it.
use Rattle.std.proofs.Common.{◌≡◌, ℕ, zero, suc, ◌+◌, ◌*◌, ◌/◌, ◌%◌, ◌^◌, ◌<◌, ◌≤◌, Bool, true, false, List, [], ◌∷◌, ◌++◌, length, take, Option, Some, None, refl, sym, ◌∙◌, ap, ap₂, subst, inl, inr, arith, length-take-le}
use Rattle.std.specs.Prelude.{not, ◌&&◌, ◌==◌, if◌then◌else◌}
use Rattle.std.proofs.lemmas.Bool.{eqb-true, eq-eqb, ne_eqb, lt-ltb, cases_lt}
use Rattle.std.proofs.lemmas.List.{length-append}
use Rattle.mv_base.specs.Bytes.{AreBytes}
use Rattle.x86_insn.specs.declared.insn.Reg.{Reg}
use Rattle.x86_insn.specs.declared.insn.Rm.TheVariants.{M}
use Rattle.x86_insn.specs.State.{reg_number}
use Rattle.x86_insn.specs.Addressing.{byte_at, dword_at, sign_extended, reg_of, reg_field, displacement_place, displacement_bytes, displacement_of, address_length, factor_of, rm_of}
use Rattle.x86_insn.specs.OperandBytes.{address_above}
use Rattle.x86_encode.specs.Order.{Upto}
use Rattle.x86_encode.specs.Address.{dword_bytes, modrm, fits_byte, mode_of, displacement_by, based, scaled, index_bits, indexed, indexed_from, memory_bytes, address_bytes}
use Rattle.x86_encode.specs.laws.Ordered.{upto_same, upto_joined}
use Rattle.x86_encode.specs.laws.Addressed.{number_back, scale_back, mode_is, mode_low, Shape, register_shape, plain_shape, bare_shape, sib_shape, sib_bare_shape, index_by, Shorter, by_mode, extended_low}

-- ---- the displacement

-- the displacement that the first of these bytes spell under a mod field
abbrev displaced : ℕ → List ℕ → ℕ
displaced zero u = 0
displaced (suc zero) u = sign_extended 32 (byte_at u 0)
displaced (suc (suc n)) u = dword_at u 0

dword_taken : (a b c d : ℕ) → a < 256 → b < 256 → c < 256 → d < 256 → dword_bytes (a + 2 ^ 8 * b + 2 ^ 16 * c + 2 ^ 24 * d) ≡ a ∷ b ∷ c ∷ d ∷ []
dword_taken a b c d p q r s =
    let n = a + 2 ^ 8 * b + 2 ^ 16 * c + 2 ^ 24 * d in
    let e : n % 2 ^ 8 ≡ a = omega arith in
    let f : n / 2 ^ 8 % 2 ^ 8 ≡ b = omega arith in
    let g : n / 2 ^ 16 % 2 ^ 8 ≡ c = omega arith in
    let h : n / 2 ^ 24 % 2 ^ 8 ≡ d = omega arith in
    cc

-- the mod field is below another
mode_at_most : (disp base : ℕ) → mode_of disp base ≤ 2
mode_at_most disp base = omega (arith, (mode_low disp base (mode_of disp base) (mode_is disp base)).0)

mode_none : (base : ℕ) → (base == 5) ≡ false → mode_of 0 base ≡ 0
mode_none base e = ap (λ (v : Bool). if not v then 0 else (if fits_byte 0 then 1 else 2)) e

mode_byte : (disp base : ℕ) → sign_extended 32 (disp % 2 ^ 8) ≡ disp → mode_of disp base ≤ 1
mode_byte disp base e = go ((disp == 0) && not (base == 5)) (fits_byte disp) (eq-eqb _ disp e)
  where
    go : (u v : Bool) → v ≡ true → (if u then 0 else (if v then 1 else 2)) ≤ 1
    go true v h = omega arith
    go false true h = omega arith
    go false false h = absurd (cc h)

displaced_least : (base mode : ℕ) (u : List ℕ) → AreBytes u → mode < 3 → ((mode == 0) && (base == 5)) ≡ false → displacement_bytes mode true ≤ length u → Shorter base mode (displaced mode u) u
displaced_least base zero u bytes m five l = by_mode base 0 0 u (omega arith) 0 (mode_none base five) (omega arith) (omega arith) (λ e. refl)
displaced_least base (suc zero) [] bytes m five l = absurd (omega arith)
displaced_least base (suc zero) (y ∷ u) bytes m five l =
    let w = extended_low y (bytes 0) in
    let d = sign_extended 32 y in
    let again : sign_extended 32 (d % 2 ^ 8) ≡ d = ap (sign_extended 32) w.1 in
    by_mode base d 1 (y ∷ u) w.0 (mode_of d base) refl (mode_byte d base again) (omega arith) (λ e. ap (λ (n : ℕ). displacement_by n d) e ∙ ap (λ (n : ℕ). n ∷ []) w.1)
displaced_least base (suc (suc zero)) [] bytes m five l = absurd (omega arith)
displaced_least base (suc (suc zero)) (a ∷ []) bytes m five l = absurd (omega arith)
displaced_least base (suc (suc zero)) (a ∷ b ∷ []) bytes m five l = absurd (omega arith)
displaced_least base (suc (suc zero)) (a ∷ b ∷ c ∷ []) bytes m five l = absurd (omega arith)
displaced_least base (suc (suc zero)) (a ∷ b ∷ c ∷ d ∷ u) bytes m five l =
    let n = a + 2 ^ 8 * b + 2 ^ 16 * c + 2 ^ 24 * d in
    let p : a < 256 = bytes 0 in
    let q : b < 256 = bytes 1 in
    let r : c < 256 = bytes 2 in
    let s : d < 256 = bytes 3 in
    by_mode base n 2 (a ∷ b ∷ c ∷ d ∷ u) (omega arith) (mode_of n base) refl (mode_at_most n base) (omega arith) (λ e. ap (λ (k : ℕ). displacement_by k n) e ∙ dword_taken a b c d p q r s)
displaced_least base (suc (suc (suc n))) u bytes m five l = absurd (omega arith)

pub dword_least : (u : List ℕ) → AreBytes u → 4 ≤ length u → (dword_at u 0 < 2 ^ 32) × (dword_bytes (dword_at u 0) ≡ take 4 u)
dword_least [] bytes l = absurd (omega arith)
dword_least (a ∷ []) bytes l = absurd (omega arith)
dword_least (a ∷ b ∷ []) bytes l = absurd (omega arith)
dword_least (a ∷ b ∷ c ∷ []) bytes l = absurd (omega arith)
dword_least (a ∷ b ∷ c ∷ d ∷ u) bytes l =
    let p : a < 256 = bytes 0 in
    let q : b < 256 = bytes 1 in
    let r : c < 256 = bytes 2 in
    let s : d < 256 = bytes 3 in
    (omega arith, dword_taken a b c d p q r s)

-- behind ModRM, and SIB where it stands
tail_least : (base mode disp : ℕ) (u h h' : List ℕ) → Shorter base mode disp u → displacement_bytes mode true ≤ length u → length h ≤ length h' → (mode_of disp base ≡ mode → Upto h h') → Upto (h ++ displacement_by (mode_of disp base) disp) (h' ++ take (displacement_bytes mode true) u)
tail_least base mode disp u h h' w l short head =
    elim w.upto [
      | inl p ↦ inl (omega (arith, p, length-append h (displacement_by (mode_of disp base) disp), length-append h' (take (displacement_bytes mode true) u), length-take-le (displacement_bytes mode true) u l))
      | inr p ↦ upto_joined h h' _ _ (head p.0) (upto_same _ _ p.1)
    ]

-- ---- the whole

pub record LeastAddress (t : List ℕ) : Type 0 where
  pub bytes : List ℕ
  pub made : address_bytes (reg_field t) (rm_of t) ≡ Some bytes
  pub least : Upto bytes (take (address_length t) t)

address_memory : (g : ℕ) (b : Option Reg) (x : Option (Reg × ℕ)) (d : ℕ) → d < 2 ^ 32 → address_bytes g (M (record { base = b; index = x; disp = d; gs = false })) ≡ memory_bytes g b x d
address_memory g b x d l = ap (λ (v : Bool). if v then memory_bytes g b x d else None) (lt-ltb d (2 ^ 32) l)

-- from what the bytes name to what is made of it
made_by : (t : List ℕ) (p len : ℕ) (b : Option Reg) (x : Option (Reg × ℕ)) (d : ℕ) (s : List ℕ) → Shape t p len b x → displacement_of t len ≡ d → d < 2 ^ 32 → memory_bytes (reg_field t) b x d ≡ Some s → Upto s (take (p + len) t) → LeastAddress t
made_by t p len b x d s w e l m u =
    record {
      bytes = s;
      made = ap (address_bytes (reg_field t)) w.rm ∙ ap (λ (n : ℕ). address_bytes (reg_field t) (M (record { base = b; index = x; disp = n; gs = false }))) e ∙ address_memory (reg_field t) b x d l ∙ m;
      least = subst (λ (n : ℕ). Upto s (take n t)) (sym w.size) u;
    }

bytes_behind : (x : ℕ) (t : List ℕ) → AreBytes (x ∷ t) → AreBytes t
bytes_behind x t h k = h (suc k)

displaced_at_one : (x mode : ℕ) (t : List ℕ) → mode < 3 → displacement_place (x ∷ t) ≡ 1 → displacement_of (x ∷ t) (displacement_bytes mode true) ≡ displaced mode t
displaced_at_one x zero t m e = refl
displaced_at_one x (suc zero) t m e = ap (λ (p : ℕ). sign_extended 32 (byte_at (x ∷ t) p)) e
displaced_at_one x (suc (suc zero)) t m e = ap (dword_at (x ∷ t)) e
displaced_at_one x (suc (suc (suc n))) t m e = absurd (omega arith)

displaced_at_two : (x y mode : ℕ) (t : List ℕ) → mode < 3 → displacement_place (x ∷ y ∷ t) ≡ 2 → displacement_of (x ∷ y ∷ t) (displacement_bytes mode true) ≡ displaced mode t
displaced_at_two x y zero t m e = refl
displaced_at_two x y (suc zero) t m e = ap (λ (p : ℕ). sign_extended 32 (byte_at (x ∷ y ∷ t) p)) e
displaced_at_two x y (suc (suc zero)) t m e = ap (dword_at (x ∷ y ∷ t)) e
displaced_at_two x y (suc (suc (suc n))) t m e = absurd (omega arith)

take_one : (x n : ℕ) (t : List ℕ) → take (1 + n) (x ∷ t) ≡ (x ∷ []) ++ take n t
take_one x n t = let e : 1 + n ≡ suc n = omega arith in ap (λ (k : ℕ). take k (x ∷ t)) e

take_two : (x y n : ℕ) (t : List ℕ) → take (2 + n) (x ∷ y ∷ t) ≡ (x ∷ y ∷ []) ++ take n t
take_two x y n t = let e : 2 + n ≡ suc (suc n) = omega arith in ap (λ (k : ℕ). take k (x ∷ y ∷ t)) e

-- a register
register_least : (x : ℕ) (t : List ℕ) → x < 256 → x / 64 ≡ 3 → LeastAddress (x ∷ t)
register_least x t h m =
    let w = register_shape (x ∷ t) m in
    let n : reg_number (reg_of (x % 8)) ≡ x % 8 = number_back (x % 8) (omega arith) in
    let s : List ℕ = modrm 3 (x / 8 % 8) (reg_number (reg_of (x % 8))) ∷ [] in
    let whole : modrm 3 (x / 8 % 8) (reg_number (reg_of (x % 8))) ≡ x = omega arith in
    record {
      bytes = s;
      made = ap (address_bytes (x / 8 % 8)) w.rm;
      least = upto_same s _ (ap (λ (b : ℕ). b ∷ []) whole ∙ sym (ap (λ (k : ℕ). take k (x ∷ t)) w.size));
    }

-- no SIB and a base register
plain_least : (x mode : ℕ) (t : List ℕ) → AreBytes (x ∷ t) → address_length (x ∷ t) ≤ length (x ∷ t) → x / 64 ≡ mode → mode < 3 → (mode == 3) ≡ false → (x % 8 == 4) ≡ false → ((mode == 0) && (x % 8 == 5)) ≡ false → LeastAddress (x ∷ t)
plain_least x mode t bytes l m low three four five =
    let h : x < 256 = bytes 0 in
    let w = plain_shape (x ∷ t) mode m three four five in
    let len : displacement_bytes mode true ≤ length t = omega (arith, w.size) in
    let v = displaced_least (x % 8) mode t (bytes_behind x t bytes) low five len in
    let d = displaced mode t in
    let k = mode_of d (x % 8) in
    let n : reg_number (reg_of (x % 8)) ≡ x % 8 = number_back (x % 8) (omega arith) in
    let s : List ℕ = modrm k (x / 8 % 8) (x % 8) ∷ displacement_by k d in
    let made : memory_bytes (x / 8 % 8) (Some (reg_of (x % 8))) None d ≡ Some s =
    ap (λ (b : ℕ). Some (based (x / 8 % 8) b d)) n ∙ ap (λ (v : Bool). Some (if v then modrm k (x / 8 % 8) 4 ∷ 0x24 ∷ displacement_by k d else s)) four in
    made_by (x ∷ t) 1 (displacement_bytes mode true) (Some (reg_of (x % 8))) None d s w (displaced_at_one x mode t low w.place) v.fits made (subst (Upto s) (sym (take_one x (displacement_bytes mode true) t)) (tail_least (x % 8) mode d t (modrm k (x / 8 % 8) (x % 8) ∷ []) (x ∷ []) v len (omega arith) (λ e. upto_same _ _ (let whole : modrm k (x / 8 % 8) (x % 8) ≡ x = omega arith in ap (λ (b : ℕ). b ∷ []) whole))))

-- a displacement alone
bare_least : (x : ℕ) (t : List ℕ) → AreBytes (x ∷ t) → address_length (x ∷ t) ≤ length (x ∷ t) → x / 64 ≡ 0 → x % 8 ≡ 5 → LeastAddress (x ∷ t)
bare_least x t bytes l m five =
    let h : x < 256 = bytes 0 in
    let w = bare_shape (x ∷ t) m five in
    let len : 4 ≤ length t = omega (arith, w.size) in
    let v = dword_least t (bytes_behind x t bytes) len in
    let whole : modrm 0 (x / 8 % 8) 5 ≡ x = omega arith in
    made_by (x ∷ t) 1 4 None None (dword_at t 0) (modrm 0 (x / 8 % 8) 5 ∷ dword_bytes (dword_at t 0)) w (displaced_at_one x 2 t (omega arith) w.place) v.0 refl (upto_same _ _ (ap₂ (λ (b : ℕ) (u : List ℕ). b ∷ u) whole v.1))

-- ---- with SIB

-- SIB's bits of the index that a byte names
index_made : (y : ℕ) → y < 256 → (y / 8 % 8 == 4) ≡ false → index_bits (reg_of (y / 8 % 8)) (factor_of (y / 64)) ≡ Some (64 * (y / 64) + 8 * (y / 8 % 8))
index_made y h four =
    ap₂ scaled (number_back (y / 8 % 8) (omega arith)) (scale_back (y / 64) (omega arith)) ∙ ap (λ (v : Bool). if v then None else Some (64 * (y / 64) + 8 * (y / 8 % 8))) four

index_some : (y : ℕ) → (y / 8 % 8 == 4) ≡ false → index_by y ≡ Some (reg_of (y / 8 % 8), factor_of (y / 64))
index_some y four = ap (λ (v : Bool). if not v then Some (reg_of (y / 8 % 8), factor_of (y / 64)) else None) four

index_none : (y : ℕ) → (y / 8 % 8 == 4) ≡ true → index_by y ≡ None
index_none y four = ap (λ (v : Bool). if not v then Some (reg_of (y / 8 % 8), factor_of (y / 64)) else None) four

-- a base register and no index
sib_none : (x y mode : ℕ) (t : List ℕ) → AreBytes (x ∷ y ∷ t) → address_length (x ∷ y ∷ t) ≤ length (x ∷ y ∷ t) → x / 64 ≡ mode → mode < 3 → (mode == 3) ≡ false → x % 8 ≡ 4 → ((mode == 0) && (y % 8 == 5)) ≡ false → (y / 8 % 8 == 4) ≡ true → LeastAddress (x ∷ y ∷ t)
sib_none x y mode t bytes l m low three four five six = go (y % 8 == 4) refl
  where
    go : (v : Bool) → (y % 8 == 4) ≡ v → LeastAddress (x ∷ y ∷ t)
    go esp is =
        let h : x < 256 = bytes 0 in
        let i : y < 256 = bytes 1 in
        let w = sib_shape (x ∷ y ∷ t) mode m three four five in
        let len : displacement_bytes mode true ≤ length t = omega (arith, w.size) in
        let v = displaced_least (y % 8) mode t (bytes_behind y t (bytes_behind x (y ∷ t) bytes)) low five len in
        let d = displaced mode t in
        let k = mode_of d (y % 8) in
        let n : reg_number (reg_of (y % 8)) ≡ y % 8 = number_back (y % 8) (omega arith) in
        let index : Shape (x ∷ y ∷ t) 2 (displacement_bytes mode true) (Some (reg_of (y % 8))) None = subst (λ (o : Option (Reg × ℕ)). Shape (x ∷ y ∷ t) 2 (displacement_bytes mode true) (Some (reg_of (y % 8))) o) (index_none y six) w in
        let made : memory_bytes (x / 8 % 8) (Some (reg_of (y % 8))) None d ≡ Some (based (x / 8 % 8) (y % 8) d) = ap (λ (b : ℕ). Some (based (x / 8 % 8) b d)) n in
        made_by (x ∷ y ∷ t) 2 (displacement_bytes mode true) (Some (reg_of (y % 8))) None d (based (x / 8 % 8) (y % 8) d) index (displaced_at_two x y mode t low w.place) v.fits made (subst (Upto (based (x / 8 % 8) (y % 8) d)) (sym (take_two x y (displacement_bytes mode true) t)) (by_base esp is v len i h))
      where
        by_base : (esp : Bool) → (y % 8 == 4) ≡ esp → Shorter (y % 8) mode (displaced mode t) t → displacement_bytes mode true ≤ length t → y < 256 → x < 256 → Upto (based (x / 8 % 8) (y % 8) (displaced mode t)) ((x ∷ y ∷ []) ++ take (displacement_bytes mode true) t)
        by_base true e v len i h =
            let d = displaced mode t in
            let k = mode_of d (y % 8) in
            let q : y % 8 ≡ 4 = eqb-true (y % 8) 4 e in
            let z : y / 8 % 8 ≡ 4 = eqb-true (y / 8 % 8) 4 six in
            let head : k ≡ mode → Upto (modrm k (x / 8 % 8) 4 ∷ 0x24 ∷ []) (x ∷ y ∷ []) = λ c. inr (refl, inr (omega arith, elim (cases_lt 0x24 y) [ inl p ↦ inl p | inr p ↦ inr (omega arith, tt) ])) in
            subst (λ (s : List ℕ). Upto s ((x ∷ y ∷ []) ++ take (displacement_bytes mode true) t)) (sym (ap (λ (v : Bool). if v then modrm k (x / 8 % 8) 4 ∷ 0x24 ∷ displacement_by k d else modrm k (x / 8 % 8) (y % 8) ∷ displacement_by k d) e)) (tail_least (y % 8) mode d t (modrm k (x / 8 % 8) 4 ∷ 0x24 ∷ []) (x ∷ y ∷ []) v len (omega arith) head)
        by_base false e v len i h =
            let d = displaced mode t in
            let k = mode_of d (y % 8) in
            subst (λ (s : List ℕ). Upto s ((x ∷ y ∷ []) ++ take (displacement_bytes mode true) t)) (sym (ap (λ (v : Bool). if v then modrm k (x / 8 % 8) 4 ∷ 0x24 ∷ displacement_by k d else modrm k (x / 8 % 8) (y % 8) ∷ displacement_by k d) e)) (tail_least (y % 8) mode d t (modrm k (x / 8 % 8) (y % 8) ∷ []) (x ∷ y ∷ []) v len (omega arith) (λ c. inl (omega arith)))

-- a base register and an index
sib_some : (x y mode : ℕ) (t : List ℕ) → AreBytes (x ∷ y ∷ t) → address_length (x ∷ y ∷ t) ≤ length (x ∷ y ∷ t) → x / 64 ≡ mode → mode < 3 → (mode == 3) ≡ false → x % 8 ≡ 4 → ((mode == 0) && (y % 8 == 5)) ≡ false → (y / 8 % 8 == 4) ≡ false → LeastAddress (x ∷ y ∷ t)
sib_some x y mode t bytes l m low three four five six =
    let h : x < 256 = bytes 0 in
    let i : y < 256 = bytes 1 in
    let w = sib_shape (x ∷ y ∷ t) mode m three four five in
    let len : displacement_bytes mode true ≤ length t = omega (arith, w.size) in
    let v = displaced_least (y % 8) mode t (bytes_behind y t (bytes_behind x (y ∷ t) bytes)) low five len in
    let d = displaced mode t in
    let k = mode_of d (y % 8) in
    let n : reg_number (reg_of (y % 8)) ≡ y % 8 = number_back (y % 8) (omega arith) in
    let bits = 64 * (y / 64) + 8 * (y / 8 % 8) in
    let index : Shape (x ∷ y ∷ t) 2 (displacement_bytes mode true) (Some (reg_of (y % 8))) (Some (reg_of (y / 8 % 8), factor_of (y / 64))) = subst (λ (o : Option (Reg × ℕ)). Shape (x ∷ y ∷ t) 2 (displacement_bytes mode true) (Some (reg_of (y % 8))) o) (index_some y six) w in
    let s : List ℕ = modrm k (x / 8 % 8) 4 ∷ (bits + y % 8) ∷ displacement_by k d in
    let made : memory_bytes (x / 8 % 8) (Some (reg_of (y % 8))) (Some (reg_of (y / 8 % 8), factor_of (y / 64))) d ≡ Some s = ap₂ (λ (b : ℕ) (o : Option ℕ). indexed_from (x / 8 % 8) b o d) n (index_made y i six) in
    let head : k ≡ mode → Upto (modrm k (x / 8 % 8) 4 ∷ (bits + y % 8) ∷ []) (x ∷ y ∷ []) = λ c. inr (refl, inr (omega arith, inr (omega arith, tt))) in
    made_by (x ∷ y ∷ t) 2 (displacement_bytes mode true) (Some (reg_of (y % 8))) (Some (reg_of (y / 8 % 8), factor_of (y / 64))) d s index (displaced_at_two x y mode t low w.place) v.fits made (subst (Upto s) (sym (take_two x y (displacement_bytes mode true) t)) (tail_least (y % 8) mode d t (modrm k (x / 8 % 8) 4 ∷ (bits + y % 8) ∷ []) (x ∷ y ∷ []) v len (omega arith) head))

-- SIB without a base register
sib_bare : (x y : ℕ) (t : List ℕ) → AreBytes (x ∷ y ∷ t) → address_length (x ∷ y ∷ t) ≤ length (x ∷ y ∷ t) → x / 64 ≡ 0 → x % 8 ≡ 4 → y % 8 ≡ 5 → LeastAddress (x ∷ y ∷ t)
sib_bare x y t bytes l m four five =
    let h : x < 256 = bytes 0 in
    let i : y < 256 = bytes 1 in
    let w = sib_bare_shape (x ∷ y ∷ t) m four five in
    let len : 4 ≤ length t = omega (arith, w.size) in
    let v = dword_least t (bytes_behind y t (bytes_behind x (y ∷ t) bytes)) len in
    go w v len h i (y / 8 % 8 == 4) refl
  where
    go : Shape (x ∷ y ∷ t) 2 4 None (index_by y) → (dword_at t 0 < 2 ^ 32) × (dword_bytes (dword_at t 0) ≡ take 4 t) → 4 ≤ length t → x < 256 → y < 256 → (none : Bool) → (y / 8 % 8 == 4) ≡ none → LeastAddress (x ∷ y ∷ t)
    go w v len h i true six =
        let index : Shape (x ∷ y ∷ t) 2 4 None None = subst (λ (o : Option (Reg × ℕ)). Shape (x ∷ y ∷ t) 2 4 None o) (index_none y six) w in
        made_by (x ∷ y ∷ t) 2 4 None None (dword_at t 0) (modrm 0 (x / 8 % 8) 5 ∷ dword_bytes (dword_at t 0)) index (displaced_at_two x y 2 t (omega arith) w.place) v.0 refl (inl (omega (arith, length-take-le 4 t len)))
    go w v len h i false six =
        let index : Shape (x ∷ y ∷ t) 2 4 None (Some (reg_of (y / 8 % 8), factor_of (y / 64))) = subst (λ (o : Option (Reg × ℕ)). Shape (x ∷ y ∷ t) 2 4 None o) (index_some y six) w in
        let bits = 64 * (y / 64) + 8 * (y / 8 % 8) in
        let s : List ℕ = modrm 0 (x / 8 % 8) 4 ∷ (bits + 5) ∷ dword_bytes (dword_at t 0) in
        let made : memory_bytes (x / 8 % 8) None (Some (reg_of (y / 8 % 8), factor_of (y / 64))) (dword_at t 0) ≡ Some s = ap (λ (o : Option ℕ). indexed (x / 8 % 8) o (dword_at t 0)) (index_made y i six) in
        let a : modrm 0 (x / 8 % 8) 4 ≡ x = omega arith in
        let b : bits + 5 ≡ y = omega arith in
        let e = v.1 in
        made_by (x ∷ y ∷ t) 2 4 None (Some (reg_of (y / 8 % 8), factor_of (y / 64))) (dword_at t 0) s index (displaced_at_two x y 2 t (omega arith) w.place) v.0 made (upto_same s (x ∷ y ∷ take 4 t) (let whole : s ≡ x ∷ y ∷ take 4 t = cc (a, b, e) in whole))

-- memory, by whether SIB stands
memory_least : (x mode : ℕ) (t : List ℕ) → AreBytes (x ∷ t) → address_length (x ∷ t) ≤ length (x ∷ t) → x / 64 ≡ mode → mode < 3 → (mode == 3) ≡ false → LeastAddress (x ∷ t)
memory_least x mode t bytes l m low three = go (x % 8 == 4) refl ((mode == 0) && (x % 8 == 5)) refl t bytes l
  where
    zero_by : (a : ℕ) (b : Bool) → ((a == 0) && b) ≡ true → (a ≡ 0) × (b ≡ true)
    zero_by zero b h = (refl, h)
    zero_by (suc a) b h = absurd (elim (cases_lt 0 (suc a)) [ inl p ↦ cc (ap (λ (v : Bool). v && b) (ne_eqb (suc a) 0 (λ e. omega arith)), h) | inr p ↦ omega arith ])

    with_sib : (y : ℕ) (t : List ℕ) → AreBytes (x ∷ y ∷ t) → address_length (x ∷ y ∷ t) ≤ length (x ∷ y ∷ t) → x % 8 ≡ 4 → (v : Bool) → ((mode == 0) && (y % 8 == 5)) ≡ v → (i : Bool) → (y / 8 % 8 == 4) ≡ i → LeastAddress (x ∷ y ∷ t)
    with_sib y t bytes l four true e i f = let z = zero_by mode (y % 8 == 5) e in sib_bare x y t bytes l (m ∙ z.0) four (eqb-true (y % 8) 5 z.1)
    with_sib y t bytes l four false e true f = sib_none x y mode t bytes l m low three four e f
    with_sib y t bytes l four false e false f = sib_some x y mode t bytes l m low three four e f

    go : (u : Bool) → (x % 8 == 4) ≡ u → (v : Bool) → ((mode == 0) && (x % 8 == 5)) ≡ v → (t : List ℕ) → AreBytes (x ∷ t) → address_length (x ∷ t) ≤ length (x ∷ t) → LeastAddress (x ∷ t)
    go false e true f t bytes l = let z = zero_by mode (x % 8 == 5) f in bare_least x t bytes l (m ∙ z.0) (eqb-true (x % 8) 5 z.1)
    go false e false f t bytes l = plain_least x mode t bytes l m low three e f
    go true e v f [] bytes l = absurd (no_sib (eqb-true (x % 8) 4 e) l)
      where
        no_sib : x % 8 ≡ 4 → address_length (x ∷ []) ≤ 1 → ⊥
        no_sib four l = let place : displacement_place (x ∷ []) ≡ 2 = rw (m, three, four) refl in omega (arith, place)
    go true e v f (y ∷ t) bytes l = with_sib y t bytes l (eqb-true (x % 8) 4 e) ((mode == 0) && (y % 8 == 5)) refl (y / 8 % 8 == 4) refl

pub address_least : (t : List ℕ) → AreBytes t → address_length t ≤ length t → LeastAddress t
address_least [] bytes l = absurd (omega (arith, address_above []))
address_least (x ∷ t) bytes l = go (x / 64) refl
  where
    go : (mode : ℕ) → x / 64 ≡ mode → LeastAddress (x ∷ t)
    go zero e = memory_least x 0 t bytes l e (omega arith) refl
    go (suc zero) e = memory_least x 1 t bytes l e (omega arith) refl
    go (suc (suc zero)) e = memory_least x 2 t bytes l e (omega arith) refl
    go (suc (suc (suc zero))) e = register_least x t (bytes 0) e
    go (suc (suc (suc (suc n)))) e = let h : x < 256 = bytes 0 in absurd (omega arith)
