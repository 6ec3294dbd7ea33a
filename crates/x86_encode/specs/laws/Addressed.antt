-- The least bytes that name an operand: they name it, and no bytes that name it are less.
use Rattle.std.proofs.Common.{◌≡◌, ℕ, zero, suc, ◌+◌, ◌*◌, ◌/◌, ◌%◌, ◌^◌, ◌<◌, ◌≤◌, Bool, true, false, ◌⊎◌, List, [], ◌∷◌, length, take, Option, Some, None, refl, sym, ◌∙◌, ap, ap₂, subst, inl, inr, arith}
use Rattle.std.specs.Prelude.{not, ◌&&◌, nat_lt, ◌==◌, if◌then◌else◌}
use Rattle.std.proofs.lemmas.Bool.{eqb-true, eqb-false, ne_eqb, lt-ltb, le-ltb, cases_lt}
use Rattle.mv_base.specs.Bytes.{AreBytes}
use Rattle.x86_insn.specs.declared.insn.Reg.{Reg}
use Rattle.x86_insn.specs.declared.insn.Reg.TheVariants.{Eax, Ecx, Edx, Ebx, Esp, Ebp, Esi, Edi}
use Rattle.x86_insn.specs.declared.insn.Rm.{Rm}
use Rattle.x86_insn.specs.declared.insn.Rm.TheVariants.{R, M}
use Rattle.x86_insn.specs.State.{reg_number}
use Rattle.x86_insn.specs.Addressing.{byte_at, dword_at, sign_extended, reg_of, reg_field, names_memory, has_sib, has_base, displacement_place, displacement_bytes, displacement_of, displacement_length, address_length, factor_of, memory_of, rm_of, with_gs}
use Rattle.x86_insn.specs.Agreeing.{both_true}
use Rattle.x86_encode.specs.Address.{dword_bytes, modrm, fits_byte, mode_of, displacement_by, based, scale_of, scaled, index_bits, indexed, indexed_from, memory_bytes, address_bytes}
use Rattle.x86_encode.specs.Assembling.{is_memory}
use Rattle.x86_encode.specs.Candidates.{is_gs}

-- ---- registers and their numbers

pub reg_back : (r : Reg) → reg_of (reg_number r) ≡ r
reg_back Eax = refl
reg_back Ecx = refl
reg_back Edx = refl
reg_back Ebx = refl
reg_back Esp = refl
reg_back Ebp = refl
reg_back Esi = refl
reg_back Edi = refl

pub reg_low : (r : Reg) → reg_number r < 8
reg_low Eax = omega arith
reg_low Ecx = omega arith
reg_low Edx = omega arith
reg_low Ebx = omega arith
reg_low Esp = omega arith
reg_low Ebp = omega arith
reg_low Esi = omega arith
reg_low Edi = omega arith

pub number_back : (n : ℕ) → n < 8 → reg_number (reg_of n) ≡ n
number_back zero h = refl
number_back (suc zero) h = refl
number_back (suc (suc zero)) h = refl
number_back (suc (suc (suc zero))) h = refl
number_back (suc (suc (suc (suc zero)))) h = refl
number_back (suc (suc (suc (suc (suc zero))))) h = refl
number_back (suc (suc (suc (suc (suc (suc zero)))))) h = refl
number_back (suc (suc (suc (suc (suc (suc (suc zero))))))) h = refl
number_back (suc (suc (suc (suc (suc (suc (suc (suc n)))))))) h = absurd (omega arith)

pub scale_back : (n : ℕ) → n < 4 → scale_of (factor_of n) ≡ Some n
scale_back zero h = refl
scale_back (suc zero) h = refl
scale_back (suc (suc zero)) h = refl
scale_back (suc (suc (suc zero))) h = refl
scale_back (suc (suc (suc (suc n)))) h = absurd (omega arith)

-- a factor that has a scale
record IsScale (factor scale : ℕ) : Type 0 where
  low : scale < 4
  back : factor_of scale ≡ factor

is_scale : (factor scale : ℕ) → scale_of factor ≡ Some scale → IsScale factor scale
is_scale factor scale e = go (factor == 1) refl (factor == 2) refl (factor == 4) refl (factor == 8) refl e
  where
    go : (a : Bool) → (factor == 1) ≡ a → (b : Bool) → (factor == 2) ≡ b → (c : Bool) → (factor == 4) ≡ c → (d : Bool) → (factor == 8) ≡ d → (if a then Some 0 else (if b then Some 1 else (if c then Some 2 else (if d then Some 3 else None)))) ≡ Some scale → IsScale factor scale
    go true p b q c r d s f = let z : scale ≡ 0 = cc f in record { low = omega arith; back = ap factor_of z ∙ sym (eqb-true factor 1 p) }
    go false p true q c r d s f = let z : scale ≡ 1 = cc f in record { low = omega arith; back = ap factor_of z ∙ sym (eqb-true factor 2 q) }
    go false p false q true r d s f = let z : scale ≡ 2 = cc f in record { low = omega arith; back = ap factor_of z ∙ sym (eqb-true factor 4 r) }
    go false p false q false r true s f = let z : scale ≡ 3 = cc f in record { low = omega arith; back = ap factor_of z ∙ sym (eqb-true factor 8 s) }
    go false p false q false r false s f = absurd (cc f)

-- ---- memory relative to GS, or not

pub gs_again : (g : Bool) (x : Rm) → g ≡ is_gs x → with_gs g (with_gs false x) ≡ x
gs_again g (R r) e = refl
gs_again g (M m) e = ap (λ (v : Bool). M (record m { gs = v })) e

pub gs_with : (g : Bool) (x : Rm) → is_gs (with_gs g x) ≡ true → g ≡ true
gs_with g (R r) h = absurd (cc h)
gs_with g (M m) h = h

pub memory_with : (g : Bool) (x : Rm) → is_memory (with_gs g x) ≡ is_memory x
memory_with g (R r) = refl
memory_with g (M m) = refl

pub address_with : (field : ℕ) (g : Bool) (x : Rm) → address_bytes field (with_gs g x) ≡ address_bytes field x
address_with field g (R r) = refl
address_with field g (M m) = refl

-- ---- what bytes name, by the fields of ModRM and SIB

abbrev pub index_by : ℕ → Option (Reg × ℕ)
index_by y = if not (y / 8 % 8 == 4) then Some (reg_of (y / 8 % 8), factor_of (y / 64)) else None

pub record Shape (s : List ℕ) (p len : ℕ) (base : Option Reg) (index : Option (Reg × ℕ)) : Type 0 where
  pub names : names_memory s ≡ true
  pub place : displacement_place s ≡ p
  pub size : address_length s ≡ p + len
  pub rm : rm_of s ≡ M (record { base = base; index = index; disp = displacement_of s len; gs = false })

pub record IsRegister (s : List ℕ) : Type 0 where
  pub names : names_memory s ≡ false
  pub size : address_length s ≡ 1
  pub rm : rm_of s ≡ R (reg_of (byte_at s 0 % 8))

pub register_shape : (s : List ℕ) → byte_at s 0 / 64 ≡ 3 → IsRegister s
register_shape s e = record { names = rw e refl; size = rw e refl; rm = rw e refl }

pub plain_shape : (s : List ℕ) (mode : ℕ) → byte_at s 0 / 64 ≡ mode → (mode == 3) ≡ false → (byte_at s 0 % 8 == 4) ≡ false → ((mode == 0) && (byte_at s 0 % 8 == 5)) ≡ false → Shape s 1 (displacement_bytes mode true) (Some (reg_of (byte_at s 0 % 8))) None
plain_shape s mode e three four five =
    record { names = rw (e, three) refl; place = rw (e, three, four) refl; size = rw (e, three, four, five) refl; rm = rw (e, three, four, five) refl }

mem_same : (b b' : Option Reg) (x x' : Option (Reg × ℕ)) (d d' : ℕ) → b ≡ b' → x ≡ x' → d ≡ d' → ◌≡◌ {A = Rm} (M (record { base = b; index = x; disp = d; gs = false })) (M (record { base = b'; index = x'; disp = d'; gs = false }))
mem_same b b' x x' d d' p q e = cc

-- with four bytes of displacement and no base
rm_by : (s : List ℕ) (index : Option (Reg × ℕ)) → names_memory s ≡ true → displacement_length s ≡ 4 → (memory_of s).base ≡ None → (memory_of s).index ≡ index → rm_of s ≡ M (record { base = None; index = index; disp = displacement_of s 4; gs = false })
rm_by s index n l b x = ap (λ (v : Bool). if v then M (memory_of s) else R (reg_of (byte_at s 0 % 8))) n ∙ mem_same _ _ _ _ _ _ b x (ap (displacement_of s) l)

pub bare_shape : (s : List ℕ) → byte_at s 0 / 64 ≡ 0 → byte_at s 0 % 8 ≡ 5 → Shape s 1 4 None None
bare_shape s e r =
    record { names = rw e refl; place = rw (e, r) refl; size = rw (e, r) refl; rm = rm_by s None (rw e refl) (rw (e, r) refl) (rw (e, r) refl) (rw (e, r) refl) }

pub sib_shape : (s : List ℕ) (mode : ℕ) → byte_at s 0 / 64 ≡ mode → (mode == 3) ≡ false → byte_at s 0 % 8 ≡ 4 → ((mode == 0) && (byte_at s 1 % 8 == 5)) ≡ false → Shape s 2 (displacement_bytes mode true) (Some (reg_of (byte_at s 1 % 8))) (index_by (byte_at s 1))
sib_shape s mode e three r five =
    record { names = rw (e, three) refl; place = rw (e, three, r) refl; size = rw (e, three, r, five) refl; rm = rw (e, three, r, five) refl }

pub sib_bare_shape : (s : List ℕ) → byte_at s 0 / 64 ≡ 0 → byte_at s 0 % 8 ≡ 4 → byte_at s 1 % 8 ≡ 5 → Shape s 2 4 None (index_by (byte_at s 1))
sib_bare_shape s e r b =
    record { names = rw e refl; place = rw (e, r) refl; size = rw (e, r, b) refl; rm = rm_by s (index_by (byte_at s 1)) (rw e refl) (rw (e, r, b) refl) (rw (e, r, b) refl) (rw (e, r) refl) }

-- ---- modes

-- what a mod field says of the displacement and the base register's number
abbrev pub IsMode : ℕ → ℕ → ℕ → Type 0
IsMode disp base zero = (disp ≡ 0) × (base ≡ 5 → ⊥)
IsMode disp base (suc zero) = sign_extended 32 (disp % 2 ^ 8) ≡ disp
IsMode disp base (suc (suc zero)) = Unit {0}
IsMode disp base (suc (suc (suc n))) = ⊥

not_true : (b : Bool) → not b ≡ true → b ≡ false
not_true true h = absurd (cc h)
not_true false h = refl

pub mode_is : (disp base : ℕ) → IsMode disp base (mode_of disp base)
mode_is disp base = go ((disp == 0) && not (base == 5)) refl (fits_byte disp) refl
  where
    go : (u : Bool) → ((disp == 0) && not (base == 5)) ≡ u → (v : Bool) → fits_byte disp ≡ v → IsMode disp base (if u then 0 else (if v then 1 else 2))
    go true e v f = let w = both_true (disp == 0) _ e in (eqb-true disp 0 w.0, eqb-false base 5 (not_true (base == 5) w.1))
    go false e true f = eqb-true _ disp f
    go false e false f = tt

-- a base register is named under such a mod field
mode_based : (disp base mode : ℕ) → IsMode disp base mode → ((mode == 0) && (base == 5)) ≡ false
mode_based disp base zero h = ne_eqb base 5 h.1
mode_based disp base (suc zero) h = refl
mode_based disp base (suc (suc zero)) h = refl
mode_based disp base (suc (suc (suc n))) h = absurd h

pub mode_low : (disp base mode : ℕ) → IsMode disp base mode → (mode < 3) × ((mode == 3) ≡ false)
mode_low disp base zero h = (omega arith, refl)
mode_low disp base (suc zero) h = (omega arith, refl)
mode_low disp base (suc (suc zero)) h = (omega arith, refl)
mode_low disp base (suc (suc (suc n))) h = absurd h

dword_back : (n : ℕ) → n < 2 ^ 32 → n % 2 ^ 8 + 2 ^ 8 * (n / 2 ^ 8 % 2 ^ 8) + 2 ^ 16 * (n / 2 ^ 16 % 2 ^ 8) + 2 ^ 24 * (n / 2 ^ 24 % 2 ^ 8) ≡ n
dword_back n h = omega arith

-- the bytes from a place on are those of the displacement
record AtPlace (s : List ℕ) (p mode disp : ℕ) : Type 0 where
  place : displacement_place s ≡ p
  a : byte_at s p ≡ byte_at (displacement_by mode disp) 0
  b : byte_at s (p + 1) ≡ byte_at (displacement_by mode disp) 1
  c : byte_at s (p + 2) ≡ byte_at (displacement_by mode disp) 2
  d : byte_at s (p + 3) ≡ byte_at (displacement_by mode disp) 3

displaced_named : (s : List ℕ) (p disp base mode : ℕ) → AtPlace s p mode disp → IsMode disp base mode → disp < 2 ^ 32 → displacement_of s (displacement_bytes mode true) ≡ disp
displaced_named s p disp base zero h m l = sym m.0
displaced_named s p disp base (suc zero) h m l = ap (sign_extended 32) (ap (byte_at s) h.place ∙ h.a) ∙ m
displaced_named s p disp base (suc (suc zero)) h m l = ap (dword_at s) h.place ∙ (rw (h.a, h.b, h.c, h.d) (dword_back disp l))
displaced_named s p disp base (suc (suc (suc n))) h m l = absurd m

displaced_length : (mode disp base : ℕ) → IsMode disp base mode → length (displacement_by mode disp) ≡ displacement_bytes mode true
displaced_length zero disp base h = refl
displaced_length (suc zero) disp base h = refl
displaced_length (suc (suc zero)) disp base h = refl
displaced_length (suc (suc (suc n))) disp base h = absurd h

-- ---- they name the operand

record Fields (b m f r : ℕ) : Type 0 where
  mode : b / 64 ≡ m
  field : b / 8 % 8 ≡ f
  rm : b % 8 ≡ r

fields : (mode field rm : ℕ) → field < 8 → rm < 8 → Fields (64 * mode + 8 * field + rm) mode field rm
fields mode field rm f r = record { mode = omega arith; field = omega arith; rm = omega arith }

pub record Named (s : List ℕ) (field : ℕ) (x : Rm) : Type 0 where
  pub size : address_length s ≡ length s
  pub reg : reg_field s ≡ field
  pub names : names_memory s ≡ is_memory x
  pub rm : rm_of s ≡ x
  pub bytes : AreBytes s

pub no_bytes : AreBytes []
no_bytes k = omega arith

pub bytes_after : (x : ℕ) (s : List ℕ) → x < 256 → AreBytes s → AreBytes (x ∷ s)
bytes_after x s h t zero = h
bytes_after x s h t (suc k) = t k

pub dword_are_bytes : (n : ℕ) → AreBytes (dword_bytes n)
dword_are_bytes n =
    let a = n % 2 ^ 8 in
    let b = n / 2 ^ 8 % 2 ^ 8 in
    let c = n / 2 ^ 16 % 2 ^ 8 in
    let d = n / 2 ^ 24 % 2 ^ 8 in
    bytes_after a (b ∷ c ∷ d ∷ []) (omega arith) (bytes_after b (c ∷ d ∷ []) (omega arith) (bytes_after c (d ∷ []) (omega arith) (bytes_after d [] (omega arith) no_bytes)))

displacement_are_bytes : (mode disp base : ℕ) → IsMode disp base mode → AreBytes (displacement_by mode disp)
displacement_are_bytes zero disp base h = no_bytes
displacement_are_bytes (suc zero) disp base h = bytes_after (disp % 2 ^ 8) [] (omega arith) no_bytes
displacement_are_bytes (suc (suc zero)) disp base h = dword_are_bytes disp
displacement_are_bytes (suc (suc (suc n))) disp base h = absurd h

-- ModRM alone before the displacement
plain_named : (field disp : ℕ) (b : Reg) (mode : ℕ) → field < 8 → disp < 2 ^ 32 → (reg_number b ≡ 4 → ⊥) → IsMode disp (reg_number b) mode → Named (modrm mode field (reg_number b) ∷ displacement_by mode disp) field (M (record { base = Some b; index = None; disp = disp; gs = false }))
plain_named field disp b mode f l four m =
    let s : List ℕ = modrm mode field (reg_number b) ∷ displacement_by mode disp in
    let p = fields mode field (reg_number b) f (reg_low b) in
    let low = mode_low disp (reg_number b) mode m in
    let same : (modrm mode field (reg_number b) % 8) ≡ reg_number b = p.rm in
    let w = plain_shape s mode p.mode low.1 (ap (λ (n : ℕ). n == 4) same ∙ ne_eqb (reg_number b) 4 four) (ap (λ (n : ℕ). (mode == 0) && (n == 5)) same ∙ mode_based disp (reg_number b) mode m) in
    let d = displaced_named s 1 disp (reg_number b) mode (record { place = w.place; a = refl; b = refl; c = refl; d = refl }) m l in
    record {
      size = w.size ∙ omega (arith, displaced_length mode disp (reg_number b) m);
      reg = p.field;
      names = w.names;
      rm = w.rm ∙ mem_same _ _ _ _ _ _ (ap (λ (n : ℕ). Some (reg_of n)) same ∙ ap Some (reg_back b)) refl d;
      bytes = bytes_after (modrm mode field (reg_number b)) (displacement_by mode disp) (omega (arith, low.0, reg_low b)) (displacement_are_bytes mode disp (reg_number b) m);
    }

-- ModRM and SIB before the displacement
sib_named : (field disp : ℕ) (b : Reg) (index : Option (Reg × ℕ)) (mode y : ℕ) → field < 8 → disp < 2 ^ 32 → IsMode disp (reg_number b) mode → y < 256 → y % 8 ≡ reg_number b → index_by y ≡ index → Named (modrm mode field 4 ∷ y ∷ displacement_by mode disp) field (M (record { base = Some b; index = index; disp = disp; gs = false }))
sib_named field disp b index mode y f l m byte base ix =
    let s : List ℕ = modrm mode field 4 ∷ y ∷ displacement_by mode disp in
    let p = fields mode field 4 f (omega arith) in
    let low = mode_low disp (reg_number b) mode m in
    let w = sib_shape s mode p.mode low.1 p.rm (ap (λ (n : ℕ). (mode == 0) && (n == 5)) base ∙ mode_based disp (reg_number b) mode m) in
    let d = displaced_named s 2 disp (reg_number b) mode (record { place = w.place; a = refl; b = refl; c = refl; d = refl }) m l in
    record {
      size = w.size ∙ omega (arith, displaced_length mode disp (reg_number b) m);
      reg = p.field;
      names = w.names;
      rm = w.rm ∙ mem_same _ _ _ _ _ _ (ap (λ (n : ℕ). Some (reg_of n)) base ∙ ap Some (reg_back b)) ix d;
      bytes = bytes_after (modrm mode field 4) (y ∷ displacement_by mode disp) (omega (arith, low.0)) (bytes_after y (displacement_by mode disp) byte (displacement_are_bytes mode disp (reg_number b) m));
    }

absolute_named : (field disp : ℕ) → field < 8 → disp < 2 ^ 32 → Named (modrm 0 field 5 ∷ dword_bytes disp) field (M (record { base = None; index = None; disp = disp; gs = false }))
absolute_named field disp f l =
    let s : List ℕ = modrm 0 field 5 ∷ dword_bytes disp in
    let p = fields 0 field 5 f (omega arith) in
    let w = bare_shape s p.mode p.rm in
    let d = displaced_named s 1 disp 0 2 (record { place = w.place; a = refl; b = refl; c = refl; d = refl }) tt l in
    record { size = w.size; reg = p.field; names = w.names; rm = w.rm ∙ mem_same _ _ _ _ _ _ refl refl d; bytes = bytes_after (modrm 0 field 5) (dword_bytes disp) (omega arith) (dword_are_bytes disp) }

index_named : (field disp : ℕ) (index : Option (Reg × ℕ)) (y : ℕ) → field < 8 → disp < 2 ^ 32 → y < 256 → y % 8 ≡ 5 → index_by y ≡ index → Named (modrm 0 field 4 ∷ y ∷ dword_bytes disp) field (M (record { base = None; index = index; disp = disp; gs = false }))
index_named field disp index y f l byte base ix =
    let s : List ℕ = modrm 0 field 4 ∷ y ∷ dword_bytes disp in
    let p = fields 0 field 4 f (omega arith) in
    let w = sib_bare_shape s p.mode p.rm base in
    let d = displaced_named s 2 disp 0 2 (record { place = w.place; a = refl; b = refl; c = refl; d = refl }) tt l in
    record { size = w.size; reg = p.field; names = w.names; rm = w.rm ∙ mem_same _ _ _ _ _ _ refl ix d; bytes = bytes_after (modrm 0 field 4) (y ∷ dword_bytes disp) (omega arith) (bytes_after y (dword_bytes disp) byte (dword_are_bytes disp)) }

-- SIB's bits of an index
record IsIndex (i : Reg) (factor bits : ℕ) : Type 0 where
  low : bits % 8 ≡ 0
  most : bits ≤ 248
  named : (base : ℕ) → base < 8 → index_by (bits + base) ≡ Some (i, factor)

is_index : (i : Reg) (factor bits : ℕ) → index_bits i factor ≡ Some bits → IsIndex i factor bits
is_index i factor bits e = go (scale_of factor) refl e
  where
    some : (scale : ℕ) → scale_of factor ≡ Some scale → (v : Bool) → (reg_number i == 4) ≡ v → (if v then None else Some (64 * scale + 8 * reg_number i)) ≡ Some bits → IsIndex i factor bits
    some scale f true g h = absurd (cc h)
    some scale f false g h =
        let w = is_scale factor scale f in
        let same : 64 * scale + 8 * reg_number i ≡ bits = cc h in
        let low = reg_low i in
        record {
          low = omega arith;
          most = omega (arith, w.low);
          named = λ base l.
              let a : (bits + base) / 8 % 8 ≡ reg_number i = omega arith in
              let b : (bits + base) / 64 ≡ scale = omega arith in
              ap₂ (λ (n k : ℕ). if not (n == 4) then Some (reg_of n, factor_of k) else None) a b ∙ ap (λ (v : Bool). if not v then Some (reg_of (reg_number i), factor_of scale) else None) g ∙ ap₂ (λ (r : Reg) (n : ℕ). Some (r, n)) (reg_back i) w.back;
        }

    go : (o : Option ℕ) → scale_of factor ≡ o → scaled (reg_number i) o ≡ Some bits → IsIndex i factor bits
    go None f h = absurd (cc h)
    go (Some scale) f h = some scale f (reg_number i == 4) refl h

named_by : (s t : List ℕ) (field : ℕ) (x : Rm) → s ≡ t → Named s field x → Named t field x
named_by s t field x e h = subst (λ (u : List ℕ). Named u field x) e h

based_named : (field disp : ℕ) (b : Reg) → field < 8 → disp < 2 ^ 32 → Named (based field (reg_number b) disp) field (M (record { base = Some b; index = None; disp = disp; gs = false }))
based_named field disp b f l = go (reg_number b == 4) refl
  where
    go : (v : Bool) → (reg_number b == 4) ≡ v → Named (if v then modrm (mode_of disp (reg_number b)) field 4 ∷ 0x24 ∷ displacement_by (mode_of disp (reg_number b)) disp else modrm (mode_of disp (reg_number b)) field (reg_number b) ∷ displacement_by (mode_of disp (reg_number b)) disp) field (M (record { base = Some b; index = None; disp = disp; gs = false }))
    go true e = sib_named field disp b None (mode_of disp (reg_number b)) 0x24 f l (mode_is disp (reg_number b)) (omega arith) (sym (eqb-true (reg_number b) 4 e)) refl
    go false e = plain_named field disp b (mode_of disp (reg_number b)) f l (eqb-false (reg_number b) 4 e) (mode_is disp (reg_number b))

memory_named : (field : ℕ) (b : Option Reg) (x : Option (Reg × ℕ)) (disp : ℕ) (s : List ℕ) → field < 8 → disp < 2 ^ 32 → memory_bytes field b x disp ≡ Some s → Named s field (M (record { base = b; index = x; disp = disp; gs = false }))
memory_named field None None disp s f l e = named_by _ s field _ (cc e) (absolute_named field disp f l)
memory_named field None (Some (i, k)) disp s f l e = go (index_bits i k) refl e
  where
    go : (o : Option ℕ) → index_bits i k ≡ o → indexed field o disp ≡ Some s → Named s field (M (record { base = None; index = Some (i, k); disp = disp; gs = false }))
    go None g h = absurd (cc h)
    go (Some bits) g h = let w = is_index i k bits g in named_by _ s field _ (cc h) (index_named field disp (Some (i, k)) (bits + 5) f l (omega (arith, w.most)) (omega (arith, w.low)) (w.named 5 (omega arith)))
memory_named field (Some b) None disp s f l e = named_by _ s field _ (cc e) (based_named field disp b f l)
memory_named field (Some b) (Some (i, k)) disp s f l e = go (index_bits i k) refl e
  where
    go : (o : Option ℕ) → index_bits i k ≡ o → indexed_from field (reg_number b) o disp ≡ Some s → Named s field (M (record { base = Some b; index = Some (i, k); disp = disp; gs = false }))
    go None g h = absurd (cc h)
    go (Some bits) g h =
        let w = is_index i k bits g in
        named_by _ s field _ (cc h) (sib_named field disp b (Some (i, k)) (mode_of disp (reg_number b)) (bits + reg_number b) f l (mode_is disp (reg_number b)) (omega (arith, w.most, reg_low b)) (omega (arith, w.low, reg_low b)) (w.named (reg_number b) (reg_low b)))

-- bytes name memory, and not whether it is relative to GS
pub address_named : (field : ℕ) (x : Rm) (s : List ℕ) → field < 8 → address_bytes field x ≡ Some s → Named s field (with_gs false x)
address_named field (R r) s f e = named_by _ s field _ (cc e) named
  where
    named : Named (modrm 3 field (reg_number r) ∷ []) field (R r)
    named =
        let p = fields 3 field (reg_number r) f (reg_low r) in
        let w = register_shape (modrm 3 field (reg_number r) ∷ []) p.mode in
        record { size = w.size; reg = p.field; names = w.names; rm = w.rm ∙ ap (λ (n : ℕ). R (reg_of n)) p.rm ∙ ap R (reg_back r); bytes = bytes_after (modrm 3 field (reg_number r)) [] (omega (arith, reg_low r)) no_bytes }
address_named field (M m) s f e = go (cases_lt m.disp (2 ^ 32)) e
  where
    go : (m.disp < 2 ^ 32) ⊎ (2 ^ 32 ≤ m.disp) → (if nat_lt m.disp (2 ^ 32) then memory_bytes field m.base m.index m.disp else None) ≡ Some s → Named s field (with_gs false (M m))
    go (inl l) h = memory_named field m.base m.index m.disp s f l (sym (ap (λ (v : Bool). if v then memory_bytes field m.base m.index m.disp else None) (lt-ltb m.disp (2 ^ 32) l)) ∙ h)
    go (inr l) h = absurd (cc (ap (λ (v : Bool). if v then memory_bytes field m.base m.index m.disp else None) (le-ltb m.disp (2 ^ 32) l), h))

displacement_low : (k : ℕ) (v : Bool) → displacement_bytes k v ≤ 4
displacement_low zero true = omega arith
displacement_low zero false = omega arith
displacement_low (suc zero) v = omega arith
displacement_low (suc (suc zero)) v = omega arith
displacement_low (suc (suc (suc k))) v = omega arith

pub address_low : (s : List ℕ) → address_length s ≤ 6
address_low s = go (has_sib s) (displacement_low (byte_at s 0 / 64) (has_base s))
  where
    go : (v : Bool) → displacement_length s ≤ 4 → (if v then 2 else 1) + displacement_length s ≤ 6
    go true h = omega arith
    go false h = omega arith

-- ---- they are the least

-- no longer and no greater, with the mod field
pub record Shorter (base mode disp : ℕ) (u : List ℕ) : Type 0 where
  pub upto : (length (displacement_by (mode_of disp base) disp) < displacement_bytes mode true) ⊎ ((mode_of disp base ≡ mode) × (displacement_by (mode_of disp base) disp ≡ take (displacement_bytes mode true) u))
  pub fits : disp < 2 ^ 32

pub extended_low : (y : ℕ) → y < 256 → (sign_extended 32 y < 2 ^ 32) × (sign_extended 32 y % 2 ^ 8 ≡ y)
extended_low y h = go (cases_lt y 0x80)
  where
    go : (y < 0x80) ⊎ (0x80 ≤ y) → (sign_extended 32 y < 2 ^ 32) × (sign_extended 32 y % 2 ^ 8 ≡ y)
    go (inl l) =
        let e : sign_extended 32 y ≡ y = ap (λ (v : Bool). if v then y else y + 0xFFFFFF00) (lt-ltb y 0x80 l) in
        (omega arith, omega arith)
    go (inr l) =
        let e : sign_extended 32 y ≡ y + 0xFFFFFF00 = ap (λ (v : Bool). if v then y else y + 0xFFFFFF00) (le-ltb y 0x80 l) in
        (omega arith, omega arith)

pub by_mode : (base disp mode : ℕ) (u : List ℕ) → disp < 2 ^ 32 → (k : ℕ) → mode_of disp base ≡ k → k ≤ mode → mode ≤ 2 → (k ≡ mode → displacement_by k disp ≡ take (displacement_bytes mode true) u) → Shorter base mode disp u
by_mode base disp mode u l k e low high h =
    record {
      upto = elim (cases_lt k mode) [
        | inl p ↦ inl (omega (arith, ap (λ (n : ℕ). length (displacement_by n disp)) e, fewer k mode p high))
        | inr p ↦
            let same : k ≡ mode = omega arith in
            inr (e ∙ same, ap (λ (n : ℕ). displacement_by n disp) e ∙ h same)
      ];
      fits = l;
    }
  where
    fewer : (k mode : ℕ) → k < mode → mode ≤ 2 → length (displacement_by k disp) < displacement_bytes mode true
    fewer zero zero p q = absurd (omega arith)
    fewer zero (suc zero) p q = omega arith
    fewer zero (suc (suc zero)) p q = omega arith
    fewer (suc zero) zero p q = absurd (omega arith)
    fewer (suc zero) (suc zero) p q = absurd (omega arith)
    fewer (suc zero) (suc (suc zero)) p q = omega arith
    fewer (suc (suc k)) zero p q = absurd (omega arith)
    fewer (suc (suc k)) (suc zero) p q = absurd (omega arith)
    fewer (suc (suc k)) (suc (suc zero)) p q = absurd (omega arith)
    fewer k (suc (suc (suc m))) p q = absurd (omega arith)
