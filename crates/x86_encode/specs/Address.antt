-- The least bytes that name an operand: ModRM, SIB and displacement. Intel SDM, volume 2, section 2.1.5, tables 2-2 and
-- 2-3; `field` is ModRM's reg field.
use Rattle.std.specs.Prelude.{ℕ, zero, suc, ◌+◌, ◌*◌, ◌/◌, ◌%◌, ◌^◌, Bool, not, ◌&&◌, List, [], ◌∷◌, Option, Some, None, nat_lt, ◌==◌, if◌then◌else◌}
use Rattle.x86_insn.specs.declared.insn.Reg.{Reg}
use Rattle.x86_insn.specs.declared.insn.Rm.{Rm}
use Rattle.x86_insn.specs.declared.insn.Rm.TheVariants.{R, M}
use Rattle.x86_insn.specs.Addressing.{sign_extended}
use Rattle.x86_insn.specs.State.{reg_number}

-- a number as two bytes, and as four, the least first
abbrev pub half_bytes : ℕ → List ℕ
half_bytes n = n % 2 ^ 8 ∷ n / 2 ^ 8 % 2 ^ 8 ∷ []

abbrev pub dword_bytes : ℕ → List ℕ
dword_bytes n = n % 2 ^ 8 ∷ n / 2 ^ 8 % 2 ^ 8 ∷ n / 2 ^ 16 % 2 ^ 8 ∷ n / 2 ^ 24 % 2 ^ 8 ∷ []

abbrev pub modrm : ℕ → ℕ → ℕ → ℕ
modrm mode field rm = 64 * mode + 8 * field + rm

-- a number modulo 2^32 is a byte's, extended by its sign
abbrev pub fits_byte : ℕ → Bool
fits_byte n = sign_extended 32 (n % 2 ^ 8) == n

-- the least mod field of a displacement behind a base register: EBP alone has no form without one
abbrev pub mode_of : ℕ → ℕ → ℕ
mode_of disp base = if (disp == 0) && not (base == 5) then 0 else (if fits_byte disp then 1 else 2)

abbrev pub displacement_by : ℕ → ℕ → List ℕ
displacement_by zero disp = []
displacement_by (suc zero) disp = disp % 2 ^ 8 ∷ []
displacement_by (suc (suc n)) disp = dword_bytes disp

-- a base register alone: ESP needs SIB
abbrev pub based : ℕ → ℕ → ℕ → List ℕ
based field base disp =
    if base == 4 then modrm (mode_of disp base) field 4 ∷ 0x24 ∷ displacement_by (mode_of disp base) disp
    else modrm (mode_of disp base) field base ∷ displacement_by (mode_of disp base) disp

-- the scale of a factor
abbrev pub scale_of : ℕ → Option ℕ
scale_of factor =
    if factor == 1 then Some 0 else (if factor == 2 then Some 1 else (if factor == 4 then Some 2 else (if factor == 8 then Some 3 else None)))

-- SIB's bits of an index register and its factor; ESP is none
abbrev pub scaled : ℕ → Option ℕ → Option ℕ
scaled index None = None
scaled index (Some scale) = if index == 4 then None else Some (64 * scale + 8 * index)

abbrev pub index_bits : Reg → ℕ → Option ℕ
index_bits index factor = scaled (reg_number index) (scale_of factor)

-- with an index, without a base and with one
abbrev pub indexed : ℕ → Option ℕ → ℕ → Option (List ℕ)
indexed field None disp = None
indexed field (Some bits) disp = Some (modrm 0 field 4 ∷ (bits + 5) ∷ dword_bytes disp)

abbrev pub indexed_from : ℕ → ℕ → Option ℕ → ℕ → Option (List ℕ)
indexed_from field base None disp = None
indexed_from field base (Some bits) disp =
    Some (modrm (mode_of disp base) field 4 ∷ (bits + base) ∷ displacement_by (mode_of disp base) disp)

abbrev pub memory_bytes : ℕ → Option Reg → Option (Reg × ℕ) → ℕ → Option (List ℕ)
memory_bytes field None None disp = Some (modrm 0 field 5 ∷ dword_bytes disp)
memory_bytes field None (Some p) disp = indexed field (index_bits p.0 p.1) disp
memory_bytes field (Some b) None disp = Some (based field (reg_number b) disp)
memory_bytes field (Some b) (Some p) disp = indexed_from field (reg_number b) (index_bits p.0 p.1) disp

abbrev pub address_bytes : ℕ → Rm → Option (List ℕ)
address_bytes field (R r) = Some (modrm 3 field (reg_number r) ∷ [])
address_bytes field (M m) = if nat_lt m.disp (2 ^ 32) then memory_bytes field m.base m.index m.disp else None
