-- The operand that a ModRM byte names. Intel SDM, volume 2, section 2.1.5, tables 2-2 and 2-3.
-- Each function takes the bytes from ModRM on; a byte that is missing counts as 0.
use Rattle.std.specs.Prelude.{ℕ, zero, suc, ◌+◌, ◌-◌, ◌*◌, ◌/◌, ◌%◌, ◌^◌, Bool, true, false, not, ◌&&◌, List, get_or, Some, None, nat_lt, ◌==◌, if◌then◌else◌}
use Rattle.x86_insn.specs.declared.insn.Reg.{Reg}
use Rattle.x86_insn.specs.declared.insn.Reg.TheVariants.{Eax, Ecx, Edx, Ebx, Esp, Ebp, Esi, Edi}
use Rattle.x86_insn.specs.declared.insn.Mem.{Mem}
use Rattle.x86_insn.specs.declared.insn.Rm.{Rm}
use Rattle.x86_insn.specs.declared.insn.Rm.TheVariants.{R, M}

-- the register of a number
abbrev pub reg_of : ℕ → Reg
reg_of zero = Eax
reg_of (suc zero) = Ecx
reg_of (suc (suc zero)) = Edx
reg_of (suc (suc (suc zero))) = Ebx
reg_of (suc (suc (suc (suc zero)))) = Esp
reg_of (suc (suc (suc (suc (suc zero))))) = Ebp
reg_of (suc (suc (suc (suc (suc (suc zero)))))) = Esi
reg_of (suc (suc (suc (suc (suc (suc (suc n))))))) = Edi

abbrev pub byte_at : List ℕ → ℕ → ℕ
byte_at s k = get_or s k 0

-- the number that four bytes from a place on spell
abbrev pub dword_at : List ℕ → ℕ → ℕ
dword_at s k = byte_at s k + 2 ^ 8 * byte_at s (k + 1) + 2 ^ 16 * byte_at s (k + 2) + 2 ^ 24 * byte_at s (k + 3)

-- a byte extended by its sign, modulo 2 to a width
abbrev pub sign_extended : ℕ → ℕ → ℕ
sign_extended bits b = if nat_lt b 0x80 then b else b + (2 ^ bits - 0x100)

-- the three fields of ModRM, and of SIB
abbrev pub mod_field : List ℕ → ℕ
mod_field s = byte_at s 0 / 64

abbrev pub reg_field : List ℕ → ℕ
reg_field s = byte_at s 0 / 8 % 8

abbrev pub rm_field : List ℕ → ℕ
rm_field s = byte_at s 0 % 8

abbrev pub scale_field : List ℕ → ℕ
scale_field s = byte_at s 1 / 64

abbrev pub index_field : List ℕ → ℕ
index_field s = byte_at s 1 / 8 % 8

abbrev pub base_field : List ℕ → ℕ
base_field s = byte_at s 1 % 8

abbrev pub names_memory : List ℕ → Bool
names_memory s = not (mod_field s == 3)

-- SIB follows where rm is 4 and the operand is memory
abbrev pub has_sib : List ℕ → Bool
has_sib s = names_memory s && (rm_field s == 4)

abbrev pub base_number : List ℕ → ℕ
base_number s = if has_sib s then base_field s else rm_field s

-- there is no base register where mod is 0 and its number is 5
abbrev pub has_base : List ℕ → Bool
has_base s = not ((mod_field s == 0) && (base_number s == 5))

-- where the displacement begins
abbrev pub displacement_place : List ℕ → ℕ
displacement_place s = if has_sib s then 2 else 1

-- the displacement's length, by mod and by whether there is a base register
abbrev pub displacement_bytes : ℕ → Bool → ℕ
displacement_bytes zero true = 0
displacement_bytes zero false = 4
displacement_bytes (suc zero) b = 1
displacement_bytes (suc (suc zero)) b = 4
displacement_bytes (suc (suc (suc n))) b = 0

-- the displacement, by its length
abbrev pub displacement_of : List ℕ → ℕ → ℕ
displacement_of s zero = 0
displacement_of s (suc zero) = sign_extended 32 (byte_at s (displacement_place s))
displacement_of s (suc (suc n)) = dword_at s (displacement_place s)

abbrev pub displacement_length : List ℕ → ℕ
displacement_length s = displacement_bytes (mod_field s) (has_base s)

-- the length of ModRM, SIB and displacement
abbrev pub address_length : List ℕ → ℕ
address_length s = displacement_place s + displacement_length s

-- the factor of a scale
abbrev pub factor_of : ℕ → ℕ
factor_of zero = 1
factor_of (suc zero) = 2
factor_of (suc (suc zero)) = 4
factor_of (suc (suc (suc n))) = 8

-- no register is the index where SIB's index field is 4
abbrev pub has_index : List ℕ → Bool
has_index s = has_sib s && not (index_field s == 4)

abbrev pub memory_of : List ℕ → Mem
memory_of s = record {
  base = if has_base s then Some (reg_of (base_number s)) else None;
  index = if has_index s then Some (reg_of (index_field s), factor_of (scale_field s)) else None;
  disp = displacement_of s (displacement_length s);
  gs = false;
}

abbrev pub rm_of : List ℕ → Rm
rm_of s = if names_memory s then M (memory_of s) else R (reg_of (rm_field s))

-- memory relative to GS, or not
abbrev pub with_gs : Bool → Rm → Rm
with_gs gs (R r) = R r
with_gs gs (M m) = M (record m { gs = gs })
