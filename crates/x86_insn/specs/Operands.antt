-- Registers by width, and effective addresses. Intel SDM, volume 1, sections 3.4.1 and 3.7; volume 2, section 2.1.
use Rattle.std.specs.Prelude.{ℕ, ◌+◌, ◌-◌, ◌*◌, ◌/◌, ◌%◌, ◌^◌, nat_lt, Bool, true, false, not, ◌&&◌, Option, Some, None, is_some, List, slice_index, slice_set, if◌then◌else◌}
use Rattle.byteorder.specs.Endian.{little_bytes}
use Rattle.x86_insn.specs.declared.flags.Flags.{Flags}
use Rattle.x86_insn.specs.declared.insn.Mem.{Mem}
use Rattle.x86_insn.specs.declared.insn.Reg.{Reg}
use Rattle.x86_insn.specs.declared.insn.Reg.TheVariants.{Eax, Esp}
use Rattle.x86_insn.specs.declared.insn.Width.{Width}
use Rattle.x86_insn.specs.declared.insn.Width.TheVariants.{B, W, D}
use Rattle.x86_insn.specs.State.{Core, reg_number}
use Rattle.x86_insn.specs.Values.{width_bytes, wrapped, signed_value}

-- ---- registers

-- a 32-bit register
abbrev pub reg : Core → Reg → ℕ
reg c r = slice_index c.regs (reg_number r)

-- a byte register by its number: AL, CL, DL, BL and then AH, CH, DH, BH
abbrev pub byte_reg : List ℕ → ℕ → ℕ
byte_reg regs k = if nat_lt k 4 then slice_index regs k % 2 ^ 8 else slice_index regs (k - 4) / 2 ^ 8 % 2 ^ 8

-- a register's value at a width
abbrev pub reg_value : Width → Core → Reg → ℕ
reg_value B c r = byte_reg c.regs (reg_number r)
reg_value W c r = reg c r % 2 ^ 16
reg_value D c r = reg c r

-- a number with another low byte, second byte, or low half
abbrev pub with_low_byte : ℕ → ℕ → ℕ
with_low_byte n b = n / 2 ^ 8 * 2 ^ 8 + b

abbrev pub with_second_byte : ℕ → ℕ → ℕ
with_second_byte n b = n / 2 ^ 16 * 2 ^ 16 + b * 2 ^ 8 + n % 2 ^ 8

abbrev pub with_low_half : ℕ → ℕ → ℕ
with_low_half n h = n / 2 ^ 16 * 2 ^ 16 + h

abbrev pub set_byte_reg : List ℕ → ℕ → ℕ → List ℕ
set_byte_reg regs k b =
    if nat_lt k 4 then slice_set regs k (with_low_byte (slice_index regs k) b)
    else slice_set regs (k - 4) (with_second_byte (slice_index regs (k - 4)) b)

-- the registers after one of them gets a value of a width; the rest of it stays
abbrev pub regs_with : Width → List ℕ → Reg → ℕ → List ℕ
regs_with B regs r n = set_byte_reg regs (reg_number r) n
regs_with W regs r n = slice_set regs (reg_number r) (with_low_half (slice_index regs (reg_number r)) n)
regs_with D regs r n = slice_set regs (reg_number r) n

abbrev pub set_reg : Width → Reg → ℕ → Core → Core
set_reg w r n c = record c { regs = regs_with w c.regs r n }

abbrev pub set_flags : Flags → Core → Core
set_flags f c = record c { flags = f }

-- AL, AX or EAX
abbrev pub accumulator : Width → Core → ℕ
accumulator w c = reg_value w c Eax

-- AH is the byte register of number 4
abbrev pub ah : Reg
ah = Esp

-- ---- addresses

-- an address so many below, modulo 2^32
abbrev pub address_before : ℕ → ℕ → ℕ
address_before a n = (a + 2 ^ 32 - n) % 2 ^ 32

abbrev pub base_part : Core → Option Reg → ℕ
base_part c None = 0
base_part c (Some r) = reg c r

abbrev pub index_part : Core → Option (Reg × ℕ) → ℕ
index_part c None = 0
index_part c (Some p) = reg c p.0 * p.1

-- GS's base, where the operand is relative to it
abbrev pub base_or_zero : Option ℕ → ℕ
base_or_zero None = 0
base_or_zero (Some base) = base

abbrev pub segment_part : Core → Bool → ℕ
segment_part c false = 0
segment_part c true = base_or_zero c.gs_base

-- base, index times its factor, and displacement, modulo 2^32
abbrev pub effective_address : Core → Mem → ℕ
effective_address c m = (segment_part c m.gs + base_part c m.base + index_part c m.index + m.disp) % 2 ^ 32

-- an operand that is relative to GS can't be reached where GS has no base
abbrev pub is_beyond : Core → Mem → Bool
is_beyond c m = m.gs && not (is_some c.gs_base)

-- ---- values

-- a value of a width as bytes, the least first
abbrev pub bytes_of : Width → ℕ → List ℕ
bytes_of w n = little_bytes (width_bytes w) n

-- a value of one width extended by its sign to another: what is left there of the number that it spells in two's
-- complement
abbrev pub sign_extended : Width → Width → ℕ → ℕ
sign_extended from to n = wrapped to (signed_value from n)
