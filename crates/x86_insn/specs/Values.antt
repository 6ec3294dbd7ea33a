-- Values and flags of the instructions that add, subtract and compare bit by bit, over whole numbers. Intel SDM, volume 2.
-- An operand is below 2 to the width. A flag that a line does not name is kept. AF after AND, OR, XOR and TEST, which
-- the SDM leaves undefined, is 0: this project's own.
use Rattle.std.specs.Prelude.{ℕ, ◌+◌, ◌-◌, ◌%◌, ◌^◌, Bool, true, false, not, ◌&&◌, if◌then◌else◌, ℤ, pos, neg_ℤ, ◌+ℤ◌, ◌-ℤ◌, int_lt, int_le, unsigned_abs, nat_lt, nat_le, ◌==◌, bit_and, bit_or, bit_xor, count_ones}
use Rattle.std.specs.Int.{int_rem_euclid, from_bool}
use Rattle.x86_insn.specs.declared.flags.Flags.{Flags}
use Rattle.x86_insn.specs.declared.insn.Width.{Width}
use Rattle.x86_insn.specs.declared.insn.Width.TheVariants.{B, W, D}
use Rattle.x86_insn.specs.declared.insn.AluOp.{AluOp}
use Rattle.x86_insn.specs.declared.insn.AluOp.TheVariants.{Add, Or, Adc, Sbb, And, Sub, Xor, Cmp}

-- ---- widths

abbrev pub width_bits : Width → ℕ
width_bits B = 8
width_bits W = 16
width_bits D = 32

abbrev pub width_bytes : Width → ℕ
width_bytes B = 1
width_bytes W = 2
width_bytes D = 4

-- 2 to the width
abbrev pub modulus : Width → ℕ
modulus w = 2 ^ width_bits w

-- 2 to the width less one: what the top bit is worth
abbrev pub half : Width → ℕ
half w = 2 ^ (width_bits w - 1)

-- what is left of a whole number at a width
abbrev pub wrapped : Width → ℤ → ℕ
wrapped w z = unsigned_abs (int_rem_euclid z (pos (modulus w)))

-- the number that a spells in two's complement
abbrev pub signed_value : Width → ℕ → ℤ
signed_value w a = if nat_lt a (half w) then pos a else pos a -ℤ pos (modulus w)

-- z is the signed value of some number of this width
abbrev pub in_signed_range : Width → ℤ → Bool
in_signed_range w z = int_le (neg_ℤ (pos (half w))) z && int_lt z (pos (half w))

-- ---- the flags of a result

abbrev pub top : Width → ℕ → Bool
top w r = nat_le (half w) r

-- the low eight bits have an even number of ones
abbrev pub even_ones : ℕ → Bool
even_ones r = count_ones (r % 256) % 2 == 0

-- SF, ZF and PF by a result
abbrev pub szp : Width → ℕ → Flags → Flags
szp w r f = record f { sf = top w r; zf = r == 0; pf = even_ones r }

-- ---- sums and differences with a carry c, 0 or 1

abbrev pub sum_value : Width → ℕ → ℕ → ℕ → ℕ
sum_value w a b c = (a + b + c) % modulus w

abbrev pub sum_flags : Width → ℕ → ℕ → ℕ → Flags → Flags
sum_flags w a b c f = record (szp w (sum_value w a b c) f) {
  cf = nat_le (modulus w) (a + b + c);
  af = nat_le 16 (a % 16 + b % 16 + c);
  of = not (in_signed_range w (signed_value w a +ℤ signed_value w b +ℤ pos c));
}

abbrev pub difference_value : Width → ℕ → ℕ → ℕ → ℕ
difference_value w a b c = wrapped w (pos a -ℤ pos b -ℤ pos c)

abbrev pub difference_flags : Width → ℕ → ℕ → ℕ → Flags → Flags
difference_flags w a b c f = record (szp w (difference_value w a b c) f) {
  cf = nat_lt a (b + c);
  af = nat_lt (a % 16) (b % 16 + c);
  of = not (in_signed_range w (signed_value w a -ℤ signed_value w b -ℤ pos c));
}

-- ---- AND, OR, XOR and TEST, by their result

abbrev pub logic_flags : Width → ℕ → Flags → Flags
logic_flags w r f = record (szp w r f) { cf = false; of = false; af = false }

abbrev pub test_flags : Width → ℕ → ℕ → Flags → Flags
test_flags w a b f = logic_flags w (bit_and a b) f

-- ---- ADD, OR, ADC, SBB, AND, SUB, XOR and CMP

-- CMP leaves its first operand as it is
abbrev pub alu_value : AluOp → Width → ℕ → ℕ → Flags → ℕ
alu_value Add w a b f = sum_value w a b 0
alu_value Or w a b f = bit_or a b
alu_value Adc w a b f = sum_value w a b (from_bool f.cf)
alu_value Sbb w a b f = difference_value w a b (from_bool f.cf)
alu_value And w a b f = bit_and a b
alu_value Sub w a b f = difference_value w a b 0
alu_value Xor w a b f = bit_xor a b
alu_value Cmp w a b f = a

abbrev pub alu_flags : AluOp → Width → ℕ → ℕ → Flags → Flags
alu_flags Add w a b f = sum_flags w a b 0 f
alu_flags Or w a b f = logic_flags w (bit_or a b) f
alu_flags Adc w a b f = sum_flags w a b (from_bool f.cf) f
alu_flags Sbb w a b f = difference_flags w a b (from_bool f.cf) f
alu_flags And w a b f = logic_flags w (bit_and a b) f
alu_flags Sub w a b f = difference_flags w a b 0 f
alu_flags Xor w a b f = logic_flags w (bit_xor a b) f
alu_flags Cmp w a b f = difference_flags w a b 0 f

-- ---- INC (up) and DEC, which keep CF

abbrev pub bump_value : Bool → Width → ℕ → ℕ
bump_value true w a = sum_value w a 1 0
bump_value false w a = difference_value w a 1 0

abbrev pub bump_flags : Bool → Width → ℕ → Flags → Flags
bump_flags true w a f = record (sum_flags w a 1 0 f) { cf = f.cf }
bump_flags false w a f = record (difference_flags w a 1 0 f) { cf = f.cf }

-- ---- NEG, which subtracts from 0, and NOT, which changes no flag

abbrev pub negate_value : Width → ℕ → ℕ
negate_value w a = difference_value w 0 a 0

abbrev pub negate_flags : Width → ℕ → Flags → Flags
negate_flags w a f = difference_flags w 0 a 0 f

abbrev pub not_value : Width → ℕ → ℕ
not_value w a = modulus w - 1 - a
