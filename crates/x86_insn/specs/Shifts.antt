-- Values and flags of shifts and rotates, over whole numbers. Intel SDM, volume 2.
-- A count is taken modulo 32; a shift by 0 changes nothing. What the SDM leaves undefined is this project's own: OF after
-- a shift by more than 1 is 0, AF after a shift is 0, and CF after SHL and SHR by the width or more is 0.
use Rattle.std.specs.Prelude.{ℕ, ◌+◌, ◌-◌, ◌*◌, ◌/◌, ◌%◌, ◌^◌, Bool, true, false, not, ◌&&◌, if◌then◌else◌, ℤ, pos, unsigned_abs, nat_lt, ◌==◌}
use Rattle.std.specs.Bool.{beq}
use Rattle.std.specs.Int.{int_div_euclid, int_rem_euclid, from_bool}
use Rattle.x86_insn.specs.declared.flags.Flags.{Flags}
use Rattle.x86_insn.specs.declared.insn.Width.{Width}
use Rattle.x86_insn.specs.declared.insn.Width.TheVariants.{D}
use Rattle.x86_insn.specs.declared.insn.ShiftOp.{ShiftOp}
use Rattle.x86_insn.specs.declared.insn.ShiftOp.TheVariants.{Rol, Ror, Rcl, Rcr, Shl, Shr, Sar}
use Rattle.x86_insn.specs.Values.{width_bits, modulus, wrapped, signed_value, top, szp}

-- how far a count goes
abbrev pub places : ℕ → ℕ
places count = count % 32

-- bit k of a
abbrev pub is_set : ℕ → ℕ → Bool
is_set k a = a / 2 ^ k % 2 == 1

-- one of the two alone
abbrev pub differ : Bool → Bool → Bool
differ a b = not (beq a b)

-- a signed number divided by 2 to the n, rounded down
abbrev pub halved : ℕ → ℤ → ℤ
halved n z = int_div_euclid z (pos (2 ^ n))

-- a word of m bits, rotated by s of them, at most m: what leaves it at one end comes in at the other
abbrev pub rotated_left : ℕ → ℕ → ℕ → ℕ
rotated_left m s a = a % 2 ^ (m - s) * 2 ^ s + a / 2 ^ (m - s)

abbrev pub rotated_right : ℕ → ℕ → ℕ → ℕ
rotated_right m s a = a % 2 ^ s * 2 ^ (m - s) + a / 2 ^ s

-- the word of one bit more than the width that has CF on top of a
abbrev pub with_carry : Width → ℕ → Flags → ℕ
with_carry w a f = from_bool f.cf * modulus w + a

-- that word, rotated
abbrev pub carried_left : Width → ℕ → ℕ → Flags → ℕ
carried_left w a n f = rotated_left (width_bits w + 1) (n % (width_bits w + 1)) (with_carry w a f)

abbrev pub carried_right : Width → ℕ → ℕ → Flags → ℕ
carried_right w a n f = rotated_right (width_bits w + 1) (n % (width_bits w + 1)) (with_carry w a f)

-- ---- by n places, n above 0

abbrev pub shifted : ShiftOp → Width → ℕ → ℕ → Flags → ℕ
shifted Rol w a n f = rotated_left (width_bits w) (n % width_bits w) a
shifted Ror w a n f = rotated_right (width_bits w) (n % width_bits w) a
shifted Rcl w a n f = carried_left w a n f % modulus w
shifted Rcr w a n f = carried_right w a n f % modulus w
shifted Shl w a n f = a * 2 ^ n % modulus w
shifted Shr w a n f = a / 2 ^ n
shifted Sar w a n f = wrapped w (halved n (signed_value w a))

-- the new CF
abbrev pub shifted_out : ShiftOp → Width → ℕ → ℕ → Flags → Bool
shifted_out Rol w a n f = is_set 0 (shifted Rol w a n f)
shifted_out Ror w a n f = top w (shifted Ror w a n f)
shifted_out Rcl w a n f = is_set (width_bits w) (carried_left w a n f)
shifted_out Rcr w a n f = is_set (width_bits w) (carried_right w a n f)
shifted_out Shl w a n f = nat_lt n (width_bits w) && is_set (width_bits w - n) a
shifted_out Shr w a n f = nat_lt n (width_bits w) && is_set (n - 1) a
shifted_out Sar w a n f = unsigned_abs (int_rem_euclid (halved (n - 1) (signed_value w a)) (pos 2)) == 1

-- OF after a shift by 1
abbrev pub overflow_of_one : ShiftOp → Width → ℕ → Flags → Bool
overflow_of_one Rol w a f = differ (top w (shifted Rol w a 1 f)) (shifted_out Rol w a 1 f)
overflow_of_one Ror w a f = differ (top w (shifted Ror w a 1 f)) (is_set (width_bits w - 2) (shifted Ror w a 1 f))
overflow_of_one Rcl w a f = differ (top w (shifted Rcl w a 1 f)) (shifted_out Rcl w a 1 f)
overflow_of_one Rcr w a f = differ (top w a) f.cf
overflow_of_one Shl w a f = differ (top w (shifted Shl w a 1 f)) (shifted_out Shl w a 1 f)
overflow_of_one Shr w a f = top w a
overflow_of_one Sar w a f = false

-- a rotate changes CF and OF alone
abbrev pub kept_or_szp : ShiftOp → Width → ℕ → Flags → Flags
kept_or_szp Rol w r f = f
kept_or_szp Ror w r f = f
kept_or_szp Rcl w r f = f
kept_or_szp Rcr w r f = f
kept_or_szp Shl w r f = record (szp w r f) { af = false }
kept_or_szp Shr w r f = record (szp w r f) { af = false }
kept_or_szp Sar w r f = record (szp w r f) { af = false }

abbrev pub shifted_flags : ShiftOp → Width → ℕ → ℕ → Flags → Flags
shifted_flags op w a n f = record (kept_or_szp op w (shifted op w a n f) f) {
  cf = shifted_out op w a n f;
  of = (n == 1) && overflow_of_one op w a f;
}

-- ---- ROL, ROR, RCL, RCR, SHL, SHR and SAR by a count

abbrev pub shift_value : ShiftOp → Width → ℕ → ℕ → Flags → ℕ
shift_value op w a count f = if places count == 0 then a else shifted op w a (places count) f

abbrev pub shift_flags : ShiftOp → Width → ℕ → ℕ → Flags → Flags
shift_flags op w a count f = if places count == 0 then f else shifted_flags op w a (places count) f

-- ---- SHLD (left) and SHRD by a count: 32 bits, filled from b

-- by n places
abbrev pub filled : Bool → ℕ → ℕ → ℕ → ℕ
filled true a b n = a * 2 ^ n % 2 ^ 32 + b / 2 ^ (32 - n)
filled false a b n = a / 2 ^ n + b % 2 ^ n * 2 ^ (32 - n)

-- the last bit shifted out, n above 0
abbrev pub filled_out : Bool → ℕ → ℕ → Bool
filled_out true a n = is_set (32 - n) a
filled_out false a n = is_set (n - 1) a

abbrev pub filled_flags : Bool → ℕ → ℕ → ℕ → Flags → Flags
filled_flags left a b n f = record (szp D (filled left a b n) f) {
  cf = filled_out left a n;
  of = (n == 1) && differ (top D (filled left a b 1)) (top D a);
  af = false;
}

abbrev pub double_value : Bool → ℕ → ℕ → ℕ → ℕ
double_value left a b count = if places count == 0 then a else filled left a b (places count)

abbrev pub double_flags : Bool → ℕ → ℕ → ℕ → Flags → Flags
double_flags left a b count f = if places count == 0 then f else filled_flags left a b (places count) f
