-- Values and flags of products and quotients, over whole numbers. Intel SDM, volume 2. What the SDM leaves undefined is
-- this project's own: SF, ZF, AF and PF after MUL, ZF, AF and PF after IMUL, and all six flags after DIV and IDIV are 0.
use Rattle.std.specs.Prelude.{ℕ, ◌+◌, ◌*◌, ◌/◌, ◌%◌, Bool, true, false, not, ◌&&◌, if◌then◌else◌, ℤ, pos, ◌-ℤ◌, ◌*ℤ◌, int_div, int_rem, unsigned_abs, nat_lt, ◌==◌, Option, Some, None}
use Rattle.std.specs.Int.{int_rem_euclid}
use Rattle.x86_insn.specs.declared.flags.Flags.{Flags}
use Rattle.x86_insn.specs.declared.insn.Width.{Width}
use Rattle.x86_insn.specs.Values.{modulus, half, wrapped, signed_value, in_signed_range, top}

-- ---- MUL and IMUL (signed)

-- the product as a word of two widths
abbrev pub product : Bool → Width → ℕ → ℕ → ℕ
product false w a b = a * b
product true w a b = unsigned_abs (int_rem_euclid (signed_value w a *ℤ signed_value w b) (pos (modulus w * modulus w)))

abbrev pub mul_low : Bool → Width → ℕ → ℕ → ℕ
mul_low signed w a b = product signed w a b % modulus w

abbrev pub mul_high : Bool → Width → ℕ → ℕ → ℕ
mul_high signed w a b = product signed w a b / modulus w

-- the product is more than its low half: for MUL the high half isn't 0, for IMUL the product isn't the sign extension of
-- its low half, and so lies outside the signed range
abbrev pub exceeds_low : Bool → Width → ℕ → ℕ → Bool
exceeds_low false w a b = not (mul_high false w a b == 0)
exceeds_low true w a b = not (in_signed_range w (signed_value w a *ℤ signed_value w b))

abbrev pub mul_flags : Bool → Width → ℕ → ℕ → Flags → Flags
mul_flags signed w a b f = record f {
  cf = exceeds_low signed w a b;
  of = exceeds_low signed w a b;
  sf = signed && top w (mul_low signed w a b);
  zf = false;
  af = false;
  pf = false;
}

-- ---- DIV and IDIV (signed): quotient, remainder and flags, or nothing where they trap

abbrev pub div_flags : Flags → Flags
div_flags f = record f { cf = false; of = false; sf = false; zf = false; af = false; pf = false }

-- the dividend's two halves as one number
abbrev pub dividend : Width → ℕ → ℕ → ℕ
dividend w high low = high * modulus w + low

abbrev pub signed_dividend : Width → ℕ → ℕ → ℤ
signed_dividend w high low =
    if nat_lt high (half w) then pos (dividend w high low) else pos (dividend w high low) -ℤ pos (modulus w * modulus w)

-- an answer where the quotient fits
abbrev pub if_fits : Bool → ℕ → ℕ → Flags → Option (ℕ × ℕ × Flags)
if_fits fits quotient remainder f = if fits then Some (quotient, remainder, div_flags f) else None

-- n divided by d: toward 0, the remainder with the dividend's sign
abbrev pub unsigned_division : Width → ℕ → ℕ → Flags → Option (ℕ × ℕ × Flags)
unsigned_division w n d f = if_fits (nat_lt (n / d) (modulus w)) (n / d) (n % d) f

abbrev pub signed_division : Width → ℤ → ℤ → Flags → Option (ℕ × ℕ × Flags)
signed_division w n d f =
    if_fits (in_signed_range w (int_div n d)) (wrapped w (int_div n d)) (wrapped w (int_rem n d)) f

abbrev pub division : Bool → Width → ℕ → ℕ → ℕ → Flags → Option (ℕ × ℕ × Flags)
division false w high low by f = unsigned_division w (dividend w high low) by f
division true w high low by f = signed_division w (signed_dividend w high low) (signed_value w by) f

-- no division by 0
abbrev pub div_of : Bool → Width → ℕ → ℕ → ℕ → Flags → Option (ℕ × ℕ × Flags)
div_of signed w high low by f = if by == 0 then None else division signed w high low by f
