-- Products and quotients of signed numbers, as the code's i64 has them.
use Rattle.std.proofs.Common.{◌≡◌, ℕ, ◌^◌, ◌<◌, ◌≤◌, Bool, true, false, ℤ, pos, neg_ℤ, ◌*ℤ◌, refl, arith, nat_eq}
use Rattle.std.specs.Prelude.{Some, int_div, int_rem, int_le, int_lt, unsigned_abs, FitsSigned}
use Rattle.std.specs.Int.{w64}
use Rattle.std.proofs.lemmas.Int.{ints, fits_signed_mul}
use Rattle.x86_insn.specs.declared.flags.Flags.{Flags}
use Rattle.x86_insn.specs.declared.insn.Width.{Width}
use Rattle.x86_insn.specs.declared.insn.Width.TheVariants.{B, W, D}
use Rattle.x86_insn.specs.Values.{modulus, half, wrapped, signed_value}
use Rattle.x86_insn.specs.Products.{signed_dividend, signed_division, div_flags, div_of}

-- a signed value is small
abs_at_most : (w : Width) (a : ℕ) → a < modulus w → unsigned_abs (signed_value w a) ≤ 2 ^ 31
abs_at_most B a h = grind (arith, ints)
abs_at_most W a h = grind (arith, ints)
abs_at_most D a h = grind (arith, ints)

pub product_fits : (w : Width) (a b : ℕ) → a < modulus w → b < modulus w → FitsSigned w64 (signed_value w a *ℤ signed_value w b)
product_fits w a b h k =
    fits_signed_mul w64 (signed_value w a) (signed_value w b) (2 ^ 31) (2 ^ 31) (abs_at_most w a h) (abs_at_most w b k) (omega arith)

-- what IDIV answers where the quotient fits
pub quotient_fits : (w : Width) (n d q : ℤ) (f : Flags) → q ≡ int_div n d → int_le (neg_ℤ (pos (half w))) q ≡ true → int_lt q (pos (half w)) ≡ true → Some (wrapped w q, wrapped w (int_rem n d), div_flags f) ≡ signed_division w n d f
quotient_fits w n d q f e low high = rw (← e, low, high) refl

-- the division of IDIV
pub signed_answer : (s : Bool) (w : Width) (high low by : ℕ) (n d : ℤ) (f : Flags) → s ≡ true → nat_eq by 0 ≡ false → n ≡ signed_dividend w high low → d ≡ signed_value w by → signed_division w n d f ≡ div_of s w high low by f
signed_answer s w high low by n d f signed some en ed = rw (signed, some, en, ed) refl
