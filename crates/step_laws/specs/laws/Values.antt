-- Each value that an instruction computes fits its width.
use Rattle.std.specs.Prelude.{◌≡◌, ℕ, ◌+◌, ◌-◌, ◌*◌, ◌/◌, ◌%◌, ◌^◌, ◌<◌, ◌≤◌, Bool, true, false, Option, Some, None, ℤ, pos, negsuc, unsigned_abs, ◌==◌, bit_or, bit_xor, if◌then◌else◌}
use Rattle.std.specs.Int.{int_rem_euclid}
use Rattle.std.specs.Int.Bits.{and_lt, or_add_and, xor_add_and}
use Rattle.std.proofs.Common.{refl, sym, ap, ◌∙◌, subst, arith, div-le_self}
use Rattle.std.proofs.lemmas.Bool.{ltb-true}
use Rattle.std.proofs.lemmas.Nat.{pow_pos, pow-add, mod_below, div_below, shr_below, mul-add-lt, pow_below, or_lt, xor_lt, mul-lt, trailing_le, mod-pow-add, mod_low, shl-shr}
use Rattle.std.proofs.lemmas.Nat.Bits.{and_pow, bit_at-lt}
use Rattle.x86_insn.specs.declared.flags.Flags.{Flags}
use Rattle.x86_insn.specs.declared.insn.Width.{Width}
use Rattle.x86_insn.specs.declared.insn.Width.TheVariants.{B, W, D}
use Rattle.x86_insn.specs.declared.insn.AluOp.{AluOp}
use Rattle.x86_insn.specs.declared.insn.AluOp.TheVariants.{Add, Or, Adc, Sbb, And, Sub, Xor, Cmp}
use Rattle.x86_insn.specs.declared.insn.BitOp.{BitOp}
use Rattle.x86_insn.specs.declared.insn.BitOp.TheVariants.{Bt, Bts, Btr, Btc}
use Rattle.x86_insn.specs.declared.insn.ShiftOp.{ShiftOp}
use Rattle.x86_insn.specs.declared.insn.ShiftOp.TheVariants.{Rol, Ror, Rcl, Rcr, Shl, Shr, Sar}
use Rattle.x86_insn.specs.Values.{width_bits, modulus, wrapped, sum_value, difference_value, alu_value, bump_value, not_value}
use Rattle.x86_insn.specs.Shifts.{places, is_set, rotated_left, rotated_right, shifted, shift_value, filled, double_value}
use Rattle.x86_insn.specs.Products.{product, mul_low, mul_high, if_fits, division, div_of, dividend}
use Rattle.x86_insn.specs.Bits.{at_bit, bit_value, scan_value}

-- ---- widths

pub modulus_pos : (w : Width) → 0 < modulus w
modulus_pos B = omega arith
modulus_pos W = omega arith
modulus_pos D = omega arith

pub modulus_most : (w : Width) → modulus w ≤ 2 ^ 32
modulus_most B = omega arith
modulus_most W = omega arith
modulus_most D = omega arith

pub byte_fits : (w : Width) (n : ℕ) → n < 256 → n < modulus w
byte_fits B n h = h
byte_fits W n h = omega arith
byte_fits D n h = omega arith

pub mod_fits : (w : Width) (n : ℕ) → n % modulus w < modulus w
mod_fits w n = mod_below n (modulus w) (modulus_pos w)

-- what is left of a whole number below a positive one
remainder_below : (z : ℤ) (m : ℕ) → 0 < m → unsigned_abs (int_rem_euclid z (pos m)) < m
remainder_below (pos a) m h = mod_below a m h
remainder_below (negsuc a) m h = omega (arith, h)

pub wrapped_fits : (w : Width) (z : ℤ) → wrapped w z < modulus w
wrapped_fits w z = remainder_below z (modulus w) (modulus_pos w)

-- ---- sums and logic

pub sum_fits : (w : Width) (a b c : ℕ) → sum_value w a b c < modulus w
sum_fits w a b c = mod_fits w (a + b + c)

pub difference_fits : (w : Width) (a b c : ℕ) → difference_value w a b c < modulus w
difference_fits w a b c = wrapped_fits w _

pub alu_fits : (op : AluOp) (w : Width) (a b : ℕ) (f : Flags) → a < modulus w → b < modulus w → alu_value op w a b f < modulus w
alu_fits Add w a b f h k = sum_fits w a b 0
alu_fits Or w a b f h k = or_lt (width_bits w) a b h k
alu_fits Adc w a b f h k = sum_fits w a b _
alu_fits Sbb w a b f h k = difference_fits w a b _
alu_fits And w a b f h k = and_lt (width_bits w) a b h k
alu_fits Sub w a b f h k = difference_fits w a b 0
alu_fits Xor w a b f h k = xor_lt (width_bits w) a b h k
alu_fits Cmp w a b f h k = h

pub bump_fits : (up : Bool) (w : Width) (a : ℕ) → bump_value up w a < modulus w
bump_fits true w a = sum_fits w a 1 0
bump_fits false w a = difference_fits w a 1 0

pub not_fits : (w : Width) (a : ℕ) → not_value w a < modulus w
not_fits w a = omega (arith, modulus_pos w)

-- ---- products and quotients

square_pos : (w : Width) → 0 < modulus w * modulus w
square_pos B = omega arith
square_pos W = omega arith
square_pos D = omega arith

product_below : (signed : Bool) (w : Width) (a b : ℕ) → a < modulus w → b < modulus w → product signed w a b < modulus w * modulus w
product_below true w a b h k = remainder_below _ (modulus w * modulus w) (square_pos w)
product_below false w a b h k = mul-lt a b (modulus w) (modulus w) h k

pub low_fits : (signed : Bool) (w : Width) (a b : ℕ) → mul_low signed w a b < modulus w
low_fits signed w a b = mod_fits w (product signed w a b)

pub high_fits : (signed : Bool) (w : Width) (a b : ℕ) → a < modulus w → b < modulus w → mul_high signed w a b < modulus w
high_fits signed w a b h k = div_below (product signed w a b) (modulus w) (modulus w) (modulus_pos w) (product_below signed w a b h k)

-- a quotient and a remainder, where there are any
abbrev pub FitBoth : Width → Option (ℕ × ℕ × Flags) → Type 0
FitBoth w None = Unit {0}
FitBoth w (Some d) = (d.0 < modulus w) × (d.1 < modulus w)

if_fits_both : (w : Width) (t : Bool) (q r : ℕ) (f : Flags) → (t ≡ true → q < modulus w) → r < modulus w → FitBoth w (if_fits t q r f)
if_fits_both w true q r f h k = (h refl, k)
if_fits_both w false q r f h k = tt

division_fits : (signed : Bool) (w : Width) (high low by : ℕ) (f : Flags) → 0 < by → by < modulus w → FitBoth w (division signed w high low by f)
division_fits false w high low by f some h =
    if_fits_both w _ _ _ f (ltb-true (dividend w high low / by) (modulus w)) (let r = mod_below (dividend w high low) by some in omega (arith, r, h))
division_fits true w high low by f some h = if_fits_both w _ _ _ f (λ t. wrapped_fits w _) (wrapped_fits w _)

pub div_fits : (signed : Bool) (w : Width) (high low by : ℕ) (f : Flags) → by < modulus w → FitBoth w (div_of signed w high low by f)
div_fits signed w high low by f h = go (by == 0) refl
  where
    go : (t : Bool) → (by == 0) ≡ t → FitBoth w (if t then None else division signed w high low by f)
    go true e = tt
    go false e = division_fits signed w high low by f (grind (arith, e)) h

-- ---- shifts

turned_below : (m s low x : ℕ) → m ≡ s + low → x < 2 ^ m → x % 2 ^ low * 2 ^ s + x / 2 ^ low < 2 ^ m
turned_below m s low x e fits =
    let below : x % 2 ^ low < 2 ^ low = mod_below x (2 ^ low) (pow_pos low) in
    let fits' : x < 2 ^ (s + low) = subst (λ k. x < 2 ^ k) e fits in
    let high : x / 2 ^ low < 2 ^ s = shr_below x s low fits' in
    rw (e, pow-add 2 s low) (mul-add-lt (x % 2 ^ low) (2 ^ s) (x / 2 ^ low) (2 ^ low) below high)

left_below : (m s x : ℕ) → s ≤ m → x < 2 ^ m → rotated_left m s x < 2 ^ m
left_below m s x h fits = turned_below m s (m - s) x (omega arith) fits

right_below : (m s x : ℕ) → s ≤ m → x < 2 ^ m → rotated_right m s x < 2 ^ m
right_below m s x h fits = turned_below m (m - s) s x (omega arith) fits

bits_pos : (w : Width) → 0 < width_bits w
bits_pos B = omega arith
bits_pos W = omega arith
bits_pos D = omega arith

shifted_fits : (op : ShiftOp) (w : Width) (a n : ℕ) (f : Flags) → a < modulus w → shifted op w a n f < modulus w
shifted_fits Rol w a n f h = left_below (width_bits w) (n % width_bits w) a (let r = mod_below n (width_bits w) (bits_pos w) in omega (arith, r)) h
shifted_fits Ror w a n f h = right_below (width_bits w) (n % width_bits w) a (let r = mod_below n (width_bits w) (bits_pos w) in omega (arith, r)) h
shifted_fits Rcl w a n f h = mod_fits w _
shifted_fits Rcr w a n f h = mod_fits w _
shifted_fits Shl w a n f h = mod_fits w _
shifted_fits Shr w a n f h = omega (arith, div-le_self a (2 ^ n), h)
shifted_fits Sar w a n f h = wrapped_fits w _

either_below : (t : Bool) (a b m : ℕ) → a < m → b < m → (if t then a else b) < m
either_below true a b m h k = h
either_below false a b m h k = k

pub shift_fits : (op : ShiftOp) (w : Width) (a n : ℕ) (f : Flags) → a < modulus w → shift_value op w a n f < modulus w
shift_fits op w a n f h = either_below _ _ _ _ h (shifted_fits op w a (places n) f h)

-- a shift to the left drops the top bits
shifted_low : (m a n low : ℕ) → m ≡ low + n → a * 2 ^ n % 2 ^ m ≡ a % 2 ^ low * 2 ^ n
shifted_low m a n low e =
    let split : a * 2 ^ n % 2 ^ (low + n) ≡ (a * 2 ^ n / 2 ^ n % 2 ^ low) * 2 ^ n + a * 2 ^ n % 2 ^ n = mod-pow-add (a * 2 ^ n) low n in
    let none : a * 2 ^ n % 2 ^ n ≡ 0 = grind (arith, mod_low a n 0 (pow_pos n)) in
    rw e (rw (shl-shr a n, none) at split ∙ omega arith)

filled_below : (left : Bool) (a b n : ℕ) → n < 32 → a < 2 ^ 32 → b < 2 ^ 32 → filled left a b n < 2 ^ 32
filled_below true a b n s h k =
    let e : 32 ≡ n + (32 - n) = omega arith in
    let low : a * 2 ^ n % 2 ^ 32 ≡ a % 2 ^ (32 - n) * 2 ^ n = shifted_low 32 a n (32 - n) (omega arith) in
    let high : b / 2 ^ (32 - n) < 2 ^ n = shr_below b n (32 - n) (subst (λ j. b < 2 ^ j) e k) in
    let sum = mul-add-lt (a % 2 ^ (32 - n)) (2 ^ n) (b / 2 ^ (32 - n)) (2 ^ (32 - n)) (mod_below a (2 ^ (32 - n)) (pow_pos (32 - n))) high in
    subst (λ j. a * 2 ^ n % 2 ^ 32 + b / 2 ^ (32 - n) < j) (sym (ap (λ j. 2 ^ j) e ∙ pow-add 2 n (32 - n))) (subst (λ j. j + b / 2 ^ (32 - n) < 2 ^ n * 2 ^ (32 - n)) (sym low) sum)
filled_below false a b n s h k =
    let e : 32 ≡ 32 - n + n = omega arith in
    let low : a / 2 ^ n < 2 ^ (32 - n) = shr_below a (32 - n) n (subst (λ j. a < 2 ^ j) e h) in
    let sum = mul-add-lt (b % 2 ^ n) (2 ^ (32 - n)) (a / 2 ^ n) (2 ^ n) (mod_below b (2 ^ n) (pow_pos n)) low in
    subst (λ j. a / 2 ^ n + b % 2 ^ n * 2 ^ (32 - n) < j) (sym (ap (λ j. 2 ^ j) e ∙ pow-add 2 (32 - n) n)) (omega (arith, sum))

pub double_fits : (left : Bool) (a b n : ℕ) → a < 2 ^ 32 → b < 2 ^ 32 → double_value left a b n < 2 ^ 32
double_fits left a b n h k = either_below _ _ _ _ h (filled_below left a b (places n) (omega arith) h k)

-- ---- bits

set_bit : (a k : ℕ) → bit_or a (2 ^ k) ≡ at_bit Bts a k
set_bit a k = grind (arith, or_add_and a (2 ^ k), and_pow a k, bit_at-lt a k)

other_bit : (a k : ℕ) → bit_xor a (2 ^ k) ≡ at_bit Btc a k
other_bit a k = grind (arith, xor_add_and a (2 ^ k), and_pow a k, bit_at-lt a k)

at_bit_below : (op : BitOp) (a k m : ℕ) → k < m → a < 2 ^ m → at_bit op a k < 2 ^ m
at_bit_below Bt a k m h fits = fits
at_bit_below Bts a k m h fits = subst (λ n. n < 2 ^ m) (set_bit a k) (or_lt m a (2 ^ k) fits (pow_below k m h))
at_bit_below Btr a k m h fits = either_below (is_set k a) (a - 2 ^ k) a (2 ^ m) (omega (arith, fits)) fits
at_bit_below Btc a k m h fits = subst (λ n. n < 2 ^ m) (other_bit a k) (xor_lt m a (2 ^ k) fits (pow_below k m h))

pub bit_fits : (op : BitOp) (w : Width) (a index : ℕ) → a < modulus w → bit_value op w a index < modulus w
bit_fits op w a index h = at_bit_below op a (index % width_bits w) (width_bits w) (mod_below index (width_bits w) (bits_pos w)) h

-- a place of a bit is a small number
abbrev pub FitsIfSome : Width → Option ℕ → Type 0
FitsIfSome w None = Unit {0}
FitsIfSome w (Some k) = k < modulus w

none_or_fits : (w : Width) (t : Bool) (k : ℕ) → k < modulus w → FitsIfSome w (if t then None else Some k)
none_or_fits w true k h = tt
none_or_fits w false k h = h

pub scan_fits : (up : Bool) (w : Width) (a : ℕ) → FitsIfSome w (scan_value up a)
scan_fits true w a = none_or_fits w (a == 0) _ (byte_fits w _ (let t = trailing_le 32 a in omega (arith, t)))
scan_fits false w a = none_or_fits w (a == 0) _ (byte_fits w _ (omega arith))
