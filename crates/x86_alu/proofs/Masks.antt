-- One bit of a number set, reset and complemented by a mask.
use Rattle.std.proofs.Common.{◌≡◌, ℕ, ◌+◌, ◌-◌, ◌*◌, ◌%◌, ◌^◌, ◌<◌, bit_and, bit_or, arith}
use Rattle.std.specs.Prelude.{bit_xor}
use Rattle.std.specs.Int.Bits.{or_add_and, xor_add_and}
use Rattle.std.proofs.lemmas.Nat.{one_shl, and-not, or_lt, xor_lt, pow_below, and_comm}
use Rattle.std.proofs.lemmas.Nat.Bits.{and_pow, bit_at-lt}
use Rattle.x86_insn.specs.declared.insn.BitOp.TheVariants.{Bts, Btr, Btc}
use Rattle.x86_insn.specs.Bits.{at_bit}

mask : (k : ℕ) → k < 32 → 1 * 2 ^ k % 2 ^ 32 ≡ 2 ^ k
mask k h = one_shl k 32 h

pub set_bit : (a k : ℕ) → k < 32 → bit_or a (1 * 2 ^ k % 2 ^ 32) ≡ at_bit Bts a k
set_bit a k h = rw (mask k h) (grind (arith, or_add_and a (2 ^ k), and_pow a k, bit_at-lt a k))

pub complemented_bit : (a k : ℕ) → k < 32 → bit_xor a (1 * 2 ^ k % 2 ^ 32) ≡ at_bit Btc a k
complemented_bit a k h = rw (mask k h) (grind (arith, xor_add_and a (2 ^ k), and_pow a k, bit_at-lt a k))

pub reset_bit : (a k : ℕ) → k < 32 → a < 2 ^ 32 → bit_and a (2 ^ 32 - 1 - 1 * 2 ^ k % 2 ^ 32) ≡ at_bit Btr a k
reset_bit a k h fits =
    let split : bit_and (2 ^ 32 - 1 - 2 ^ k) a + bit_and (2 ^ k) a ≡ a = and-not 32 (2 ^ k) a (pow_below k 32 h) fits in
    rw (mask k h, and_comm a (2 ^ 32 - 1 - 2 ^ k)) (grind (arith, split, and_comm (2 ^ k) a, and_pow a k, bit_at-lt a k))

pub set_bit_below : (a k m : ℕ) → k < 32 → k < m → a < 2 ^ m → bit_or a (1 * 2 ^ k % 2 ^ 32) < 2 ^ m
set_bit_below a k m h within fits = rw (mask k h) (or_lt m a (2 ^ k) fits (pow_below k m within))

pub complemented_bit_below : (a k m : ℕ) → k < 32 → k < m → a < 2 ^ m → bit_xor a (1 * 2 ^ k % 2 ^ 32) < 2 ^ m
complemented_bit_below a k m h within fits = rw (mask k h) (xor_lt m a (2 ^ k) fits (pow_below k m within))
