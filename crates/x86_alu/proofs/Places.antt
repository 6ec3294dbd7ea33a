-- The lowest and the highest bit that is set.
use Rattle.std.proofs.Common.{◌≡◌, ℕ, suc, ◌+◌, ◌-◌, ◌/◌, ◌^◌, ◌<◌, ◌≤◌, arith, eq-eqb, inl, inr}
use Rattle.std.specs.Int.{w32, trailing_zeros, leading_zeros, bit_at}
use Rattle.std.proofs.lemmas.Nat.{pow_pos, le-div, div_below, leading_top}
use Rattle.std.proofs.lemmas.Bool.{cases_lt}
use Rattle.std.proofs.Math.Nat.{pow-suc}
use Rattle.std.proofs.lemmas.Nat.Bits.{bit_at-trailing_zeros, bit_at_above}
use Rattle.std.specs.Prelude.{IsTrue}
use Rattle.x86_insn.specs.declared.insn.Width.{Width}
use Rattle.x86_insn.specs.Values.{width_bits, modulus}
use Rattle.x86_insn.specs.Shifts.{is_set}
use Rattle.x86_insn.specs.Bits.{IsLowestSet, IsHighestSet}

-- the bit above which there is none
top_bit : (a j : ℕ) → 2 ^ j ≤ a → a < 2 ^ suc j → bit_at a j ≡ 1
top_bit a j low high =
    let some : 1 ≤ a / 2 ^ j = le-div 1 a (2 ^ j) (pow_pos j) (omega (arith, low)) in
    let one : a / 2 ^ j < 2 = div_below a (2 ^ j) 2 (pow_pos j) (omega (arith, high, pow-suc 2 j)) in
    omega (arith, some, one)

pub lowest : (a : ℕ) → 0 < a → a < 2 ^ 32 → IsLowestSet a (trailing_zeros w32 a)
lowest a h fits =
    let at : (trailing_zeros w32 a < 32) × (bit_at a (trailing_zeros w32 a) ≡ 1) × ((i : ℕ) → i < trailing_zeros w32 a → bit_at a i ≡ 0) = bit_at-trailing_zeros w32 a h fits in
    record { set = eq-eqb _ _ at.1; below = λ j b. grind (arith, at.2 j b) }

pub highest : (a : ℕ) → 0 < a → a < 2 ^ 32 → IsHighestSet a (31 - leading_zeros w32 a)
highest a h fits =
    let at : (j : ℕ) × (leading_zeros w32 a + suc j ≡ 32) × (2 ^ j ≤ a) × (a < 2 ^ suc j) = leading_top 32 a h fits in
    let is : 31 - leading_zeros w32 a ≡ at.0 = omega (arith, at.1) in
    rw is (record { set = eq-eqb _ _ (top_bit a at.0 at.2 at.3); above = λ j b. grind (arith, bit_at_above a (suc at.0) j at.3 (omega arith)) })

-- a bit that is set lies below the number's size
within : (a k m : ℕ) → IsTrue (is_set k a) → a < 2 ^ m → k < m
within a k m h fits = elim (cases_lt k m) [ inl below ↦ below | inr above ↦ grind (arith, h, bit_at_above a m k fits above) ]

pub lowest_within : (w : Width) (a : ℕ) → 0 < a → a < 2 ^ 32 → a < modulus w → trailing_zeros w32 a < width_bits w
lowest_within w a h fits below = within a (trailing_zeros w32 a) (width_bits w) (lowest a h fits).set below

pub highest_within : (w : Width) (a : ℕ) → 0 < a → a < 2 ^ 32 → a < modulus w → 31 - leading_zeros w32 a < width_bits w
highest_within w a h fits below = within a (31 - leading_zeros w32 a) (width_bits w) (highest a h fits).set below
