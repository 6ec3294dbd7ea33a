-- A near jump: what its bytes spell, and where it goes.
use Rattle.std.proofs.Common.{◌≡◌, ℕ, ◌+◌, ◌%◌, ◌^◌, ◌<◌, [], ◌∷◌, length, Some, slice_index, Option, refl, arith}
use Rattle.mv_base.specs.Bytes.{word}
use Rattle.mv_base.specs.Memory.{address_after, distance}
use Rattle.x86_insn.specs.declared.insn.Insn.TheVariants.{Jump}
use Rattle.x86_insn.specs.Rows.{rows}
use Rattle.x86_insn.specs.Step.{Found, fetch_in}
use Rattle.step_laws.specs.Jumps.{jump_bytes}
use Rattle.step_laws.specs.laws.Fetching.{spelled_found}
use Rattle.step_laws.specs.laws.Spelled.{Spelled, with_number}

pub near_jump : (n : ℕ) → n < 2 ^ 32 → Spelled (0xE9 ∷ word n) (Jump n)
unfolding rows
near_jump n low = with_number (0xE9 ∷ []) (λ k. Jump k) (λ a b c d. refl) (omega arith) refl n low

pub jump_len : (here to : ℕ) → length (jump_bytes here to) ≡ 5
unfolding word
jump_len here to = refl

-- the displacement of a jump
pub reach : ℕ → ℕ → ℕ
reach here to = distance (address_after here 5) to

reach_low : (here to : ℕ) → distance (address_after here 5) to < 2 ^ 32
reach_low here to = omega arith

pub jump_spelled : (here to : ℕ) → Spelled (jump_bytes here to) (Jump (reach here to))
unfolding reach
jump_spelled here to = near_jump (distance (address_after here 5) to) (reach_low here to)

pub jump_found : (code : ℕ → Option ℕ) (here to : ℕ) → ((k : ℕ) → k < 5 → code (here + k) ≡ Some (slice_index (jump_bytes here to) k)) → fetch_in code here ≡ Found (Jump (reach here to)) 5
unfolding word
jump_found code here to at = spelled_found code here (jump_bytes here to) (Jump (reach here to)) (jump_spelled here to).spells at

pub jump_goes : (here to : ℕ) → to < 2 ^ 32 → (address_after here 5 + reach here to) % 2 ^ 32 ≡ to
unfolding reach
jump_goes here to h = omega arith
