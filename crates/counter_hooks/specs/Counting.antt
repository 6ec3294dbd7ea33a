-- What it means that a counter counts. This project's own.
use Rattle.std.specs.Prelude.{◌≡◌, ℕ, ◌+◌, ◌%◌, ◌^◌, ◌<◌, ◌≤◌, ◌⊎◌, Bool, false, ◌||◌, ◌==◌, length, None, if◌then◌else◌}
use Rattle.byteorder.specs.Endian.{little_bytes}
use Rattle.mv_base.specs.Memory.{within, bytes_at}
use Rattle.x86_insn.specs.State.{IsCore, State}
use Rattle.step_laws.specs.Passes.{Passes}
use Rattle.step_laws.specs.Standing.{Stands, IsRoom}
use Rattle.step_laws.specs.Keeping.{KeepsRest}
use Rattle.counter_hooks.specs.Counter.{counter}

-- what the counter at k writes: its own eight bytes, and the four from p on
abbrev pub is_scratch : ℕ → ℕ → ℕ → Bool
is_scratch p k a = within p 4 a || within k 8 a

-- how many steps it takes from a number on: two more where the low word wraps
abbrev pub counting_steps : ℕ → ℕ
counting_steps n = if (n + 1) % 2 ^ 32 == 0 then 9 else 7

-- the counter's first byte is next, and stands in memory; its eight bytes, which have the number n, and the four from p on
-- can be written; none of the three meets another; nothing lies at or above 2^32
pub record IsCounting (p k at n : ℕ) (s : State) : Type 0 where
  pub core : IsCore s.core
  pub top : (a : ℕ) → 2 ^ 32 ≤ a → s.memory a ≡ None
  pub place : s.eip ≡ at
  pub code : Stands s.memory at (counter p k)
  pub private : IsRoom s.memory p 4
  pub room : IsRoom s.memory k 8
  pub apart : (p + 4 ≤ k) ⊎ (k + 8 ≤ p)
  pub code_apart : (i : ℕ) → i < length (counter p k) → is_scratch p k (at + i) ≡ false
  pub number : bytes_at s.memory k 8 ≡ little_bytes 8 n
  pub fits : n < 2 ^ 64

-- so many steps complete and come to the address behind the counter with the same registers, flags and GS, and one more
-- in its eight bytes, modulo 2^64; each state on the way, and the last one, has the same descriptors, calls made, answers
-- left and cells, but for what the counter writes
pub record Counts (p k at n : ℕ) (s : State) : Type 0 where
  pub last : State
  pub passes : Passes (KeepsRest (is_scratch p k) s) (counting_steps n) s last
  pub keeps : KeepsRest (is_scratch p k) s last
  pub core : last.core ≡ s.core
  pub place : last.eip ≡ at + length (counter p k)
  pub number : bytes_at last.memory k 8 ≡ little_bytes 8 ((n + 1) % 2 ^ 64)
