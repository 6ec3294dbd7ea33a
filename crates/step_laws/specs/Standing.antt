-- What stands in memory: bytes that may be executed, bytes that may be read, and room that may be written. Addresses
-- are below 2^32. This project's own.
use Rattle.std.specs.Prelude.{◌≡◌, ℕ, ◌+◌, ◌^◌, ◌<◌, true, List, length, Some, slice_index}
use Rattle.std.specs.Option.{option_map}
use Rattle.mv_base.specs.Memory.{Memory, is_writable, exec_byte}

-- these bytes stand there to be executed
pub record Stands (m : Memory) (at : ℕ) (bytes : List ℕ) : Type 0 where
  pub byte : (k : ℕ) → k < length bytes → exec_byte m (at + k) ≡ Some (slice_index bytes k)
  pub low : at + length bytes < 2 ^ 32

-- these bytes can be read there
pub record Holds (m : Memory) (at : ℕ) (bytes : List ℕ) : Type 0 where
  pub byte : (k : ℕ) → k < length bytes → option_map (λ c. c.byte) (m (at + k)) ≡ Some (slice_index bytes k)
  pub low : at + length bytes < 2 ^ 32

-- so many bytes can be written there
pub record IsRoom (m : Memory) (at len : ℕ) : Type 0 where
  pub writable : (k : ℕ) → k < len → is_writable m (at + k) ≡ true
  pub low : at + len < 2 ^ 32
