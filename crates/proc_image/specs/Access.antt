-- What the accesses of instructions to memory give. This project's own.
use Rattle.std.specs.Prelude.{◌≡◌, ℕ, ◌^◌, ◌<◌, true, false, List, length, Some, None, Result, Ok, Err}
use Rattle.byteorder.specs.Endian.{little_bytes}
use Rattle.mv_base.specs.Bytes.{number}
use Rattle.mv_base.specs.Memory.{Memory, read_fault, write_fault, is_mapped, byte_of, bytes_at, put}

-- n bytes are mapped, the value is the number that they spell, and they are the value's bytes, which are no more
pub record IsValueAt (m : Memory) (at n value : ℕ) : Type 0 where
  pub mapped : read_fault m at n ≡ None
  pub spelled : value ≡ number (bytes_at m at n)
  pub bytes : little_bytes n value ≡ bytes_at m at n
  pub fits : value < 256 ^ n

-- a read of n bytes gives their value, or the first of them that is not mapped
abbrev pub IsRead : Memory → ℕ → ℕ → Result ℕ ℕ → Type 0
IsRead m at n (Ok value) = IsValueAt m at n value
IsRead m at n (Err a) = read_fault m at n ≡ Some a

-- the byte at an address, or the address where none is mapped
abbrev pub IsByte : Memory → ℕ → Result ℕ ℕ → Type 0
IsByte m at (Ok b) = (is_mapped m at ≡ true) × (byte_of (m at) ≡ b) × (b < 256)
IsByte m at (Err a) = (is_mapped m at ≡ false) × (a ≡ at)

-- a write of bytes puts them into memory, or gives the first address that cannot be written and changes nothing
pub record IsPut (old : Memory) (at : ℕ) (bytes : List ℕ) (new : Memory) : Type 0 where
  pub writable : write_fault old at (length bytes) ≡ None
  pub put_there : new ≡ put old at bytes

pub record IsUnwritable (old : Memory) (at n a : ℕ) (new : Memory) : Type 0 where
  pub first : write_fault old at n ≡ Some a
  pub same : new ≡ old

abbrev pub IsWritten : Memory → ℕ → List ℕ → Memory → Result (Unit {0}) ℕ → Type 0
IsWritten old at bytes new (Ok _) = IsPut old at bytes new
IsWritten old at bytes new (Err a) = IsUnwritable old at (length bytes) a new

-- a copy of bytes gives them, or the first of them that is not mapped
pub record AreCopied (m : Memory) (at : ℕ) (bytes : List ℕ) : Type 0 where
  pub mapped : read_fault m at (length bytes) ≡ None
  pub same : bytes ≡ bytes_at m at (length bytes)

abbrev pub IsCopied : Memory → ℕ → List ℕ → Result (Unit {0}) ℕ → Type 0
IsCopied m at bytes (Ok _) = AreCopied m at bytes
IsCopied m at bytes (Err a) = read_fault m at (length bytes) ≡ Some a
