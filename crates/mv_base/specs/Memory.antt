-- Memory as a function from addresses to cells. This project's own: segments are exact to the byte,
-- each mapped byte can be read, and nothing is mapped at or above 0xFFFFF000.
use Rattle.std.specs.Prelude.{◌≡◌, ℕ, zero, suc, ◌+◌, ◌-◌, ◌%◌, ◌^◌, ◌<◌, Bool, false, List, [], ◌∷◌, length, Option, Some, None, is_some, nat_lt, nat_le, ◌&&◌, if◌then◌else◌, slice_index}
use Rattle.std.specs.Option.{option_map}

-- a byte, and whether it may be written and executed
pub record Cell : Type 0 where
  pub byte : ℕ
  pub write : Bool
  pub exec : Bool

-- what each address holds, or nothing where it is not mapped
abbrev pub Memory : Type 0
Memory = ℕ → Option Cell

-- cells are bytes, and lie below 0xFFFFF000
pub record IsMemory (m : Memory) : Type 0 where
  pub low : (a : ℕ) (c : Cell) → m a ≡ Some c → a < 0xFFFFF000
  pub bytes : (a : ℕ) (c : Cell) → m a ≡ Some c → c.byte < 256

-- a test of a cell, which no missing cell passes
abbrev pub cell_is : (Cell → Bool) → Option Cell → Bool
cell_is test None = false
cell_is test (Some c) = test c

abbrev pub is_mapped : Memory → ℕ → Bool
is_mapped m a = is_some (m a)

abbrev pub is_writable : Memory → ℕ → Bool
is_writable m a = cell_is (λ c. c.write) (m a)

abbrev pub is_executable : Memory → ℕ → Bool
is_executable m a = cell_is (λ c. c.exec) (m a)

-- the byte of a cell that may be executed
abbrev pub exec_byte_of : Option Cell → Option ℕ
exec_byte_of None = None
exec_byte_of (Some c) = if c.exec then Some c.byte else None

-- what each address has to execute
abbrev pub exec_byte : Memory → ℕ → Option ℕ
exec_byte m a = exec_byte_of (m a)

-- a byte, or 0 where none is mapped
abbrev pub byte_of : Option Cell → ℕ
byte_of None = 0
byte_of (Some c) = c.byte

-- the address after this many more, modulo 2^32
abbrev pub address_after : ℕ → ℕ → ℕ
address_after a n = (a + n) % 2 ^ 32

-- an address lies in a range
abbrev pub within : ℕ → ℕ → ℕ → Bool
within lo len a = nat_le lo a && nat_lt a (lo + len)

-- the first of n addresses from a on, counted upwards modulo 2^32, that fails a test
unfoldable pub first_failing : (ℕ → Bool) → ℕ → ℕ → Option ℕ
first_failing test a zero = None
first_failing test a (suc n) = if test a then first_failing test (address_after a 1) n else Some a

-- the first byte of an access that cannot be read, and that cannot be written
abbrev pub read_fault : Memory → ℕ → ℕ → Option ℕ
read_fault m a n = first_failing (is_mapped m) a n

abbrev pub write_fault : Memory → ℕ → ℕ → Option ℕ
write_fault m a n = first_failing (is_writable m) a n

-- n bytes from a on, upwards modulo 2^32
unfoldable pub bytes_at : Memory → ℕ → ℕ → List ℕ
bytes_at m a zero = []
bytes_at m a (suc n) = byte_of (m a) ∷ bytes_at m (address_after a 1) n

-- how far an address lies above another, modulo 2^32
abbrev pub distance : ℕ → ℕ → ℕ
distance from to = (to + 2 ^ 32 - from) % 2 ^ 32

-- a cell with another byte
abbrev pub with_byte : ℕ → Cell → Cell
with_byte b c = record c { byte = b }

-- memory after these bytes are written from a on, upwards modulo 2^32; marks stay, and what is not mapped stays so
unfoldable pub put : Memory → ℕ → List ℕ → Memory
put m a bytes b =
    if nat_lt (distance a b) (length bytes) then option_map (with_byte (slice_index bytes (distance a b))) (m b) else m b

-- two memories in one: the first where it has a cell, else the second
abbrev pub first_of : Option Cell → Option Cell → Option Cell
first_of None d = d
first_of (Some c) d = Some c

abbrev pub joined : Memory → Memory → Memory
joined m n a = first_of (m a) (n a)

-- a byte in front of more, or nothing
abbrev pub with_rest : Option ℕ → List ℕ → List ℕ
with_rest None rest = []
with_rest (Some b) rest = b ∷ rest

-- the executable bytes from a on, at most n
unfoldable pub exec_bytes : (ℕ → Option ℕ) → ℕ → ℕ → List ℕ
exec_bytes code a zero = []
exec_bytes code a (suc n) = with_rest (code a) (exec_bytes code (a + 1) n)
