-- Numbers in little-endian order, in memory and in a file.
use Rattle.std.specs.Prelude.{ℕ, List, length, drop, ◌<◌, slice_index}
use Rattle.std.specs.List.{flat_map}
use Rattle.byteorder.specs.Endian.{little_number, little_bytes}

-- each of these is a byte
abbrev pub AreBytes : List ℕ → Type 0
AreBytes bytes = (k : ℕ) → slice_index bytes k < 256

-- the number of two bytes at a place
unfoldable pub half_at : List ℕ → ℕ → ℕ
half_at bytes place = little_number 2 (drop place bytes)

-- the number of four bytes at a place
unfoldable pub word_at : List ℕ → ℕ → ℕ
word_at bytes place = little_number 4 (drop place bytes)

-- the number that a list of bytes spells
unfoldable pub number : List ℕ → ℕ
number bytes = little_number (length bytes) bytes

-- a number as two bytes, and as four
unfoldable pub half : ℕ → List ℕ
half n = little_bytes 2 n

unfoldable pub word : ℕ → List ℕ
word n = little_bytes 4 n

-- numbers one after the other, four bytes each
unfoldable pub words : List ℕ → List ℕ
words ns = flat_map (little_bytes 4) ns
