-- Numbers as hexadecimal text. A text is the list of its bytes.
use Rattle.std.specs.Prelude.{ℕ, zero, suc, ◌+◌, ◌/◌, ◌%◌, ◌^◌, nat_lt, if◌then◌else◌, List, [], ◌∷◌}
use Rattle.std.specs.List.{flat_map}

-- the byte of a hexadecimal digit: `0` to `9`, then `a` to `f`
abbrev pub hex_digit : ℕ → ℕ
hex_digit d = if nat_lt d 10 then 48 + d else 87 + d

-- the lowest so many hexadecimal digits of a number, the highest of them first
abbrev pub hex_digits : ℕ → ℕ → List ℕ
hex_digits zero n = []
hex_digits (suc k) n = hex_digit (n / 16 ^ k % 16) ∷ hex_digits k n

-- the eight hexadecimal digits of a number below 2 ^ 32
abbrev pub hex8 : ℕ → List ℕ
hex8 n = hex_digits 8 n

-- a byte: two lower-case hexadecimal digits
unfoldable pub byte_text : ℕ → List ℕ
byte_text b = hex_digits 2 b

-- bytes: their digits in order
abbrev pub hex_text : List ℕ → List ℕ
hex_text bytes = flat_map byte_text bytes
