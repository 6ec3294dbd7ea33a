-- How hexadecimal digits and words are read: each function gives what its text spells, or nothing. A text is the list of its
-- bytes.
use Rattle.std.specs.Prelude.{ℕ, ◌+◌, ◌*◌, ◌-◌, ◌&&◌, ◌==◌, nat_le, nat_lt, if◌then◌else◌, List, [], ◌∷◌, length, Option, Some, None, option_map, option_and_then}

-- a lower-case hexadecimal digit
abbrev pub digit_value : ℕ → Option ℕ
digit_value c =
    if nat_le 48 c && nat_lt c 58 then Some (c - 48)
    else (if nat_le 97 c && nat_lt c 103 then Some (c - 87) else None)

-- the number whose first digits are n, and whose further ones are these
unfoldable pub hex_value : ℕ → List ℕ → Option ℕ
hex_value n [] = Some n
hex_value n (c ∷ text) = option_and_then (λ d. hex_value (16 * n + d) text) (digit_value c)

-- eight digits
unfoldable pub number_in : List ℕ → Option ℕ
number_in text = if length text == 8 then hex_value 0 text else None

-- two digits a byte
unfoldable pub pairs_in : List ℕ → Option (List ℕ)
pairs_in [] = Some []
pairs_in (h ∷ []) = None
pairs_in (h ∷ l ∷ text) =
    option_and_then (λ b. option_map (λ bytes. b ∷ bytes) (pairs_in text)) (hex_value 0 (h ∷ l ∷ []))

-- what stands behind a prefix
unfoldable pub behind : List ℕ → List ℕ → Option (List ℕ)
behind [] text = Some text
behind (c ∷ prefix) [] = None
behind (c ∷ prefix) (x ∷ text) = if x == c then behind prefix text else None
