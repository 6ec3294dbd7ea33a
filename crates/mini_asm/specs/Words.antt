-- How numbers and words are taken from the front of a text: each function gives what it finds there and what stands behind
-- it. They take more than what is printed; that a line is printed again decides. This project's own.
use Rattle.std.specs.Prelude.{ℕ, ◌+◌, ◌*◌, ◌%◌, ◌^◌, ◌==◌, if◌then◌else◌, List, [], ◌∷◌, codes, Option, option_map}
use Rattle.std.specs.Option.{option_map_or}
use Rattle.mv_base.specs.Reading.{behind, digit_value}

-- the digits at the front, as those of a number behind n; the last eight count
unfoldable pub digits_at : ℕ → List ℕ → ℕ × List ℕ
digits_at n [] = (n, [])
digits_at n (c ∷ text) =
    option_map_or (λ d. digits_at (16 * (n % 2 ^ 28) + d) text) (digit_value c) (n, c ∷ text)

-- a number: `0x` and digits
unfoldable pub number_at : List ℕ → Option (ℕ × List ℕ)
number_at text = option_map (λ rest. digits_at 0 rest) (behind (codes "0x") text)

-- the first word, and what stands behind the space after it
unfoldable pub word_at : List ℕ → List ℕ × List ℕ
word_at [] = ([], [])
word_at (c ∷ text) = if c == 32 then ([], text) else (c ∷ (word_at text).0, (word_at text).1)
