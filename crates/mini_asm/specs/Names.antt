-- The names of labels. This project's own.
use Rattle.std.specs.Prelude.{ℕ, Bool, not, ◌&&◌, ◌||◌, ◌==◌, nat_le, nat_lt, List, length, slice_index, codes, IsTrue}
use Rattle.std.specs.List.{list_all}
use Rattle.std.specs.Str.{bytes_eq}

-- a lower-case letter; a letter, a digit or `_`
abbrev pub is_letter : ℕ → Bool
is_letter c = nat_le 97 c && nat_lt c 123

abbrev pub is_name_character : ℕ → Bool
is_name_character c = is_letter c || ((nat_le 48 c && nat_lt c 58) || (c == 95))

-- the name of one of the eight registers of 32 bits
unfoldable pub is_register : List ℕ → Bool
is_register text =
    bytes_eq text (codes "eax") || (bytes_eq text (codes "ecx") || (bytes_eq text (codes "edx") || (bytes_eq text (codes "ebx")
    || (bytes_eq text (codes "esp") || (bytes_eq text (codes "ebp") || (bytes_eq text (codes "esi") || bytes_eq text (codes "edi")))))))

-- at most 32 such characters, of which the first is a letter
unfoldable pub is_word : List ℕ → Bool
is_word text = is_letter (slice_index text 0) && (nat_le (length text) 32 && list_all is_name_character text)

-- such a word that is no register
unfoldable pub is_name : List ℕ → Bool
is_name text = is_word text && not (is_register text)

abbrev pub IsName : List ℕ → Type 0
IsName name = IsTrue (is_name name)
