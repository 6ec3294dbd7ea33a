-- The order of byte lists: the shorter first, and of equally long ones the lesser at the first byte that differs. This
-- project's own.
use Rattle.std.specs.Prelude.{◌≡◌, ℕ, ◌<◌, Bool, ◌&&◌, ◌||◌, ◌⊎◌, List, [], ◌∷◌, length, nat_lt, nat_eq}
use Rattle.std.specs.Ordering.{is_le, nat_cmp}
use Rattle.std.specs.Cmp.Lexicographic.{slice_cmp}

abbrev pub ByteUpto : List ℕ → List ℕ → Type 0
ByteUpto [] t = Unit {0}
ByteUpto (x ∷ s) [] = ⊥
ByteUpto (x ∷ s) (y ∷ t) = (x < y) ⊎ ((x ≡ y) × ByteUpto s t)

abbrev pub Upto : List ℕ → List ℕ → Type 0
Upto s t = (length s < length t) ⊎ ((length s ≡ length t) × ByteUpto s t)

-- the same as a test
abbrev pub is_byte_upto : List ℕ → List ℕ → Bool
is_byte_upto s t = is_le (slice_cmp nat_cmp s t)

abbrev pub is_upto : List ℕ → List ℕ → Bool
is_upto s t = nat_lt (length s) (length t) || (nat_eq (length s) (length t) && is_byte_upto s t)
