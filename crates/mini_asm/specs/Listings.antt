-- What a listing shows. This project's own.
use Rattle.std.specs.Prelude.{ℕ, List, [], ◌∷◌, ◌++◌}
use Rattle.std.specs.List.{flat_map}
use Rattle.mv_base.specs.Text.{hex8, hex_text}
use Rattle.mini_asm.specs.declared.listings.Listed.{Listed}

-- a line of a listing: the address, the bytes and the text, with a space between any two, and a line feed
abbrev pub entry_text : Listed → List ℕ
entry_text l = hex8 l.at ++ 32 ∷ hex_text l.bytes ++ 32 ∷ l.text ++ 10 ∷ []

-- a listing
abbrev pub listing_of : List Listed → List ℕ
listing_of lines = flat_map entry_text lines
