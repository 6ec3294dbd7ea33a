-- The bytes of a near jump. Intel SDM, volume 2, JMP.
use Rattle.std.specs.Prelude.{ℕ, List, ◌∷◌}
use Rattle.mv_base.specs.Bytes.{word}
use Rattle.mv_base.specs.Memory.{distance, address_after}

-- a near jump that stands at an address: E9 and the displacement from its end
abbrev pub jump_bytes : ℕ → ℕ → List ℕ
jump_bytes here to = 0xE9 ∷ word (distance (address_after here 5) to)
