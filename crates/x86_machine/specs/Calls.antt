-- System calls made. This project's own.
use Rattle.std.specs.Prelude.{ℕ, List}

-- the seven words of each, the oldest first, and how many more have room
pub record Calls : Type 0 where
  pub made : List (List ℕ)
  pub spare : ℕ
