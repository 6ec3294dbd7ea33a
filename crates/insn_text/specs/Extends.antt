-- What a text is while it is put together.
use Rattle.std.specs.Prelude.{◌≡◌, ℕ, List, ◌++◌}

-- the new list begins with the old one
pub record Extends (old new : List ℕ) : Type 0 where
  pub part : List ℕ
  pub appended : new ≡ old ++ part
