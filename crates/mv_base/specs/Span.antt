-- A range of addresses, as contracts see it.
use Rattle.std.specs.Prelude.{ℕ}

-- the addresses from lo on, len of them
pub record Span : Type 0 where
  pub lo : ℕ
  pub len : ℕ
