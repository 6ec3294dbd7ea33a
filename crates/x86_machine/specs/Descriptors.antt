-- The descriptors of a machine. This project's own.
use Rattle.std.specs.Prelude.{ℕ}
use Rattle.mv_base.specs.Effects.{Descs}

-- pairs of index and base, and how many more indexes have room
pub record Descriptors : Type 0 where
  pub made : Descs
  pub spare : ℕ
