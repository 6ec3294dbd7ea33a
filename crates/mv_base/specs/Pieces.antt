-- What reads and writes in pieces do to the bytes of a reader and a writer, where those are known.
use Rattle.std.specs.Prelude.{◌≡◌, ℕ, List, ◌++◌, Option}
use Rattle.std.specs.Io.KnownBytes.{Appends}

-- the known bytes grow by a part with which the bytes begin
pub record AppendsSome (old new : Option (List ℕ)) (bytes : List ℕ) : Type 0 where
  pub part : List ℕ
  pub rest : List ℕ
  pub begins : bytes ≡ part ++ rest
  pub grows : Appends old new part
