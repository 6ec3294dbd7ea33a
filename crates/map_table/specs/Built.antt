-- What a table in memory keeps.
use Rattle.std.specs.Prelude.{◌≡◌, ℕ, List, map}
use Rattle.map_table.specs.Paged.{Made, IsMade, table_bytes, places}

pub record IsBuilt (t : Made) (dirs bytes : List ℕ) : Type 0 where
  pub made : IsMade t
  pub dirs_are : dirs ≡ map (λ r. r.dir) (places t.runs t.lo)
  pub bytes_are : bytes ≡ table_bytes t.runs t.pairs t.lo
