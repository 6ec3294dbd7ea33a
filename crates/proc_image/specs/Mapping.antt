-- A range of cells made anew. This project's own.
use Rattle.std.specs.Prelude.{ℕ, ◌-◌, Bool, List, Some, slice_index, if◌then◌else◌}
use Rattle.mv_base.specs.Memory.{Memory, within}

-- memory with len new cells from lo on: these bytes and then zeros, with these marks
unfoldable pub filled : Memory → ℕ → ℕ → List ℕ → Bool → Bool → Memory
filled m lo len bytes write exec a =
    if within lo len a then Some (record { byte = slice_index bytes (a - lo); write = write; exec = exec }) else m a
