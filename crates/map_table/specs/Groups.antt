-- The groups of runs, of which each has its words in one page of a table of form 2. This project's own.
use Rattle.std.specs.Prelude.{ℕ, ◌+◌, ◌-◌, ◌*◌, Bool, List, length, map, min}
use Rattle.std.specs.List.{range_with_len, flat_map, list_any}
use Rattle.mv_base.specs.Memory.{within}
use Rattle.mv_base.specs.Table.{group_count}
use Rattle.elf32_read.specs.declared.run.Run.{Run}
use Rattle.map_table.specs.declared.group.Group.{Group}

-- group k of a run: 1,024 of its addresses, or what is left of them
unfoldable pub group_of : Run → ℕ → Group
group_of r k = record { lo = r.lo + 1024 * k; len = min 1024 (length r.bytes - 1024 * k) }

unfoldable pub groups_in : Run → List Group
groups_in r = map (group_of r) (range_with_len 0 (group_count (length r.bytes)))

-- the groups of runs, in their order
unfoldable pub groups : List Run → List Group
groups rs = flat_map groups_in rs

-- an address of a list lies in a group
abbrev pub has_site : List ℕ → Group → Bool
has_site sites g = list_any (within g.lo g.len) sites
