-- What is asked of the groups of which pages are written.
use Rattle.std.specs.Prelude.{◌+◌, ◌^◌, ◌<◌, ◌≤◌, List}
use Rattle.std.specs.List.{AllByRecursion}
use Rattle.map_table.specs.declared.group.Group.{Group}

-- a group has at most 1,024 addresses, and ends below 2^32
pub record EndsLow (g : Group) : Type 0 where
  pub end : g.lo + g.len < 2 ^ 32
  pub few : g.len ≤ 1024

abbrev pub EndLow : List Group → Type 0
EndLow gs = AllByRecursion EndsLow gs
