use Rattle.std.proofs.Common.{◌≡◌, ◌+◌, ◌-◌}
use Rattle.std.specs.List.{count_by}
use Rattle.map_table.specs.Groups.{groups_in, has_site}
use Rattle.map_table.specs.laws.Counts.{pages_left}
use Rattle.map_table.proofs.table.run_len.Given as goal

abbrev pub invariant-loop-number : goal.invariant-loop-number
invariant-loop-number l = count_by (has_site l.sites) (groups_in l.run) ≡ l.pages + pages_left l.sites l.run l.number (l.count - l.number)
