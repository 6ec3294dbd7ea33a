use Rattle.std.proofs.Common.{◌≡◌, ◌++◌, drop}
use Rattle.map_table.specs.Groups.{groups}
use Rattle.map_table.proofs.group.groups.Given as goal

abbrev pub invariant-loop-run : goal.invariant-loop-run
invariant-loop-run l = l.groups.items ++ groups (drop l.run-index l.runs) ≡ groups l.runs
