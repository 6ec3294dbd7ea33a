use Rattle.std.proofs.Common.{◌≡◌, ◌+◌, drop}
use Rattle.map_table.specs.Paged.{table_size}
use Rattle.map_table.specs.laws.Counts.{rest_size}
use Rattle.map_table.proofs.table.table_len.Given as goal

abbrev pub invariant-loop-run : goal.invariant-loop-run
invariant-loop-run l = table_size l.runs l.sites ≡ l.len + rest_size (drop l.run-index l.runs) l.sites
