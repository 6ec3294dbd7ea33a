use Rattle.std.proofs.Common.{◌≡◌, ◌++◌, ◌+◌, ◌*◌, drop}
use Rattle.std.specs.List.{count_by}
use Rattle.mv_base.specs.Bytes.{words}
use Rattle.map_table.specs.Groups.{has_site}
use Rattle.map_table.specs.Pairs.{firsts}
use Rattle.map_table.specs.Paged.{directory}
use Rattle.map_table.proofs.page.put_directories.Given as goal

abbrev pub invariant-loop-group : goal.invariant-loop-group
invariant-loop-group l = record {
  bytes_are : l.bytes.items ++ words (directory (firsts l.pairs) l.zeros l.next (drop l.group-index l.groups)) ≡ l.fn.bytes.items ++ words (directory (firsts l.pairs) l.zeros l.first l.groups);
  end : l.next + 4096 * count_by (has_site (firsts l.pairs)) (drop l.group-index l.groups) ≡ l.first + 4096 * count_by (has_site (firsts l.pairs)) l.groups;
}
