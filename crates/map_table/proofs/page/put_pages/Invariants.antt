use Rattle.std.proofs.Common.{◌≡◌, ◌++◌, drop}
use Rattle.mv_base.specs.Bytes.{words}
use Rattle.map_table.specs.Paged.{pages}
use Rattle.map_table.proofs.page.put_pages.Given as goal

abbrev pub invariant-loop-group : goal.invariant-loop-group
invariant-loop-group l = l.bytes.items ++ words (pages l.pairs (drop l.group-index l.groups)) ≡ l.fn.bytes.items ++ words (pages l.pairs l.groups)
