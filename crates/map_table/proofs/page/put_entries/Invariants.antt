use Rattle.std.proofs.Common.{◌≡◌, ℕ, ◌+◌, ◌≤◌, ◌++◌, map}
use Rattle.std.specs.List.{range_with_len}
use Rattle.mv_base.specs.Bytes.{words}
use Rattle.map_table.specs.Pairs.{second_of, entry_in, firsts}
use Rattle.map_table.specs.laws.Skips.{AscendsFrom}
use Rattle.map_table.proofs.page.put_entries.Given as goal

abbrev pub invariant-loop-offset : goal.invariant-loop-offset
invariant-loop-offset l = record {
  bytes_are : l.bytes.items ≡ l.fn.bytes.items ++ words (map (entry_in l.pairs) (range_with_len l.group.lo l.offset));
  ascend : AscendsFrom (l.group.lo + l.offset) (firsts l.rest);
  same : (a : ℕ) → l.group.lo + l.offset ≤ a → second_of l.rest a ≡ second_of l.pairs a;
}
