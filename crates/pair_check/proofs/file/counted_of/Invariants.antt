use Rattle.std.proofs.Common.{◌≡◌, map}
use Rattle.std.specs.List.{range_with_len}
use Rattle.elf32_write.specs.Frame.{pair_at}
use Rattle.pair_check.proofs.file.counted_of.Given as goal

abbrev pub invariant-loop-index : goal.invariant-loop-index
invariant-loop-index l = l.pairs.items ≡ map (pair_at l.frame) (range_with_len 0 l.index)
