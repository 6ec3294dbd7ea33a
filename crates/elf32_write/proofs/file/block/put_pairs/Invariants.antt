use Rattle.std.proofs.Common.{◌≡◌, ◌++◌, take}
use Rattle.elf32_write.specs.File.{pair_words}
use Rattle.elf32_write.proofs.HeadBytes.{spelled}
use Rattle.elf32_write.proofs.file.block.put_pairs.Given as goal

abbrev pub invariant-loop-pair : goal.invariant-loop-pair
invariant-loop-pair l = l.to.items ≡ l.fn.to.items ++ spelled (pair_words) (take l.pair-index l.pairs)
