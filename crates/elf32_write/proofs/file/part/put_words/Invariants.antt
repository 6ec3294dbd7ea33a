use Rattle.std.proofs.Common.{◌≡◌, ◌++◌, take}
use Rattle.mv_base.specs.Bytes.{words}
use Rattle.elf32_write.proofs.file.part.put_words.Given as goal

abbrev pub invariant-loop-number : goal.invariant-loop-number
invariant-loop-number l = l.to.items ≡ l.fn.to.items ++ words (take l.number-index l.numbers)
