use Rattle.std.proofs.Common.{◌≡◌, ◌++◌, take}
use Rattle.std.specs.List.{flat_map}
use Rattle.byteorder.specs.Endian.{little_bytes}
use Rattle.elf32_write.proofs.file.part.put_halves.Given as goal

abbrev pub invariant-loop-number : goal.invariant-loop-number
invariant-loop-number l = l.to.items ≡ l.fn.to.items ++ flat_map (little_bytes 2) (take l.number-index l.numbers)
