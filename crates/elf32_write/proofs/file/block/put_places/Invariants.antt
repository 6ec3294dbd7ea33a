use Rattle.std.proofs.Common.{◌≡◌, ◌++◌, take}
use Rattle.elf32_write.specs.File.{place_words}
use Rattle.elf32_write.proofs.HeadBytes.{spelled}
use Rattle.elf32_write.proofs.file.block.put_places.Given as goal

abbrev pub invariant-loop-place : goal.invariant-loop-place
invariant-loop-place l = l.to.items ≡ l.fn.to.items ++ spelled (place_words) (take l.place-index l.places)
