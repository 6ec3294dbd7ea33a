use Rattle.std.proofs.Common.{◌≡◌, ◌++◌, take}
use Rattle.elf32_write.specs.File.{header_words}
use Rattle.elf32_write.proofs.HeadBytes.{spelled}
use Rattle.elf32_write.proofs.file.head.put_headers.Given as goal

abbrev pub invariant-loop-header : goal.invariant-loop-header
invariant-loop-header l = l.to.items ≡ l.fn.to.items ++ spelled (header_words) (take l.header-index l.headers)
