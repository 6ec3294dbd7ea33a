use Rattle.std.proofs.Common.{◌≡◌, ◌++◌, take}
use Rattle.elf32_write.specs.File.{header_words, kept_header}
use Rattle.elf32_write.proofs.HeadBytes.{spelled}
use Rattle.elf32_write.proofs.file.head.put_kept_headers.Given as goal

abbrev pub invariant-loop-header : goal.invariant-loop-header
invariant-loop-header l = l.to.items ≡ l.fn.to.items ++ spelled (λ h. header_words (kept_header h)) (take l.header-index l.headers)
