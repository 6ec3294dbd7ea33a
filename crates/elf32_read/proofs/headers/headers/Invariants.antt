-- The headers read so far.
use Rattle.std.proofs.Common.{◌≡◌}
use Rattle.elf32_read.proofs.Tables.{headers_until}
use Rattle.elf32_read.proofs.headers.headers.Given as goal

abbrev pub invariant-loop-index : goal.invariant-loop-index
invariant-loop-index l = l.headers.items ≡ headers_until l.bytes l.index
