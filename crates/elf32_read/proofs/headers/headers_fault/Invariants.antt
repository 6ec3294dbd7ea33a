-- The first fault of the headers is that of those left.
use Rattle.std.proofs.Common.{◌≡◌, drop}
use Rattle.elf32_read.specs.Faults.{headers_fault}
use Rattle.elf32_read.proofs.headers.headers_fault.Given as goal

abbrev pub invariant-loop-index : goal.invariant-loop-index
invariant-loop-index l = headers_fault l.len 0 0 l.headers ≡ headers_fault l.len l.free l.index (drop l.index l.headers)
