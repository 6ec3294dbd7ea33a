-- The segments of the headers so far.
use Rattle.std.proofs.Common.{◌≡◌, take}
use Rattle.std.specs.List.{filter_map}
use Rattle.elf32_read.specs.Fields.{segment_of}
use Rattle.elf32_read.proofs.headers.segments.Given as goal

abbrev pub invariant-loop-header : goal.invariant-loop-header
invariant-loop-header l = l.segments.items ≡ filter_map segment_of (take l.header-index l.headers)
