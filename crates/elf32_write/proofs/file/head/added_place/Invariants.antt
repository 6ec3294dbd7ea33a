use Rattle.std.proofs.Common.{◌≡◌, ◌+◌, drop}
use Rattle.std.specs.List.{position_or_len}
use Rattle.elf32_write.specs.Writing.{is_above}
use Rattle.elf32_write.proofs.file.head.added_place.Given as goal

abbrev pub invariant-loop-place : goal.invariant-loop-place
invariant-loop-place l = position_or_len (is_above l.base) l.headers ≡ l.place + position_or_len (is_above l.base) (drop l.place l.headers)
