use Rattle.std.proofs.Common.{◌≡◌, take}
use Rattle.mini_asm.specs.Labels.{place_of}
use Rattle.mini_asm.specs.Spots.{address_in}
use Rattle.mini_asm.specs.Writing.{lines_of}
use Rattle.mini_asm.proofs.writing.lines_of.Given as goal

abbrev pub invariant-loop-place : goal.invariant-loop-place
invariant-loop-place l = l.lines.items ≡ lines_of (address_in (place_of l.labels) l.spots) (take l.place l.forms) (take l.place l.spots)
