use Rattle.std.proofs.Common.{◌≡◌, ◌+◌, ◌%◌, ◌^◌, take}
use Rattle.elf32_read.specs.CodeImage.{code_base}
use Rattle.mini_asm.specs.Spots.{AreSpots, total}
use Rattle.mini_asm.proofs.spots.spots_of.Given as goal

abbrev pub invariant-loop-form : goal.invariant-loop-form
invariant-loop-form l = (l.at ≡ (code_base + total l.spots.items) % 2 ^ 32) × AreSpots code_base (take l.form-index l.forms) l.spots.items
