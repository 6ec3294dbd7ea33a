use Rattle.std.proofs.Common.{◌≡◌, ◌≤◌, take}
use Rattle.mini_asm.specs.Faults.{most_code}
use Rattle.mini_asm.specs.Spots.{total}
use Rattle.mini_asm.proofs.judging.used.Given as goal

abbrev pub invariant-loop-place : goal.invariant-loop-place
invariant-loop-place l = (l.all ≡ total (take l.place l.spots)) × (l.all ≤ most_code)
