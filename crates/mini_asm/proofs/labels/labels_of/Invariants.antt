use Rattle.std.proofs.Common.{◌≡◌, ℕ, List, take}
use Rattle.mini_asm.specs.Labels.{first_place, place_of}
use Rattle.mini_asm.proofs.labels.labels_of.Given as goal

abbrev pub invariant-loop-place : goal.invariant-loop-place
invariant-loop-place l = (q : List ℕ) → place_of l.labels q ≡ first_place 0 (take l.place l.forms) q
