use Rattle.std.proofs.Common.{ℕ, ◌<◌}
use Rattle.mini_asm.specs.Labels.{StandsAt, place_of}
use Rattle.mini_asm.proofs.labels.first_misplaced.Given as goal

abbrev pub invariant-loop-place : goal.invariant-loop-place
invariant-loop-place l = (k : ℕ) → k < l.place → StandsAt (place_of l.labels) l.forms k
