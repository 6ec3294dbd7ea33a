use Rattle.std.proofs.Common.{ℕ, ◌<◌}
use Rattle.mini_asm.specs.Labels.{place_of}
use Rattle.mini_asm.specs.Spots.{FarAt, address_in}
use Rattle.mini_asm.proofs.judging.far_loop.Given as goal

abbrev pub invariant-loop-place : goal.invariant-loop-place
invariant-loop-place l = (k : ℕ) → k < l.place → FarAt (address_in (place_of l.labels) l.spots) l.forms l.spots k → ⊥
