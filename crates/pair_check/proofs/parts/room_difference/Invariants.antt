use Rattle.std.proofs.Common.{◌≡◌, drop}
use Rattle.pair_check.specs.Parts.{room_differs}
use Rattle.pair_check.proofs.parts.room_difference.Given as goal

abbrev pub invariant-loop-segment : goal.invariant-loop-segment
invariant-loop-segment l = room_differs l.frame l.segments ≡ room_differs l.frame (drop l.segment-index l.segments)
