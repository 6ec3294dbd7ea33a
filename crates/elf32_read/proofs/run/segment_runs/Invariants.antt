-- The runs of the segments so far, with those of the segments left.
use Rattle.std.proofs.Common.{◌≡◌, drop}
use Rattle.elf32_read.specs.Runs.{runs_in}
use Rattle.elf32_read.specs.Joining.{runs_with}
use Rattle.elf32_read.proofs.run.segment_runs.Given as goal

abbrev pub invariant-loop-segment : goal.invariant-loop-segment
invariant-loop-segment l = runs_with l.bytes l.joining (drop l.segment-index l.segments) ≡ runs_in l.bytes l.segments
