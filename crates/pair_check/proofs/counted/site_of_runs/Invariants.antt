use Rattle.std.proofs.Common.{◌≡◌, drop}
use Rattle.elf32_read.specs.Runs.{code_of}
use Rattle.pair_check.proofs.counted.site_of_runs.Given as goal

abbrev pub invariant-loop-run : goal.invariant-loop-run
invariant-loop-run l = code_of l.runs l.address ≡ code_of (drop l.run-index l.runs) l.address
