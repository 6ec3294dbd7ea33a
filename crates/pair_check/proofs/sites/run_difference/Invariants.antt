use Rattle.std.proofs.Common.{[], ◌∷◌}
use Rattle.elf32_read.specs.Runs.{code_of}
use Rattle.pair_check.proofs.Walks.{IsWalking}
use Rattle.pair_check.proofs.sites.run_difference.Given as goal

abbrev pub invariant-loop-offset : goal.invariant-loop-offset
invariant-loop-offset l = IsWalking l.frame (code_of (l.run ∷ [])) l.run l.offset l.count
