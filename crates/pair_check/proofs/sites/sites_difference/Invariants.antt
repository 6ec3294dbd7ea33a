use Rattle.pair_check.proofs.Walks.{IsGoing}
use Rattle.pair_check.proofs.sites.sites_difference.Given as goal

abbrev pub invariant-loop-run : goal.invariant-loop-run
invariant-loop-run l = IsGoing l.frame l.runs l.run-index l.count
