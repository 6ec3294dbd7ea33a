use Rattle.std.proofs.Common.{◌≡◌, ◌+◌, Some, drop}
use Rattle.sequence_join.specs.Chains.{rest}
use Rattle.sequence_join.specs.Walking.{is_taken}
use Rattle.sequence_join.proofs.joining.follower.Given as goal

abbrev pub invariant-loop-index : goal.invariant-loop-index
invariant-loop-index l =
    rest (is_taken l.taken) (Some l.address) (l.here + 1) (drop (l.here + 1) l.sites) ≡ rest (is_taken l.taken) (Some l.address) l.index (drop l.index l.sites)
