use Rattle.std.proofs.Common.{◌≡◌, ℕ, ◌-◌, ◌<◌, ◌≤◌, ◌++◌, false, ◌||◌, length, drop}
use Rattle.sequence_join.specs.Chains.{is_among}
use Rattle.sequence_join.specs.Walking.{is_taken, chain_at}
use Rattle.sequence_join.proofs.Marks.{behind}
use Rattle.sequence_join.proofs.joining.put_chain.Given as goal

abbrev pub invariant-loop-taken : goal.invariant-loop-taken
invariant-loop-taken l = record {
  split : l.links.items ≡ l.fn.links.items ++ drop (length l.fn.links.items) l.links.items;
  whole : behind (drop (length l.fn.links.items) l.links.items) (chain_at (is_taken l.fn.taken) l.sites l.here) ≡ chain_at (is_taken l.fn.taken) l.sites l.first;
  marks : (j : ℕ) → is_taken l.taken j ≡ (is_taken l.fn.taken j || is_among (drop (length l.fn.links.items) l.links.items) j);
  fresh : (j : ℕ) → l.here ≤ j → is_among (drop (length l.fn.links.items) l.links.items) j ≡ false;
  inside : l.here < length l.sites;
}

abbrev pub decreases-loop-taken : goal.decreases-loop-taken
decreases-loop-taken l = length l.sites - l.here
