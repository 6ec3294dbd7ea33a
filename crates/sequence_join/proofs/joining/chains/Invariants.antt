use Rattle.std.proofs.Common.{◌≡◌, ◌++◌, drop, length, map}
use Rattle.std.specs.List.{AllByRecursion}
use Rattle.sequence_join.specs.Chains.{chains_from, chains_of}
use Rattle.sequence_join.specs.Spans.{chain_in, IsWithin}
use Rattle.sequence_join.specs.Walking.{is_taken}
use Rattle.sequence_join.proofs.joining.chains.Given as goal

abbrev pub invariant-loop-first : goal.invariant-loop-first
invariant-loop-first l = record {
  whole : chains_of l.sites ≡ map (chain_in l.links.items) l.spans.items ++ chains_from (is_taken l.taken.items) l.first (drop l.first l.sites);
  within : AllByRecursion (IsWithin (length l.links.items)) l.spans.items;
  marks : length l.taken.items ≡ length l.sites;
}
