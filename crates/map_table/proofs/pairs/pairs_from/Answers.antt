use Rattle.std.proofs.Common.{ℕ, List, sym, subst, ltb, ltb-true, ltb-false, length, take, drop, ◌-◌, arith, rules}
use Rattle.std.proofs.lemmas.List.Sorted.{IsPartitionPoint-from_clause, IsPartitionedBy-ltb}
use Rattle.map_table.specs.laws.Skips.{SkippedPairs, skip_pairs, firsts_never_fall, all_left}
use Rattle.map_table.proofs.pairs.pairs_from.Goals as goal

skipped : (c : goal.After-result-1) → SkippedPairs c.args.address c.args.pairs.now (take (length c.args.pairs.now - c.partition_point.result) (drop c.partition_point.result c.args.pairs.now))
skipped c =
    let parted = IsPartitionedBy-ltb (λ (p : ℕ × ℕ). p.0) _ c.args.address (firsts_never_fall 0 c.args.pairs.now c.requires) in
    let point = IsPartitionPoint-from_clause (λ (p : ℕ × ℕ). ltb p.0 c.args.address) _ _ c.partition_point.ensures.partitioned parted (λ a r q k. search rules) in
    let all : SkippedPairs c.args.address c.args.pairs.now (drop c.partition_point.result c.args.pairs.now) =
    skip_pairs c.args.address c.args.pairs.now c.partition_point.result c.requires c.partition_point.ensures.bound
    (λ k d lt. ltb-true _ _ (point.0 k d (omega arith) lt)) (λ k d le lt. ltb-false _ _ (point.1 k d le lt)) in
    subst (λ (qs : List (ℕ × ℕ)). SkippedPairs c.args.address c.args.pairs.now qs) (sym (all_left c.args.pairs.now c.partition_point.result)) all

pub returns-clause-ascend : goal.returns-clause-ascend
returns-clause-ascend c = (skipped c).ascend

pub returns-clause-site : goal.returns-clause-site
returns-clause-site c = (skipped c).site

pub returns-clause-same : goal.returns-clause-same
returns-clause-same c = (skipped c).same
