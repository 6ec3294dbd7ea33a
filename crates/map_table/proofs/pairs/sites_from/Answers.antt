use Rattle.std.proofs.Common.{ℕ, List, sym, subst, ltb, ltb-true, ltb-false, length, take, drop, ◌-◌, arith, rules}
use Rattle.std.proofs.lemmas.List.Sorted.{IsPartitionPoint-from_clause, IsPartitionedBy-ltb}
use Rattle.map_table.specs.laws.Skips.{SkippedSites, skip_sites, never_falls, all_left}
use Rattle.map_table.proofs.pairs.sites_from.Goals as goal

skipped : (c : goal.After-result-1) → SkippedSites c.args.address c.args.sites.now (take (length c.args.sites.now - c.partition_point.result) (drop c.partition_point.result c.args.sites.now))
skipped c =
    let parted = IsPartitionedBy-ltb (λ (x : ℕ). x) _ c.args.address (never_falls 0 c.args.sites.now c.requires) in
    let point = IsPartitionPoint-from_clause (λ (x : ℕ). ltb x c.args.address) _ _ c.partition_point.ensures.partitioned parted (λ a r q k. search rules) in
    let all : SkippedSites c.args.address c.args.sites.now (drop c.partition_point.result c.args.sites.now) =
    skip_sites c.args.address c.args.sites.now c.partition_point.result c.requires c.partition_point.ensures.bound
    (λ k d lt. ltb-true _ _ (point.0 k d (omega arith) lt)) (λ k d le lt. ltb-false _ _ (point.1 k d le lt)) in
    subst (λ (ys : List ℕ). SkippedSites c.args.address c.args.sites.now ys) (sym (all_left c.args.sites.now c.partition_point.result)) all

pub returns-clause-ascend : goal.returns-clause-ascend
returns-clause-ascend c = (skipped c).ascend

pub returns-clause-same : goal.returns-clause-same
returns-clause-same c = (skipped c).same
