use Rattle.std.proofs.Common.{sym, ap, ◌∙◌, subst}
use Rattle.std.proofs.lemmas.List.Filters.{dedup_is}
use Rattle.counter_hooks.specs.Rules.{Ascend}
use Rattle.mv_rewrite.specs.Upgrading.{sorted_once}
use Rattle.mv_rewrite.proofs.Listed.{dedup_ascends, dedup_sorted}
use Rattle.mv_rewrite.proofs.upgrading.listed.Goals as goal

pub returns-clause-is : goal.returns-clause-is
returns-clause-is c =
    c.new.ensures
    ∙ (dedup_is _ _ _ c.dedup.ensures.filtered
    ∙ (dedup_sorted _ _ c.sort_unstable.ensures.permutation c.sort_unstable.ensures.sorted
    ∙ ap sorted_once c.in_ok-addresses.ensures))

pub returns-clause-ascends : goal.returns-clause-ascends
returns-clause-ascends c =
    subst Ascend (sym (c.new.ensures ∙ dedup_is _ _ _ c.dedup.ensures.filtered)) (dedup_ascends _ c.sort_unstable.ensures.sorted)
