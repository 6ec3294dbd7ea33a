use Rattle.std.proofs.Common.{◌+◌, drop, Some, refl, ◌∙◌}
use Rattle.sequence_join.specs.Walking.{is_taken}
use Rattle.sequence_join.specs.laws.Rests.{rest_end, rest_nowhere, walk_past, walk_found, walk_beyond}
use Rattle.std.proofs.lemmas.List.{drop_all}
use Rattle.sequence_join.proofs.joining.follower.Goals as goal

pub returns-in_err-address-clause-next : goal.returns-in_err-address-clause-next
returns-in_err-address-clause-next c =
    rw (c.from_residual.ensures, c.in_err-address.was) (rest_nowhere (is_taken c.args.taken.now) (c.args.here + 1) (drop (c.args.here + 1) c.args.sites.now))

pub returns-then-at-address-clause-next : goal.returns-then-at-address-clause-next
returns-then-at-address-clause-next c =
    rw (c.then_some.ensures, c.in_ok-address.was)
    (c.loop-index.invariant ∙ walk_found (is_taken c.args.taken.now) c.args.sites.now c.in_ok-address.address c.loop-index.index _ c.loop-index-test.true (is_taken c.args.taken.now c.loop-index.index) c.if-at-address.true refl)

pub returns-then-at-address-2-clause-next : goal.returns-then-at-address-2-clause-next
returns-then-at-address-2-clause-next c =
    rw c.in_ok-address.was
    (c.loop-index.invariant ∙ walk_beyond (is_taken c.args.taken.now) c.args.sites.now c.in_ok-address.address c.loop-index.index _ c.loop-index-test.true c.requires.ascend c.if-at-address-2.true)

pub loop-index-preserved : goal.loop-index-preserved
loop-index-preserved c =
    c.loop-index.invariant ∙ walk_past (is_taken c.args.taken.now) c.args.sites.now c.in_ok-address.address c.loop-index.index _ c.loop-index-test.true c.if-at-address.false

pub returns-clause-next : goal.returns-clause-next
returns-clause-next c =
    rw c.in_ok-address.was
    (c.loop-index.invariant ∙ rest_end (is_taken c.args.taken.now) (Some c.in_ok-address.address) c.loop-index.index _ (drop_all c.loop-index.index c.args.sites.now c.loop-index-test.false))
