use Rattle.std.proofs.Common.{sym, ap, ◌∙◌}
use Rattle.elf32_write.specs.Frame.{pair_at}
use Rattle.mv_rewrite.proofs.Listed.{kind_taken, kind_passed}
use Rattle.mv_rewrite.proofs.upgrading.of_kind.Goals as goal
use Rattle.mv_rewrite.proofs.upgrading.of_kind.Goals.{then-is_kind+in_ok-push, else-is_kind}

pub loop-index-preserved : goal.loop-index-preserved
loop-index-preserved c =
    let kind_is = c.kind_at.ensures.value in
    elim c.if-is_kind.branch [
      | then-is_kind+in_ok-push w ↦
          kind_taken c.args.kind (pair_at c.args.frame.now) c.loop-index.index c.loop-index.addresses.items c.if-is_kind.addresses.items c.loop-index.invariant w.counted_at.result
          (sym kind_is ∙ w.if-is_kind.true) w.counted_at.ensures (ap (λ v. v.items) w.addresses-is ∙ w.in_ok-push.ensures.items)
      | else-is_kind w ↦
          kind_passed c.args.kind (pair_at c.args.frame.now) c.loop-index.index c.loop-index.addresses.items c.if-is_kind.addresses.items c.loop-index.invariant
          (λ zeroth. w.if-is_kind.false (kind_is ∙ zeroth)) (ap (λ v. v.items) w.addresses-is)
    ]
