use Rattle.std.proofs.Common.{◌∷◌, ◌++◌, ap, ◌∙◌}
use Rattle.syscall_log.proofs.Spelling.{item-found}
use Rattle.syscall_log.proofs.Stuck.{handed-on, stuck-no-place}
use Rattle.syscall_log.proofs.items.next_item.Goals as goal

pub returns-in_err-item-clause-unknown : goal.returns-in_err-item-clause-unknown
returns-in_err-item-clause-unknown c =
    handed-on c.from_residual.result _ c.args.phase c.args.text.now _ _ c.from_residual.ensures.1 c.in-Some.ensures.some c.in_err-item.ensures

pub returns-in_default-after-clause-unknown : goal.returns-in_default-after-clause-unknown
returns-in_default-after-clause-unknown c = λ _. stuck-no-place c.args.phase c.args.text.now _ _ c.in_ok-item.item c.in-Some.ensures.some c.in_ok-item.ensures c.in_default-after.ensures.none

pub returns-clause-next : goal.returns-clause-next
returns-clause-next c =
    let first = c.in-Some.ensures.some in
    let found = item-found c.in-Some.line.now c.in_ok-item.item c.in_ok-item.ensures in
    let after = c.in-Some-after.ensures.some in
    record { begins = first.whole ∙ ap (λ line. line ++ 10 ∷ c.in-Some.rest.now) found; may_come = after.0; goes_on = after.1 }
