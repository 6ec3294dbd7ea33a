use Rattle.std.proofs.Common.{add-one, arith, take, ap, ◌∙◌}
use Rattle.mv_base.specs.Effects.{descriptors_in}
use Rattle.syscall_log.specs.Meaning.{answers_of}
use Rattle.x86_machine.proofs.Answering.{more-descriptors}
use Rattle.x86_machine.proofs.starting.descriptors_in.Goals as goal

pub loop-answer-preserved : goal.loop-answer-preserved
loop-answer-preserved c =
    let xs = c.args.answers.now in
    let i = c.loop-answer.answer-index in
    let more = more-descriptors xs i c.answer-item.result c.loop-answer-test.true c.answer-item.is in
    let next = ap (λ k. descriptors_in (answers_of (take k xs))) (add-one i) in
    omega (arith, next, more, c.loop-answer.invariant, c.in-Some.ensures.1, c.descriptors_of.ensures)
