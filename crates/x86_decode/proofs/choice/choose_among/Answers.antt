use Rattle.std.proofs.Common.{sym, ◌∙◌}
use Rattle.x86_decode.proofs.Choosing.{chosen_at, skip_step}
use Rattle.x86_decode.proofs.choice.choose_among.Goals as goal

pub loop-form-preserved : goal.loop-form-preserved
loop-form-preserved c = skip_step c.args.forms.now c.args.marks.now c.args.opcode c.args.bytes.now c.loop-form.form-index _ _ c.loop-form-test.true (sym c.may_take.ensures ∙ c.if-may_take.false) c.loop-form.invariant

pub returns-then-may_take : goal.returns-then-may_take
returns-then-may_take c = chosen_at c.choose_or_leave.result c.args.forms.now c.args.marks.now c.args.opcode c.args.bytes.now c.loop-form.form-index c.args.before _ _ c.loop-form-test.true c.loop-form.invariant c.choose_or_leave.ensures.somewhere c.choose_or_leave.ensures.by
