use Rattle.std.proofs.Common.{◌≢◌, ◌<◌, [], length, Some, None, sym, ap, ◌∙◌, subst, arith, rules, tests}
use Rattle.mini_asm.specs.Forms.{IsLabelOf}
use Rattle.mini_asm.specs.Lines.{IsJudgment}
use Rattle.mini_asm.proofs.Forming.{raw-exact, aimed-exact, no-form}
use Rattle.mini_asm.proofs.form.read_form.Goals as goal

pub returns-in-Some-2 : goal.returns-in-Some-2
returns-in-Some-2 c = raw-exact c.args.line.now (Some c.in-Some-2.bytes) (sym c.in-Some-2.is ∙ c.in_ok-bytes.ensures)

pub returns-in-Some-3 : goal.returns-in-Some-3
returns-in-Some-3 c = aimed-exact c.args.line.now (Some (c.in-Some-3.insn, c.in-Some-3.name)) (sym c.in-Some-3.is ∙ c.in_ok-insn.ensures)

pub returns-in-None : goal.returns-in-None
returns-in-None c =
    let line = c.args.line.now in
    let more : 0 < length line = search (rules, tests) in
    let some : line ≢ [] = λ e. absurd (omega (arith, more, ap length e)) in
    no-form line some
    (subst (IsLabelOf line) c.in_default.is c.in_ok-name.ensures)
    (raw-exact line None (sym c.in_default-2.is ∙ c.in_ok-bytes.ensures))
    (aimed-exact line None (sym c.in_default-3.is ∙ c.in_ok-insn.ensures))
    (subst (IsJudgment line) c.in-None.is c.in_ok-insn-2.ensures)
