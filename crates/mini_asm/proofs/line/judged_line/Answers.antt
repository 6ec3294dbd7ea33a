use Rattle.std.proofs.Common.{sym, ◌∙◌}
use Rattle.std.proofs.lemmas.Bool.{false≢true}
use Rattle.mini_asm.proofs.Reading.{kept-judged, no-candidate, other-judged, other-line}
use Rattle.mini_asm.proofs.line.judged_line.Goals as goal
use Rattle.mini_asm.proofs.line.judged_line.Goals.{else-branch-via-then-branch+else-is_judged, else-branch-via-else-branch}

pub returns-in_default : goal.returns-in_default
returns-in_default c = λ i h is. no-candidate c.args.line.now 0 i (sym c.in_default.ensures) (kept-judged i h) is

pub returns-else-branch : goal.returns-else-branch
returns-else-branch c =
    let line = c.args.line.now in
    let one = sym c.in-Some.ensures in
    elim c.else-branch.branch [
      | else-branch-via-then-branch+else-is_judged w ↦ other-judged line c.in-Some.found one (λ judged. false≢true (w.if-is_judged.ensures.1 judged))
      | else-branch-via-else-branch w ↦ other-line line c.in-Some.found one (λ same. false≢true (sym w.if-branch.false ∙ c.in_ok-is_text.ensures.1 same))
    ]
