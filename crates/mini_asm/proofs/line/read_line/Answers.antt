use Rattle.std.proofs.Common.{◌≡◌, sym, ◌∙◌, subst}
use Rattle.std.proofs.lemmas.Bool.{false≢true}
use Rattle.x86_insn.specs.declared.insn.Insn.{Insn}
use Rattle.insn_text.specs.Text.{text_of}
use Rattle.mini_asm.specs.Building.{relative}
use Rattle.mini_asm.specs.Lines.{HasSpelling}
use Rattle.mini_asm.proofs.Reading.{kept-of, no-candidate, other-text, other-kind}
use Rattle.mini_asm.proofs.line.read_line.Goals as goal
use Rattle.mini_asm.proofs.line.read_line.Goals.{else-branch-via-then-branch+else-has_spelling, else-branch-via-else-branch}

pub returns-in_default : goal.returns-in_default
returns-in_default c = λ i h is. no-candidate c.args.line.now c.args.next i (sym c.in_default.ensures) (kept-of i h) is

pub returns-else-branch : goal.returns-else-branch
returns-else-branch c =
    let line = c.args.line.now in
    let next = c.args.next in
    let one = sym c.in-Some.ensures in
    let made : c.relative-insn.result ≡ relative next c.in-Some.found = c.relative-insn.ensures in
    elim c.else-branch.branch [
      | else-branch-via-then-branch+else-has_spelling w ↦ λ i h is.
          other-kind line next c.in-Some.found c.ranges.next.fits one HasSpelling
          (λ spelled. false≢true (w.if-has_spelling.ensures.1 (subst HasSpelling (sym made) spelled))) i (kept-of i h) h is
      | else-branch-via-else-branch w ↦ λ i h is.
          other-text line next c.in-Some.found c.ranges.next.fits one
          (λ same. false≢true (sym w.if-branch.false ∙ c.in_ok-is_text.ensures.1 (subst (λ (j : Insn). text_of j next ≡ line) (sym made) same))) i (kept-of i h) is
    ]
