use Rattle.std.proofs.Common.{◌+◌, inl, inr, refl, sym, ap, ◌∙◌, subst, rules, tests}
use Rattle.std.proofs.lemmas.Bool.{false≢true}
use Rattle.syscall_log.specs.Drafts.{args_with}
use Rattle.syscall_log.specs.Grammar.{text_of}
use Rattle.syscall_log.proofs.Judging.{HasRead, HasRead-more, is-log, is-text, bad-line, fault-of}
use Rattle.syscall_log.proofs.read.read_log.Goals as goal
use Rattle.syscall_log.proofs.read.read_log.Goals.{then-is_start, else-is_start+then-not-is_empty}

pub returns-in-Err-clause-fault : goal.returns-in-Err-clause-fault
returns-in-Err-clause-fault c =
    let l = c.loop-rest in
    rw c.at.ensures (
    fault-of c.args.bytes.now (l.line + 1) c.in-Err.fault (λ unknown.
    bad-line c.args.bytes.now l.phase l.draft.args.items l.draft.answers.items l.line l.rest.now l.invariant (c.in-Err.ensures.unknown unknown)
    (elim c.if-is_start.branch [
      | then-is_start w ↦ inl (w.if-is_start.ensures.0 refl)
      | else-is_start+then-not-is_empty w ↦ inr (search (rules, tests))
    ])))

pub loop-rest-preserved : goal.loop-rest-preserved
loop-rest-preserved c =
    let l = c.loop-rest in
    let n = c.in-Ok.next in
    let more = HasRead-more c.args.bytes.now l.phase n.phase l.draft.args.items l.draft.answers.items l.line l.rest.now n.rest.now n.item l.invariant c.in-Ok.ensures.next in
    subst (λ args. HasRead c.args.bytes.now n.phase args c.add.new.self.answers.items (l.line + 1) n.rest.now) (sym c.in_ok-add.ensures.args) (
    subst (λ answers. HasRead c.args.bytes.now n.phase (args_with l.draft.args.items n.item) answers (l.line + 1) n.rest.now) (sym c.in_ok-add.ensures.answers) more)

pub into_log-requires : goal.into_log-requires
into_log-requires c =
    let l = c.loop-rest in
    is-log c.args.bytes.now l.phase l.draft.args.items l.draft.answers.items l.line l.rest.now l.invariant (λ e. false≢true (c.if-is_start.ensures.1 e))

pub returns-clause-log : goal.returns-clause-log
returns-clause-log c =
    let l = c.loop-rest in
    is-text c.args.bytes.now l.phase l.draft.args.items l.draft.answers.items l.line l.rest.now l.invariant (λ e. false≢true (c.if-is_start.ensures.1 e)) (search (rules, tests))
    ∙ ap (λ args. text_of args l.draft.answers.items) (sym c.into_log.ensures.args)
    ∙ ap (text_of c.into_log.result.args) (sym c.into_log.ensures.answers)
