use Rattle.syscall_log.proofs.Drafting.{changed-last}
use Rattle.syscall_log.proofs.draft.Draft.add.Goals as goal

pub returns-in_ok-push-in-Change-clause-answers : goal.returns-in_ok-push-in-Change-clause-answers
returns-in_ok-push-in-Change-clause-answers c =
    changed-last c.args.self.now.answers.items c.pop.new.self.items c.push-in-Some.new.self.items c.in-Some.answer c.in_ok-changed-in-Change.field-0 c.in-Change.effect c.args.item
    c.in-Some.ensures.items c.in_ok-changed-in-Change.ensures c.in_ok-push-in-Change.ensures.items c.in-Change.is
