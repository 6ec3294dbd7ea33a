use Rattle.std.proofs.Common.{length}
use Rattle.syscall_log.proofs.Judging.{HasRead}
use Rattle.syscall_log.proofs.read.read_log.Given as goal

abbrev pub invariant-loop-rest : goal.invariant-loop-rest
invariant-loop-rest l = HasRead l.bytes l.phase l.draft.args.items l.draft.answers.items l.line l.rest

abbrev pub decreases-loop-rest : goal.decreases-loop-rest
decreases-loop-rest l = length l.rest
