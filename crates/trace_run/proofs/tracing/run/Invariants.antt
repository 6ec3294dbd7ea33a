use Rattle.std.proofs.Common.{◌≡◌, ◌≤◌, ◌+◌, length}
use Rattle.syscall_log.specs.Meaning.{answers_of}
use Rattle.x86_machine.specs.Stepping.{answers_from, state_of, HasRoom}
use Rattle.trace_run.specs.Reports.{Reaches}
use Rattle.trace_run.proofs.tracing.run.Given as goal

abbrev pub invariant-loop-done : goal.invariant-loop-done
invariant-loop-done l = record {
  log : l.answers.log.now ≡ l.log;
  next : l.answers.next ≤ length l.answers.log.now.answers;
  room : length l.answers.log.now.answers ≤ l.machine.calls.spare + l.answers.next;
  descs : HasRoom l.machine l.answers.log.now l.answers.next;
  reached : Reaches (state_of l.fn.machine (answers_of l.log.answers)) l.done (state_of l.machine (answers_from l.answers.log.now l.answers.next));
}
