use Rattle.std.proofs.Common.{◌≡◌, ◌≤◌, ◌+◌, length}
use Rattle.x86_machine.specs.Stepping.{HasRoom}
use Rattle.library_tests.proofs.machine.run.Given as goal

abbrev pub invariant-loop-done : goal.invariant-loop-done
invariant-loop-done l = record {
  log : l.answers.log.now ≡ l.log;
  next : l.answers.next ≤ length l.answers.log.now.answers;
  descs : HasRoom l.machine l.answers.log.now l.answers.next;
  room : length l.answers.log.now.answers ≤ l.machine.calls.spare + l.answers.next;
}
