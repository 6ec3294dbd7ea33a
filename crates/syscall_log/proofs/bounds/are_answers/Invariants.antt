use Rattle.std.proofs.Common.{◌≡◌, ◌+◌, length, drop}
use Rattle.syscall_log.specs.Rules.{AreAnswers}
use Rattle.syscall_log.proofs.bounds.are_answers.Given as goal

abbrev pub invariant-loop-answer : goal.invariant-loop-answer
invariant-loop-answer l =
    record {
      left_is : l.left + l.answer-index ≡ length l.answers;
      back : AreAnswers (drop l.answer-index l.answers) → AreAnswers l.answers;
      on : AreAnswers l.answers → AreAnswers (drop l.answer-index l.answers);
    }
