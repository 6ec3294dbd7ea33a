use Rattle.std.proofs.Common.{◌≡◌, take}
use Rattle.mv_base.specs.Effects.{descriptors_in}
use Rattle.syscall_log.specs.Meaning.{answers_of}
use Rattle.x86_machine.proofs.starting.descriptors_in.Given as goal

abbrev pub invariant-loop-answer : goal.invariant-loop-answer
invariant-loop-answer l = l.count ≡ descriptors_in (answers_of (take l.answer-index l.answers))
