-- What the values of a log mean on a memory of cells and its descriptors. This project's own.
use Rattle.std.specs.Prelude.{Bool, true, false, List, map}
use Rattle.mv_base.specs.Effects.{Mode, Effect, Answer}
use Rattle.mv_base.specs.Effects as cells
use Rattle.syscall_log.specs.declared.effect.Mode.{Mode as Kept}
use Rattle.syscall_log.specs.declared.effect.Mode.TheVariants as mode
use Rattle.syscall_log.specs.declared.effect.Effect.{Effect as Change}
use Rattle.syscall_log.specs.declared.effect.Effect.TheVariants as effect
use Rattle.syscall_log.specs.declared.answer.Answer.{Answer as Reply}
use Rattle.syscall_log.specs.declared.answer.Answer.TheVariants as answer

abbrev pub mode_of : Kept → Mode
mode_of mode.Read = cells.Read
mode_of mode.Write = cells.Write
mode_of mode.Exec = cells.Exec

abbrev pub effect_of : Change → Effect
effect_of (effect.Write lo bytes) = cells.WriteAt lo bytes
effect_of (effect.Map lo len mode bytes) = cells.MapAt lo len (mode_of mode) bytes
effect_of (effect.Unmap lo len) = cells.UnmapAt lo len
effect_of (effect.Desc index base) = cells.DescAt index base

abbrev pub answer_of : Reply → Answer
answer_of (answer.Ret eax effects) = cells.Ret eax (map effect_of effects)
answer_of answer.Gone = cells.Gone
answer_of (answer.Cpuid eax ebx ecx edx) = cells.Cpuid eax ebx ecx edx

-- the answers, the first that is taken in front
abbrev pub answers_of : List Reply → List Answer
answers_of replies = map answer_of replies

abbrev pub is_gone : Reply → Bool
is_gone (answer.Ret eax effects) = false
is_gone answer.Gone = true
is_gone (answer.Cpuid eax ebx ecx edx) = false
