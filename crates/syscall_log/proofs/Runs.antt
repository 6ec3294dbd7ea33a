-- The items of a log run through the phases.
use Rattle.std.proofs.Common.{◌≡◌, ℕ, zero, suc, ◌+◌, ◌-◌, ◌≤◌, List, [], ◌∷◌, ◌++◌, length, map, sum_by, refl, arith}
use Rattle.std.specs.List.{flat_map, All, AllByRecursion}
use Rattle.std.proofs.lemmas.List.Sums.{sum_by-cons}
use Rattle.mv_base.specs.Effects.{IsEffect}
use Rattle.syscall_log.specs.declared.effect.Effect.{Effect}
use Rattle.syscall_log.specs.declared.answer.Answer.{Answer}
use Rattle.syscall_log.specs.declared.answer.Answer.TheVariants as answer
use Rattle.syscall_log.specs.declared.item.Item.{Item}
use Rattle.syscall_log.specs.declared.item.Item.TheVariants as item
use Rattle.syscall_log.specs.declared.phase.Phase.{Phase}
use Rattle.syscall_log.specs.declared.phase.Phase.TheVariants as phase
use Rattle.syscall_log.specs.Meaning.{effect_of}
use Rattle.syscall_log.specs.Rules.{IsArgument, AreAnswers, IsLog}
use Rattle.syscall_log.specs.Grammar.{answer_items, items_of}
use Rattle.syscall_log.specs.Phases.{IsItem, Fits, phase_after}
use Rattle.syscall_log.proofs.Splitting.{AreItems}

-- items may come one after the other, from a phase on
abbrev pub MayRun : Phase → List Item → Type 0
MayRun p [] = Unit {0}
MayRun p (i ∷ items) = IsItem i × Fits p i × MayRun (phase_after p i) items

-- the phase behind them
abbrev pub phase_behind : Phase → List Item → Phase
phase_behind p [] = p
phase_behind p (i ∷ items) = phase_behind (phase_after p i) items

pub phase_behind-append : (p : Phase) (items more : List Item) → phase_behind p (items ++ more) ≡ phase_behind (phase_behind p items) more
phase_behind-append p [] more = refl
phase_behind-append p (i ∷ items) more = phase_behind-append (phase_after p i) items more

-- what runs behind them
pub MayRun-behind : (p : Phase) (items more : List Item) → MayRun p (items ++ more) → MayRun (phase_behind p items) more
MayRun-behind p [] more run = run
MayRun-behind p (i ∷ items) more run = MayRun-behind (phase_after p i) items more run.2

pub MayRun-front : (p : Phase) (items more : List Item) → MayRun p (items ++ more) → MayRun p items
MayRun-front p [] more run = tt
MayRun-front p (i ∷ items) more run = (run.0, run.1, MayRun-front (phase_after p i) items more run.2)

pub AreItems-run : (p : Phase) (items : List Item) → MayRun p items → AreItems items
AreItems-run p [] run = tt
AreItems-run p (i ∷ items) run = (run.0, AreItems-run (phase_after p i) items run.2)

-- a phase in which an answer may come
record Answers (p : Phase) : Type 0 where
  value : (eax : ℕ) → Fits p (item.Ret eax)
  gone : Fits p item.Gone
  cpuid : (eax ebx ecx edx : ℕ) → Fits p (item.Cpuid eax ebx ecx edx)

after_answer : Answers phase.Answers
after_answer = record { value = λ eax. tt; gone = tt; cpuid = λ eax ebx ecx edx. tt }

after_cpuid : Answers phase.Settled
after_cpuid = record { value = λ eax. tt; gone = tt; cpuid = λ eax ebx ecx edx. tt }

-- effects run behind an answer
effects_run : (effects : List Effect) (more : List Item) → AllByRecursion IsEffect (map effect_of effects) → MayRun phase.Answers more → MayRun phase.Answers (map item.Change effects ++ more)
effects_run [] more are run = run
effects_run (e ∷ effects) more are run = (are.0, tt, effects_run effects more are.1 run)

answers_run : (p : Phase) (answers : List Answer) → Answers p → AreAnswers answers → MayRun p (flat_map answer_items answers)
answers_run p [] may are = tt
answers_run p (answer.Ret eax effects ∷ answers) may are =
    (are.0.0, may.value eax, effects_run effects (flat_map answer_items answers) are.0.1 (answers_run phase.Answers answers after_answer are.2))
answers_run p (answer.Gone ∷ answers) may are = (tt, may.gone, none answers are.1) where
  none : (answers : List Answer) → length answers ≡ 0 → MayRun phase.Over (flat_map answer_items answers)
  none [] e = tt
  none (a ∷ answers) e = absurd (omega arith)
answers_run p (answer.Cpuid eax ebx ecx edx ∷ answers) may are =
    (are.0, may.cpuid eax ebx ecx edx, answers_run phase.Settled answers after_cpuid are.2)

-- the bytes of arguments, with one ending zero each
abbrev pub bytes_of : List (List ℕ) → ℕ
bytes_of args = sum_by (λ a. length a + 1) args

arguments_run : (places room : ℕ) (args : List (List ℕ)) (answers : List Answer) → length args ≤ places → bytes_of args ≤ room → All IsArgument args → AreAnswers answers → MayRun (phase.Arguments places room) (map item.Arg args ++ flat_map answer_items answers)
arguments_run places room [] answers few short each are =
    answers_run (phase.Arguments places room) answers (record { value = λ eax. tt; gone = tt; cpuid = λ eax ebx ecx edx. tt }) are
arguments_run places room (a ∷ args) answers few short each are =
    let sum = sum_by-cons (λ a. length a + 1) a args in (
      each zero a (omega arith),
      (omega arith, omega arith),
      arguments_run (places - 1) (room - (length a + 1)) args answers (omega arith) (omega arith) (λ k d below. each (suc k) d (omega arith)) are,
    )

-- the items of a log run
pub log_runs : (args : List (List ℕ)) (answers : List Answer) → IsLog args answers → MayRun phase.Start (items_of args answers)
log_runs args answers is =
    (tt, tt, arguments_run 1024 65536 args answers is.arguments.few is.arguments.short is.arguments.each is.answers_keep)
