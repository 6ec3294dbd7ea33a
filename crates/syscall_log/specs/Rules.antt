-- The bounds that a log keeps. This project's own.
use Rattle.std.specs.Prelude.{◌≡◌, ◌≢◌, ℕ, zero, suc, ◌+◌, ◌<◌, ◌≤◌, List, [], ◌∷◌, length, map, sum_by, slice_index, slice_index_or}
use Rattle.std.specs.List.{All, AllByRecursion, AllByRecursion-prop}
use Rattle.std.proofs.Common.{arith}
use Rattle.std.proofs.Props.{props}
use Rattle.std.specs.Coded.{×_prop, Unit-prop, le_prop}
use Rattle.mv_base.specs.Bytes.{AreBytes}
use Rattle.mv_base.specs.Effects.{IsEffect, IsAnswer, IsDescriptor, IsSome, Effect, Answer}
use Rattle.mv_base.specs.Effects as cells
use Rattle.syscall_log.specs.declared.effect.Effect.{Effect as Change}
use Rattle.syscall_log.specs.declared.answer.Answer.{Answer as Reply}
use Rattle.syscall_log.specs.Meaning.{effect_of, answer_of}

-- no byte of an argument is zero
abbrev pub HasNoZero : List ℕ → Type 0
HasNoZero arg = (k : ℕ) → k < length arg → slice_index arg k ≢ 0

-- an argument is bytes, none of which is zero
unfoldable pub IsArgument : List ℕ → Type 0
IsArgument arg = HasNoZero arg × AreBytes arg

-- at most 1,024 arguments, of at most 65,536 bytes together with one ending zero each
pub record AreArguments (args : List (List ℕ)) : Type 0 where
  pub few : length args ≤ 1024
  pub short : sum_by (λ a. length a + 1) args ≤ 65536
  pub each : All IsArgument args

-- what may follow an answer: nothing follows the end of the program
abbrev pub MayFollow : Answer → List Reply → Type 0
MayFollow (cells.Ret eax effects) rest = Unit {0}
MayFollow cells.Gone rest = length rest ≡ 0
MayFollow (cells.Cpuid eax ebx ecx edx) rest = Unit {0}

-- each answer keeps its bounds, and only the last ends the program
abbrev pub AreAnswers : List Reply → Type 0
AreAnswers [] = Unit {0}
AreAnswers (a ∷ rest) = IsAnswer (answer_of a) × MayFollow (answer_of a) rest × AreAnswers rest

-- the bounds of a log
pub record IsLog (args : List (List ℕ)) (answers : List Reply) : Type 0 where
  pub arguments : AreArguments args
  pub answers_keep : AreAnswers answers

-- effects in a list keep their bounds where each does
pub AllByRecursion-effects : (es : List Change) → All (λ e. IsEffect (effect_of e)) es → AllByRecursion IsEffect (map effect_of es)
AllByRecursion-effects [] all = tt
AllByRecursion-effects (e ∷ es) all = (all zero e (omega arith), AllByRecursion-effects es (λ k d below. all (suc k) d (omega arith)))

pub All-effects : (es : List Change) → AllByRecursion IsEffect (map effect_of es) → All (λ e. IsEffect (effect_of e)) es
All-effects [] all k d below = absurd (omega arith)
All-effects (e ∷ es) all zero d below = all.0
All-effects (e ∷ es) all (suc k) d below = All-effects es all.1 k d (omega arith)

-- each answer of a log keeps its bounds
pub IsAnswer-at : (answers : List Reply) (i : ℕ) (d : Reply) → AreAnswers answers → i < length answers → IsAnswer (answer_of (slice_index_or answers i d))
IsAnswer-at [] i d keep below = absurd (omega arith)
IsAnswer-at (a ∷ rest) zero d keep below = keep.0
IsAnswer-at (a ∷ rest) (suc i) d keep below = IsAnswer-at rest i d keep.2 (omega arith)

-- two proofs that an effect keeps its bounds are equal
IsDescriptor-prop : (index base : ℕ) → IsProp (IsDescriptor index base)
IsDescriptor-prop index base = hlevel props

IsSome-prop : (e : Effect) → IsProp (IsSome e)
IsSome-prop (cells.WriteAt lo bytes) = le_prop
IsSome-prop (cells.MapAt lo len mode bytes) = le_prop
IsSome-prop (cells.UnmapAt lo len) = le_prop
IsSome-prop (cells.DescAt index base) = IsDescriptor-prop index base

IsEffect-prop : (e : Effect) → IsProp (IsEffect e)
IsEffect-prop e = hlevel (props, IsSome-prop e)

IsAnswer-prop : (a : Answer) → IsProp (IsAnswer a)
IsAnswer-prop (cells.Ret eax es) = ×_prop le_prop (AllByRecursion-prop IsEffect IsEffect-prop es)
IsAnswer-prop cells.Gone = Unit-prop
IsAnswer-prop (cells.Cpuid eax ebx ecx edx) = hlevel props

MayFollow-prop : (a : Answer) (rest : List Reply) → IsProp (MayFollow a rest)
MayFollow-prop (cells.Ret eax es) rest = Unit-prop
MayFollow-prop cells.Gone rest = hlevel props
MayFollow-prop (cells.Cpuid eax ebx ecx edx) rest = Unit-prop

AreAnswers-prop : (answers : List Reply) → IsProp (AreAnswers answers)
AreAnswers-prop [] = Unit-prop
AreAnswers-prop (a ∷ rest) = hlevel (props, IsAnswer-prop (answer_of a), MayFollow-prop (answer_of a) rest, AreAnswers-prop rest)

IsArgument-prop : (arg : List ℕ) → IsProp (IsArgument arg)
unfolding IsArgument
IsArgument-prop arg = hlevel props

AreArguments-prop : (args : List (List ℕ)) → IsProp (AreArguments args)
AreArguments-prop args = hlevel (props, IsArgument-prop)

-- two proofs that a log keeps its bounds are equal
pub IsLog-prop : (args : List (List ℕ)) (answers : List Reply) → IsProp (IsLog args answers)
IsLog-prop args answers = hlevel (props, AreArguments-prop args, AreAnswers-prop answers)
