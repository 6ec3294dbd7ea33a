-- What an effect does to memory, and why it is refused. This project's own.
use Rattle.std.specs.Prelude.{◌≡◌, ℕ, ◌<◌, ◌≤◌, Bool, true, false, Some, None, Result, Ok, Err}
use Rattle.mv_base.specs.Memory.{Memory}
use Rattle.mv_base.specs.Effects.{Effect, WriteAt, MapAt, UnmapAt, DescAt, refusal_of, applied}
use Rattle.mv_base.specs.Effects as refusal
use Rattle.proc_image.specs.declared.effects.EffectFault.{EffectFault}
use Rattle.proc_image.specs.declared.effects.EffectFault.TheVariants.{Executable, NotMapped, NotWritable, TooLarge, NoMemory}
use Rattle.proc_image.specs.Counting.{mapped_size}

-- an effect that maps addresses
abbrev pub is_map : Effect → Bool
is_map (WriteAt lo bytes) = false
is_map (MapAt lo len mode bytes) = true
is_map (UnmapAt lo len) = false
is_map (DescAt index base) = false

-- memory after a map has no more pages with a mapped byte than are allowed; nothing is asked of other effects
abbrev pub KeepsLimit : Memory → Effect → Type 0
KeepsLimit m e = is_map e ≡ true → mapped_size (applied m e) ≤ 67108864

-- an effect with no refusal, after which memory is what the effect makes of it
pub record IsDone (old : Memory) (e : Effect) (new : Memory) : Type 0 where
  pub allowed : refusal_of old e ≡ None
  pub limit : KeepsLimit old e
  pub done : new ≡ applied old e

-- a refused effect changes nothing
pub record IsRefused (old : Memory) (e : Effect) (why : refusal.Refusal) (new : Memory) : Type 0 where
  pub refused : refusal_of old e ≡ Some why
  pub same : new ≡ old

-- a map with no refusal that would leave more mapped pages than are allowed, n bytes in all
pub record IsTooLarge (old : Memory) (e : Effect) (n : ℕ) (new : Memory) : Type 0 where
  pub allowed : refusal_of old e ≡ None
  pub map : is_map e ≡ true
  pub size : n ≡ mapped_size (applied old e)
  pub above : 67108864 < n
  pub same : new ≡ old

-- a map with no refusal that keeps the limit, and no memory for it
pub record IsWithoutMemory (old : Memory) (e : Effect) (new : Memory) : Type 0 where
  pub allowed : refusal_of old e ≡ None
  pub map : is_map e ≡ true
  pub limit : KeepsLimit old e
  pub same : new ≡ old

-- the answer to an effect, by the memories before and after it
abbrev pub IsApplied : Memory → Effect → Memory → Result (Unit {0}) EffectFault → Type 0
IsApplied old e new (Ok _) = IsDone old e new
IsApplied old e new (Err Executable) = IsRefused old e refusal.Executable new
IsApplied old e new (Err (NotMapped a)) = IsRefused old e (refusal.NotMapped a) new
IsApplied old e new (Err (NotWritable a)) = IsRefused old e (refusal.NotWritable a) new
IsApplied old e new (Err (TooLarge n)) = IsTooLarge old e n new
IsApplied old e new (Err NoMemory) = IsWithoutMemory old e new
