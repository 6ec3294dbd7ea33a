-- Effects on a machine that maps at most 16,384 pages. This project's own.
use Rattle.std.specs.Prelude.{◌≡◌, ℕ, Bool, true, false, List, [], ◌∷◌, ◌++◌, Option, Some, None, nat_le, if◌then◌else◌, Result, Ok, Err}
use Rattle.mv_base.specs.Memory.{Memory}
use Rattle.mv_base.specs.Effects as refusal
use Rattle.mv_base.specs.Effects.{Effect, Refusal, Applied, AllApplied, RefusedAt, refusal_of, applied, apply_all, Descs, describe_all}
use Rattle.proc_image.specs.declared.effects.EffectFault.{EffectFault}
use Rattle.proc_image.specs.declared.effects.EffectFault.TheVariants.{Executable, NotMapped, NotWritable, TooLarge, NoMemory}
use Rattle.proc_image.specs.Applying.{is_map, KeepsLimit, IsTooLarge}
use Rattle.proc_image.specs.Counting.{mapped_size}

-- what effects in their order come to: all are applied or one is refused, or a map would leave more pages with a mapped
-- byte than are allowed, with their size and the memory after the effects before it
pub data Bounded : Type 0 where
  Within : (a : Applied) → Bounded
  Beyond : (size : ℕ) (m : Memory) → Bounded

-- a map's size is bounded
abbrev pub map_next : ℕ → Memory → Bounded → Bounded
map_next size m rest = if nat_le size 67108864 then rest else Beyond size m

abbrev pub bounded_next : Option Refusal → Bool → ℕ → Memory → Bounded → Bounded
bounded_next (Some why) map size m rest = Within (RefusedAt why m)
bounded_next None true size m rest = map_next size m rest
bounded_next None false size m rest = rest

unfoldable pub apply_bounded : Memory → List Effect → Bounded
apply_bounded m [] = Within (AllApplied m)
apply_bounded m (e ∷ es) = bounded_next (refusal_of m e) (is_map e) (mapped_size (applied m e)) m (apply_bounded (applied m e) es)

-- within the bound it is what the effects come to
abbrev pub IsWithin : Bounded → Type 0
IsWithin (Within a) = Unit {0}
IsWithin (Beyond size m) = ⊥

-- effects of which one maps, is not refused and keeps the bound, and the memory after those before it; from there the
-- effects come to what they all come to
pub record WantsMemory (m : Memory) (es : List Effect) (new : Memory) : Type 0 where
  pub before : List Effect
  pub effect : Effect
  pub after : List Effect
  pub split : es ≡ before ++ effect ∷ after
  pub maps : is_map effect ≡ true
  pub stand : apply_all m before ≡ AllApplied new
  pub left : apply_bounded m es ≡ apply_bounded new (effect ∷ after)
  pub allowed : refusal_of new effect ≡ None
  pub limit : KeepsLimit new effect

-- effects of which one maps, is not refused and would leave more pages than are allowed, and the memory after those
-- before it, which are all applied within the bound
pub record PassesBound (m : Memory) (es : List Effect) (size : ℕ) (new : Memory) : Type 0 where
  pub before : List Effect
  pub effect : Effect
  pub after : List Effect
  pub split : es ≡ before ++ effect ∷ after
  pub stand : apply_bounded m before ≡ Within (AllApplied new)
  pub passes : IsTooLarge new effect size new

-- ---- the answer to effects in their order, by memory and descriptors before and after them

-- they come to this within the bound, with the descriptors of all of them, or of those before a refused one
pub record ComeTo (m : Memory) (es : List Effect) (ds : Descs) (a : Applied) (after : Descs) : Type 0 where
  pub within : apply_bounded m es ≡ Within a
  pub described : after ≡ describe_all m es ds

-- a map would go beyond the bound, and the descriptors are those of the effects before it
pub record GoBeyond (m : Memory) (es : List Effect) (ds : Descs) (size : ℕ) (new : Memory) (after : Descs) : Type 0 where
  pub beyond : apply_bounded m es ≡ Beyond size new
  pub passes : PassesBound m es size new
  pub described : after ≡ describe_all m passes.before ds

-- a map has no memory, and the descriptors are those of the effects before it
pub record LackMemory (m : Memory) (es : List Effect) (ds : Descs) (new : Memory) (after : Descs) : Type 0 where
  pub wants : WantsMemory m es new
  pub described : after ≡ describe_all m wants.before ds

abbrev pub AreApplied : Memory → List Effect → Descs → Memory → Descs → Result (Unit {0}) EffectFault → Type 0
AreApplied old es ds new after (Ok _) = ComeTo old es ds (AllApplied new) after
AreApplied old es ds new after (Err Executable) = ComeTo old es ds (RefusedAt refusal.Executable new) after
AreApplied old es ds new after (Err (NotMapped a)) = ComeTo old es ds (RefusedAt (refusal.NotMapped a) new) after
AreApplied old es ds new after (Err (NotWritable a)) = ComeTo old es ds (RefusedAt (refusal.NotWritable a) new) after
AreApplied old es ds new after (Err (TooLarge n)) = GoBeyond old es ds n new after
AreApplied old es ds new after (Err NoMemory) = LackMemory old es ds new after
