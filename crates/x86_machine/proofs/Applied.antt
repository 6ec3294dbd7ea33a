-- Effects one after the other: what is left of them comes to the same as all of them.
use Rattle.std.proofs.Common.{◌≡◌, ℕ, ◌<◌, ◌≤◌, Bool, true, false, List, [], ◌∷◌, ◌++◌, Option, Some, None, Ok, Err, nat_le, if◌then◌else◌, refl, sym, ap, ◌∙◌, subst, arith}
use Rattle.std.proofs.lemmas.Bool.Decides.{nat_tests}
use Rattle.mv_base.specs.Memory.{Memory}
use Rattle.mv_base.specs.Effects as refusal
use Rattle.mv_base.specs.Effects.{Effect, Refusal, Applied, AllApplied, RefusedAt, apply_next, refusal_of, applied, apply_all, Descs, described, describe_next, describe_all}
use Rattle.proc_image.specs.declared.effects.EffectFault.{EffectFault}
use Rattle.proc_image.specs.declared.effects.EffectFault.TheVariants.{Executable, NotMapped, NotWritable, TooLarge, NoMemory}
use Rattle.proc_image.specs.Applying.{is_map, KeepsLimit, IsDone, IsRefused, IsTooLarge, IsApplied}
use Rattle.proc_image.specs.Counting.{mapped_size}
use Rattle.x86_machine.specs.Bounded.{Bounded, Within, Beyond, map_next, bounded_next, apply_bounded, ComeTo, AreApplied}

bounded-none : (m : Memory) → apply_bounded m [] ≡ Within (AllApplied m)
unfolding apply_bounded
bounded-none m = refl

bounded-cons : (m : Memory) (e : Effect) (es : List Effect) → apply_bounded m (e ∷ es) ≡ bounded_next (refusal_of m e) (is_map e) (mapped_size (applied m e)) m (apply_bounded (applied m e) es)
unfolding apply_bounded
bounded-cons m e es = refl

allowed-next : (m : Memory) (e : Effect) (es : List Effect) → refusal_of m e ≡ None → apply_bounded m (e ∷ es) ≡ bounded_next None (is_map e) (mapped_size (applied m e)) m (apply_bounded (applied m e) es)
allowed-next m e es allowed = bounded-cons m e es ∙ ap (λ r. bounded_next r (is_map e) (mapped_size (applied m e)) m (apply_bounded (applied m e) es)) allowed

-- a map within the bound, and one beyond it
map-within : (size : ℕ) (m : Memory) (rest : Bounded) → size ≤ 67108864 → map_next size m rest ≡ rest
map-within size m rest low = let t : nat_le size 67108864 ≡ true = grind (arith, nat_tests) in ap (λ b. if b then rest else Beyond size m) t

map-beyond : (size : ℕ) (m : Memory) (rest : Bounded) → 67108864 < size → map_next size m rest ≡ Beyond size m
map-beyond size m rest high = let t : nat_le size 67108864 ≡ false = grind (arith, nat_tests) in ap (λ b. if b then rest else Beyond size m) t

within-next : (size : ℕ) (m : Memory) (rest : Bounded) (map : Bool) → (map ≡ true → size ≤ 67108864) → bounded_next None map size m rest ≡ rest
within-next size m rest true low = map-within size m rest (low refl)
within-next size m rest false low = refl

-- one effect that is applied, and then others
done-next : (old new : Memory) (e : Effect) (es : List Effect) → IsDone old e new → apply_bounded old (e ∷ es) ≡ apply_bounded new es
done-next old new e es is =
    allowed-next old e es is.allowed
    ∙ within-next (mapped_size (applied old e)) old (apply_bounded (applied old e) es) (is_map e) is.limit
    ∙ ap (λ m. apply_bounded m es) (sym is.done)

refused-there : (old new : Memory) (e : Effect) (es : List Effect) (why : Refusal) → IsRefused old e why new → apply_bounded old (e ∷ es) ≡ Within (RefusedAt why new)
refused-there old new e es why is =
    bounded-cons old e es
    ∙ ap (λ r. bounded_next r (is_map e) (mapped_size (applied old e)) old (apply_bounded (applied old e) es)) is.refused
    ∙ ap (λ m. Within (RefusedAt why m)) (sym is.same)

beyond-there : (old new : Memory) (e : Effect) (es : List Effect) (n : ℕ) → IsTooLarge old e n new → apply_bounded old (e ∷ es) ≡ Beyond n new
beyond-there old new e es n is =
    let size : ℕ = mapped_size (applied old e) in
    let rest : Bounded = apply_bounded (applied old e) es in
    allowed-next old e es is.allowed
    ∙ ap (λ b. bounded_next None b size old rest) is.map
    ∙ map-beyond size old rest (subst (λ k. 67108864 < k) is.size is.above)
    ∙ ap (λ k. Beyond k old) (sym is.size) ∙ ap (Beyond n) (sym is.same)

-- ---- effects that are all applied, and others

memory_of : Applied → Memory
memory_of (AllApplied m) = m
memory_of (RefusedAt why m) = m

applied_in : Applied → Bounded → Applied
applied_in d (Within a) = a
applied_in d (Beyond n m) = d

-- effects within the bound are those of the definition
pub bounded-all : (m : Memory) (es : List Effect) (a : Applied) → apply_bounded m es ≡ Within a → apply_all m es ≡ a
unfolding applied_in
bounded-all m [] a is = ap (applied_in a) (sym (bounded-none m) ∙ is)
bounded-all m (e ∷ es) a is = go (refusal_of m e) (is_map e) (sym (bounded-cons m e es) ∙ is) (bounded-all (applied m e) es a)
  where
    go : (r : Option Refusal) (maps : Bool) → bounded_next r maps (mapped_size (applied m e)) m (apply_bounded (applied m e) es) ≡ Within a
        → (apply_bounded (applied m e) es ≡ Within a → apply_all (applied m e) es ≡ a)
        → apply_next r m (apply_all (applied m e) es) ≡ a
    go (Some why) maps is rest = ap (applied_in a) is
    go None true is rest = go_map (nat_le (mapped_size (applied m e)) 67108864) is
      where
        go_map : (t : Bool) → (if t then apply_bounded (applied m e) es else Beyond (mapped_size (applied m e)) m) ≡ Within a → apply_all (applied m e) es ≡ a
        go_map true is = rest is
        go_map false is = absurd (cc)
    go None false is rest = rest is

pub bounded-more : (m now : Memory) (es fs : List Effect) → apply_bounded m es ≡ Within (AllApplied now) → apply_bounded m (es ++ fs) ≡ apply_bounded now fs
unfolding memory_of
bounded-more m now [] fs stand = ap (λ k. apply_bounded k fs) (ap memory_of (bounded-all m [] (AllApplied now) stand))
bounded-more m now (e ∷ es) fs stand =
    bounded-cons m e (es ++ fs) ∙ go (refusal_of m e) (is_map e) (sym (bounded-cons m e es) ∙ stand) (bounded-more (applied m e) now es fs)
  where
    go : (r : Option Refusal) (maps : Bool) → bounded_next r maps (mapped_size (applied m e)) m (apply_bounded (applied m e) es) ≡ Within (AllApplied now)
        → (apply_bounded (applied m e) es ≡ Within (AllApplied now) → apply_bounded (applied m e) (es ++ fs) ≡ apply_bounded now fs)
        → bounded_next r maps (mapped_size (applied m e)) m (apply_bounded (applied m e) (es ++ fs)) ≡ apply_bounded now fs
    go (Some why) maps is rest = absurd (cc)
    go None true is rest = go_map (nat_le (mapped_size (applied m e)) 67108864) is
      where
        go_map : (t : Bool) → (if t then apply_bounded (applied m e) es else Beyond (mapped_size (applied m e)) m) ≡ Within (AllApplied now)
            → (if t then apply_bounded (applied m e) (es ++ fs) else Beyond (mapped_size (applied m e)) m) ≡ apply_bounded now fs
        go_map true is = rest is
        go_map false is = absurd (cc)
    go None false is rest = rest is

-- the descriptors of effects that are all applied, and of others
describe-more : (m now : Memory) (es fs : List Effect) (ds : Descs) → apply_all m es ≡ AllApplied now → describe_all m (es ++ fs) ds ≡ describe_all now fs (describe_all m es ds)
unfolding memory_of
describe-more m now [] fs ds stand = ap (λ k. describe_all k fs ds) (ap memory_of stand)
describe-more m now (e ∷ es) fs ds stand = go (refusal_of m e) stand (describe-more (applied m e) now es fs (described ds e))
  where
    go : (r : Option Refusal) → apply_next r m (apply_all (applied m e) es) ≡ AllApplied now
        → (apply_all (applied m e) es ≡ AllApplied now → describe_all (applied m e) (es ++ fs) (described ds e) ≡ describe_all now fs (describe_all (applied m e) es (described ds e)))
        → describe_next r ds (describe_all (applied m e) (es ++ fs) (described ds e)) ≡ describe_all now fs (describe_next r ds (describe_all (applied m e) es (described ds e)))
    go None is rest = rest is
    go (Some why) is rest = absurd (cc)

-- ---- one more effect, after those that were applied

module _ (first old new : Memory) (before : List Effect) (e : Effect) (was ds : Descs) (stand : apply_bounded first before ≡ Within (AllApplied old)) (kept : ds ≡ describe_all first before was) where
  pub applied-more : IsDone old e new → apply_bounded first (before ++ e ∷ []) ≡ Within (AllApplied new)
  applied-more is = bounded-more first old before (e ∷ []) stand ∙ done-next old new e [] is ∙ bounded-none new

  pub described-more : IsDone old e new → described ds e ≡ describe_all first (before ++ e ∷ []) was
  described-more is =
      ap (λ r. describe_next r ds (described ds e)) (sym is.allowed)
      ∙ ap (describe_all old (e ∷ [])) kept
      ∙ sym (describe-more first old before (e ∷ []) was (bounded-all first before (AllApplied old) stand))

  -- why effects are not all applied
  module _ (rest all : List Effect) (split : all ≡ before ++ e ∷ rest) where
    left : apply_bounded first all ≡ apply_bounded old (e ∷ rest)
    left = ap (apply_bounded first) split ∙ bounded-more first old before (e ∷ rest) stand

    refused : (why : Refusal) → IsRefused old e why new → ComeTo first all was (RefusedAt why new) ds
    refused why is = record {
      within = left ∙ refused-there old new e rest why is;
      described =
          ap (λ r. describe_next r ds (describe_all (applied old e) rest (described ds e))) (sym is.refused)
          ∙ ap (describe_all old (e ∷ rest)) kept
          ∙ sym (ap (λ es. describe_all first es was) split ∙ describe-more first old before (e ∷ rest) was (bounded-all first before (AllApplied old) stand));
    }

    pub fault-there : (fault : EffectFault) → IsApplied old e new (Err fault) → AreApplied first all was new ds (Err fault)
    fault-there Executable is = refused refusal.Executable is
    fault-there (NotMapped a) is = refused (refusal.NotMapped a) is
    fault-there (NotWritable a) is = refused (refusal.NotWritable a) is
    fault-there (TooLarge n) is = record {
      beyond = left ∙ beyond-there old new e rest n is;
      passes = record {
        before = before;
        effect = e;
        after = rest;
        split = split;
        stand = stand ∙ ap (λ m. Within (AllApplied m)) (sym is.same);
        passes = subst (λ m. IsTooLarge m e n new) (sym is.same) is;
      };
      described = kept;
    }
    fault-there NoMemory is = record {
      wants = record {
        before = before;
        effect = e;
        after = rest;
        split = split;
        maps = is.map;
        stand = bounded-all first before (AllApplied old) stand ∙ ap AllApplied (sym is.same);
        left = left ∙ ap (λ m. apply_bounded m (e ∷ rest)) (sym is.same);
        allowed = ap (λ m. refusal_of m e) is.same ∙ is.allowed;
        limit = subst (λ m. KeepsLimit m e) (sym is.same) is.limit;
      };
      described = kept;
    }
