use Rattle.std.proofs.Common.{◌≡◌, ℕ, suc, ◌+◌, ◌<◌, ◌≤◌, cond, List, [], ◌∷◌, ◌++◌, length, map, take, drop, get_or, count_by, refl, sym, ap, ◌∙◌, subst, arith, add-one}
use Rattle.std.specs.List.{AllByRecursion}
use Rattle.std.proofs.Math.Seq.{drop-cons, take-suc}
use Rattle.std.proofs.lemmas.List.{take_all, take-append-drop, map-append}
use Rattle.std.proofs.lemmas.List.Sums.{sum_by-cons}
use Rattle.mv_base.specs.Memory.{Memory}
use Rattle.mv_base.specs.Effects.{IsEffect, AllApplied, Descs, describe_all, is_descriptor}
use Rattle.syscall_log.specs.declared.effect.Effect.{Effect as Change}
use Rattle.syscall_log.specs.Meaning.{effect_of}
use Rattle.proc_image.specs.Paged.{cells}
use Rattle.x86_machine.specs.Bounded.{Within, apply_bounded, ComeTo}
use Rattle.x86_machine.proofs.Applied.{applied-more, described-more, fault-there}
use Rattle.x86_machine.proofs.system.apply_all.Goals as goal

-- the effects from a number on, and those up to it
rest_of : (es : List Change) (i : ℕ) (e : Change) → i < length es → e ≡ get_or es i e → map effect_of (drop i es) ≡ effect_of e ∷ map effect_of (drop (i + 1) es)
rest_of es i e below is = ap (map effect_of) (drop-cons es i e below) ∙ ap (λ f. effect_of f ∷ map effect_of (drop (suc i) es)) (sym is) ∙ rw add-one refl

front_of : (es : List Change) (i : ℕ) (e : Change) → i < length es → e ≡ get_or es i e → map effect_of (take (i + 1) es) ≡ map effect_of (take i es) ++ effect_of e ∷ []
front_of es i e below is =
    rw add-one (ap (map effect_of) (take-suc es i e below))
    ∙ map-append effect_of (take i es) (get_or es i e ∷ [])
    ∙ ap (λ f. map effect_of (take i es) ++ effect_of f ∷ []) (sym is)

whole_of : (es : List Change) (i : ℕ) → map effect_of es ≡ map effect_of (take i es) ++ map effect_of (drop i es)
whole_of es i = ap (map effect_of) (sym (take-append-drop i es)) ∙ map-append effect_of (take i es) (drop i es)

-- how many of the effects from a number on are descriptors
count_of : (es : List Change) (i : ℕ) (e : Change) → i < length es → e ≡ get_or es i e
    → count_by is_descriptor (map effect_of (drop i es)) ≡ cond (is_descriptor (effect_of e)) 1 0 + count_by is_descriptor (map effect_of (drop (i + 1) es))
count_of es i e below is = ap (count_by is_descriptor) (rest_of es i e below is) ∙ sum_by-cons (λ x. cond (is_descriptor x) 1 0) (effect_of e) (map effect_of (drop (i + 1) es))

-- all of them
all_of : (m now : Memory) (es : List Change) (i : ℕ) (was ds : Descs) → length es ≤ i → apply_bounded m (map effect_of (take i es)) ≡ Within (AllApplied now) → ds ≡ describe_all m (map effect_of (take i es)) was
    → ComeTo m (map effect_of es) was (AllApplied now) ds
all_of m now es i was ds past stand kept =
    let all : take i es ≡ es = take_all i es past in
    record {
      within = ap (λ xs. apply_bounded m (map effect_of xs)) (sym all) ∙ stand;
      described = kept ∙ ap (λ xs. describe_all m (map effect_of xs) was) all;
    }

pub returns-in-Err : goal.returns-in-Err
returns-in-Err c =
    let es = c.args.effects.now in
    let i = c.loop-effect.effect-index in
    let e = c.effect-item.result in
    let rest = rest_of es i e c.loop-effect-test.true c.effect-item.is in
    record {
      is =
          fault-there (cells c.args.memory.now) (cells c.loop-effect.memory) (cells c.apply.new.self) (map effect_of (take i es)) (effect_of e)
          c.args.descs.now.made c.loop-effect.descs.made c.loop-effect.invariant.stand c.loop-effect.invariant.described
          (map effect_of (drop (i + 1) es)) (map effect_of es) (whole_of es i ∙ ap (λ xs. map effect_of (take i es) ++ xs) rest)
          c.in-Err.fault c.in-Err.ensures;
      spare = c.loop-effect.invariant.spare;
      left = omega (arith, c.loop-effect.invariant.left);
    }

pub describe-requires : goal.describe-requires
describe-requires c = λ is.
    let head = count_of c.args.effects.now c.loop-effect.effect-index c.effect-item.result c.loop-effect-test.true c.effect-item.is in
    let one = ap {B = ℕ} (λ b. cond b 1 0) is in
    omega (arith, head, one, c.loop-effect.invariant.left, c.requires.room)

pub loop-effect-preserved : goal.loop-effect-preserved
loop-effect-preserved c =
    let es = c.args.effects.now in
    let i = c.loop-effect.effect-index in
    let e = c.effect-item.result in
    let rest = rest_of es i e c.loop-effect-test.true c.effect-item.is in
    let front = front_of es i e c.loop-effect-test.true c.effect-item.is in
    let head = count_of es i e c.loop-effect-test.true c.effect-item.is in
    let m = cells c.args.memory.now in
    record {
      bounds = (subst (AllByRecursion IsEffect) rest c.loop-effect.invariant.bounds).1;
      stand =
          ap (apply_bounded m) front
          ∙ applied-more m (cells c.loop-effect.memory) (cells c.apply.new.self) (map effect_of (take i es)) (effect_of e) c.args.descs.now.made c.loop-effect.descs.made c.loop-effect.invariant.stand c.loop-effect.invariant.described c.in-Ok.ensures;
      described =
          c.describe.ensures.made
          ∙ described-more m (cells c.loop-effect.memory) (cells c.apply.new.self) (map effect_of (take i es)) (effect_of e) c.args.descs.now.made c.loop-effect.descs.made c.loop-effect.invariant.stand c.loop-effect.invariant.described c.in-Ok.ensures
          ∙ ap (λ xs. describe_all m xs c.args.descs.now.made) (sym front);
      spare = c.describe.ensures.spare ∙ c.loop-effect.invariant.spare;
      left = omega (arith, head, c.loop-effect.invariant.left, c.describe.ensures.left);
    }

pub loop-effect-init : goal.loop-effect-init
unfolding apply_bounded
loop-effect-init c = record {
  bounds = c.requires.bounds;
  stand = refl;
  described = refl;
  spare = refl;
  left = omega (arith);
}

pub returns : goal.returns
returns c = record {
  is = all_of (cells c.args.memory.now) (cells c.loop-effect.memory) c.args.effects.now c.loop-effect.effect-index c.args.descs.now.made c.loop-effect.descs.made (omega (arith, c.loop-effect-test.false)) c.loop-effect.invariant.stand c.loop-effect.invariant.described;
  spare = c.loop-effect.invariant.spare;
  left = omega (arith, c.loop-effect.invariant.left);
}
