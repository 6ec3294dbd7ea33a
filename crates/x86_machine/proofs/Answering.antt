-- The answers of a log one after the other, and what a system call makes of the next one.
use Rattle.std.proofs.Common.{◌≡◌, ℕ, zero, suc, ◌+◌, ◌<◌, ◌≤◌, List, [], ◌∷◌, ◌++◌, length, take, drop, get_or, count_by, Err, refl, sym, ap, ap₂, ◌∙◌, subst, arith, add-one}
use Rattle.std.proofs.Math.Seq.{drop-cons}
use Rattle.std.proofs.Math.ListN.{drop_of_length-le}
use Rattle.mv_base.specs.Memory.{Memory}
use Rattle.mv_base.specs.Effects as refusal
use Rattle.mv_base.specs.Effects.{Effect, Answer, Ret, Cpuid, Refusal, Applied, AllApplied, RefusedAt, IsAnswer, Descs, is_descriptor, effects_in, descriptors_in}
use Rattle.x86_insn.specs.declared.stop.Stop.TheVariants as stop
use Rattle.x86_insn.specs.State.{State}
use Rattle.x86_insn.specs.State as state
use Rattle.x86_insn.specs.Step.{call_of, refused, after_effects, system, identified, with_words}
use Rattle.x86_insn.specs.TakenUp.{first_effects}
use Rattle.syscall_log.specs.declared.answer.Answer.{Answer as Reply}
use Rattle.syscall_log.specs.Meaning.{answer_of, answers_of}
use Rattle.syscall_log.specs.Rules.{AreAnswers}
use Rattle.proc_image.specs.declared.effects.EffectFault.{EffectFault}
use Rattle.proc_image.specs.declared.effects.EffectFault.TheVariants as fault
use Rattle.x86_machine.specs.declared.machine.Outcome.TheVariants as own
use Rattle.x86_machine.specs.Bounded.{Within, IsWithin, apply_bounded, ComeTo, AreApplied}
use Rattle.x86_machine.specs.Stepping.{Comes, ComesTo, refused_as}
use Rattle.x86_machine.proofs.Applied.{bounded-all}
use Rattle.x86_machine.proofs.Coming.{none-within}

-- ---- the list of answers

pub next-answer : (xs : List Reply) (k : ℕ) (a : Reply) → k < length xs → get_or xs k a ≡ a → answers_of (drop k xs) ≡ answer_of a ∷ answers_of (drop (k + 1) xs)
next-answer xs k a below is = ap answers_of (drop-cons xs k a below) ∙ ap (λ b. answer_of b ∷ answers_of (drop (suc k) xs)) is ∙ rw add-one refl

pub taken-answer : (kept xs : List Reply) (k : ℕ) (a b : Reply) → xs ≡ kept → k < length xs → a ≡ get_or xs k a → a ≡ b → answers_of (drop k kept) ≡ answer_of b ∷ answers_of (drop (k + 1) kept)
taken-answer kept xs k a b same below is shape =
    subst (λ ys. answers_of (drop k ys) ≡ answer_of b ∷ answers_of (drop (k + 1) ys)) same (next-answer xs k a below (sym is) ∙ ap (λ x. answer_of x ∷ answers_of (drop (k + 1) xs)) shape)

pub no-answer : (xs : List Reply) (k : ℕ) → length xs ≤ k → answers_of (drop k xs) ≡ []
no-answer xs k past = ap answers_of (drop_of_length-le xs past)

-- each answer of a log keeps its bounds
pub answer-keeps : (xs : List Reply) (k : ℕ) (d : Reply) → AreAnswers xs → k < length xs → IsAnswer (answer_of (get_or xs k d))
answer-keeps [] k d keep below = absurd (omega arith)
answer-keeps (a ∷ xs) zero d keep below = keep.0
answer-keeps (a ∷ xs) (suc k) d keep below = answer-keeps xs k d keep.2 (omega arith)

-- ---- system calls

module _ (s : State) (next : ℕ) (answers rest : List Answer) (eax : ℕ) (es : List Effect) (taken : answers ≡ Ret eax es ∷ rest) where
  -- the outcome by what the effects come to
  outcome : (a : Applied) (ds : Descs) → ComeTo s.memory es s.descs a ds → system s next answers ≡ after_effects s next eax rest ds a
  outcome a ds is = ap (system s next) taken ∙ ap₂ (after_effects s next eax rest) (sym is.described) (bounded-all s.memory es a is.within)

  effects-are : first_effects answers ≡ es
  effects-are = ap first_effects taken

  within : (a : Applied) → apply_bounded s.memory es ≡ Within a → IsWithin (apply_bounded s.memory (first_effects answers))
  within a is = subst IsWithin (sym (ap (apply_bounded s.memory) effects-are ∙ is)) tt

  pub ret-comes : (m : Memory) (ds : Descs) → ComeTo s.memory es s.descs (AllApplied m) ds → Comes (first_effects answers) (system s next answers) s (after_effects s next eax rest ds (AllApplied m))
  ret-comes m ds is = record { is = outcome (AllApplied m) ds is; within = within (AllApplied m) is.within }

  refused-comes : (why : Refusal) (m : Memory) (ds : Descs) → ComeTo s.memory es s.descs (RefusedAt why m) ds → Comes (first_effects answers) (system s next answers) s (state.Stopped (refused why) (record s { descs = ds; memory = m }))
  refused-comes why m ds is = record { is = outcome (RefusedAt why m) ds is; within = within (RefusedAt why m) is.within }

  pub fault-comes : (f : EffectFault) (m : Memory) (ds : Descs) → AreApplied s.memory es s.descs m ds (Err f) → ComesTo (first_effects answers) (system s next answers) s (refused_as f) (record s { descs = ds; memory = m })
  fault-comes fault.Executable m ds is = refused-comes refusal.Executable m ds is
  fault-comes (fault.NotMapped a) m ds is = refused-comes (refusal.NotMapped a) m ds is
  fault-comes (fault.NotWritable a) m ds is = refused-comes (refusal.NotWritable a) m ds is
  fault-comes (fault.TooLarge n) m ds is = record {
    memory = m;
    beyond = ap (apply_bounded s.memory) effects-are ∙ is.beyond;
    passes = record {
      before = is.passes.before;
      effect = is.passes.effect;
      after = is.passes.after;
      split = effects-are ∙ is.passes.split;
      stand = is.passes.stand;
      passes = is.passes.passes;
    };
    same = ap (λ d. record s { descs = d; memory = m }) is.described;
  }
  fault-comes fault.NoMemory m ds is = record {
    memory = m;
    wants = record {
      before = is.wants.before;
      effect = is.wants.effect;
      after = is.wants.after;
      split = effects-are ∙ is.wants.split;
      maps = is.wants.maps;
      stand = is.wants.stand;
      left = ap (apply_bounded s.memory) effects-are ∙ is.wants.left;
      allowed = is.wants.allowed;
      limit = is.wants.limit;
    };
    same = ap (λ d. record s { descs = d; memory = m }) is.described;
  }

-- an effect that isn't applied stops the machine
pub fault-stops : (f : EffectFault) → refused_as f ≡ own.Next → ⊥
fault-stops fault.Executable h = cc
fault-stops (fault.NotMapped a) h = cc
fault-stops (fault.NotWritable a) h = cc
fault-stops (fault.TooLarge n) h = cc
fault-stops fault.NoMemory h = cc

-- an answer for CPUID is none for a system call
pub other-comes : (s : State) (next : ℕ) (answers rest : List Answer) (eax ebx ecx edx : ℕ) → answers ≡ Cpuid eax ebx ecx edx ∷ rest
    → Comes (first_effects answers) (system s next answers) s (state.Stopped stop.BadAnswer s)
other-comes s next answers rest eax ebx ecx edx taken = record {
  is = ap (system s next) taken;
  within = subst (λ es. IsWithin (apply_bounded s.memory es)) (sym (ap first_effects taken)) (none-within s);
}

-- the end of the program, and no answer
pub gone-comes : (s : State) (next : ℕ) (answers rest : List Answer) → answers ≡ refusal.Gone ∷ rest
    → Comes (first_effects answers) (system s next answers) s (state.Stopped stop.Gone (record s { answers = rest; calls = s.calls ++ call_of s.core ∷ [] }))
gone-comes s next answers rest taken = record {
  is = ap (system s next) taken;
  within = subst (λ es. IsWithin (apply_bounded s.memory es)) (sym (ap first_effects taken)) (none-within s);
}

pub none-comes : (s : State) (next : ℕ) (answers : List Answer) → answers ≡ [] → Comes (first_effects answers) (system s next answers) s (state.Stopped stop.NoAnswer s)
none-comes s next answers taken = record {
  is = ap (system s next) taken;
  within = subst (λ es. IsWithin (apply_bounded s.memory es)) (sym (ap first_effects taken)) (none-within s);
}

-- ---- CPUID

pub identified-none : (s : State) (next : ℕ) (answers : List Answer) → answers ≡ [] → identified s next answers ≡ state.Stopped stop.NoAnswer s
identified-none s next answers taken = ap (identified s next) taken

pub identified-ret : (s : State) (next : ℕ) (answers rest : List Answer) (eax : ℕ) (es : List Effect) → answers ≡ Ret eax es ∷ rest → identified s next answers ≡ state.Stopped stop.BadAnswer s
identified-ret s next answers rest eax es taken = ap (identified s next) taken

pub identified-gone : (s : State) (next : ℕ) (answers rest : List Answer) → answers ≡ refusal.Gone ∷ rest → identified s next answers ≡ state.Stopped stop.BadAnswer s
identified-gone s next answers rest taken = ap (identified s next) taken

pub identified-words : (s : State) (next : ℕ) (answers rest : List Answer) (eax ebx ecx edx : ℕ) → answers ≡ Cpuid eax ebx ecx edx ∷ rest
    → identified s next answers ≡ state.Next (record s { core = with_words s.core eax ebx ecx edx; eip = next; answers = rest })
identified-words s next answers rest eax ebx ecx edx taken = ap (identified s next) taken

-- ---- descriptors of the answers that are left

-- those of the first answer have room, and behind it there is room for the others
pub first-room : (answers rest : List Answer) (eax : ℕ) (es : List Effect) (n : ℕ) → answers ≡ Ret eax es ∷ rest → descriptors_in answers ≤ n → count_by is_descriptor es ≤ n
first-room answers rest eax es n taken room = let e : descriptors_in answers ≡ count_by is_descriptor es + descriptors_in rest = ap descriptors_in taken in omega (arith, e, room)

pub rest-room : (answers rest : List Answer) (eax : ℕ) (es : List Effect) (old new : ℕ) → answers ≡ Ret eax es ∷ rest → descriptors_in answers ≤ old → old ≤ new + count_by is_descriptor es → descriptors_in rest ≤ new
rest-room answers rest eax es old new taken room left = let e : descriptors_in answers ≡ count_by is_descriptor es + descriptors_in rest = ap descriptors_in taken in omega (arith, e, room, left)

-- an answer fewer has no more descriptors
pub fewer-left : (answers rest : List Answer) (a : Answer) → answers ≡ a ∷ rest → descriptors_in rest ≤ descriptors_in answers
fewer-left answers rest a taken = let e : descriptors_in answers ≡ count_by is_descriptor (effects_in a) + descriptors_in rest = ap descriptors_in taken in omega (arith, e)

-- one answer more
pub more-descriptors : (xs : List Reply) (i : ℕ) (a : Reply) → i < length xs → a ≡ get_or xs i a
    → descriptors_in (answers_of (take (suc i) xs)) ≡ descriptors_in (answers_of (take i xs)) + count_by is_descriptor (effects_in (answer_of a))
more-descriptors [] i a below is = absurd (omega arith)
more-descriptors (x ∷ xs) zero a below is = let e : count_by is_descriptor (effects_in (answer_of a)) ≡ count_by is_descriptor (effects_in (answer_of x)) = ap (λ b. count_by is_descriptor (effects_in (answer_of b))) is in omega (arith, e)
more-descriptors (x ∷ xs) (suc i) a below is = let e = more-descriptors xs i a (omega arith) is in omega (arith, e)
