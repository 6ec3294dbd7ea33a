-- A piece that leaves all but what pieces may write: what its states show, and what it comes to.
use Rattle.std.specs.Prelude.{◌≡◌, ℕ, ◌^◌, ◌<◌, ◌≤◌, ◌⊎◌, Bool, true, false, [], Option, Some, None}
use Rattle.std.proofs.Common.{refl, sym, ap, ◌∙◌, subst, inl, ⊎_elim, arith}
use Rattle.std.proofs.lemmas.Bool.{both_ways, cases_Bool}
use Rattle.std.proofs.lemmas.Option.{none-some}
use Rattle.mv_base.specs.Memory.{Cell, Memory, IsMemory}
use Rattle.x86_insn.specs.declared.stop.Stop.{Stop}
use Rattle.x86_insn.specs.State.{State, Stopped}
use Rattle.x86_insn.specs.Step.{step}
use Rattle.step_laws.specs.Passes.{Passes}
use Rattle.step_laws.specs.Keeping.{KeepsCells, KeepsRest}
use Rattle.step_laws.specs.Beside.{shown, Beside, ShowsSame, StatesBeside}
use Rattle.step_laws.specs.Meeting.{Area, HasArea, Keeps, AllKeep, Reaches, Breaks}
use Rattle.step_laws.specs.laws.Passing.{passes_weaker}
use Rattle.step_laws.specs.laws.Putting.{marks_executable}
use Rattle.step_laws.specs.laws.Logs.{stored}
use Rattle.step_laws.specs.laws.Symbolic.{Setting, on}

module _ (area : Area) (t : Memory) (there : HasArea area t) where
  -- what is not added, no piece may write
  pub fixed_outside : (a : ℕ) → area.added a ≡ false → area.scratch a ≡ false
  fixed_outside a e = ⊎_elim (λ h. absurd (both_ways (area.added a) e (there.added a h))) (λ h. h) (cases_Bool (area.scratch a))

  pub cells_keep : (m : Memory) → KeepsCells area.scratch t m → Keeps area t m
  cells_keep m k = record {
    idle = λ a i h. marks_executable (m a) (t a) (k.marked a) ∙ h;
    marks = λ a i. k.marked a;
    kept = λ a i s. k.others a s;
  }

  pub cells_beside : (o m : Memory) → Beside area.added o t → KeepsCells area.scratch t m → Beside area.added o m
  cells_beside o m w k = record {
    outside = λ a i. ap shown (k.others a (fixed_outside a i)) ∙ w.outside a i;
    free = w.free;
  }

-- a symbolic run begins in its first state
pub starts : (g : Setting) → on g g.start.core g.start.eip [] ≡ g.start
unfolding stored
starts g = refl

module _ (area : Area) (o t : State) (there : HasArea area t.memory) (w : StatesBeside area.added o t) where
  pub rest_shows : (u : State) → KeepsRest area.scratch t u → ShowsSame area.added o u
  rest_shows u k = record {
    calls = k.calls ∙ w.calls;
    answers = k.answers ∙ w.answers;
    outside = (cells_beside area t.memory there o.memory u.memory w.memory k.memory).outside;
  }

  -- and leaves the area
  pub rest_keeps : (n : ℕ) (last : State) → Passes (KeepsRest area.scratch t) n t last → AllKeep area t.memory n t last
  rest_keeps n last p = passes_weaker (KeepsRest area.scratch t) (λ v. Keeps area t.memory v.memory) (λ v k. cells_keep area t.memory there v.memory k.memory) n t last p

  -- nothing lies at or above 2^32
  pub rest_top : IsMemory o.memory → (a : ℕ) → 2 ^ 32 ≤ a → t.memory a ≡ None
  rest_top h a high = go (area.added a) refl
    where
      none : (c d : Option Cell) → shown c ≡ shown d → o.memory a ≡ d → c ≡ None
      none None d e k = refl
      none (Some c) None e k = absurd (none-some (c.byte, c.write) (sym e))
      none (Some c) (Some d) e k = absurd (omega (arith, h.low a d k))

      go : (b : Bool) → area.added a ≡ b → t.memory a ≡ None
      go true e = absurd (omega (arith, there.low a e))
      go false e = none (t.memory a) (o.memory a) (w.memory.outside a e) refl

  -- it comes to a state that is the same but for registers, flags and where it goes on
  pub rest_reaches : (n : ℕ) (Arrives : ℕ → State → Type 0) (o' last : State) → Passes (KeepsRest area.scratch t) n t last → KeepsRest area.scratch t last
      → last.core ≡ o'.core → o'.descs ≡ o.descs → o'.calls ≡ o.calls → o'.answers ≡ o.answers → o'.memory ≡ o.memory → Arrives o'.eip last → Reaches area n Arrives o o' t
  rest_reaches n Arrives o' last p k core descs calls answers memory arrives = record {
    last = last;
    passes = passes_weaker (KeepsRest area.scratch t) (λ u. ShowsSame area.added o u ⊎ ShowsSame area.added o' u) (λ u k. inl (rest_shows u k)) n t last p;
    way = rest_keeps n last p;
    alike = record {
      core = core;
      descs = k.descs ∙ w.descs ∙ sym descs;
      calls = k.calls ∙ w.calls ∙ sym calls;
      answers = k.answers ∙ w.answers ∙ sym answers;
      memory = subst (λ m. Beside area.added m last.memory) (sym memory) (cells_beside area t.memory there o.memory last.memory w.memory k.memory);
    };
    keeps = cells_keep area t.memory there last.memory k.memory;
    arrives = arrives;
  }

  -- it stops where the instruction does, which changes nothing
  pub rest_breaks : (k n : ℕ) (last : State) (why : Stop) → k < n → Passes (KeepsRest area.scratch t) k t last → KeepsRest area.scratch t last → last.core ≡ o.core → step last ≡ Stopped why last → Breaks area n o o t why
  rest_breaks k n last why fewer p kept core stops = record {
    count = k;
    fewer = fewer;
    last = last;
    stopped = last;
    passes = passes_weaker (KeepsRest area.scratch t) (ShowsSame area.added o) rest_shows k t last p;
    way = rest_keeps k last p;
    shows = rest_shows last kept;
    kept = cells_keep area t.memory there last.memory kept.memory;
    stops = stops;
    alike = record { core = core; descs = kept.descs ∙ w.descs; calls = kept.calls ∙ w.calls; answers = kept.answers ∙ w.answers; memory = cells_beside area t.memory there o.memory last.memory w.memory kept.memory };
    keeps = cells_keep area t.memory there last.memory kept.memory;
  }
