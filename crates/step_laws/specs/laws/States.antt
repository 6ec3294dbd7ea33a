-- The states of a run: one step more, a run and what follows it, and the last step of a run.
use Rattle.std.specs.Prelude.{◌≡◌, ℕ, zero, suc, ◌+◌, ◌<◌, ◌≤◌, true, false, Option, Some, None, is_some}
use Rattle.std.specs.Option.{option_and_then}
use Rattle.std.proofs.Common.{refl, ap, ◌∙◌, add-zero, add-suc, eq-or-lt_of_le, inl, inr, ◌⊎◌}
use Rattle.std.proofs.lemmas.Bool.{both_ways}
use Rattle.std.proofs.lemmas.Option.{option_and_then_some}
use Rattle.x86_insn.specs.State.{State, Outcome, Next, Stopped}
use Rattle.x86_insn.specs.Step.{step}
use Rattle.x86_insn.specs.Run.{next_of, next_state, state_after}
use Rattle.step_laws.specs.Passes.{Passes}
use Rattle.step_laws.specs.laws.Passing.{passes_arrives, passes_at}

pub state_now : (s : State) → state_after 0 s ≡ Some s
unfolding state_after
state_now s = refl

pub state_next : (n : ℕ) (s t u : State) → state_after n s ≡ Some t → step t ≡ Next u → state_after (suc n) s ≡ Some u
unfolding state_after
state_next n s t u e h = ap (option_and_then next_state) e ∙ ap next_of h

pub state_later : (k n : ℕ) (s t u : State) → state_after n s ≡ Some t → state_after k t ≡ Some u → state_after (n + k) s ≡ Some u
unfolding state_after
state_later zero n s t u e h = ap (λ m. state_after m s) (add-zero n) ∙ e ∙ h
state_later (suc k) n s t u e h =
    option_and_then_some next_state (state_after k t) u h (λ v p q. ap (λ m. state_after m s) (add-suc n k) ∙ ap (option_and_then next_state) (state_later k n s t v e p) ∙ q)

-- the last step of a run
pub record LastStep (n : ℕ) (s : State) : Type 0 where
  pub before : State
  pub after : State
  pub there : state_after n s ≡ Some before
  pub steps : step before ≡ Next after

pub last_step : (n : ℕ) (s : State) → is_some (state_after (suc n) s) ≡ true → LastStep n s
unfolding state_after
last_step n s h = go (state_after n s) refl h
  where
    go : (r : Option State) → state_after n s ≡ r → is_some (option_and_then next_state r) ≡ true → LastStep n s
    go None e m = absurd (both_ways false refl m)
    go (Some o) e m = part (step o) refl m
      where
        part : (r : Outcome) → step o ≡ r → is_some (next_of r) ≡ true → LastStep n s
        part (Next u) q m = record { before = o; after = u; there = e; steps = q }
        part (Stopped why u) q m = absurd (both_ways false refl m)

-- each state of a run has what is asked, the last one too
pub passes_each : (Q : State → Type 0) (n : ℕ) (s t : State) → Passes Q n s t → Q t → (k : ℕ) → k ≤ n → (u : State) × (state_after k s ≡ Some u) × Q u
passes_each Q n s t p q k h = go (eq-or-lt_of_le h)
  where
    go : (k ≡ n) ⊎ (k < n) → (u : State) × (state_after k s ≡ Some u) × Q u
    go (inl e) = (t, ap (λ m. state_after m s) e ∙ passes_arrives Q n s t p, q)
    go (inr l) = passes_at Q n s t p k l

-- ---- outcomes

pub next_parts : (u v : State) → Next u ≡ Next v → u ≡ v
next_parts u v e = ap state_of e
  where
    state_of : Outcome → State
    state_of (Next s) = s
    state_of (Stopped why s) = u
