-- Runs one after the other, and the states on their way.
use Rattle.std.proofs.Common.{◌≡◌, ℕ, zero, suc, ◌+◌, ◌<◌, Some, refl, sym, ap, ◌∙◌, subst, arith}
use Rattle.std.specs.Option.{option_and_then}
use Rattle.x86_insn.specs.State.{State, Next}
use Rattle.x86_insn.specs.Step.{step}
use Rattle.x86_insn.specs.Run.{next_of, next_state, state_after}
use Rattle.step_laws.specs.Passes.{Passes}

-- the states after a first step
pub state_first : (n : ℕ) (s u : State) → step s ≡ Next u → state_after (suc n) s ≡ state_after n u
unfolding state_after
state_first zero s u e = ap next_of e
state_first (suc n) s u e = ap (option_and_then next_state) (state_first n s u e)

pub passes_none : (Q : State → Type 0) (s : State) → Passes Q 0 s s
unfolding Passes
passes_none Q s = refl

pub passes_first : (Q : State → Type 0) (n : ℕ) (s u t : State) → Q s → step s ≡ Next u → Passes Q n u t → Passes Q (suc n) s t
unfolding Passes
passes_first Q n s u t q e p = (q, (u, e, p))

pub passes_one : (Q : State → Type 0) (s u : State) → Q s → step s ≡ Next u → Passes Q 1 s u
passes_one Q s u q e = passes_first Q 0 s u u q e (passes_none Q u)

-- two runs, one after the other
pub passes_then : (Q : State → Type 0) (n m : ℕ) (s t u : State) → Passes Q n s t → Passes Q m t u → Passes Q (n + m) s u
unfolding Passes
passes_then Q zero m s t u p q = let e : m ≡ 0 + m = omega arith in subst (λ k. Passes Q k s u) e (subst (λ v. Passes Q m v u) p q)
passes_then Q (suc n) m s t u p q =
    let e : suc (n + m) ≡ suc n + m = omega arith in
    let more : Passes Q (suc (n + m)) s u = (p.0, (p.1.0, p.1.1, passes_then Q n m p.1.0 t u p.1.2 q)) in
    subst (λ k. Passes Q k s u) e more

-- one step more
pub passes_last : (Q : State → Type 0) (n : ℕ) (s t u : State) → Passes Q n s t → Q t → step t ≡ Next u → Passes Q (suc n) s u
passes_last Q n s t u p q e =
    let more : n + 1 ≡ suc n = omega arith in
    subst (λ k. Passes Q k s u) more (passes_then Q n 1 s t u p (passes_one Q t u q e))

-- a run whose states have more
pub passes_weaker : (Q R : State → Type 0) → ((v : State) → Q v → R v) → (n : ℕ) (s t : State) → Passes Q n s t → Passes R n s t
unfolding Passes
passes_weaker Q R f zero s t p = p
passes_weaker Q R f (suc n) s t p = (f s p.0, (p.1.0, p.1.1, passes_weaker Q R f n p.1.0 t p.1.2))

-- it comes to its last state after its number of steps
pub passes_arrives : (Q : State → Type 0) (n : ℕ) (s t : State) → Passes Q n s t → state_after n s ≡ Some t
unfolding Passes state_after
passes_arrives Q zero s t p = ap Some (sym p)
passes_arrives Q (suc n) s t p = state_first n s p.1.0 p.1.1 ∙ passes_arrives Q n p.1.0 t p.1.2

-- each state before has what is asked
pub passes_at : (Q : State → Type 0) (n : ℕ) (s t : State) → Passes Q n s t → (k : ℕ) → k < n → (u : State) × (state_after k s ≡ Some u) × Q u
unfolding Passes state_after
passes_at Q zero s t p k l = absurd (omega arith)
passes_at Q (suc n) s t p zero l = (s, refl, p.0)
passes_at Q (suc n) s t p (suc k) l = let w = passes_at Q n p.1.0 t p.1.2 k (omega arith) in (w.0, state_first k s p.1.0 p.1.1 ∙ w.1, w.2)
