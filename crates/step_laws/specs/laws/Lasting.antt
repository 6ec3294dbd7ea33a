-- What every step keeps, whole runs keep: the bounds of states, and code that cannot be written.
use Rattle.std.specs.Prelude.{◌≡◌, ℕ, zero, suc, Some, is_some}
use Rattle.std.proofs.Common.{refl, sym, ap, ◌∙◌, subst}
use Rattle.std.proofs.lemmas.Option.{same_Some}
use Rattle.x86_insn.specs.State.{State}
use Rattle.x86_insn.specs.Run.{state_after}
use Rattle.step_laws.specs.Bounds.{IsState, IsOutcome}
use Rattle.step_laws.specs.Beside.{IsFixed, SameCode, KeepsCode}
use Rattle.step_laws.specs.laws.States.{state_now, state_next, last_step}
use Rattle.step_laws.specs.laws.Bounding.{step_fits}
use Rattle.step_laws.specs.laws.Coding.{same_then, fixed_same, step_leaves}

pub run_fits : (n : ℕ) (s t : State) → IsState s → state_after n s ≡ Some t → IsState t
run_fits zero s t h e = subst IsState (same_Some s t (sym (state_now s) ∙ e)) h
run_fits (suc n) s t h e =
    let l = last_step n s (ap is_some e) in
    let same = same_Some l.after t (sym (state_next n s l.before l.after l.there l.steps) ∙ e) in
    subst IsState same (subst IsOutcome l.steps (step_fits l.before (run_fits n s l.before h l.there)))

pub run_leaves : (n : ℕ) (s t : State) → IsState s → IsFixed s.memory → state_after n s ≡ Some t → SameCode s.memory t.memory
run_leaves zero s t h f e = subst (λ (u : State). SameCode s.memory u.memory) (same_Some s t (sym (state_now s) ∙ e)) (λ a. refl)
run_leaves (suc n) s t h f e =
    let l = last_step n s (ap is_some e) in
    let same = same_Some l.after t (sym (state_next n s l.before l.after l.there l.steps) ∙ e) in
    let before = run_leaves n s l.before h f l.there in
    let there = subst (KeepsCode l.before.memory) l.steps (step_leaves l.before (run_fits n s l.before h l.there) (fixed_same s.memory l.before.memory before f)) in
    subst (λ (u : State). SameCode s.memory u.memory) same (same_then s.memory l.before.memory l.after.memory before there)
