-- From the steps of a machine to what its run comes to.
use Rattle.std.proofs.Common.{◌≡◌, ℕ, ◌+◌, ◌<◌, Option, Some, None, Result, Ok, Err, refl, sym, ap, ◌∙◌, subst, inl, inr, arith, add-one}
use Rattle.std.specs.Option.{option_and_then}
use Rattle.std.proofs.lemmas.Bool.{cases_lt}
use Rattle.std.proofs.lemmas.Option.{same_Some}
use Rattle.elf32_write.specs.Frame.{Frame}
use Rattle.x86_insn.specs.declared.stop.Stop.{Stop}
use Rattle.x86_insn.specs.declared.stop.Stop.TheVariants as stop
use Rattle.x86_insn.specs.State.{State, Stopped}
use Rattle.x86_insn.specs.State as state
use Rattle.x86_insn.specs.Step.{step}
use Rattle.x86_insn.specs.Run.{next_of, next_state, state_after}
use Rattle.x86_insn.specs.TakenUp.{applied_by}
use Rattle.x86_machine.specs.declared.machine.Outcome.{Outcome}
use Rattle.x86_machine.specs.declared.machine.Outcome.TheVariants as outcome
use Rattle.x86_machine.specs.Stepping.{Comes, IsStep}
use Rattle.trace_run.specs.declared.report.End.{End}
use Rattle.trace_run.specs.declared.report.Report.{Report}
use Rattle.trace_run.specs.declared.tracing.TraceFault.{TraceFault}
use Rattle.trace_run.specs.declared.tracing.TraceFault.TheVariants.{TooLarge, NoMemory}
use Rattle.trace_run.specs.Outcomes.{ended_by}
use Rattle.trace_run.specs.Reports.{KeepsBound, Reaches, Shows, Stops, IsRun, end_of}

-- before the first step
pub begins : (s : State) → Reaches s 0 s
unfolding state_after
begins s = record { state = refl; within = λ k t l e. absurd (omega arith) }

-- a step that completes within the bound leads on
pub goes_on : (first : State) (n : ℕ) (s t : State) → Reaches first n s → Comes (applied_by s) (step s) s (state.Next t) → Reaches first (n + 1) t
unfolding state_after
goes_on first n s t h comes = record {
  state = ap (λ k. state_after k first) (add-one n) ∙ ap (option_and_then next_state) h.state ∙ ap next_of comes.is;
  within = λ k u l e. elim (cases_lt k n) [
    | inl before ↦ h.within k u before e
    | inr here ↦
        let same : n ≡ k = omega arith in
        subst KeepsBound (same_Some _ _ (sym h.state ∙ ap (λ i. state_after i first) same ∙ e)) comes.within
  ];
}

-- an outcome with no end is that of a step that completes
pub completes : (o : Outcome) → ended_by o ≡ Ok None → o ≡ outcome.Next
completes outcome.Next e = refl
completes (outcome.Trap kind at) e = cc
completes outcome.Outside e = cc
completes outcome.NoAnswer e = cc
completes outcome.BadAnswer e = cc
completes outcome.Gone e = cc
completes (outcome.TooLarge n) e = cc
completes outcome.NoMemory e = cc

-- a step with no end completes
pub goes : (s t : State) (o : Outcome) → ended_by o ≡ Ok None → IsStep s o t → Comes (applied_by s) (step s) s (state.Next t)
goes s t outcome.Next e h = h
goes s t (outcome.Trap kind at) e h = cc
goes s t outcome.Outside e h = cc
goes s t outcome.NoAnswer e h = cc
goes s t outcome.BadAnswer e h = cc
goes s t outcome.Gone e h = cc
goes s t (outcome.TooLarge n) e h = cc
goes s t outcome.NoMemory e h = cc

module _ (f : Option Frame) (first : State) (steps n : ℕ) (s t : State) (reached : Reaches first n s) (fewer : n < steps) where
  stop_shown : (r : Report) (why : Stop) (e : End) → Comes (applied_by s) (step s) s (Stopped why t) → (let plain : Result (Option End) TraceFault = Ok (Some (end_of why)) in plain ≡ Ok (Some e)) → Shows f r t e n → Stops f first steps r
  stop_shown r why e h same shown = record {
    done = n;
    fewer = fewer;
    before = s;
    reached = reached;
    within = h.within;
    why = why;
    after = t;
    stopped = h.is;
    shown = let back : e ≡ end_of why = cc in subst (λ w. Shows f r t w n) back shown;
  }

  -- a step with an end stops the run
  pub ends : (r : Report) (o : Outcome) (e : End) → ended_by o ≡ Ok (Some e) → IsStep s o t → Shows f r t e n → Stops f first steps r
  ends r outcome.Next e same h shown = cc
  ends r (outcome.Trap kind at) e same h shown = stop_shown r (stop.Trap kind at) e h same shown
  ends r outcome.Outside e same h shown = stop_shown r stop.Outside e h same shown
  ends r outcome.NoAnswer e same h shown = stop_shown r stop.NoAnswer e h same shown
  ends r outcome.BadAnswer e same h shown = stop_shown r stop.BadAnswer e h same shown
  ends r outcome.Gone e same h shown = stop_shown r stop.Gone e h same shown
  ends r (outcome.TooLarge size) e same h shown = cc
  ends r outcome.NoMemory e same h shown = cc

  -- a step that is refused refuses the run
  pub refuses : (o : Outcome) (e : TraceFault) → ended_by o ≡ Err e → IsStep s o t → IsRun f first steps (Err e)
  refuses outcome.Next e same h = cc
  refuses (outcome.Trap kind at) e same h = cc
  refuses outcome.Outside e same h = cc
  refuses outcome.NoAnswer e same h = cc
  refuses outcome.BadAnswer e same h = cc
  refuses outcome.Gone e same h = cc
  refuses (outcome.TooLarge size) e same h =
      let back : TooLarge size ≡ e = cc in
      subst (λ g. IsRun f first steps (Err g)) back
      (record { done = n; fewer = fewer; before = s; reached = reached; left = h.memory; beyond = h.beyond })
  refuses outcome.NoMemory e same h =
      let back : NoMemory ≡ e = cc in
      subst (λ g. IsRun f first steps (Err g)) back tt
