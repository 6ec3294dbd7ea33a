-- What a machine comes to, by the definition's outcome.
use Rattle.std.proofs.Common.{◌≡◌, ℕ, [], sym, ap, ◌∙◌, subst, subst₂}
use Rattle.mv_base.specs.Memory.{address_after}
use Rattle.x86_insn.specs.declared.insn.Flow.{Flow}
use Rattle.x86_insn.specs.declared.insn.Insn.{Insn}
use Rattle.x86_insn.specs.declared.stop.Kind.TheVariants.{FetchFault}
use Rattle.x86_insn.specs.Flow.{flow_of}
use Rattle.x86_insn.specs.Step.{Absent, Found, Unknown, fetch, executed, stepped, step}
use Rattle.x86_insn.specs.TakenUp.{effects_by_flow, effects_of, applied_by}
use Rattle.x86_machine.specs.declared.machine.Outcome.{Outcome}
use Rattle.x86_insn.specs.declared.stop.Stop.{Stop}
use Rattle.x86_insn.specs.declared.stop.Stop.TheVariants as stop
use Rattle.x86_insn.specs.State.{State}
use Rattle.x86_insn.specs.State as state
use Rattle.x86_machine.specs.Bounded.{IsWithin, apply_bounded}
use Rattle.x86_machine.specs.Stepping.{Comes, ComesTo, IsStep, outcome_of}

-- no effects go beyond no bound
pub none-within : (s : State) → IsWithin (apply_bounded s.memory [])
unfolding apply_bounded
none-within s = tt

-- without effects
pub comes : (outcome own : state.Outcome) (s : State) → outcome ≡ own → Comes [] outcome s own
comes outcome own s is = record { is = is; within = none-within s }

pub stops : (outcome : state.Outcome) (s t : State) (why : Stop) → outcome ≡ state.Stopped why t → ComesTo [] outcome s (outcome_of why) t
stops outcome s t (stop.Trap kind at) is = comes outcome _ s is
stops outcome s t stop.Outside is = comes outcome _ s is
stops outcome s t stop.NoAnswer is = comes outcome _ s is
stops outcome s t stop.BadAnswer is = comes outcome _ s is
stops outcome s t stop.Gone is = comes outcome _ s is

-- ---- a step by what is fetched

module _ (s : State) (next len : ℕ) (i : Insn) (next_is : next ≡ address_after s.eip len) (found : fetch s.memory s.eip ≡ Found i len) where
  -- the step and the effects that it applies, by the instruction's flow
  stepped_by : (fl : Flow) → flow_of i ≡ fl → step s ≡ executed s i next fl
  unfolding step
  stepped_by fl is = ap (stepped s) found ∙ ap (λ (a : ℕ). executed s i a (flow_of i)) (sym next_is) ∙ ap (executed s i next) is

  applied_in : (fl : Flow) → flow_of i ≡ fl → applied_by s ≡ effects_by_flow fl s.answers
  applied_in fl is = ap (λ r. effects_of r s.answers) found ∙ ap (λ k. effects_by_flow k s.answers) is

  pub step-comes : (fl : Flow) (r : Outcome) (t : State) → flow_of i ≡ fl → ComesTo (effects_by_flow fl s.answers) (executed s i next fl) s r t → IsStep s r t
  step-comes fl r t is h = subst₂ (λ es o. ComesTo es o s r t) (sym (applied_in fl is)) (sym (stepped_by fl is)) h

-- nothing is fetched
pub absent-stops : (s : State) → fetch s.memory s.eip ≡ Absent → Comes (applied_by s) (step s) s (state.Stopped (stop.Trap FetchFault s.eip) s)
unfolding step
absent-stops s is = record {
  is = ap (stepped s) is;
  within = subst (λ es. IsWithin (apply_bounded s.memory es)) (sym (ap (λ r. effects_of r s.answers) is)) (none-within s);
}

pub unknown-stops : (s : State) → fetch s.memory s.eip ≡ Unknown → Comes (applied_by s) (step s) s (state.Stopped stop.Outside s)
unfolding step
unknown-stops s is = record {
  is = ap (stepped s) is;
  within = subst (λ es. IsWithin (apply_bounded s.memory es)) (sym (ap (λ r. effects_of r s.answers) is)) (none-within s);
}
