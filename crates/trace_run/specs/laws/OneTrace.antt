-- One file, log and number of steps have one outcome.
use Rattle.std.specs.Prelude.{◌≡◌, ℕ, zero, suc, ◌<◌, ◌≤◌, List, Option, Some, None, Result, Ok, Err}
use Rattle.std.specs.Option.{option_and_then}
use Rattle.std.proofs.Common.{refl, sym, ap, ◌∙◌, subst, arith, inl, inr}
use Rattle.std.proofs.lemmas.Bool.{cases_lt, both_ways}
use Rattle.std.proofs.lemmas.Option.{none-some, same_Some}
use Rattle.mv_base.specs.Memory.{Memory}
use Rattle.elf32_read.specs.Load.{load}
use Rattle.elf32_write.specs.Frame.{Frame, frame}
use Rattle.syscall_log.specs.declared.log.Log.{Log}
use Rattle.x86_insn.specs.declared.stop.Stop.{Stop}
use Rattle.x86_insn.specs.State.{State, Outcome, Next, Stopped}
use Rattle.x86_insn.specs.Flags.{flag_image}
use Rattle.x86_insn.specs.Step.{step}
use Rattle.x86_insn.specs.Run.{next_of, next_state, state_after}
use Rattle.x86_insn.specs.TakenUp.{applied_by}
use Rattle.proc_image.specs.Loading.{IsTooLarge}
use Rattle.proc_image.specs.Stack.{stack_taken}
use Rattle.x86_machine.specs.Bounded.{Bounded, Beyond, IsWithin, apply_bounded}
use Rattle.x86_machine.specs.Starting.{first_state, IsTaken}
use Rattle.trace_run.specs.declared.report.End.{End}
use Rattle.trace_run.specs.declared.report.Report.{Report}
use Rattle.trace_run.specs.declared.tracing.TraceFault.{TraceFault}
use Rattle.trace_run.specs.declared.tracing.TraceFault.TheVariants.{TooLarge, NoMemory}
use Rattle.trace_run.specs.Counts.{counts_of}
use Rattle.trace_run.specs.Reports.{KeepsBound, Reaches, Shows, ShowsNoRun, Completes, Stops, MapsBeyond, Runs, ToAll, ToStop, Starts, IsReport, OfNoRun, OfRun, IsBeyond, AtStart, AtStep, IsTrace, ShowSame, AreSame, end_of}

-- ---- runs

-- the last step of a run completes
record LastStep (n : ℕ) (first : State) (s : State) : Type 0 where
  before : State
  there : state_after n first ≡ Some before
  steps : step before ≡ Next s

last_step : (n : ℕ) (first s : State) → state_after (suc n) first ≡ Some s → LastStep n first s
unfolding state_after
last_step n first s e = go (state_after n first) refl e
  where
    go : (r : Option State) → state_after n first ≡ r → option_and_then next_state r ≡ Some s → LastStep n first s
    go None at m = absurd (none-some s m)
    go (Some o) at m = part (step o) refl m
      where
        part : (r : Outcome) → step o ≡ r → next_of r ≡ Some s → LastStep n first s
        part (Next u) q m = record { before = o; there = at; steps = q ∙ ap Next (same_Some _ _ m) }
        part (Stopped why u) q m = absurd (none-some s m)

-- a step before the last state of a run completes
completes_before : (n k : ℕ) (first s t : State) → state_after n first ≡ Some s → k < n → state_after k first ≡ Some t → (u : State) × (step t ≡ Next u)
completes_before zero k first s t e h at = absurd (omega arith)
completes_before (suc n) k first s t e h at =
    let last = last_step n first s e in
    elim (cases_lt k n) [
      | inl l ↦ completes_before n k first last.before t last.there l at
      | inr g ↦
          let same : k ≡ n = omega arith in
          let here : t ≡ last.before = same_Some _ _ (sym at ∙ ap (λ i. state_after i first) same ∙ last.there) in
          (s, ap step here ∙ last.steps)
    ]

-- ---- where a run ends

-- a run has come to its end: all steps are completed, or the next one completes in no case within the bound
record EndsAt (first : State) (steps n : ℕ) (s : State) : Type 0 where
  most : n ≤ steps
  reached : Reaches first n s
  over : n < steps → (u : State) → step s ≡ Next u → KeepsBound s → ⊥

-- it doesn't end before another end
not_before : (first : State) (steps n m : ℕ) (s t : State) → EndsAt first steps n s → EndsAt first steps m t → n < m → ⊥
not_before first steps n m s t h k l =
    let most = k.most in
    let next = completes_before m n first t s k.reached.state l h.reached.state in
    h.over (omega arith) next.0 next.1 (k.reached.within n s l h.reached.state)

record SameEnd (n m : ℕ) (s t : State) : Type 0 where
  count : n ≡ m
  state : s ≡ t

one_end : (first : State) (steps n m : ℕ) (s t : State) → EndsAt first steps n s → EndsAt first steps m t → SameEnd n m s t
one_end first steps n m s t h k =
    elim (cases_lt n m) [
      | inl l ↦ absurd (not_before first steps n m s t h k l)
      | inr g ↦ elim (cases_lt m n) [
        | inl l ↦ absurd (not_before first steps m n t s k h l)
        | inr f ↦
            let same : n ≡ m = omega arith in
            record { count = same; state = same_Some _ _ (sym h.reached.state ∙ ap (λ i. state_after i first) same ∙ k.reached.state) }
      ]
    ]

all_ends : (f : Option Frame) (first : State) (steps : ℕ) (r : Report) (h : Completes f first steps r) → EndsAt first steps steps h.last
all_ends f first steps r h = record { most = omega arith; reached = h.reached; over = λ l u e k. absurd (omega arith) }

-- a step that stops doesn't complete
stopped_next : (s t u : State) (why : Stop) → step s ≡ Stopped why t → step s ≡ Next u → ⊥
stopped_next s t u why e h = let clash : Stopped why t ≡ Next u = sym e ∙ h in cc

stop_ends : (f : Option Frame) (first : State) (steps : ℕ) (r : Report) (h : Stops f first steps r) → EndsAt first steps h.done h.before
stop_ends f first steps r h =
    let fewer = h.fewer in
    record {
      most = omega arith;
      reached = h.reached;
      over = λ l u e k. stopped_next h.before h.after u h.why h.stopped e;
    }

-- effects that go beyond the bound are not within it
beyond_within : (b : Bounded) (n : ℕ) (m : Memory) → b ≡ Beyond n m → IsWithin b → ⊥
beyond_within b n m e h = subst IsWithin e h

beyond_ends : (first : State) (steps n : ℕ) (h : MapsBeyond first steps n) → EndsAt first steps h.done h.before
beyond_ends first steps n h =
    let fewer = h.fewer in
    record {
      most = omega arith;
      reached = h.reached;
      over = λ l u e k. beyond_within (apply_bounded h.before.memory (applied_by h.before)) n h.left h.beyond k;
    }

-- ---- two outcomes of one run

-- two reports that show one state show the same
shown_same : (f : Option Frame) (r q : Report) (s t : State) (why end : End) (n m : ℕ) → Shows f r s why n → Shows f q t end m → s ≡ t → why ≡ end → n ≡ m → ShowSame r q
shown_same f r q s t why end n m h k here by steps = record {
  calls = h.calls ∙ ap (λ u. u.calls) here ∙ sym k.calls;
  counts = h.counts ∙ ap (λ u. counts_of f u.memory) here ∙ sym k.counts;
  regs = h.regs ∙ ap (λ u. u.core.regs) here ∙ sym k.regs;
  flags = h.flags ∙ ap (λ u. flag_image u.core.flags) here ∙ sym k.flags;
  ended = h.ended ∙ by ∙ sym k.ended;
  steps_done = h.steps_done ∙ steps ∙ sym k.steps_done;
}

all_all : (f : Option Frame) (first : State) (steps : ℕ) (r q : Report) → Completes f first steps r → Completes f first steps q → ShowSame r q
all_all f first steps r q h k =
    let one = one_end first steps steps steps h.last k.last (all_ends f first steps r h) (all_ends f first steps q k) in
    shown_same f r q h.last k.last _ _ steps steps h.shown k.shown one.state refl refl

all_stop : (f : Option Frame) (first : State) (steps : ℕ) (r q : Report) → Completes f first steps r → Stops f first steps q → ⊥
all_stop f first steps r q h k =
    let one = one_end first steps steps k.done h.last k.before (all_ends f first steps r h) (stop_ends f first steps q k) in
    let count = one.count in
    let fewer = k.fewer in
    omega arith

all_beyond : (f : Option Frame) (first : State) (steps n : ℕ) (r : Report) → Completes f first steps r → MapsBeyond first steps n → ⊥
all_beyond f first steps n r h k =
    let one = one_end first steps steps k.done h.last k.before (all_ends f first steps r h) (beyond_ends first steps n k) in
    let count = one.count in
    let fewer = k.fewer in
    omega arith

record SameStop (why end : Stop) (s t : State) : Type 0 where
  cause : why ≡ end
  state : s ≡ t

one_stop : (s t : State) (why end : Stop) → Stopped why s ≡ Stopped end t → SameStop why end s t
one_stop s t why end e = record { cause = cc; state = cc }

stop_stop : (f : Option Frame) (first : State) (steps : ℕ) (r q : Report) → Stops f first steps r → Stops f first steps q → ShowSame r q
stop_stop f first steps r q h k =
    let one = one_end first steps h.done k.done h.before k.before (stop_ends f first steps r h) (stop_ends f first steps q k) in
    let stop = one_stop h.after k.after h.why k.why (sym h.stopped ∙ ap step one.state ∙ k.stopped) in
    shown_same f r q h.after k.after _ _ h.done k.done h.shown k.shown stop.state (ap end_of stop.cause) one.count

stop_beyond : (f : Option Frame) (first : State) (steps n : ℕ) (r : Report) → Stops f first steps r → MapsBeyond first steps n → ⊥
stop_beyond f first steps n r h k =
    let one = one_end first steps h.done k.done h.before k.before (stop_ends f first steps r h) (beyond_ends first steps n k) in
    beyond_within _ n k.left k.beyond (subst KeepsBound one.state h.within)

beyond_size : (n m : ℕ) (s t : Memory) → Beyond n s ≡ Beyond m t → n ≡ m
beyond_size n m s t e = cc

beyond_beyond : (first : State) (steps n m : ℕ) → MapsBeyond first steps n → MapsBeyond first steps m → n ≡ m
beyond_beyond first steps n m h k =
    let one = one_end first steps h.done k.done h.before k.before (beyond_ends first steps n h) (beyond_ends first steps m k) in
    beyond_size n m h.left k.left (sym h.beyond ∙ ap (λ s. apply_bounded s.memory (applied_by s)) one.state ∙ k.beyond)

one_report : (f : Option Frame) (first : State) (steps : ℕ) (r q : Report) → Runs f first steps r → Runs f first steps q → ShowSame r q
one_report f first steps r q (ToAll h) (ToAll k) = all_all f first steps r q h k
one_report f first steps r q (ToAll h) (ToStop k) = absurd (all_stop f first steps r q h k)
one_report f first steps r q (ToStop h) (ToAll k) = absurd (all_stop f first steps q r k h)
one_report f first steps r q (ToStop h) (ToStop k) = stop_stop f first steps r q h k

report_beyond : (f : Option Frame) (first : State) (steps n : ℕ) (r : Report) → Runs f first steps r → MapsBeyond first steps n → ⊥
report_beyond f first steps n r (ToAll h) k = all_beyond f first steps n r h k
report_beyond f first steps n r (ToStop h) k = stop_beyond f first steps n r h k

-- ---- two outcomes of one trace

module _ (b : List ℕ) (log : Log) (steps : ℕ) where
  starts_taken : Starts b → IsTaken b → ⊥
  starts_taken h k = both_ways (stack_taken (load b)) h.free k.taken

  starts_large : (n : ℕ) → Starts b → IsTooLarge b n → ⊥
  starts_large n h k =
      let limit = h.limit in
      let above = k.above in
      let size = k.size in
      omega arith

  taken_large : (n : ℕ) → IsTaken b → IsTooLarge b n → ⊥
  taken_large n h k =
      let limit = h.limit in
      let above = k.above in
      let size = k.size in
      omega arith

  no_run_same : (r q : Report) → ShowsNoRun r → ShowsNoRun q → ShowSame r q
  no_run_same r q h k = record {
    calls = h.calls ∙ sym k.calls;
    counts = h.counts ∙ sym k.counts;
    regs = h.regs ∙ sym k.regs;
    flags = h.flags ∙ sym k.flags;
    ended = h.ended ∙ sym k.ended;
    steps_done = h.steps_done ∙ sym k.steps_done;
  }

  reports_same : (r q : Report) → IsReport b log steps r → IsReport b log steps q → ShowSame r q
  reports_same r q (OfNoRun taken h) (OfNoRun again k) = no_run_same r q h k
  reports_same r q (OfNoRun taken h) (OfRun starts k) = absurd (starts_taken starts taken)
  reports_same r q (OfRun starts h) (OfNoRun taken k) = absurd (starts_taken starts taken)
  reports_same r q (OfRun starts h) (OfRun again k) = one_report (frame b) (first_state b log) steps r q h k

  report_not_beyond : (r : Report) (n : ℕ) → IsReport b log steps r → IsBeyond b log steps n → ⊥
  report_not_beyond r n (OfNoRun taken h) (AtStart k) = taken_large n taken k
  report_not_beyond r n (OfNoRun taken h) (AtStep starts k) = starts_taken starts taken
  report_not_beyond r n (OfRun starts h) (AtStart k) = starts_large n starts k
  report_not_beyond r n (OfRun starts h) (AtStep again k) = report_beyond (frame b) (first_state b log) steps n r h k

  beyond_same : (n m : ℕ) → IsBeyond b log steps n → IsBeyond b log steps m → n ≡ m
  beyond_same n m (AtStart h) (AtStart k) = h.size ∙ sym k.size
  beyond_same n m (AtStart h) (AtStep starts k) = absurd (starts_large n starts h)
  beyond_same n m (AtStep starts h) (AtStart k) = absurd (starts_large m starts k)
  beyond_same n m (AtStep starts h) (AtStep again k) = beyond_beyond (first_state b log) steps n m h k

  pub one_outcome : (x y : Result Report TraceFault) → IsTrace b log steps x → IsTrace b log steps y → AreSame x y
  one_outcome (Ok r) (Ok q) h k = reports_same r q h k
  one_outcome (Ok r) (Err (TooLarge n)) h k = report_not_beyond r n h k
  one_outcome (Ok r) (Err NoMemory) h k = tt
  one_outcome (Err (TooLarge n)) (Ok r) h k = report_not_beyond r n k h
  one_outcome (Err (TooLarge n)) (Err (TooLarge m)) h k = beyond_same n m h k
  one_outcome (Err (TooLarge n)) (Err NoMemory) h k = tt
  one_outcome (Err NoMemory) y h k = tt
