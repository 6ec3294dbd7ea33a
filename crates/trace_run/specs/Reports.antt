-- The report of a traced file. This project's own.
use Rattle.std.specs.Prelude.{◌≡◌, ℕ, ◌<◌, ◌≤◌, false, List, [], ◌∷◌, Option, Some, Result, Ok, Err}
use Rattle.mv_base.specs.Memory.{Memory}
use Rattle.elf32_read.specs.Load.{load}
use Rattle.elf32_write.specs.Frame.{Frame, frame}
use Rattle.syscall_log.specs.declared.log.Log.{Log}
use Rattle.x86_insn.specs.declared.stop.Stop.{Stop}
use Rattle.x86_insn.specs.declared.stop.Stop.TheVariants as stop
use Rattle.x86_insn.specs.Flags.{flag_image}
use Rattle.x86_insn.specs.State.{State, Stopped}
use Rattle.x86_insn.specs.Step.{step}
use Rattle.x86_insn.specs.Run.{state_after}
use Rattle.x86_insn.specs.TakenUp.{applied_by}
use Rattle.proc_image.specs.Loading.{loaded_size, IsTooLarge}
use Rattle.proc_image.specs.Stack.{stack_taken}
use Rattle.x86_machine.specs.Bounded.{apply_bounded, Beyond, IsWithin}
use Rattle.x86_machine.specs.Starting.{first_state, no_flags, IsTaken}
use Rattle.trace_run.specs.declared.report.End.{End}
use Rattle.trace_run.specs.declared.report.End.TheVariants as end
use Rattle.trace_run.specs.declared.report.Report.{Report}
use Rattle.trace_run.specs.declared.tracing.TraceFault.{TraceFault}
use Rattle.trace_run.specs.declared.tracing.TraceFault.TheVariants.{TooLarge, NoMemory}
use Rattle.trace_run.specs.Counts.{counts_of}

-- ---- runs

-- a step from a state keeps the bound on mapped pages: of the effects that it applies no map goes beyond it
abbrev pub KeepsBound : State → Type 0
KeepsBound s = IsWithin (apply_bounded s.memory (applied_by s))

-- n steps complete, lead from the first state to this one, and each keeps the bound
pub record Reaches (first : State) (n : ℕ) (s : State) : Type 0 where
  pub state : state_after n first ≡ Some s
  pub within : (k : ℕ) (t : State) → k < n → state_after k first ≡ Some t → KeepsBound t

-- ---- what a report shows

-- the end that a stop is
abbrev pub end_of : Stop → End
end_of (stop.Trap kind at) = end.Trap kind at
end_of stop.Outside = end.Outside
end_of stop.NoAnswer = end.NoAnswer
end_of stop.BadAnswer = end.BadAnswer
end_of stop.Gone = end.Gone

-- a state's calls, the counters of a frame, registers and flags; by what the run ended there, and how many steps it
-- completed
pub record Shows (f : Option Frame) (r : Report) (s : State) (why : End) (steps : ℕ) : Type 0 where
  pub calls : r.calls.made ≡ s.calls
  pub counts : r.counts ≡ counts_of f s.memory
  pub regs : r.regs ≡ s.core.regs
  pub flags : r.flags ≡ flag_image s.core.flags
  pub ended : r.end ≡ why
  pub steps_done : r.steps ≡ steps

-- no run: no call and no counter, registers and flags as if all were 0 and clear, and no step
pub record ShowsNoRun (r : Report) : Type 0 where
  pub calls : r.calls.made ≡ []
  pub counts : r.counts ≡ []
  pub regs : r.regs ≡ 0 ∷ 0 ∷ 0 ∷ 0 ∷ 0 ∷ 0 ∷ 0 ∷ 0 ∷ []
  pub flags : r.flags ≡ flag_image no_flags
  pub ended : r.end ≡ end.NoStack
  pub steps_done : r.steps ≡ 0

-- ---- how a run ends

-- as many steps as asked complete, and no further one is tried
pub record Completes (f : Option Frame) (first : State) (steps : ℕ) (r : Report) : Type 0 where
  pub last : State
  pub reached : Reaches first steps last
  pub shown : Shows f r last end.Steps steps

-- fewer steps complete, and the next one stops
pub record Stops (f : Option Frame) (first : State) (steps : ℕ) (r : Report) : Type 0 where
  pub done : ℕ
  pub fewer : done < steps
  pub before : State
  pub reached : Reaches first done before
  pub within : KeepsBound before
  pub why : Stop
  pub after : State
  pub stopped : step before ≡ Stopped why after
  pub shown : Shows f r after (end_of why) done

-- fewer steps complete, and the next one comes to a map that isn't refused and leaves mapped pages of n bytes, which
-- are more than are allowed
pub record MapsBeyond (first : State) (steps n : ℕ) : Type 0 where
  pub done : ℕ
  pub fewer : done < steps
  pub before : State
  pub reached : Reaches first done before
  pub left : Memory
  pub beyond : apply_bounded before.memory (applied_by before) ≡ Beyond n left

-- the run of a file with this frame, or with none, completes all steps, or stops before
pub data Runs (f : Option Frame) (first : State) (steps : ℕ) (r : Report) : Type 0 where
  ToAll : Completes f first steps r → Runs f first steps r
  ToStop : Stops f first steps r → Runs f first steps r

-- what a run from a state comes to
abbrev pub IsRun : Option Frame → State → ℕ → Result Report TraceFault → Type 0
IsRun f first steps (Ok r) = Runs f first steps r
IsRun f first steps (Err (TooLarge n)) = MapsBeyond first steps n
IsRun f first steps (Err NoMemory) = Unit {0}

-- ---- what a trace gives

-- a file that fits together with the stack, and leaves the stack's addresses free
pub record Starts (b : List ℕ) : Type 0 where
  pub limit : loaded_size b ≤ 67108864
  pub free : stack_taken (load b) ≡ false

-- the report of a file, a log and a number of steps: the stack is taken and nothing runs, or it runs from the first state
pub data IsReport (b : List ℕ) (log : Log) (steps : ℕ) (r : Report) : Type 0 where
  OfNoRun : IsTaken b → ShowsNoRun r → IsReport b log steps r
  OfRun : Starts b → Runs (frame b) (first_state b log) steps r → IsReport b log steps r

-- too many bytes would be mapped: n, by the file and the stack, or by a map of a step that is tried
pub data IsBeyond (b : List ℕ) (log : Log) (steps n : ℕ) : Type 0 where
  AtStart : IsTooLarge b n → IsBeyond b log steps n
  AtStep : Starts b → MapsBeyond (first_state b log) steps n → IsBeyond b log steps n

-- what a trace gives
abbrev pub IsTrace : List ℕ → Log → ℕ → Result Report TraceFault → Type 0
IsTrace b log steps (Ok r) = IsReport b log steps r
IsTrace b log steps (Err (TooLarge n)) = IsBeyond b log steps n
IsTrace b log steps (Err NoMemory) = Unit {0}

-- ---- one file, log and number of steps have one outcome

-- two reports show the same
pub record ShowSame (r q : Report) : Type 0 where
  pub calls : r.calls.made ≡ q.calls.made
  pub counts : r.counts ≡ q.counts
  pub regs : r.regs ≡ q.regs
  pub flags : r.flags ≡ q.flags
  pub ended : r.end ≡ q.end
  pub steps_done : r.steps ≡ q.steps

-- two outcomes are the same, want of memory aside
abbrev pub AreSame : Result Report TraceFault → Result Report TraceFault → Type 0
AreSame (Ok r) (Ok q) = ShowSame r q
AreSame (Ok r) (Err (TooLarge n)) = ⊥
AreSame (Ok r) (Err NoMemory) = Unit {0}
AreSame (Err (TooLarge n)) (Ok r) = ⊥
AreSame (Err (TooLarge n)) (Err (TooLarge m)) = n ≡ m
AreSame (Err (TooLarge n)) (Err NoMemory) = Unit {0}
AreSame (Err NoMemory) x = Unit {0}
