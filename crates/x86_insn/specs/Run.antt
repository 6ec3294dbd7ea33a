-- The states that a machine comes to.
use Rattle.std.specs.Prelude.{ℕ, zero, suc, Option, Some, None}
use Rattle.std.specs.Option.{option_and_then}
use Rattle.x86_insn.specs.State.{State, Outcome, Next, Stopped}
use Rattle.x86_insn.specs.Step.{step}

abbrev pub next_of : Outcome → Option State
next_of (Next s) = Some s
next_of (Stopped why s) = None

-- the state after a step, where it completes
abbrev pub next_state : State → Option State
next_state s = next_of (step s)

-- the n-th state of a run from s, where n steps complete
unfoldable pub state_after : ℕ → State → Option State
state_after zero s = Some s
state_after (suc n) s = option_and_then next_state (state_after n s)
