-- Runs of steps with what holds on the way. This project's own.
use Rattle.std.specs.Prelude.{◌≡◌, ℕ, zero, suc}
use Rattle.x86_insn.specs.State.{State, Next}
use Rattle.x86_insn.specs.Step.{step}

-- n steps complete and lead from s to t, and each state before t has Q
unfoldable pub Passes : (State → Type 0) → ℕ → State → State → Type 0
Passes Q zero s t = t ≡ s
Passes Q (suc n) s t = Q s × ((u : State) × (step s ≡ Next u) × Passes Q n u t)
