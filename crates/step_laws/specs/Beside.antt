-- One memory beside another: the same but for added addresses. This project's own.
use Rattle.std.specs.Prelude.{◌≡◌, ℕ, Bool, true, false, Option, Some, None, if◌then◌else◌}
use Rattle.std.specs.Option.{option_map}
use Rattle.mv_base.specs.Memory.{Cell, Memory, is_writable, is_executable}
use Rattle.mv_base.specs.Effects.{Effect, touches}
use Rattle.x86_insn.specs.State.{State, Outcome, Next, Stopped}
use Rattle.x86_insn.specs.declared.stop.Stop.{Stop}
use Rattle.x86_insn.specs.declared.stop.Stop.TheVariants.{Trap, Outside, NoAnswer, BadAnswer, Gone}

-- ---- cells

-- a cell's byte and write mark, and a cell that may be executed
abbrev pub shown : Option Cell → Option (ℕ × Bool)
shown c = option_map (λ c. (c.byte, c.write)) c

abbrev pub exec_cell : Option Cell → Option Cell
exec_cell None = None
exec_cell (Some c) = if c.exec then Some c else None

-- ---- code that stays

-- no cell may be both executed and written
abbrev pub IsFixed : Memory → Type 0
IsFixed m = (a : ℕ) → is_executable m a ≡ true → is_writable m a ≡ false

-- the executable cells are the same, and no others are
abbrev pub SameCode : Memory → Memory → Type 0
SameCode m u = (a : ℕ) → exec_cell (u a) ≡ exec_cell (m a)

-- what a step comes to, or stops with, has the code of a memory
abbrev pub KeepsCode : Memory → Outcome → Type 0
KeepsCode m (Next u) = SameCode m u.memory
KeepsCode m (Stopped why u) = SameCode m u.memory

-- ---- memory beside memory

-- the second is the first but for added addresses, of which the first maps nothing; outside them both have the same
-- addresses, bytes and write marks
pub record Beside (added : ℕ → Bool) (o t : Memory) : Type 0 where
  pub outside : (a : ℕ) → added a ≡ false → shown (t a) ≡ shown (o a)
  pub free : (a : ℕ) → added a ≡ true → o a ≡ None

-- two states show the same: calls made, answers left, and outside the added addresses the same addresses, bytes and
-- write marks
pub record ShowsSame (added : ℕ → Bool) (o t : State) : Type 0 where
  pub calls : t.calls ≡ o.calls
  pub answers : t.answers ≡ o.answers
  pub outside : (a : ℕ) → added a ≡ false → shown (t.memory a) ≡ shown (o.memory a)

-- two states are the same but for their instruction pointers and added addresses
pub record StatesBeside (added : ℕ → Bool) (o t : State) : Type 0 where
  pub core : t.core ≡ o.core
  pub descs : t.descs ≡ o.descs
  pub calls : t.calls ≡ o.calls
  pub answers : t.answers ≡ o.answers
  pub memory : Beside added o.memory t.memory

-- ---- what is clear

-- a stop is no trap at an added address
abbrev pub IsClearStop : (ℕ → Bool) → Stop → Type 0
IsClearStop added (Trap kind a) = added a ≡ false
IsClearStop added Outside = Unit {0}
IsClearStop added NoAnswer = Unit {0}
IsClearStop added BadAnswer = Unit {0}
IsClearStop added Gone = Unit {0}

abbrev pub IsClearOutcome : (ℕ → Bool) → Outcome → Type 0
IsClearOutcome added (Next s) = Unit {0}
IsClearOutcome added (Stopped why s) = IsClearStop added why

-- an effect touches no added address, and none that either memory has to execute
abbrev pub IsClearEffect : (ℕ → Bool) → Memory → Memory → Effect → Type 0
IsClearEffect added o t e =
    (a : ℕ) → touches e a ≡ true → (added a ≡ false) × (is_executable o a ≡ false) × (is_executable t a ≡ false)
