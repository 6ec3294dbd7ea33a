-- What a run of added code leaves as it was. This project's own.
use Rattle.std.specs.Prelude.{◌≡◌, ℕ, Bool, false, Option}
use Rattle.std.specs.Option.{option_map}
use Rattle.mv_base.specs.Memory.{Cell, Memory}
use Rattle.x86_insn.specs.State.{State}

-- a cell's two marks
abbrev pub marks : Option Cell → Option (Bool × Bool)
marks c = option_map (λ c. (c.write, c.exec)) c

-- every cell that is no scratch is the same, and each cell has the same marks
pub record KeepsCells (scratch : ℕ → Bool) (m m' : Memory) : Type 0 where
  pub marked : (a : ℕ) → marks (m' a) ≡ marks (m a)
  pub others : (a : ℕ) → scratch a ≡ false → m' a ≡ m a

-- calls made, answers left and descriptors are the same, and every cell but scratch
pub record KeepsRest (scratch : ℕ → Bool) (s u : State) : Type 0 where
  pub descs : u.descs ≡ s.descs
  pub calls : u.calls ≡ s.calls
  pub answers : u.answers ≡ s.answers
  pub memory : KeepsCells scratch s.memory u.memory
