-- How a run enters the lookup stub of a frame. This project's own.
use Rattle.std.specs.Prelude.{◌≡◌, ℕ, ◌+◌, ◌^◌, ◌<◌, true, length, Some, slice_index}
use Rattle.std.specs.Option.{option_map}
use Rattle.mv_base.specs.Bytes.{word}
use Rattle.mv_base.specs.Memory.{Memory, is_writable, exec_byte, bytes_at}
use Rattle.x86_insn.specs.State.{State}
use Rattle.step_laws.specs.Bounds.{IsState}
use Rattle.elf32_write.specs.Frame.{Frame, frame_code, frame_table}

-- a memory holds a frame's parts as a written file is loaded: the code may be executed, the table can be read, and the
-- private area may be written
pub record IsHeld (f : Frame) (m : Memory) : Type 0 where
  pub code : (k : ℕ) → k < length (frame_code f) → exec_byte m (f.code.lo + k) ≡ Some (slice_index (frame_code f) k)
  pub table : (k : ℕ) → k < length (frame_table f) → option_map (λ c. c.byte) (m (f.table.lo + k)) ≡ Some (slice_index (frame_table f) k)
  pub private : (k : ℕ) → k < f.private_size → is_writable m (f.private + k) ≡ true

-- the code's first byte is next, and the address to look up is in the private area's second word
pub record IsEntered (f : Frame) (a : ℕ) (s : State) : Type 0 where
  pub state : IsState s
  pub held : IsHeld f s.memory
  pub place : s.eip ≡ f.code.lo
  pub target : bytes_at s.memory (f.private + 4) 4 ≡ word a
  pub fits : a < 2 ^ 32
