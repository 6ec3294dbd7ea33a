-- The first state of a machine. This project's own.
use Rattle.std.specs.Prelude.{◌≡◌, ℕ, ◌≤◌, false, true, List, [], ◌∷◌, length, None, Result, Ok, Err}
use Rattle.mv_base.specs.Memory.{joined}
use Rattle.mv_base.specs.Effects.{descriptors_in}
use Rattle.x86_insn.specs.declared.flags.Flags.{Flags}
use Rattle.x86_insn.specs.State.{State}
use Rattle.elf32_read.specs.Fields.{entry_at}
use Rattle.elf32_read.specs.Load.{load}
use Rattle.syscall_log.specs.declared.log.Log.{Log}
use Rattle.syscall_log.specs.Meaning.{answers_of}
use Rattle.proc_image.specs.Loading.{IsTooLarge, loaded_size}
use Rattle.proc_image.specs.Stack.{stack_pointer, stack_taken, stack_cells}
use Rattle.x86_machine.specs.Stepping.{state_of}
use Rattle.x86_machine.specs.declared.machine.Machine.{Machine}
use Rattle.x86_machine.specs.declared.starting.StartFault.{StartFault}
use Rattle.x86_machine.specs.declared.starting.StartFault.TheVariants.{TooLarge, StackTaken, NoMemory}

abbrev pub no_flags : Flags
no_flags = record { cf = false; pf = false; af = false; zf = false; sf = false; df = false; of = false; id = false }

-- the state at a file's entry, with the arguments and the answers of a log: ESP is the stack pointer, all other registers,
-- all flags and GS's selector are 0, GS has no base, and there is no descriptor
abbrev pub first_state : List ℕ → Log → State
first_state b log = record {
  core = record { regs = 0 ∷ 0 ∷ 0 ∷ 0 ∷ stack_pointer log.args ∷ 0 ∷ 0 ∷ 0 ∷ []; flags = no_flags; gs = 0; gs_base = None };
  descs = [];
  eip = entry_at b;
  memory = joined (load b) (stack_cells log.args);
  answers = answers_of log.answers;
  calls = [];
}

-- a machine in that state, with room for the calls and the descriptors
pub record IsFirst (b : List ℕ) (log : Log) (m : Machine) : Type 0 where
  pub limit : loaded_size b ≤ 67108864
  pub free : stack_taken (load b) ≡ false
  pub state : state_of m (answers_of log.answers) ≡ first_state b log
  pub room : length log.answers ≤ m.calls.spare
  pub descs : descriptors_in (answers_of log.answers) ≤ m.descs.spare

-- an address of the stack is the file's
pub record IsTaken (b : List ℕ) : Type 0 where
  pub limit : loaded_size b ≤ 67108864
  pub taken : stack_taken (load b) ≡ true

abbrev pub IsStarted : List ℕ → Log → Result Machine StartFault → Type 0
IsStarted b log (Ok m) = IsFirst b log m
IsStarted b log (Err (TooLarge n)) = IsTooLarge b n
IsStarted b log (Err StackTaken) = IsTaken b
IsStarted b log (Err NoMemory) = loaded_size b ≤ 67108864
