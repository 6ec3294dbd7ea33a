-- What a function answers that reads a text by a function of Reading, and may want memory.
use Rattle.std.specs.Prelude.{◌≡◌, ℕ, ⊤, Option, Some, None, Result, Ok, Err}
use Rattle.syscall_log.specs.declared.fault.LogFault.{LogFault}
use Rattle.syscall_log.specs.declared.fault.LogFault.TheVariants as log
use Rattle.syscall_log.specs.declared.fault.LineFault.{LineFault}
use Rattle.syscall_log.specs.declared.fault.LineFault.TheVariants as fault

abbrev pub Reads : {A : Type 0} → Option A → Result A LineFault → Type 0
Reads o (Ok x) = o ≡ Some x
Reads o (Err fault.Unknown) = o ≡ None
Reads o (Err fault.NoMemory) = ⊤

-- the fault of a text in which the line with this number has it
abbrev pub fault_at : ℕ → LineFault → LogFault
fault_at line fault.Unknown = log.Line line
fault_at line fault.NoMemory = log.NoMemory
