-- What the machine's own types of turns stand for. This project's own.
use Rattle.std.specs.Prelude.{◌≡◌, ℕ, List, Some, None, Result, Ok, Err}
use Rattle.mv_base.specs.Memory.{Memory, read_fault, bytes_at}
use Rattle.x86_insn.specs.declared.stop.Kind.TheVariants.{ReadFault}
use Rattle.x86_insn.specs.declared.registers.Core.{Core}
use Rattle.x86_insn.specs.declared.stop.Stop.{Stop}
use Rattle.x86_insn.specs.declared.stop.Stop.TheVariants.{Trap}
use Rattle.x86_insn.specs.Step as step

-- a read gives the bytes, or a trap at the first of them that is not mapped
pub record AreRead (m : Memory) (at len : ℕ) (bytes : List ℕ) : Type 0 where
  pub mapped : read_fault m at len ≡ None
  pub same : bytes ≡ bytes_at m at len

pub record IsUnread (m : Memory) (at len : ℕ) (why : Stop) : Type 0 where
  pub fault : ℕ
  pub first : read_fault m at len ≡ Some fault
  pub trap : why ≡ Trap ReadFault fault

abbrev pub IsRead : Memory → ℕ → ℕ → Result (List ℕ) Stop → Type 0
IsRead m at len (Ok bytes) = AreRead m at len bytes
IsRead m at len (Err why) = IsUnread m at len why

-- a turn with the core and memory that it leaves
abbrev pub turned : {E : Type 0} → Result E Stop → Core → Memory → step.Turn E
turned (Ok end) c m = step.Ended c m end
turned (Err why) c m = step.Halted why

-- core and memory are as before where a turn halts
abbrev pub KeptWhereHalted : {E : Type 0} → Result E Stop → Core → Memory → Core → Memory → Type 0
KeptWhereHalted (Ok end) c m c' m' = Unit {0}
KeptWhereHalted (Err why) c m c' m' = (c' ≡ c) × (m' ≡ m)

-- rounds with the core and memory that they leave
abbrev pub ran : Result (Unit {0}) Stop → Core → Memory → step.Rounds
ran (Ok _) c m = step.Completed c m
ran (Err why) c m = step.Broken why c m
