-- What it means that the stub finds the new address of an address. This project's own.
use Rattle.std.specs.Prelude.{◌≡◌, ℕ, ◌+◌, ◌*◌, ◌/◌, ◌%◌, ◌^◌, ◌<◌, ◌≤◌, Bool, true, false, ◌||◌, ◌==◌, List, [], ◌∷◌, length, Option, Some, None, if◌then◌else◌}
use Rattle.std.specs.List.{AllByRecursion}
use Rattle.mv_base.specs.Bytes.{AreBytes, word}
use Rattle.mv_base.specs.Memory.{within, bytes_at}
use Rattle.mv_base.specs.Table.{run_of, page_at, entry_at, entry_or}
use Rattle.mv_base.specs.declared.range.RunPlace.{RunPlace}
use Rattle.x86_insn.specs.State.{IsCore, State}
use Rattle.step_laws.specs.Passes.{Passes}
use Rattle.step_laws.specs.Standing.{Stands, Holds, IsRoom}
use Rattle.step_laws.specs.Keeping.{KeepsRest}
use Rattle.lookup_stub.specs.Stub.{stub}

-- how many private bytes there are, and which of them the stub writes: p+4 to p+11 and p+44 to p+63
abbrev pub private_len : ℕ
private_len = 64

abbrev pub is_scratch : ℕ → ℕ → Bool
is_scratch p a = within (p + 4) 8 a || within (p + 44) 20 a

-- ---- the table

-- the word so many bytes above an address lies in a table, and the address not below it
pub record IsIn (table : List ℕ) (lo at above : ℕ) : Type 0 where
  pub low : lo ≤ at
  pub high : at + above + 4 ≤ lo + length table

-- the words that a lookup of a run's k-th address reads lie in the table, by whether it is flat
abbrev pub AreIn : Bool → List ℕ → ℕ → RunPlace → ℕ → Type 0
AreIn true table lo r k = IsIn table lo r.dir (4 * k)
AreIn false table lo r k = IsIn table lo r.dir (4 * (k / 1024)) × IsIn table lo (page_at table lo r.dir k) (4 * (k % 1024))

-- a run lies below 2^32, and the table has the words of its addresses
pub record IsPlaced (form : ℕ) (table : List ℕ) (lo : ℕ) (r : RunPlace) : Type 0 where
  pub low : r.lo + r.len < 2 ^ 32
  pub dir : r.dir < 2 ^ 32
  pub words : (k : ℕ) → k < r.len → AreIn (form == 1) table lo r k

-- ---- the lookup

-- the number of the first run that an address is in, counted from 1
abbrev pub number_in : List RunPlace → ℕ → ℕ
number_in [] a = 0
number_in (r ∷ rs) a = if within r.lo r.len a then 1 else 1 + number_in rs a

abbrev pub steps_by : ℕ → List RunPlace → ℕ → Option RunPlace → ℕ
steps_by form runs a None = 15 + 4 * length runs
steps_by form runs a (Some r) = (if form == 1 then 19 else 24) + 4 * number_in runs a

-- how many steps the stub takes
abbrev pub lookup_steps : ℕ → List RunPlace → ℕ → ℕ
lookup_steps form runs a = steps_by form runs a (run_of runs a)

-- where an address goes: its entry where that isn't 0, else itself
abbrev pub new_address : ℕ → List ℕ → ℕ → List RunPlace → ℕ → ℕ
new_address form table lo runs a = entry_or (entry_at form table lo runs a) a

-- the stub's first byte is next, the address to look up is in the private area's second word, the stub and the table
-- stand in memory, and the private area, which neither meets, can be written; nothing lies at or above 2^32
pub record IsLookup (form : ℕ) (runs : List RunPlace) (p : ℕ) (table : List ℕ) (lo at a : ℕ) (s : State) : Type 0 where
  pub core : IsCore s.core
  pub top : (x : ℕ) → 2 ^ 32 ≤ x → s.memory x ≡ None
  pub place : s.eip ≡ at
  pub code : Stands s.memory at (stub form runs p)
  pub words : Holds s.memory lo table
  pub bytes : AreBytes table
  pub room : IsRoom s.memory p private_len
  pub code_apart : (k : ℕ) → k < length (stub form runs p) → within p private_len (at + k) ≡ false
  pub table_apart : (k : ℕ) → k < length table → within p private_len (lo + k) ≡ false
  pub placed : AllByRecursion (IsPlaced form table lo) runs
  pub target : bytes_at s.memory (p + 4) 4 ≡ word a
  pub fits : a < 2 ^ 32

-- so many steps complete and come to an address with the same registers, flags and GS; each state on the way, and the
-- last one, has the same descriptors, calls made, answers left and cells, but for what the stub writes
pub record Finds (p steps to : ℕ) (s : State) : Type 0 where
  pub last : State
  pub passes : Passes (KeepsRest (is_scratch p) s) steps s last
  pub keeps : KeepsRest (is_scratch p) s last
  pub core : last.core ≡ s.core
  pub place : last.eip ≡ to
