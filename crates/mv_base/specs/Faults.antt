-- Counts of faults. A count stands still at its last value.
use Rattle.std.specs.Prelude.{◌≡◌, ◌≢◌, ◌<◌, ◌+◌, ◌-◌, ◌^◌, min, ⊤, ℕ, List, Result, Ok, Err}
use Rattle.mv_base.specs.declared.sink.SinkFault.{SinkFault}
use Rattle.mv_base.specs.declared.sink.SinkFault.TheVariants as sink
use Rattle.mv_base.specs.declared.store.StoreFault.{StoreFault}
use Rattle.mv_base.specs.declared.store.StoreFault.TheVariants as store

-- the last value of a count
abbrev pub last_count : ℕ
last_count = 2 ^ 64 - 1

-- a count rose: it is above what it was, unless it stands at its last value
abbrev pub Rose : ℕ → ℕ → Type 0
Rose before after = after ≢ last_count → before < after

-- the fault Failed raises the count and makes the name the failed one; want of memory leaves both
abbrev pub FaultCounts : StoreFault → ℕ → ℕ → List ℕ → List ℕ → List ℕ → Type 0
FaultCounts store.Failed before after name failed_before failed_after =
    Rose before after × (failed_after ≡ name)
FaultCounts store.NoMemory before after name failed_before failed_after =
    (after ≡ before) × (failed_after ≡ failed_before)

-- a store's call on a name counts the fault that it answers, and leaves the count where it answers none
abbrev pub StoreCounts : {A : Type 0} → Result A StoreFault → ℕ → ℕ → List ℕ → List ℕ → List ℕ → Type 0
StoreCounts (Ok _) before after name failed_before failed_after =
    (after ≡ before) × (failed_after ≡ failed_before)
StoreCounts (Err fault) before after name failed_before failed_after =
    FaultCounts fault before after name failed_before failed_after

-- a sink's call raises the count where it answers Failed, and leaves it where it answers anything else
abbrev pub SinkCounts : {A : Type 0} → Result A SinkFault → ℕ → ℕ → Type 0
SinkCounts (Ok _) before after = after ≡ before
SinkCounts (Err sink.Failed) before after = Rose before after
SinkCounts (Err sink.NoMemory) before after = after ≡ before

-- the number of the next call after so many: numbers begin at 1 and stand still at the last value
abbrev pub next_call : ℕ → ℕ
next_call calls = min (calls + 1) last_count

-- a store's call answers Failed exactly where the fact holds, want of memory aside
abbrev pub StoreFailsWhere : {A : Type 0} → Result A StoreFault → Type 0 → Type 0
StoreFailsWhere (Ok _) fact = ¬ fact
StoreFailsWhere (Err store.Failed) fact = fact
StoreFailsWhere (Err store.NoMemory) fact = ⊤

-- a sink's call answers Failed exactly where the fact holds, want of memory aside
abbrev pub SinkFailsWhere : {A : Type 0} → Result A SinkFault → Type 0 → Type 0
SinkFailsWhere (Ok _) fact = ¬ fact
SinkFailsWhere (Err sink.Failed) fact = fact
SinkFailsWhere (Err sink.NoMemory) fact = ⊤
