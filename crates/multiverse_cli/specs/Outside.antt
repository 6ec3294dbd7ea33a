-- What a run of the program did to the store and to the sink.
use Rattle.std.specs.Prelude.{◌≡◌, ◌≢◌, ◌<◌, ℕ, ◌++◌, ◌⊎◌, Bool, IsTrue, List, Option, Some, IsSomeAnd}
use Rattle.mv_base.specs.Appended.{AppendsPrefix}
use Rattle.mv_base.specs.Faults.{Rose}
use Rattle.mv_base.specs.declared.store.Store as store
use Rattle.mv_base.specs.declared.sink.Sink as sink

-- a store at entry and at exit: whether it tells, what names hold, its counts of faults, and the name that failed last
pub record Stored : Type 0 where
  pub tells : Bool
  pub before : List ℕ → Option (List ℕ)
  pub after : List ℕ → Option (List ℕ)
  pub reads_before : ℕ
  pub reads_after : ℕ
  pub writes_before : ℕ
  pub writes_after : ℕ
  pub failed : List ℕ

-- the same, from a store's meanings and its two values
abbrev pub stored : {S : Type 0} → store.Ghosts S → S → S → Stored
stored of old new =
    record {
      tells = of.tells old;
      before = of.holds old;
      after = of.holds new;
      reads_before = of.read_faults old;
      reads_after = of.read_faults new;
      writes_before = of.write_faults old;
      writes_after = of.write_faults new;
      failed = of.failed new;
    }

-- a sink at entry and at exit: whether it tells, what was written, and its count of faults
pub record Printed : Type 0 where
  pub tells : Bool
  pub before : List ℕ
  pub after : List ℕ
  pub faults_before : ℕ
  pub faults_after : ℕ

-- the same, from a sink's meanings and its two values
abbrev pub printed : {K : Type 0} → sink.Ghosts K → K → K → Printed
printed of old new =
    record {
      tells = of.tells old;
      before = of.written old;
      after = of.written new;
      faults_before = of.faults old;
      faults_after = of.faults new;
    }

-- there is a read fault of a name: the count of read faults rose, and the name failed last
pub record IsReadFault (s : Stored) (name : List ℕ) : Type 0 where
  pub rose : Rose s.reads_before s.reads_after
  pub failed : s.failed ≡ name

-- there is a write fault of a name: the count of write faults rose, and the name failed last
pub record IsWriteFault (s : Stored) (name : List ℕ) : Type 0 where
  pub rose : Rose s.writes_before s.writes_after
  pub failed : s.failed ≡ name

-- the count of read faults went up; that of write faults did; the sink's count did
abbrev pub HasReadFault : Stored → Type 0
HasReadFault s = s.reads_before < s.reads_after

abbrev pub HasWriteFault : Stored → Type 0
HasWriteFault s = s.writes_before < s.writes_after

abbrev pub HasSinkFault : Printed → Type 0
HasSinkFault k = k.faults_before < k.faults_after

-- the count of read faults is as it was; that of write faults is; the sink's is
abbrev pub KeepsReads : Stored → Type 0
KeepsReads s = s.reads_after ≡ s.reads_before

abbrev pub KeepsWrites : Stored → Type 0
KeepsWrites s = s.writes_after ≡ s.writes_before

abbrev pub KeepsPrints : Printed → Type 0
KeepsPrints k = k.faults_after ≡ k.faults_before

-- what is known of a name's bytes at entry, where the store tells
abbrev pub HeldAs : Stored → List ℕ → (List ℕ → Type 0) → Type 0
HeldAs s name fact = IsTrue s.tells → IsSomeAnd (s.before name) fact

-- the sink's count of faults rose
abbrev pub IsSinkFault : Printed → Type 0
IsSinkFault k = Rose k.faults_before k.faults_after

-- the store holds what it held
abbrev pub KeepsAll : Stored → Type 0
KeepsAll s = s.after ≡ s.before

-- names other than this one hold what they held
abbrev pub KeepsOthers : Stored → List ℕ → Type 0
KeepsOthers s name = (other : List ℕ) → other ≢ name → s.after other ≡ s.before other

-- where the store tells, the name held these bytes at entry
abbrev pub Held : Stored → List ℕ → List ℕ → Type 0
Held s name bytes = IsTrue s.tells → s.before name ≡ Some bytes

-- where the store tells, the name holds these bytes at exit
abbrev pub Holds : Stored → List ℕ → List ℕ → Type 0
Holds s name bytes = IsTrue s.tells → s.after name ≡ Some bytes

-- where the sink tells, it has got the text
abbrev pub SaysAll : Printed → List ℕ → Type 0
SaysAll k text = IsTrue k.tells → k.after ≡ k.before ++ text

-- where the sink tells, it has got a part with which the text begins
abbrev pub SaysPart : Printed → List ℕ → Type 0
SaysPart k text = IsTrue k.tells → AppendsPrefix k.before k.after text

-- the sink has got the text, or only a part of it where its count of faults rose
abbrev pub Says : Printed → List ℕ → Type 0
Says k text = SaysAll k text ⊎ (IsSinkFault k × SaysPart k text)
