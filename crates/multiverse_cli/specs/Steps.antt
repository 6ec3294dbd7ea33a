-- What the steps of a run have come to.
use Rattle.std.specs.Prelude.{◌≡◌, ℕ, ◌⊎◌, ◌++◌, IsTrue, List, Option, Some, None, Result, Ok, Err, Vec}
use Rattle.std.specs.Borrow.{Bor}
use Rattle.std.specs.declared.alloc.Global.{Global}
use Rattle.mv_base.specs.Appended.{AppendsPrefix}
use Rattle.mv_base.specs.Holding.{KeepsOrBegins}
use Rattle.mv_base.specs.declared.status.Status.{Status}
use Rattle.mv_base.specs.declared.status.Status.TheVariants as status
use Rattle.multiverse_cli.specs.declared.refusal.Refusal.{Refusal}
use Rattle.multiverse_cli.specs.declared.refusal.Refusal.TheVariants as refusal
use Rattle.multiverse_cli.specs.declared.failure.Failure.{Failure}
use Rattle.multiverse_cli.specs.declared.failure.Failure.TheVariants as failure
use Rattle.multiverse_cli.specs.declared.listing.Printout.{Printout}
use Rattle.multiverse_cli.specs.Listing.{printout_text}
use Rattle.multiverse_cli.specs.Outside.{Stored, Printed, IsReadFault, IsWriteFault, IsSinkFault, KeepsAll, KeepsReads, KeepsWrites, KeepsPrints, Held, Holds, HeldAs, SaysAll, SaysPart, Says}
use Rattle.multiverse_cli.specs.Words.{Asked}
use Rattle.multiverse_cli.specs.Commands.{Delivery}
use Rattle.multiverse_cli.specs.Texts.{message_of, memory_message, status_of}
use Rattle.multiverse_cli.specs.Answers.{Fits, IsOversized, AreRead, IsFirstOversized, IsNext, IsUnread, IsUnwritten, IsLacking, IsDelivery, Stores, HasBegun}

-- a command was refused, for a reason that the store shows
abbrev pub Refuses : Refusal → Asked → Stored → Type 0
Refuses refusal.Usage a s = ⊥
Refuses (refusal.ReadFault name) a s = IsUnread a s name.now × KeepsAll s
Refuses (refusal.TooLarge name) a s = IsFirstOversized s a.reads name.now × KeepsAll s
Refuses (refusal.Lacking why) a s = IsLacking a s why × KeepsAll s
Refuses (refusal.WriteFault name) a s = IsUnwritten a s name.now × HasBegun a s

-- a command stored what it delivers, and has this text to print
pub record IsCarriedOut (a : Asked) (s : Stored) (text : List ℕ) : Type 0 where
  pub delivery : Delivery
  pub is : IsDelivery a s delivery
  pub stored : Stores s delivery.file
  pub text_is : text ≡ delivery.text

-- a command stored what it delivers, or was refused, or memory ran out
abbrev pub Carries : Result Printout Failure → Asked → Stored → Type 0
Carries (Ok text) a s = IsCarriedOut a s (printout_text text)
Carries (Err (failure.Refused why)) a s = Refuses why a s
Carries (Err failure.NoMemory) a s = KeepsAll s ⊎ HasBegun a s

-- without a command, nothing was done but to refuse the words
abbrev pub CarriesNothing : Result Printout Failure → Stored → Type 0
CarriesNothing (Ok text) s = ⊥
CarriesNothing (Err (failure.Refused why)) s = (why ≡ refusal.Usage) × KeepsAll s
CarriesNothing (Err failure.NoMemory) s = ⊥

-- what the words ask for was tried
abbrev pub Attempts : Result Printout Failure → Option Asked → Stored → Type 0
Attempts r None s = CarriesNothing r s
Attempts r (Some a) s = Carries r a s

-- which counts of the store a failure leaves: a refusal that tells of a fault leaves the other count, want of memory may
-- have come behind a fault, and any other leaves both
abbrev pub FailureKeeps : Failure → Stored → Type 0
FailureKeeps (failure.Refused refusal.Usage) s = KeepsReads s × KeepsWrites s
FailureKeeps (failure.Refused (refusal.ReadFault name)) s = KeepsWrites s
FailureKeeps (failure.Refused (refusal.TooLarge name)) s = KeepsReads s × KeepsWrites s
FailureKeeps (failure.Refused (refusal.Lacking why)) s = KeepsReads s × KeepsWrites s
FailureKeeps (failure.Refused (refusal.WriteFault name)) s = KeepsReads s
FailureKeeps failure.NoMemory s = Unit {0}

-- the same of an outcome; one that isn't a failure leaves both counts
abbrev pub KeepsCounts : {A : Type 0} → Result A Failure → Stored → Type 0
KeepsCounts (Ok _) s = KeepsReads s × KeepsWrites s
KeepsCounts (Err f) s = FailureKeeps f s

-- the sink's count is as it was where the command is done
abbrev pub KeepsIfDone : Status → Printed → Type 0
KeepsIfDone answer k = answer ≡ status.Done → KeepsPrints k

-- a piece of text was put if it was full, and what of it is left; where that failed, a part of it was put
abbrev pub PutsFull : {A E : Type 0} → Result A E → List ℕ → List ℕ → List ℕ → List ℕ → Type 0
PutsFull (Ok _) piece left before after = (done : List ℕ) × (after ≡ before ++ done) × (piece ≡ done ++ left)
PutsFull (Err _) piece left before after = AppendsPrefix before after piece

-- a text was printed: whole, or a part of it
abbrev pub PrintsText : Status → List ℕ → Printed → Type 0
PrintsText status.Done text k = SaysAll k text
PrintsText status.Usage text k = ⊥
PrintsText status.ReadFault text k = ⊥
PrintsText status.TooLarge text k = ⊥
PrintsText status.BadSource text k = ⊥
PrintsText status.Differs text k = ⊥
PrintsText status.NoFrame text k = ⊥
PrintsText status.BadImage text k = ⊥
PrintsText status.BadLog text k = ⊥
PrintsText status.NoRoom text k = ⊥
PrintsText status.WriteFault text k = ⊥
PrintsText status.SinkFault text k = IsSinkFault k × SaysPart k text
PrintsText status.NoMemory text k = SaysPart k text

-- a refusal's message was printed, or a part of it where the sink failed
pub record IsRefused (answer : Status) (why : Refusal) (k : Printed) : Type 0 where
  pub answer_is : answer ≡ status_of why
  pub said : Says k (message_of why)

-- memory ran out while a refusal's message was made or printed
pub record IsStarved (answer : Status) (why : Refusal) (k : Printed) : Type 0 where
  pub answer_is : answer ≡ status.NoMemory
  pub said : SaysPart k (message_of why) ⊎ SaysPart k memory_message

-- a refusal was reported
abbrev pub PrintsRefusal : Status → Refusal → Printed → Type 0
PrintsRefusal answer why k = IsRefused answer why k ⊎ IsStarved answer why k

-- what was tried was reported
abbrev pub Reports : Status → Result Printout Failure → Printed → Type 0
Reports answer (Ok text) k = PrintsText answer (printout_text text) k
Reports answer (Err (failure.Refused why)) k = PrintsRefusal answer why k
Reports answer (Err failure.NoMemory) k = (answer ≡ status.NoMemory) × SaysPart k memory_message

-- a file was read whole, or it has too many bytes, or why not
abbrev pub ReadsFile : Result (Option (List ℕ)) Failure → List ℕ → Stored → Type 0
ReadsFile (Ok (Some bytes)) name s = Held s name bytes × Fits bytes
ReadsFile (Ok None) name s = HeldAs s name IsOversized
ReadsFile (Err (failure.Refused refusal.Usage)) name s = ⊥
ReadsFile (Err (failure.Refused (refusal.ReadFault n))) name s = (n.now ≡ name) × IsReadFault s name
ReadsFile (Err (failure.Refused (refusal.TooLarge n))) name s = ⊥
ReadsFile (Err (failure.Refused (refusal.Lacking why))) name s = ⊥
ReadsFile (Err (failure.Refused (refusal.WriteFault n))) name s = ⊥
ReadsFile (Err failure.NoMemory) name s = Unit {0}

-- after some of the names: the bytes of all of them, or the first that is too large
abbrev pub AreReadSoFar : Option (Bor (List ℕ)) → Stored → List (List ℕ) → List (List ℕ) → Type 0
AreReadSoFar None s names files = AreRead s names files
AreReadSoFar (Some n) s names files = IsFirstOversized s names n.now

-- files were read whole, or why not
abbrev pub ReadsFiles : Result (Vec (List ℕ) Global) Failure → List (List ℕ) → Stored → Type 0
ReadsFiles (Ok files) names s = AreRead s names files.items
ReadsFiles (Err (failure.Refused refusal.Usage)) names s = ⊥
ReadsFiles (Err (failure.Refused (refusal.ReadFault n))) names s = IsNext s names n.now × IsReadFault s n.now
ReadsFiles (Err (failure.Refused (refusal.TooLarge n))) names s = IsFirstOversized s names n.now
ReadsFiles (Err (failure.Refused (refusal.Lacking why))) names s = ⊥
ReadsFiles (Err (failure.Refused (refusal.WriteFault n))) names s = ⊥
ReadsFiles (Err failure.NoMemory) names s = Unit {0}

-- a file was not written: the store failed
abbrev pub FailsToWrite : Refusal → List ℕ → Stored → Type 0
FailsToWrite refusal.Usage name s = ⊥
FailsToWrite (refusal.ReadFault n) name s = ⊥
FailsToWrite (refusal.TooLarge n) name s = ⊥
FailsToWrite (refusal.Lacking why) name s = ⊥
FailsToWrite (refusal.WriteFault n) name s = (n.now ≡ name) × IsWriteFault s name

-- where the store tells, a name holds what it held, or a part of the bytes
abbrev pub HoldsPart : Stored → List ℕ → List ℕ → Type 0
HoldsPart s name bytes = IsTrue s.tells → KeepsOrBegins (s.before name) (s.after name) bytes

-- a file was written whole, or a part of it, and why
abbrev pub WritesFile : {A : Type 0} → Result A Failure → List ℕ → List ℕ → Stored → Type 0
WritesFile (Ok _) name bytes s = Holds s name bytes
WritesFile (Err (failure.Refused why)) name bytes s = FailsToWrite why name s × HoldsPart s name bytes
WritesFile (Err failure.NoMemory) name bytes s = HoldsPart s name bytes
