-- What an answer of the program means, for any command. This project's own.
use Rattle.std.specs.Prelude.{◌≡◌, ◌≢◌, ℕ, ◌<◌, ◌≤◌, ◌⊎◌, IsTrue, List, [], ◌∷◌, length, Contains, Option, Some, None, IsSomeAnd}
use Rattle.mv_base.specs.Holding.{KeepsOrBegins}
use Rattle.mv_base.specs.declared.status.Status.{Status}
use Rattle.mv_base.specs.declared.status.Status.TheVariants.{Done, Usage, ReadFault, WriteFault, BadImage, NoRoom, BadLog, NoMemory, SinkFault, TooLarge, BadSource, Differs, NoFrame}
use Rattle.multiverse_cli.specs.declared.refusal.Defect.{Defect}
use Rattle.multiverse_cli.specs.Commands.{NewFile, Delivery, Lacks, Delivers}
use Rattle.multiverse_cli.specs.Outside.{Stored, Printed, IsReadFault, IsWriteFault, IsSinkFault, HasReadFault, HasWriteFault, HasSinkFault, KeepsAll, KeepsOthers, Held, Holds, HeldAs, SaysAll, SaysPart, Says}
use Rattle.multiverse_cli.specs.Texts.{usage_message, read_message, size_message, write_message, memory_message, defect_message, defect_status}
use Rattle.multiverse_cli.specs.Words.{Asked, ToCheck, output_of}
use Rattle.image_layout.specs.Rules.{Rules}
use Rattle.mv_base.specs.Bytes.{AreBytes}
use Rattle.mv_rewrite.specs.Upgrading.{HasOutput}

-- ---- the files that a command reads

-- how many bytes a file that is read may have: 256 MiB
abbrev pub size_limit : ℕ
size_limit = 268435456

abbrev pub IsOversized : List ℕ → Type 0
IsOversized b = size_limit < length b

abbrev pub Fits : List ℕ → Type 0
Fits b = length b ≤ size_limit

-- bytes for each of the names, none with too many; where the store tells, the names held them at entry
abbrev pub AreRead : Stored → List (List ℕ) → List (List ℕ) → Type 0
AreRead s [] [] = Unit {0}
AreRead s [] (b ∷ bs) = ⊥
AreRead s (n ∷ ns) [] = ⊥
AreRead s (n ∷ ns) (b ∷ bs) = Held s n b × Fits b × AreRead s ns bs

-- where the store tells, the names held something at entry
abbrev pub AllHeld : Stored → List (List ℕ) → Type 0
AllHeld s [] = Unit {0}
AllHeld s (n ∷ ns) = HeldAs s n (λ b. Unit {0}) × AllHeld s ns

-- all names could be read, and this is the first of them that, where the store tells, held too many bytes at entry
pub data IsFirstOversized (s : Stored) : List (List ℕ) → List ℕ → Type 0 where
  Here : (n : List ℕ) (ns : List (List ℕ)) → HeldAs s n IsOversized → AllHeld s ns → IsFirstOversized s (n ∷ ns) n
  Later :
      (n : List ℕ) (ns : List (List ℕ)) (m : List ℕ) → HeldAs s n Fits → IsFirstOversized s ns m
      → IsFirstOversized s (n ∷ ns) m

-- a name is one of these, and all before it could be read: where the store tells, they held something at entry
pub data IsNext (s : Stored) : List (List ℕ) → List ℕ → Type 0 where
  First : (n : List ℕ) (ns : List (List ℕ)) → IsNext s (n ∷ ns) n
  After :
      (n : List ℕ) (ns : List (List ℕ)) (m : List ℕ) → HeldAs s n (λ b. Unit {0}) → IsNext s ns m → IsNext s (n ∷ ns) m

-- a file that the command reads could not be read, and is the first such
pub record IsUnread (a : Asked) (s : Stored) (name : List ℕ) : Type 0 where
  pub next : IsNext s a.reads name
  pub fault : IsReadFault s name

-- the file that the command writes could not be written
pub record IsUnwritten (a : Asked) (s : Stored) (name : List ℕ) : Type 0 where
  pub is_output : output_of a.work ≡ Some name
  pub fault : IsWriteFault s name

-- what the files that the command reads lack
pub record IsLacking (a : Asked) (s : Stored) (why : Defect) : Type 0 where
  pub inputs : List (List ℕ)
  pub read : AreRead s a.reads inputs
  pub lacks : Lacks a.work inputs why

-- what the command delivers over the files that it reads
pub record IsDelivery (a : Asked) (s : Stored) (d : Delivery) : Type 0 where
  pub inputs : List (List ℕ)
  pub read : AreRead s a.reads inputs
  pub delivers : Delivers a.work inputs d

-- there is something that it delivers
abbrev pub HasDelivery : Asked → Stored → Type 0
HasDelivery a s = (d : Delivery) × IsDelivery a s d

-- ---- when an answer comes

-- without a command: Usage, or want of memory
abbrev pub ComesWithout : Status → Type 0
ComesWithout Done = ⊥
ComesWithout Usage = Unit {0}
ComesWithout ReadFault = ⊥
ComesWithout TooLarge = ⊥
ComesWithout BadSource = ⊥
ComesWithout Differs = ⊥
ComesWithout NoFrame = ⊥
ComesWithout BadImage = ⊥
ComesWithout BadLog = ⊥
ComesWithout NoRoom = ⊥
ComesWithout WriteFault = ⊥
ComesWithout SinkFault = ⊥
ComesWithout NoMemory = Unit {0}

-- the files that the command reads lack something that has this answer
abbrev pub LacksFor : Status → Asked → Stored → Type 0
LacksFor status a s = (why : Defect) × (defect_status why ≡ status) × IsLacking a s why

-- at a command: each fault of the outside only where its count rose, the others only where the files are so
abbrev pub ComesAt : Status → Asked → Stored → Printed → Type 0
ComesAt Done a s k = HasDelivery a s
ComesAt Usage a s k = ⊥
ComesAt ReadFault a s k = (name : List ℕ) × IsUnread a s name
ComesAt TooLarge a s k = ((name : List ℕ) × IsFirstOversized s a.reads name) ⊎ LacksFor TooLarge a s
ComesAt BadSource a s k = LacksFor BadSource a s
ComesAt Differs a s k = LacksFor Differs a s
ComesAt NoFrame a s k = LacksFor NoFrame a s
ComesAt BadImage a s k = LacksFor BadImage a s
ComesAt BadLog a s k = LacksFor BadLog a s
ComesAt NoRoom a s k = LacksFor NoRoom a s
ComesAt WriteFault a s k = ((name : List ℕ) × IsUnwritten a s name) × HasDelivery a s
ComesAt SinkFault a s k = IsSinkFault k × HasDelivery a s
ComesAt NoMemory a s k = Unit {0}

-- when an answer may come
abbrev pub Comes : Status → Option Asked → Stored → Printed → Type 0
Comes status None s k = ComesWithout status
Comes status (Some a) s k = ComesAt status a s k

-- the answer is this one, or want of memory
abbrev pub IsUnlessMemory : Status → Status → Type 0
IsUnlessMemory status expected = (status ≡ expected) ⊎ (status ≡ NoMemory)

-- each file that the command reads could be read
abbrev pub NoneUnread : Asked → Stored → Type 0
NoneUnread a s = (name : List ℕ) → ¬ IsUnread a s name

-- which answer has to come, want of memory aside, where none before it is due and the store tells
pub record IsDue (status : Status) (a : Asked) (s : Stored) (k : Printed) : Type 0 where
  -- a name that isn't held cannot be read
  pub missing : (name : List ℕ) → Contains a.reads name → s.before name ≡ None → IsUnlessMemory status ReadFault
  -- a file that is too large is refused
  pub oversized :
      (name : List ℕ) → Contains a.reads name → IsSomeAnd (s.before name) IsOversized → NoneUnread a s
      → IsUnlessMemory status TooLarge
  -- files that lack something are refused
  pub lacking : (why : Defect) → IsLacking a s why → NoneUnread a s → IsUnlessMemory status (defect_status why)
  -- all other files have what is delivered over them, where nothing outside fails
  pub complete :
      (inputs : List (List ℕ)) → AreRead s a.reads inputs → ((why : Defect) → ¬ Lacks a.work inputs why)
      → NoneUnread a s → ((name : List ℕ) → ¬ IsUnwritten a s name) → ¬ IsSinkFault k → IsUnlessMemory status Done
  -- where only the sink failed, that is the answer
  pub unprinted :
      (inputs : List (List ℕ)) → AreRead s a.reads inputs → ((why : Defect) → ¬ Lacks a.work inputs why)
      → NoneUnread a s → ((name : List ℕ) → ¬ IsUnwritten a s name) → HasSinkFault k → IsUnlessMemory status SinkFault

-- which answer has to come: Usage without a command, else the first that is due
abbrev pub FirstDue : Status → Option Asked → Stored → Printed → Type 0
FirstDue status None s k = IsUnlessMemory status Usage
FirstDue status (Some a) s k = IsTrue s.tells → IsDue status a s k

-- which answer a fault of the outside has, by the counts alone, so also where nothing is told of what is held or was
-- written: a command whose file could not be read, or whose output could not be written, answers that, want of memory
-- aside, and one whose text could not be printed isn't done; a message that could not be printed leaves the answer
pub record IsOwed (status : Status) (s : Stored) (k : Printed) : Type 0 where
  pub reading : HasReadFault s → IsUnlessMemory status ReadFault
  pub writing : HasWriteFault s → IsUnlessMemory status WriteFault
  pub printing : HasSinkFault k → status ≢ Done

-- ---- what an answer leaves in the store

-- the new file stands under its name, and no other name has changed; without a new file nothing has
abbrev pub Stores : Stored → Option NewFile → Type 0
Stores s None = KeepsAll s
Stores s (Some f) = Holds s f.name f.bytes × KeepsOthers s f.name

-- the name of the new file holds what it held, or a part with which the file begins, and no other name has changed;
-- without a new file nothing has
abbrev pub BeginsToStore : Stored → Option NewFile → Type 0
BeginsToStore s None = KeepsAll s
BeginsToStore s (Some f) = (IsTrue s.tells → KeepsOrBegins (s.before f.name) (s.after f.name) f.bytes) × KeepsOthers s f.name

-- what the command delivers is stored, or that was begun
abbrev pub HasStored : Asked → Stored → Type 0
HasStored a s = (d : Delivery) × IsDelivery a s d × Stores s d.file

abbrev pub HasBegun : Asked → Stored → Type 0
HasBegun a s = (d : Delivery) × IsDelivery a s d × BeginsToStore s d.file

-- at a command: only these three answers, and want of memory, may have changed a file
abbrev pub LeavesAt : Status → Asked → Stored → Type 0
LeavesAt Done a s = HasStored a s
LeavesAt Usage a s = KeepsAll s
LeavesAt ReadFault a s = KeepsAll s
LeavesAt TooLarge a s = KeepsAll s
LeavesAt BadSource a s = KeepsAll s
LeavesAt Differs a s = KeepsAll s
LeavesAt NoFrame a s = KeepsAll s
LeavesAt BadImage a s = KeepsAll s
LeavesAt BadLog a s = KeepsAll s
LeavesAt NoRoom a s = KeepsAll s
LeavesAt WriteFault a s = HasBegun a s
LeavesAt SinkFault a s = HasStored a s
LeavesAt NoMemory a s = KeepsAll s ⊎ HasBegun a s

-- what an answer leaves in the store
abbrev pub Leaves : Status → Option Asked → Stored → Type 0
Leaves status None s = KeepsAll s
Leaves status (Some a) s = LeavesAt status a s

-- ---- what an answer leaves in the sink

-- what want of memory may cut off: a message, or what is printed when the command is done
pub data IsCutOff (a : Asked) (s : Stored) : List ℕ → Type 0 where
  OfMemory : IsCutOff a s memory_message
  OfRead : (name : List ℕ) → IsUnread a s name → IsCutOff a s (read_message name)
  OfSize : (name : List ℕ) → IsFirstOversized s a.reads name → IsCutOff a s (size_message name)
  OfDefect : (why : Defect) → IsLacking a s why → IsCutOff a s (defect_message why)
  OfWrite : (name : List ℕ) → IsUnwritten a s name → IsCutOff a s (write_message name)
  OfDone : (d : Delivery) → IsDelivery a s d → IsCutOff a s d.text

-- without a command: the message, or where memory ran out a part of it or of the message that says so
abbrev pub PrintsWithout : Status → Printed → Type 0
PrintsWithout Done k = ⊥
PrintsWithout Usage k = Says k usage_message
PrintsWithout ReadFault k = ⊥
PrintsWithout TooLarge k = ⊥
PrintsWithout BadSource k = ⊥
PrintsWithout Differs k = ⊥
PrintsWithout NoFrame k = ⊥
PrintsWithout BadImage k = ⊥
PrintsWithout BadLog k = ⊥
PrintsWithout NoRoom k = ⊥
PrintsWithout WriteFault k = ⊥
PrintsWithout SinkFault k = ⊥
PrintsWithout NoMemory k = SaysPart k usage_message ⊎ SaysPart k memory_message

-- the message of what the files lack, which has this answer
abbrev pub SaysDefect : Status → Asked → Stored → Printed → Type 0
SaysDefect status a s k = (why : Defect) × (defect_status why ≡ status) × IsLacking a s why × Says k (defect_message why)

-- the message of the first file that is too large
abbrev pub SaysSize : Asked → Stored → Printed → Type 0
SaysSize a s k = (name : List ℕ) × IsFirstOversized s a.reads name × Says k (size_message name)

-- at a command: the text, a part of it where the sink failed, the message, or a part of one where memory ran out
abbrev pub PrintsAt : Status → Asked → Stored → Printed → Type 0
PrintsAt Done a s k = (d : Delivery) × IsDelivery a s d × SaysAll k d.text
PrintsAt Usage a s k = ⊥
PrintsAt ReadFault a s k = (name : List ℕ) × IsUnread a s name × Says k (read_message name)
PrintsAt TooLarge a s k = SaysSize a s k ⊎ SaysDefect TooLarge a s k
PrintsAt BadSource a s k = SaysDefect BadSource a s k
PrintsAt Differs a s k = SaysDefect Differs a s k
PrintsAt NoFrame a s k = SaysDefect NoFrame a s k
PrintsAt BadImage a s k = SaysDefect BadImage a s k
PrintsAt BadLog a s k = SaysDefect BadLog a s k
PrintsAt NoRoom a s k = SaysDefect NoRoom a s k
PrintsAt WriteFault a s k = (name : List ℕ) × IsUnwritten a s name × Says k (write_message name)
PrintsAt SinkFault a s k = (d : Delivery) × IsDelivery a s d × SaysPart k d.text
PrintsAt NoMemory a s k = (text : List ℕ) × IsCutOff a s text × SaysPart k text

-- what an answer has printed
abbrev pub Prints : Status → Option Asked → Stored → Printed → Type 0
Prints status None s k = PrintsWithout status k
Prints status (Some a) s k = PrintsAt status a s k

-- ---- what a command that is done has delivered

-- over the bytes of the files that it read: the new file stands, and the text is printed
pub record Delivered (a : Asked) (s : Stored) (k : Printed) : Type 0 where
  pub delivery : Delivery
  pub is : IsDelivery a s delivery
  pub stored : Stores s delivery.file
  pub printed : SaysAll k delivery.text

-- what Done has delivered; another answer delivers nothing
abbrev pub DeliversAll : Status → Option Asked → Stored → Printed → Type 0
DeliversAll Done asked s k = IsSomeAnd asked (λ a. Delivered a s k)
DeliversAll Usage asked s k = Unit {0}
DeliversAll ReadFault asked s k = Unit {0}
DeliversAll TooLarge asked s k = Unit {0}
DeliversAll BadSource asked s k = Unit {0}
DeliversAll Differs asked s k = Unit {0}
DeliversAll NoFrame asked s k = Unit {0}
DeliversAll BadImage asked s k = Unit {0}
DeliversAll BadLog asked s k = Unit {0}
DeliversAll NoRoom asked s k = Unit {0}
DeliversAll WriteFault asked s k = Unit {0}
DeliversAll SinkFault asked s k = Unit {0}
DeliversAll NoMemory asked s k = Unit {0}

-- ---- what a check says of outputs

-- a check whose files, where the store tells, held an image and its output by some rules
pub record ChecksOutput (a : Asked) (s : Stored) : Type 0 where
  pub is_check : a.work ≡ ToCheck
  pub tells : IsTrue s.tells
  pub image : List ℕ
  pub written : List ℕ
  pub read : AreRead s a.reads (image ∷ written ∷ [])
  pub which : Rules
  pub is_output : HasOutput image which written
  pub bytes : AreBytes written

-- the answer is a yes, unless something outside failed or memory ran out
abbrev pub SaysYes : Status → Type 0
SaysYes Done = Unit {0}
SaysYes Usage = ⊥
SaysYes ReadFault = Unit {0}
SaysYes TooLarge = ⊥
SaysYes BadSource = ⊥
SaysYes Differs = ⊥
SaysYes NoFrame = ⊥
SaysYes BadImage = ⊥
SaysYes BadLog = ⊥
SaysYes NoRoom = ⊥
SaysYes WriteFault = ⊥
SaysYes SinkFault = Unit {0}
SaysYes NoMemory = Unit {0}

-- an output passes a check beside its image
abbrev pub PassesOutputs : Status → Option Asked → Stored → Type 0
PassesOutputs status None s = Unit {0}
PassesOutputs status (Some a) s = ChecksOutput a s → SaysYes status
