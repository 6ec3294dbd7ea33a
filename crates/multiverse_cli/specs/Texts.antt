-- The texts that the program prints. This project's own. A text is the list of its bytes; each line ends with a line feed.
use Rattle.std.specs.Prelude.{ℕ, List, [], ◌∷◌, ◌++◌, codes, decimal}
use Rattle.mv_base.specs.Text.{hex8}
use Rattle.mv_base.specs.declared.status.Status.{Status}
use Rattle.mv_base.specs.declared.status.Status.TheVariants as status
use Rattle.elf32_read.specs.declared.fault.ImageFault.{ImageFault}
use Rattle.elf32_read.specs.declared.fault.ImageFault.TheVariants.{ShortHeader, NotElf, NotElf32Little, NotI386, NotExecutable, BadVersion, BadSizes, HeaderCount, HeadersOutside, Interpreter, Dynamic, FileRange, MemorySmaller, AddressRange, NoPermission, WritableCode, NotCongruent, SharedPage, NoLoad, CodeTooLarge, HeadersFull}
use Rattle.pair_check.specs.declared.differs.Differs.{Differs}
use Rattle.pair_check.specs.declared.differs.Part.{Part}
use Rattle.pair_check.specs.declared.differs.Part.TheVariants as part
use Rattle.multiverse_cli.specs.declared.refusal.Defect.{Defect}
use Rattle.multiverse_cli.specs.declared.refusal.Defect.TheVariants as defect
use Rattle.multiverse_cli.specs.declared.refusal.Refusal.{Refusal}
use Rattle.multiverse_cli.specs.declared.refusal.Refusal.TheVariants as refusal

-- a text and a line feed
abbrev pub line : List ℕ → List ℕ
line text = text ++ (10 ∷ [])

-- a word, a space and a number in decimal, as a line
abbrev pub count_line : List ℕ → ℕ → List ℕ
count_line word n = line (word ++ codes " " ++ decimal n)

-- the added addresses, as a line: where they begin and how many they are, in hexadecimal
abbrev pub added_line : ℕ → ℕ → List ℕ
added_line lo len = line (codes "added " ++ hex8 lo ++ codes " " ++ hex8 len)

-- what a rewrite prints when it is done
abbrev pub rewritten_text : ℕ → ℕ → ℕ → ℕ → List ℕ
rewritten_text sites lo len counters = count_line (codes "sites") sites ++ added_line lo len ++ count_line (codes "counters") counters

-- what a sample prints when it is done: the number of sites, and how many bytes the image and the output have
abbrev pub sample_text : ℕ → ℕ → ℕ → List ℕ
sample_text sites input output =
    count_line (codes "sites") sites ++ count_line (codes "input") input ++ count_line (codes "output") output

-- a name for a fault, as it is printed
abbrev pub fault_name : ImageFault → List ℕ
fault_name ShortHeader = codes "ShortHeader"
fault_name NotElf = codes "NotElf"
fault_name NotElf32Little = codes "NotElf32Little"
fault_name NotI386 = codes "NotI386"
fault_name NotExecutable = codes "NotExecutable"
fault_name BadVersion = codes "BadVersion"
fault_name BadSizes = codes "BadSizes"
fault_name HeaderCount = codes "HeaderCount"
fault_name HeadersOutside = codes "HeadersOutside"
fault_name (Interpreter i) = codes "Interpreter"
fault_name (Dynamic i) = codes "Dynamic"
fault_name (FileRange i) = codes "FileRange"
fault_name (MemorySmaller i) = codes "MemorySmaller"
fault_name (AddressRange i) = codes "AddressRange"
fault_name (NoPermission i) = codes "NoPermission"
fault_name (WritableCode i) = codes "WritableCode"
fault_name (NotCongruent i) = codes "NotCongruent"
fault_name (SharedPage i) = codes "SharedPage"
fault_name NoLoad = codes "NoLoad"
fault_name CodeTooLarge = codes "CodeTooLarge"
fault_name HeadersFull = codes "HeadersFull"

-- the number of a program header, as it follows a fault's name
abbrev pub header_text : ℕ → List ℕ
header_text i = codes " header " ++ decimal i

-- what follows the name of a fault: the number of the header that has it, or nothing
abbrev pub fault_place : ImageFault → List ℕ
fault_place ShortHeader = []
fault_place NotElf = []
fault_place NotElf32Little = []
fault_place NotI386 = []
fault_place NotExecutable = []
fault_place BadVersion = []
fault_place BadSizes = []
fault_place HeaderCount = []
fault_place HeadersOutside = []
fault_place (Interpreter i) = header_text i
fault_place (Dynamic i) = header_text i
fault_place (FileRange i) = header_text i
fault_place (MemorySmaller i) = header_text i
fault_place (AddressRange i) = header_text i
fault_place (NoPermission i) = header_text i
fault_place (WritableCode i) = header_text i
fault_place (NotCongruent i) = header_text i
fault_place (SharedPage i) = header_text i
fault_place NoLoad = []
fault_place CodeTooLarge = []
fault_place HeadersFull = []

-- the message that the words are no command
abbrev pub usage_message : List ℕ
usage_message = line (codes "multiverse: usage")

-- the message that a file cannot be read
abbrev pub read_message : List ℕ → List ℕ
read_message name = line (codes "multiverse: cannot read " ++ name)

-- the message that a file has more bytes than the limit
abbrev pub size_message : List ℕ → List ℕ
size_message name = line (codes "multiverse: too large: " ++ name ++ codes " above 268435456")

-- the message that a file has no frame
abbrev pub frame_message : List ℕ
frame_message = line (codes "multiverse: no frame")

-- the message that an image has a fault
abbrev pub image_message : ImageFault → List ℕ
image_message fault = line (codes "multiverse: bad image: " ++ fault_name fault ++ fault_place fault)

-- the message that a log has a line that no log has
abbrev pub log_message : ℕ → List ℕ
log_message n = line (codes "multiverse: bad log: line " ++ decimal n)

-- the message that a line of a source is at fault
abbrev pub source_message : ℕ → List ℕ
source_message n = line (codes "multiverse: bad source: line " ++ decimal n)

-- the name of a part in which a file can differ
abbrev pub part_name : Part → List ℕ
part_name part.Room = codes "room"
part_name part.Runs = codes "runs"
part_name part.File = codes "file"
part_name part.Counted = codes "counted"
part_name part.Stub = codes "stub"
part_name part.Entry = codes "entry"
part_name part.Piece = codes "piece"

-- the message that a file is no rewriting of an image: the part that differs first, where, what is wanted and what is found
abbrev pub differs_message : Differs → List ℕ
differs_message d =
    line (codes "multiverse: differs: " ++ part_name d.part ++ codes " " ++ hex8 d.at ++ codes " " ++ hex8 d.kept ++ codes " " ++ hex8 d.found)

-- the message that so many bytes would be mapped
abbrev pub mapped_message : ℕ → List ℕ
mapped_message n = line (codes "multiverse: too large: mapped " ++ decimal n)

-- the message that no place has room for a block of this size
abbrev pub room_message : ℕ → List ℕ
room_message size = line (codes "multiverse: no room: " ++ decimal size)

-- the message that a file cannot be written
abbrev pub write_message : List ℕ → List ℕ
write_message name = line (codes "multiverse: cannot write " ++ name)

-- the message that memory ran out
abbrev pub memory_message : List ℕ
memory_message = line (codes "multiverse: no memory")

-- the message of what the files that are read lack, and the answer that it is
abbrev pub defect_message : Defect → List ℕ
defect_message defect.NoFrame = frame_message
defect_message (defect.BadImage fault) = image_message fault
defect_message (defect.BadLog n) = log_message n
defect_message (defect.BadSource n) = source_message n
defect_message (defect.Differs d) = differs_message d
defect_message (defect.TooLarge n) = mapped_message n
defect_message (defect.NoRoom n) = room_message n

abbrev pub defect_status : Defect → Status
defect_status defect.NoFrame = status.NoFrame
defect_status (defect.BadImage fault) = status.BadImage
defect_status (defect.BadLog n) = status.BadLog
defect_status (defect.BadSource n) = status.BadSource
defect_status (defect.Differs d) = status.Differs
defect_status (defect.TooLarge n) = status.TooLarge
defect_status (defect.NoRoom n) = status.NoRoom

-- the message of a refusal
abbrev pub message_of : Refusal → List ℕ
message_of refusal.Usage = usage_message
message_of (refusal.ReadFault name) = read_message name.now
message_of (refusal.TooLarge name) = size_message name.now
message_of (refusal.Lacking why) = defect_message why
message_of (refusal.WriteFault name) = write_message name.now

-- the answer that a refusal is
abbrev pub status_of : Refusal → Status
status_of refusal.Usage = status.Usage
status_of (refusal.ReadFault name) = status.ReadFault
status_of (refusal.TooLarge name) = status.TooLarge
status_of (refusal.Lacking why) = defect_status why
status_of (refusal.WriteFault name) = status.WriteFault
