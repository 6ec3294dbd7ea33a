-- The faults of a file, one statement each about the whole file, and the first of them. ELF32; the order is this
-- project's own.
use Rattle.std.specs.Prelude.{ℕ, ◌+◌, ◌*◌, ◌/◌, ◌%◌, Bool, not, ◌&&◌, ◌||◌, List, [], ◌∷◌, length, Option, Some, None, nat_lt, ◌==◌, if◌then◌else◌, slice_index}
use Rattle.std.specs.List.{list_any, starts_with, sum_by}
use Rattle.std.specs.Prelude.{nat_eq}
use Rattle.mv_base.specs.Bytes.{half_at, word_at}
use Rattle.elf32_read.specs.declared.fault.ImageFault.{ImageFault}
use Rattle.elf32_read.specs.declared.fault.ImageFault.TheVariants.{ShortHeader, NotElf, NotElf32Little, NotI386, NotExecutable, BadVersion, BadSizes, HeaderCount, HeadersOutside, Interpreter, Dynamic, FileRange, MemorySmaller, AddressRange, NoPermission, WritableCode, NotCongruent, SharedPage, NoLoad, CodeTooLarge, HeadersFull}
use Rattle.elf32_read.specs.declared.image.Phdr.{Phdr}
use Rattle.elf32_read.specs.declared.image.Segment.{Segment}
use Rattle.elf32_read.specs.Fields.{header_offset, header_count, headers, is_load, maps, has_exec, has_write, has_read, segments}

-- the first of two faults
abbrev pub or_else : Option ImageFault → Option ImageFault → Option ImageFault
or_else None g = g
or_else (Some f) g = Some f

-- a fault where a test holds
abbrev pub fault_if : Bool → ImageFault → Option ImageFault
fault_if test f = if test then Some f else None

-- whether the file begins with the ELF magic
abbrev pub has_magic : List ℕ → Bool
has_magic b = starts_with nat_eq b (0x7F ∷ 0x45 ∷ 0x4C ∷ 0x46 ∷ [])

-- the faults of the ELF header
unfoldable pub head_fault : List ℕ → Option ImageFault
head_fault b =
    if nat_lt (length b) 52 then Some ShortHeader
    else if not (has_magic b) then Some NotElf
    else if not (slice_index b 4 == 1 && slice_index b 5 == 1) then Some NotElf32Little
    else if not (half_at b 18 == 3) then Some NotI386
    else if not (half_at b 16 == 2) then Some NotExecutable
    else if not (slice_index b 6 == 1 && word_at b 20 == 1) then Some BadVersion
    else if not (half_at b 40 == 52 && half_at b 42 == 32) then Some BadSizes
    else if header_count b == 0 || nat_lt 64 (header_count b) then Some HeaderCount
    else if nat_lt (length b) (header_offset b + 32 * header_count b) then Some HeadersOutside
    else None

-- the fault of a header that maps addresses, where pages from free on are free
unfoldable pub segment_fault : ℕ → ℕ → Phdr → Option ImageFault
segment_fault free i h =
    if nat_lt 0xFFFFF000 (h.vaddr + h.memsz) then Some (AddressRange i)
    else if not (has_read h || has_write h || has_exec h) then Some (NoPermission i)
    else if has_write h && has_exec h then Some (WritableCode i)
    else if not (h.offset % 4096 == h.vaddr % 4096) then Some (NotCongruent i)
    else if nat_lt (h.vaddr / 4096) free then Some (SharedPage i)
    else None

-- the fault of header i, in a file of this length
unfoldable pub header_fault : ℕ → ℕ → ℕ → Phdr → Option ImageFault
header_fault len free i h =
    if h.kind == 3 then Some (Interpreter i)
    else if h.kind == 2 then Some (Dynamic i)
    else if is_load h && nat_lt 0 h.filesz && nat_lt len (h.offset + h.filesz) then Some (FileRange i)
    else if is_load h && nat_lt h.memsz h.filesz then Some (MemorySmaller i)
    else if maps h then segment_fault free i h
    else None

-- the first page above a header's segment; a header that maps nothing leaves it
abbrev pub free_after : ℕ → Phdr → ℕ
free_after free h = if maps h then (h.vaddr + h.memsz + 4095) / 4096 else free

-- the first fault of headers from number i on, in file order
unfoldable pub headers_fault : ℕ → ℕ → ℕ → List Phdr → Option ImageFault
headers_fault len free i [] = None
headers_fault len free i (h ∷ hs) = or_else (header_fault len free i h) (headers_fault len (free_after free h) (i + 1) hs)

-- the first fault but for the two limits of what is rewritten
unfoldable pub load_refusal : List ℕ → Option ImageFault
load_refusal b =
    or_else (head_fault b) (or_else (headers_fault (length b) 0 0 (headers b)) (fault_if (not (list_any is_load (headers b))) NoLoad))

-- how many bytes are executable
abbrev pub code_size : List Segment → ℕ
code_size ss = sum_by (λ s. if s.exec then s.range.len else 0) ss

-- the limits of what is rewritten: 16 MiB of code, and 61 headers so that three more can be added
unfoldable pub limit_fault : List ℕ → Option ImageFault
limit_fault b = or_else (fault_if (nat_lt 16777216 (code_size (segments b))) CodeTooLarge) (fault_if (nat_lt 61 (header_count b)) HeadersFull)

-- the first fault of a file that is to be rewritten
unfoldable pub refusal : List ℕ → Option ImageFault
refusal b = or_else (load_refusal b) (limit_fault b)
