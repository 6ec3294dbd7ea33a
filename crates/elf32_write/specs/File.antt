-- The output file of a plan. System V gABI for the headers; their order and the frame record are this project's own.
use Rattle.std.specs.Prelude.{ℕ, ◌+◌, ◌*◌, ◌/◌, ◌%◌, ◌^◌, ◌&&◌, List, [], ◌∷◌, ◌++◌, length, map, nat_lt, if◌then◌else◌}
use Rattle.std.specs.List.{flat_map}
use Rattle.mv_base.specs.Bytes.{word_at, half, words}
use Rattle.mv_base.specs.declared.range.RunPlace.{RunPlace}
use Rattle.elf32_read.specs.declared.image.Phdr.{Phdr}
use Rattle.elf32_read.specs.Fields.{headers, is_load, maps, ident_rest}
use Rattle.elf32_write.specs.declared.plan.Plan.{Plan}
use Rattle.elf32_write.specs.Format.{filled, up, private_len}

-- how many bytes stand before the input, and where among them the frame record
abbrev pub head_len : ℕ
head_len = 0x1000

abbrev pub record_place : ℕ
record_place = 0x900

-- a list with zeros behind it up to a multiple of 4,096
abbrev pub padded : List ℕ → List ℕ
padded xs = filled (up (length xs)) xs

-- the words of a counter in the list: its address and its kind
abbrev pub pair_words : ℕ × ℕ → List ℕ
pair_words q = q.0 ∷ q.1 ∷ []

-- the table with the list of counters
abbrev pub table_of : Plan → List ℕ
table_of p = p.table ++ words (flat_map pair_words p.counted)

abbrev pub table_lo : Plan → ℕ
table_lo p = p.base + up (length p.code)

abbrev pub private_lo : Plan → ℕ
private_lo p = table_lo p + up (length (table_of p))

abbrev pub list_lo : Plan → ℕ
list_lo p = table_lo p + length p.table

abbrev pub added_len : Plan → ℕ
added_len p = up (length p.code) + up (length (table_of p)) + up (private_len (length p.counted))

-- where in the file the code stands, behind an input of this length
abbrev pub code_place : ℕ → ℕ
code_place input_len = head_len + up input_len

-- a header of the input: moved by the head, and where it is loaded readable and no longer executable
abbrev pub kept_header : Phdr → Phdr
kept_header h =
    if is_load h then record h { offset = (h.offset + head_len) % 2 ^ 32; flags = h.flags / 8 * 8 + 4 + h.flags / 2 % 2 * 2; align = 0x1000 }
    else record h { offset = (h.offset + head_len) % 2 ^ 32 }

-- a header that is added: PT_LOAD, with this many bytes of the file, this much memory and these flags
abbrev pub added_header : ℕ → ℕ → ℕ → ℕ → ℕ → Phdr
added_header offset lo filesz memsz flags =
    record { kind = 1; offset = offset; vaddr = lo; paddr = lo; filesz = filesz; memsz = memsz; flags = flags; align = 0x1000 }

-- the code, readable and executable; the table, readable; the private area, readable and writable
abbrev pub added_headers : ℕ → Plan → List Phdr
added_headers input_len p =
    added_header (code_place input_len) p.base (length p.code) (length p.code) 5
    ∷ added_header (code_place input_len + up (length p.code)) (table_lo p) (length (table_of p)) (length (table_of p)) 4
    ∷ added_header (code_place input_len + up (length p.code) + up (length (table_of p))) (private_lo p) 0 (private_len (length p.counted)) 6
    ∷ []

-- the added headers stand before the first that maps addresses above the block's base, else last
unfoldable pub with_added : ℕ → List Phdr → List Phdr → List Phdr
with_added base added [] = added
with_added base added (h ∷ hs) =
    if maps h && nat_lt base h.vaddr then added ++ map kept_header (h ∷ hs) else kept_header h ∷ with_added base added hs

abbrev pub header_words : Phdr → List ℕ
header_words h = h.kind ∷ h.offset ∷ h.vaddr ∷ h.paddr ∷ h.filesz ∷ h.memsz ∷ h.flags ∷ h.align ∷ []

-- the ELF header, with the input's flags and bytes 7 to 15, and no sections
unfoldable pub elf_header : List ℕ → ℕ → ℕ → List ℕ
elf_header b entry count =
    (0x7F ∷ 0x45 ∷ 0x4C ∷ 0x46 ∷ 1 ∷ 1 ∷ 1 ∷ []) ++ ident_rest b ++ half 2 ++ half 3 ++ words (1 ∷ entry ∷ 52 ∷ 0 ∷ word_at b 36 ∷ []) ++ half 52 ++ half 32 ++ half count ++ half 0 ++ half 0 ++ half 0

-- the version of the frame record that is written, and the number of its table's form
abbrev pub frame_version : ℕ
frame_version = 2

abbrev pub paged_form : ℕ
paged_form = 2

-- 4D 56 46 52
abbrev pub frame_magic : ℕ
frame_magic = 0x5246564D

abbrev pub place_words : RunPlace → List ℕ
place_words r = r.lo ∷ r.len ∷ r.dir ∷ []

-- the words of the frame record
unfoldable pub record_words : ℕ → Plan → List ℕ
record_words input_len p =
    (frame_magic ∷ frame_version ∷ paged_form ∷ input_len ∷ p.base ∷ added_len p ∷ p.base ∷ length p.code ∷ table_lo p ∷ length (table_of p) ∷ private_lo p ∷ 64 ∷ (private_lo p + 64) ∷ length p.counted ∷ list_lo p ∷ length p.runs ∷ p.rule ∷ p.edge_rule ∷ [])
    ++ flat_map place_words p.runs

abbrev pub new_headers : List ℕ → Plan → List Phdr
new_headers b p = with_added p.base (added_headers (length b) p) (headers b)

-- what stands before the input
unfoldable pub head : List ℕ → Plan → List ℕ
head b p =
    filled head_len (filled record_place (elf_header b p.entry (length (new_headers b p)) ++ words (flat_map header_words (new_headers b p))) ++ words (record_words (length b) p))

-- the file: the head, the input, the code and the table, each up to a multiple of 4,096
unfoldable pub file_of : List ℕ → Plan → List ℕ
file_of b p = head b p ++ padded b ++ padded p.code ++ padded (table_of p)
