-- What is asked of an image and of a plan that are written to a file. This project's own.
use Rattle.std.specs.Prelude.{◌≡◌, ◌≤◌, ℕ, ◌+◌, ◌&&◌, length, Bool, List, [], ◌∷◌, ◌++◌, nat_lt}
use Rattle.std.specs.List.{flat_map}
use Rattle.mv_base.specs.Bytes.{word_at, half, words}
use Rattle.elf32_read.specs.declared.image.Image.{Image}
use Rattle.elf32_read.specs.declared.image.Phdr.{Phdr}
use Rattle.elf32_read.specs.Fields.{headers, ident_rest, maps}
use Rattle.elf32_write.specs.declared.plan.Plan.{Plan}
use Rattle.elf32_write.specs.File.{added_len, table_lo, table_of, private_lo, list_lo, frame_magic, frame_version, paged_form, new_headers, header_words, elf_header}

-- an image has the flags, bytes 7 to 15 and the program headers that stand in a file
pub record HasHead (b : List ℕ) (image : Image) : Type 0 where
  pub e_flags : image.e_flags ≡ word_at b 36
  pub ident : image.ident ≡ ident_rest b
  pub headers_are : image.headers ≡ headers b

-- an ELF header with these bytes 7 to 15 and flags, for an entry and a count of program headers
abbrev pub header_bytes : List ℕ → ℕ → ℕ → ℕ → List ℕ
header_bytes ident flags entry count =
    (0x7F ∷ 0x45 ∷ 0x4C ∷ 0x46 ∷ 1 ∷ 1 ∷ 1 ∷ []) ++ ident ++ half 2 ++ half 3 ++ words (1 ∷ entry ∷ 52 ∷ 0 ∷ flags ∷ []) ++ half 52 ++ half 32 ++ half count ++ half 0 ++ half 0 ++ half 0

-- a header that maps addresses above a base
abbrev pub is_above : ℕ → Phdr → Bool
is_above base h = maps h && nat_lt base h.vaddr

-- the words of a frame record that stand before its runs
abbrev pub record_front : ℕ → Plan → List ℕ
record_front input_len p =
    frame_magic ∷ frame_version ∷ paged_form ∷ input_len ∷ p.base ∷ added_len p ∷ p.base ∷ length p.code ∷ table_lo p ∷ length (table_of p) ∷ private_lo p ∷ 64 ∷ (private_lo p + 64) ∷ length p.counted ∷ list_lo p ∷ length p.runs ∷ p.rule ∷ p.edge_rule ∷ []

-- a plan's block ends at most at 0xB0000000
abbrev pub EndsLow : Plan → Type 0
EndsLow p = p.base + added_len p ≤ 0xB0000000

-- the ELF header and the program headers of a plan's file
abbrev pub front : List ℕ → Plan → List ℕ
front b p = elf_header b p.entry (length (new_headers b p)) ++ words (flat_map header_words (new_headers b p))
