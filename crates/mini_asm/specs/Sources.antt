-- What a source assembles to: its lines as rows. This project's own.
use Rattle.std.specs.Prelude.{◌≡◌, ℕ, ◌+◌, ◌%◌, ◌^◌, ◌==◌, Bool, not, List, [], ◌∷◌, ◌++◌, length, Option, Some, None, map, slice_get}
use Rattle.std.specs.List.{All, filter, flat_map}
use Rattle.mv_base.specs.Bytes.{word}
use Rattle.mv_base.specs.Memory.{address_after}
use Rattle.elf32_read.specs.CodeImage.{code_base, image_of}
use Rattle.x86_insn.specs.declared.insn.Insn.{Insn}
use Rattle.x86_insn.specs.declared.insn.Insn.TheVariants as insn
use Rattle.x86_insn.specs.Meaning.{cond_number}
use Rattle.x86_encode.specs.Encoding.{IsLeast}
use Rattle.insn_text.specs.Names.{stem, ending}
use Rattle.insn_text.specs.Text.{text_of}
use Rattle.mini_asm.specs.declared.listings.Listed.{Listed}
use Rattle.mini_asm.specs.Forms.{IsLabel, IsRaw}
use Rattle.mini_asm.specs.Lines.{HasSpelling}
use Rattle.mini_asm.specs.Names.{IsName}

-- what a line says: nothing, a label of the address that follows, bytes as they stand, or an instruction as it reads at its
-- address
pub data Says : Type 0 where
  Nothing : Says
  Label : (name : List ℕ) → Says
  Raw : Says
  Code : (i : Insn) → Says

-- a line without its line feed, what it says, its address, its bytes, and its text with numbers in place of labels
pub record Row : Type 0 where
  pub line : List ℕ
  pub says : Says
  pub at : ℕ
  pub bytes : List ℕ
  pub text : List ℕ

-- the address behind a row's bytes
abbrev pub next_of : Row → ℕ
next_of r = r.at + length r.bytes

-- where a direct transfer goes
abbrev pub target : Insn → ℕ → Option ℕ
target (insn.Jump rel) next = Some (address_after next rel)
target (insn.Branch cond rel) next = Some (address_after next rel)
target (insn.Loop kind rel) next = Some (address_after next rel)
target (insn.Call rel) next = Some (address_after next rel)
target i next = None

-- the bytes of an instruction: a direct jump or branch always has four bytes of displacement, and any other instruction
-- has the least of its spellings
abbrev pub Takes : Insn → List ℕ → Type 0
Takes (insn.Jump rel) s = s ≡ 0xE9 ∷ word rel
Takes (insn.Branch cond rel) s = s ≡ 0x0F ∷ (0x80 + cond_number cond) ∷ word rel
Takes i s = IsLeast i s

-- the row at a place says the label
pub record SaysLabel (rows : List Row) (place : ℕ) (name : List ℕ) (at : ℕ) : Type 0 where
  pub row : Row
  pub here : slice_get rows place ≡ Some row
  pub says : row.says ≡ Label name
  pub is_at : row.at ≡ at

-- how a line writes an instruction: by its text, or with a label in place of the number where it goes
pub data Writes (rows : List Row) (line : List ℕ) (i : Insn) (next : ℕ) : Type 0 where
  ByNumber : text_of i next ≡ line → Writes rows line i next
  ByLabel :
      (name : List ℕ) (place to : ℕ) → IsName name → SaysLabel rows place name to → target i next ≡ Some (to % 2 ^ 32)
      → line ≡ (stem i ++ ending i) ++ 32 ∷ name → Writes rows line i next

-- the line of an instruction
pub record IsCode (rows : List Row) (r : Row) (i : Insn) : Type 0 where
  pub spelling : HasSpelling i
  pub takes : Takes i r.bytes
  pub writes : Writes rows r.line i (next_of r)
  pub text : r.text ≡ text_of i (next_of r)

abbrev pub IsSaid : List Row → Row → Says → Type 0
IsSaid rows r Nothing = (r.line ≡ []) × (r.bytes ≡ []) × (r.text ≡ r.line)
IsSaid rows r (Label name) = IsLabel r.line name × (r.bytes ≡ []) × (r.text ≡ r.line)
IsSaid rows r Raw = IsRaw r.line r.bytes × (r.text ≡ r.line)
IsSaid rows r (Code i) = IsCode rows r i

-- each row begins where the one before it ends
abbrev pub Chained : ℕ → List Row → Type 0
Chained at [] = Unit {0}
Chained at (r ∷ rows) = (r.at ≡ at) × Chained (next_of r) rows

-- the rows of a source
pub record AreRows (source : List ℕ) (rows : List Row) : Type 0 where
  pub is_source : source ≡ flat_map (λ r. r.line ++ 10 ∷ []) rows
  pub chained : Chained code_base rows
  pub once : (j k : ℕ) (name : List ℕ) (at to : ℕ) → SaysLabel rows j name at → SaysLabel rows k name to → j ≡ k
  pub each : All (λ r. IsSaid rows r r.says) rows

-- the code of rows
abbrev pub code_of : List Row → List ℕ
code_of rows = flat_map (λ r. r.bytes) rows

-- what is listed of rows: those that have bytes
abbrev pub has_bytes : Row → Bool
has_bytes r = not (length r.bytes == 0)

abbrev pub listed_of : Row → Listed
listed_of r = record { at = r.at; bytes = r.bytes; text = r.text }

abbrev pub listed : List Row → List Listed
listed rows = map listed_of (filter has_bytes rows)

-- the source assembles to this image, and to this listing
pub record IsAssembled (source image : List ℕ) (lines : List Listed) : Type 0 where
  pub rows : List Row
  pub are_rows : AreRows source rows
  pub file : image ≡ image_of (code_of rows)
  pub entries : lines ≡ listed rows
