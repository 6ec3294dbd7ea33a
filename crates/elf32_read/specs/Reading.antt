-- What reading a file gives. This project's own.
use Rattle.std.specs.Prelude.{◌≡◌, ℕ, List, Some, None, Result, Ok, Err}
use Rattle.mv_base.specs.Bytes.{word_at}
use Rattle.elf32_read.specs.declared.image.Image.{Image}
use Rattle.elf32_read.specs.declared.reader.ReadImage.{ReadImage}
use Rattle.elf32_read.specs.declared.reader.ReadImage.TheVariants.{Bad, NoMemory}
use Rattle.elf32_read.specs.Fields.{entry_at, headers, segments, ident_rest}
use Rattle.elf32_read.specs.Faults.{load_refusal}

-- an image has the fields that stand in a file with no fault
pub record IsImage (b : List ℕ) (image : Image) : Type 0 where
  pub whole : load_refusal b ≡ None
  pub entry : image.entry ≡ entry_at b
  pub e_flags : image.e_flags ≡ word_at b 36
  pub ident : image.ident ≡ ident_rest b
  pub headers_are : image.headers ≡ headers b
  pub segments_are : image.segments ≡ segments b

-- the image of a file with no fault, or the first fault of any other
abbrev pub IsRead : List ℕ → Result Image ReadImage → Type 0
IsRead b (Ok image) = IsImage b image
IsRead b (Err (Bad f)) = load_refusal b ≡ Some f
IsRead b (Err NoMemory) = Unit {0}
