-- The limits of what is rewritten, seen on an image. This project's own.
use Rattle.std.specs.Prelude.{◌≡◌, ℕ, List, length, Option, nat_lt}
use Rattle.std.proofs.Common.{ap, ◌∙◌}
use Rattle.elf32_read.specs.declared.fault.ImageFault.{ImageFault}
use Rattle.elf32_read.specs.declared.fault.ImageFault.TheVariants.{CodeTooLarge, HeadersFull}
use Rattle.elf32_read.specs.declared.image.Image.{Image}
use Rattle.elf32_read.specs.Fields.{segments}
use Rattle.elf32_read.specs.Faults.{or_else, fault_if, code_size, limit_fault}
use Rattle.elf32_read.specs.Reading.{IsImage}
use Rattle.elf32_read.specs.Whole.{length-headers}

-- the first limit that an image exceeds
abbrev pub exceeded : Image → Option ImageFault
exceeded image =
    or_else (fault_if (nat_lt 16777216 (code_size image.segments)) CodeTooLarge) (fault_if (nat_lt 61 (length image.headers)) HeadersFull)

-- the image of a file exceeds the limits that the file exceeds
pub exceeded-image : (b : List ℕ) (image : Image) → IsImage b image → exceeded image ≡ limit_fault b
unfolding limit_fault
exceeded-image b image is =
    ap (λ ss. or_else (fault_if (nat_lt 16777216 (code_size ss)) CodeTooLarge) (fault_if (nat_lt 61 (length image.headers)) HeadersFull)) is.segments_are
    ∙ ap (λ n. or_else (fault_if (nat_lt 16777216 (code_size (segments b))) CodeTooLarge) (fault_if (nat_lt 61 n) HeadersFull))
    (ap length is.headers_are ∙ length-headers b)

-- the law of the limits
pub ruleset limit_law = exceeded-image
