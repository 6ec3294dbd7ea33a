-- The image of a sample. Its form and its generator are this project's own; the form of the file is that of ELF32.
use Rattle.std.specs.Prelude.{ℕ, zero, suc, ◌+◌, ◌*◌, ◌/◌, ◌%◌, ◌^◌, List, [], ◌∷◌, ◌++◌, length}
use Rattle.mv_base.specs.Bytes.{word}

-- the number after one, of a generator modulo 2^32
abbrev pub next_number : ℕ → ℕ
next_number x = (1664525 * x + 1013904223) % 2 ^ 32

-- so many bytes of code: the highest byte of each of the numbers after one
unfoldable pub code_after : ℕ → ℕ → List ℕ
code_after x zero = []
code_after x (suc k) = next_number x / 2 ^ 24 ∷ code_after (next_number x) k

-- what stands before the two sizes of the code: the ELF header of an executable file for i386 with one program header
-- behind it and its entry at 0x08048054, and the fields of the program header, which maps what lies at offset 0x54 of the
-- file at that address
abbrev pub before_sizes : List ℕ
before_sizes =
    0x7F ∷ 0x45 ∷ 0x4C ∷ 0x46 ∷ 1 ∷ 1 ∷ 1 ∷ 0 ∷ 0 ∷ 0 ∷ 0 ∷ 0 ∷ 0 ∷ 0 ∷ 0 ∷ 0
    ∷ 2 ∷ 0 ∷ 3 ∷ 0 ∷ 1 ∷ 0 ∷ 0 ∷ 0 ∷ 0x54 ∷ 0x80 ∷ 4 ∷ 8 ∷ 52 ∷ 0 ∷ 0 ∷ 0
    ∷ 0 ∷ 0 ∷ 0 ∷ 0 ∷ 0 ∷ 0 ∷ 0 ∷ 0 ∷ 52 ∷ 0 ∷ 32 ∷ 0 ∷ 1 ∷ 0 ∷ 0 ∷ 0
    ∷ 0 ∷ 0 ∷ 0 ∷ 0 ∷ 1 ∷ 0 ∷ 0 ∷ 0 ∷ 0x54 ∷ 0 ∷ 0 ∷ 0 ∷ 0x54 ∷ 0x80 ∷ 4 ∷ 8
    ∷ 0x54 ∷ 0x80 ∷ 4 ∷ 8 ∷ []

-- what stands behind them: that the code may be read and run, and the alignment of 4,096
abbrev pub after_sizes : List ℕ
after_sizes = 5 ∷ 0 ∷ 0 ∷ 0 ∷ 0 ∷ 0x10 ∷ 0 ∷ 0 ∷ []

-- an image of this code alone
unfoldable pub image_of : List ℕ → List ℕ
image_of code = before_sizes ++ word (length code) ++ word (length code) ++ after_sizes ++ code

-- the sample of a number, with so many bytes of code
abbrev pub sample : ℕ → ℕ → List ℕ
sample number size = image_of (code_after number size)
