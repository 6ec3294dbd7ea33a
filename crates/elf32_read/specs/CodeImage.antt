-- The image of some code and nothing else. The form of the file is that of ELF32; which of its choices are made is this
-- project's own.
use Rattle.std.specs.Prelude.{ℕ, List, [], ◌∷◌, ◌++◌, length}
use Rattle.mv_base.specs.Bytes.{word}

-- what stands before the two sizes of the code: the ELF header of an executable file for i386 with one program header
-- behind it and its entry at 0x08048054, and the fields of the program header, which maps what lies at offset 0x54 of the
-- file at that address
abbrev pub before_sizes : List ℕ
before_sizes =
    0x7F ∷ 0x45 ∷ 0x4C ∷ 0x46 ∷ 1 ∷ 1 ∷ 1 ∷ 0 ∷ 0 ∷ 0 ∷ 0 ∷ 0 ∷ 0 ∷ 0 ∷ 0 ∷ 0
    ∷ 2 ∷ 0 ∷ 3 ∷ 0 ∷ 1 ∷ 0 ∷ 0 ∷ 0 ∷ 0x54 ∷ 0x80 ∷ 4 ∷ 8 ∷ 52 ∷ 0 ∷ 0 ∷ 0
    ∷ 0 ∷ 0 ∷ 0 ∷ 0 ∷ 0 ∷ 0 ∷ 0 ∷ 0 ∷ 52 ∷ 0 ∷ 32 ∷ 0 ∷ 1 ∷ 0 ∷ 0 ∷ 0
    ∷ 0 ∷ 0 ∷ 0 ∷ 0 ∷ 1 ∷ 0 ∷ 0 ∷ 0 ∷ 0x54 ∷ 0 ∷ 0 ∷ 0 ∷ 0x54 ∷ 0x80 ∷ 4 ∷ 8
    ∷ 0x54 ∷ 0x80 ∷ 4 ∷ 8 ∷ []

-- what stands behind them: that the code may be read and run, and the alignment of 4,096
abbrev pub after_sizes : List ℕ
after_sizes = 5 ∷ 0 ∷ 0 ∷ 0 ∷ 0 ∷ 0x10 ∷ 0 ∷ 0 ∷ []

-- where the code lies in memory
abbrev pub code_base : ℕ
code_base = 0x08048054

-- the image of this code
unfoldable pub image_of : List ℕ → List ℕ
image_of code = before_sizes ++ word (length code) ++ word (length code) ++ after_sizes ++ code
