-- How the program ends where it gets no words. This project's own.
use Rattle.std.specs.Prelude.{ℕ}
use Rattle.std.specs.declared.io.ErrorKind.{ErrorKind}
use Rattle.std.specs.declared.io.ErrorKind.TheVariants.{InvalidData}

-- the number for an argument that isn't UTF-8, and for every other reason the one of want of memory
abbrev pub wordless_code : ErrorKind → ℕ
wordless_code InvalidData = 14
wordless_code _ = 8
