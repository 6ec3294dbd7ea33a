-- The executable bytes of a file, and its sites. This project's own.
use Rattle.std.specs.Prelude.{ℕ, List, Option}
use Rattle.mv_base.specs.Memory.{exec_byte}
use Rattle.elf32_read.specs.Load.{load}
pub use Rattle.superset.specs.Sites.{site_at}

-- the executable bytes of a file's memory
abbrev pub code_in : List ℕ → ℕ → Option ℕ
code_in b a = exec_byte (load b) a
