-- What decoding bytes gives: the instruction that a front of them spells, or why there is none. The three answers are
-- this project's own.
use Rattle.std.specs.Prelude.{◌≡◌, ℕ, ◌<◌, ◌≤◌, List, ◌++◌, length, Some, None, IsSome}
use Rattle.mv_base.specs.Bytes.{AreBytes}
use Rattle.x86_insn.specs.Spelling.{spelled, decoded}
use Rattle.x86_decode.specs.declared.decoding.Decoded.{Decoded}
use Rattle.x86_decode.specs.declared.decoding.Decoded.TheVariants.{Insn, Short, Unknown}

-- more bytes, at least one, make the bytes a spelling
abbrev pub BeginsSpelling : List ℕ → Type 0
BeginsSpelling bytes = (more : List ℕ) × (0 < length more) × AreBytes more × IsSome (spelled (bytes ++ more))

-- the instruction of the front that is a spelling, and the front's length; else whether the bytes begin a spelling
abbrev pub IsDecoded : List ℕ → Decoded → Type 0
IsDecoded bytes (Insn i n) = (decoded bytes ≡ Some (i, n)) × (n ≤ length bytes)
IsDecoded bytes Short = (decoded bytes ≡ None) × BeginsSpelling bytes
IsDecoded bytes Unknown = (decoded bytes ≡ None) × (BeginsSpelling bytes → ⊥)
