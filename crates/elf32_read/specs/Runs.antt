-- The maximal ranges of executable addresses. This project's own.
use Rattle.std.specs.Prelude.{ℕ, ◌+◌, ◌-◌, ◌<◌, ◌≤◌, List, [], ◌∷◌, ◌++◌, length, take, drop, replicate, Option, Some, None, ◌==◌, if◌then◌else◌, slice_get}
use Rattle.mv_base.specs.Memory.{within}
use Rattle.elf32_read.specs.declared.image.Segment.{Segment}
use Rattle.elf32_read.specs.declared.run.Run.{Run}
use Rattle.elf32_read.specs.Fields.{segments}

-- a segment's bytes: those of the file, then zeros
unfoldable pub segment_bytes : List ℕ → Segment → List ℕ
segment_bytes b s = take s.filesz (drop s.offset b) ++ replicate (s.range.len - s.filesz) 0

-- a segment's bytes of the file lie in the file, and are no more than its addresses
pub record IsFilled (b : List ℕ) (s : Segment) : Type 0 where
  pub filled : s.filesz ≤ s.range.len
  pub inside : 0 < s.filesz → s.offset + s.filesz ≤ length b

-- a range in front of runs, joined with the first where they touch
abbrev pub join_run : ℕ → List ℕ → List Run → List Run
join_run lo bytes [] = record { lo = lo; bytes = bytes } ∷ []
join_run lo bytes (r ∷ rs) =
    if lo + length bytes == r.lo then record { lo = lo; bytes = bytes ++ r.bytes } ∷ rs else record { lo = lo; bytes = bytes } ∷ r ∷ rs

-- a run that may get more bytes, in front of runs
abbrev pub join_last : Option Run → List Run → List Run
join_last None rs = rs
join_last (Some r) rs = join_run r.lo r.bytes rs

-- the runs of segments: those that are executable, joined where they touch
abbrev pub runs_in : List ℕ → List Segment → List Run
runs_in b [] = []
runs_in b (s ∷ ss) = if s.exec then join_run s.range.lo (segment_bytes b s) (runs_in b ss) else runs_in b ss

-- the runs of a file, ascending
unfoldable pub runs_of : List ℕ → List Run
runs_of b = runs_in b (segments b)

-- the byte that the runs have at an address
abbrev pub code_of : List Run → ℕ → Option ℕ
code_of [] a = None
code_of (r ∷ rs) a = if within r.lo (length r.bytes) a then slice_get r.bytes (a - r.lo) else code_of rs a

-- runs that ascend from an address on, leave a gap between any two, and end at most at 0xFFFFF000
abbrev pub AreSpread : ℕ → List Run → Type 0
AreSpread from [] = Unit {0}
AreSpread from (r ∷ rs) = (from ≤ r.lo) × (r.lo + length r.bytes ≤ 0xFFFFF000) × AreSpread (r.lo + length r.bytes + 1) rs

-- the same, where each has bytes
abbrev pub AreApart : ℕ → List Run → Type 0
AreApart from [] = Unit {0}
AreApart from (r ∷ rs) = (from ≤ r.lo) × (0 < length r.bytes) × (r.lo + length r.bytes ≤ 0xFFFFF000) × AreApart (r.lo + length r.bytes + 1) rs
