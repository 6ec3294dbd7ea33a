-- Segments in their order by pages. This project's own.
use Rattle.std.specs.Prelude.{ℕ, ◌+◌, ◌/◌, ◌≤◌, List, [], ◌∷◌}
use Rattle.elf32_read.specs.declared.image.Segment.{Segment}

-- segments that ascend and share no page, from a page on
abbrev pub ArePagesApart : ℕ → List Segment → Type 0
ArePagesApart from [] = Unit {0}
ArePagesApart from (s ∷ ss) = (from ≤ s.range.lo / 4096) × ArePagesApart ((s.range.lo + s.range.len + 4095) / 4096) ss
