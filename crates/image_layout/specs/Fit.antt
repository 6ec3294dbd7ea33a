-- Where the added block has room between the segments. This project's own.
use Rattle.std.specs.Prelude.{ℕ, zero, suc, ◌+◌, ◌*◌, ◌/◌, Bool, ◌&&◌, ◌||◌, List, Option, Some, None, nat_le, if◌then◌else◌}
use Rattle.std.specs.List.{list_all}
use Rattle.std.specs.Option.{option_map}
use Rattle.elf32_read.specs.declared.image.Segment.{Segment}

-- pages from one on, up to one that is not among them, have none of a segment's pages
abbrev pub is_apart : ℕ → ℕ → Segment → Bool
is_apart from to s = nat_le to (s.range.lo / 4096) || nat_le ((s.range.lo + s.range.len + 4095) / 4096) from

-- a block of this size at a page ends at most at 0xB0000000, and shares no page with a segment
unfoldable pub has_room : List Segment → ℕ → ℕ → Bool
has_room ss size page = nat_le (4096 * page + size) 0xB0000000 && list_all (is_apart page (page + size / 4096)) ss

-- the first of n numbers from one on that passes a test
unfoldable pub lowest : (ℕ → Bool) → ℕ → ℕ → Option ℕ
lowest test from zero = None
lowest test from (suc n) = if test from then Some from else lowest test (from + 1) n

-- the lowest multiple of 4,096 from 0x00100000 on, and below 0xB0000000, at which a block of a size has room
unfoldable pub first_fit : List Segment → ℕ → Option ℕ
first_fit ss size = option_map (λ page. 4096 * page) (lowest (has_room ss size) 0x100 0xAFF00)
