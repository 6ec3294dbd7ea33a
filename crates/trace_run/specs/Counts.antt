-- The counters of a file's frame as a report has them. This project's own.
use Rattle.std.specs.Prelude.{ℕ, zero, suc, List, [], Option, Some, None}
use Rattle.std.specs.List.{filter_map, range_with_len}
use Rattle.mv_base.specs.Bytes.{number}
use Rattle.mv_base.specs.Memory.{Memory, read_fault, bytes_at}
use Rattle.elf32_write.specs.Frame.{Frame, counted_at, kind_at, counter_place}

-- a number, if no access failed
abbrev pub unless : Option ℕ → ℕ → Option ℕ
unless None n = Some n
unless (Some a) n = None

-- the number of the eight bytes from an address on, if all are mapped; the least byte is the first
abbrev pub counter_at : Memory → ℕ → Option ℕ
counter_at m at = unless (read_fault m at 8) (number (bytes_at m at 8))

-- an address and a kind with their number, unless that is 0
abbrev pub with_number : ℕ → ℕ → Option ℕ → Option (ℕ × ℕ × ℕ)
with_number a kind None = None
with_number a kind (Some zero) = None
with_number a kind (Some (suc n)) = Some (a, kind, suc n)

-- counter k of a frame, with its site's address and its kind
abbrev pub count_at : Frame → Memory → ℕ → Option (ℕ × ℕ × ℕ)
count_at f m k = with_number (counted_at f k) (kind_at f k) (counter_at m (counter_place f k))

-- and all counters, in the order of the frame's list; none without a frame
unfoldable pub frame_counts : Frame → Memory → List (ℕ × ℕ × ℕ)
frame_counts f m = filter_map (count_at f m) (range_with_len 0 f.counters)

abbrev pub counts_of : Option Frame → Memory → List (ℕ × ℕ × ℕ)
counts_of None m = []
counts_of (Some f) m = frame_counts f m
