-- How many runs a file has, and how many bytes they have together. This project's own.
use Rattle.std.specs.Prelude.{◌≡◌, ℕ, ◌+◌, ◌≤◌, Bool, true, false, List, [], ◌∷◌, ◌++◌, length, None, nat_lt, ◌==◌, if◌then◌else◌}
use Rattle.std.specs.List.{filter_map, sum_by}
use Rattle.std.proofs.Common.{refl, sym, ◌∙◌, arith, length-append}
use Rattle.std.proofs.lemmas.Bool.Decides.{nat_tests}
use Rattle.std.proofs.lemmas.List.Sums.{sum_by-cons}
use Rattle.elf32_read.specs.declared.fault.ImageFault.{ImageFault}
use Rattle.elf32_read.specs.declared.fault.ImageFault.TheVariants.{CodeTooLarge, HeadersFull}
use Rattle.elf32_read.specs.declared.image.Phdr.{Phdr}
use Rattle.elf32_read.specs.declared.image.Segment.{Segment}
use Rattle.elf32_read.specs.declared.run.Run.{Run}
use Rattle.elf32_read.specs.Fields.{headers, header_count, maps, segment_of, segments}
use Rattle.elf32_read.specs.Faults.{fault_if, code_size, load_refusal, limit_fault}
use Rattle.elf32_read.specs.Runs.{segment_bytes, join_run, runs_in, runs_of}
use Rattle.elf32_read.specs.Segments.{ArePlaced, ArePlaced-whole, length-segment_bytes}
use Rattle.elf32_read.specs.Whole.{or_else-none, length-headers}

-- how many bytes runs have together
abbrev pub bytes_len : List Run → ℕ
bytes_len rs = sum_by (λ r. length r.bytes) rs

-- the same for a segment in front of others, and for a run
abbrev code_len : Segment → ℕ
code_len s = if s.exec then s.range.len else 0

abbrev run_len : Run → ℕ
run_len r = length r.bytes

-- a range in front of runs adds its own bytes, and at most one run
bytes_by : (lo : ℕ) (bytes : List ℕ) (r : Run) (rs : List Run) (t : Bool)
    → bytes_len (if t then record { lo = lo; bytes = bytes ++ r.bytes } ∷ rs else record { lo = lo; bytes = bytes } ∷ r ∷ rs)
    ≡ length bytes + bytes_len (r ∷ rs)
bytes_by lo bytes r rs true =
    omega (arith, sum_by-cons run_len (record { lo = lo; bytes = bytes ++ r.bytes }) rs, sum_by-cons run_len r rs, length-append bytes r.bytes)
bytes_by lo bytes r rs false = sum_by-cons run_len (record { lo = lo; bytes = bytes }) (r ∷ rs)

bytes_len-join_run : (lo : ℕ) (bytes : List ℕ) (rs : List Run) → bytes_len (join_run lo bytes rs) ≡ length bytes + bytes_len rs
bytes_len-join_run lo bytes [] = sum_by-cons run_len (record { lo = lo; bytes = bytes }) []
bytes_len-join_run lo bytes (r ∷ rs) = bytes_by lo bytes r rs (lo + length bytes == r.lo)

count_by : (lo : ℕ) (bytes : List ℕ) (r : Run) (rs : List Run) (t : Bool)
    → length (if t then record { lo = lo; bytes = bytes ++ r.bytes } ∷ rs else record { lo = lo; bytes = bytes } ∷ r ∷ rs) ≤ 1 + length (r ∷ rs)
count_by lo bytes r rs true = omega arith
count_by lo bytes r rs false = omega arith

length-join_run : (lo : ℕ) (bytes : List ℕ) (rs : List Run) → length (join_run lo bytes rs) ≤ 1 + length rs
length-join_run lo bytes [] = omega arith
length-join_run lo bytes (r ∷ rs) = count_by lo bytes r rs (lo + length bytes == r.lo)

-- the runs of placed segments have as many bytes as the executable segments
bytes_more : (b : List ℕ) (s : Segment) (rs : List Run) (n : ℕ) (t : Bool) → length (segment_bytes b s) ≡ s.range.len → bytes_len rs ≡ n
    → bytes_len (if t then join_run s.range.lo (segment_bytes b s) rs else rs) ≡ (if t then s.range.len else 0) + n
bytes_more b s rs n true len rest = omega (arith, bytes_len-join_run s.range.lo (segment_bytes b s) rs, len, rest)
bytes_more b s rs n false len rest = omega (arith, rest)

pub bytes_len-runs_in : (b : List ℕ) (from : ℕ) (ss : List Segment) → ArePlaced b from ss → bytes_len (runs_in b ss) ≡ code_size ss
bytes_len-runs_in b from [] placed = refl
bytes_len-runs_in b from (s ∷ ss) placed =
    bytes_more b s (runs_in b ss) (code_size ss) s.exec (length-segment_bytes b s placed.0.bytes)
    (bytes_len-runs_in b (s.range.lo + s.range.len) ss placed.1)
    ∙ sym (sum_by-cons code_len s ss)

-- segments give no more runs than they are
count_more : (b : List ℕ) (s : Segment) (rs : List Run) (n : ℕ) (t : Bool) → length rs ≤ n
    → length (if t then join_run s.range.lo (segment_bytes b s) rs else rs) ≤ 1 + n
count_more b s rs n true rest = omega (arith, length-join_run s.range.lo (segment_bytes b s) rs)
count_more b s rs n false rest = omega arith

pub length-runs_in : (b : List ℕ) (ss : List Segment) → length (runs_in b ss) ≤ length ss
length-runs_in b [] = omega arith
length-runs_in b (s ∷ ss) = omega (arith, count_more b s (runs_in b ss) (length ss) s.exec (length-runs_in b ss))

-- headers give no more segments than they are
segments_by : (h : Phdr) (hs : List Phdr) (t : Bool) → maps h ≡ t → length (filter_map segment_of hs) ≤ length hs
    → length (filter_map segment_of (h ∷ hs)) ≤ length (h ∷ hs)
segments_by h hs true mapped rest = rw mapped (omega arith)
segments_by h hs false not_mapped rest = rw not_mapped (omega arith)

length-segments_of : (hs : List Phdr) → length (filter_map segment_of hs) ≤ length hs
length-segments_of [] = omega arith
length-segments_of (h ∷ hs) = segments_by h hs (maps h) refl (length-segments_of hs)

pub length-segments : (b : List ℕ) → length (segments b) ≤ header_count b
unfolding segments
length-segments b = omega (arith, length-segments_of (headers b), length-headers b)

-- a file has no more runs than program headers
pub length-runs_of : (b : List ℕ) → length (runs_of b) ≤ header_count b
unfolding runs_of
length-runs_of b = omega (arith, length-runs_in b (segments b), length-segments b)

-- the runs of a file with no fault have as many bytes as its executable segments
pub bytes_len-runs_of : (b : List ℕ) → load_refusal b ≡ None → bytes_len (runs_of b) ≡ code_size (segments b)
unfolding runs_of
bytes_len-runs_of b whole = bytes_len-runs_in b 0 (segments b) (ArePlaced-whole b whole)

-- a limit that is not exceeded
within_limit : (most n : ℕ) (f : ImageFault) → fault_if (nat_lt most n) f ≡ None → n ≤ most
within_limit most n f none = grind (arith, nat_tests)

pub code_size-admitted : (b : List ℕ) → limit_fault b ≡ None → code_size (segments b) ≤ 16777216
unfolding limit_fault
code_size-admitted b admitted =
    within_limit 16777216 (code_size (segments b)) CodeTooLarge (or_else-none (fault_if (nat_lt 16777216 (code_size (segments b))) CodeTooLarge) _ admitted).0

pub header_count-admitted : (b : List ℕ) → limit_fault b ≡ None → header_count b ≤ 61
unfolding limit_fault
header_count-admitted b admitted =
    within_limit 61 (header_count b) HeadersFull (or_else-none (fault_if (nat_lt 16777216 (code_size (segments b))) CodeTooLarge) _ admitted).1
