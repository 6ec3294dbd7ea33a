-- What holds of the segments, the memory and the runs of a file that has none of the faults that keep it from being loaded.
use Rattle.std.specs.Prelude.{◌≡◌, ℕ, zero, suc, ◌+◌, ◌-◌, ◌*◌, ◌<◌, ◌≤◌, Bool, true, false, ◌&&◌, List, [], ◌∷◌, ◌++◌, length, take, drop, replicate, Option, Some, None, nat_lt, ◌==◌, slice_get, slice_index, slice_index_or, if◌then◌else◌}
use Rattle.std.specs.List.{All, filter_map}
use Rattle.std.proofs.Common.{refl, ap, sym, subst, ◌∙◌, arith, get_or, min, length-append, length-take, length-drop}
use Rattle.std.proofs.lemmas.Bool.Decides.{nat_tests}
use Rattle.std.proofs.lemmas.Option.{slice_get-get_or}
use Rattle.std.proofs.lemmas.List.{length-replicate, get_or-append-add, get_or-take, get_or-drop, get_or-replicate, get_or_append_left, get_or-append_right}
use Rattle.mv_base.specs.Memory.{Cell, within, first_of, exec_byte, exec_byte_of}
use Rattle.elf32_read.specs.declared.image.Phdr.{Phdr}
use Rattle.elf32_read.specs.declared.image.Segment.{Segment}
use Rattle.elf32_read.specs.declared.run.Run.{Run}
use Rattle.elf32_read.specs.Fields.{headers, maps, has_exec, has_write, segment_of, segments}
use Rattle.elf32_read.specs.Faults.{free_after, load_refusal}
use Rattle.elf32_read.specs.Load.{segment_cell, load_in, load}
use Rattle.elf32_read.specs.Runs.{IsFilled, segment_bytes, join_run, runs_in, runs_of, code_of, AreApart, AreSpread}
use Rattle.elf32_read.specs.Whole.{IsSoundHeader, AreSound, AreSound-whole}

-- a segment of a file with no fault, whose addresses lie from an address on
pub record IsPlaced (b : List ℕ) (from : ℕ) (s : Segment) : Type 0 where
  pub above : from ≤ s.range.lo
  pub some : 0 < s.range.len
  pub low : s.range.lo + s.range.len ≤ 0xFFFFF000
  pub bytes : IsFilled b s
  pub not_both : (s.write && s.exec) ≡ false

-- segments with ascending addresses, none twice, from an address on
abbrev pub ArePlaced : List ℕ → ℕ → List Segment → Type 0
ArePlaced b from [] = Unit {0}
ArePlaced b from (s ∷ ss) = IsPlaced b from s × ArePlaced b (s.range.lo + s.range.len) ss

-- the segment of a header that maps addresses
abbrev pub mapped_segment : Phdr → Segment
mapped_segment h =
    record { range = record { lo = h.vaddr; len = h.memsz }; offset = h.offset; filesz = h.filesz; write = has_write h; exec = has_exec h }

-- the segment of a sound header is placed
IsPlaced-header : (b : List ℕ) (free from : ℕ) (h : Phdr) → from ≤ 4096 * free → IsSoundHeader (length b) free h → maps h ≡ true
    → IsPlaced b from (mapped_segment h)
IsPlaced-header b free from h free_is sound mapped =
    let segment = sound.segment mapped in
    let load : h.kind ≡ 1 = grind (arith, nat_tests) in
    let some : 0 < h.memsz = grind (arith, nat_tests) in
    record {
      above = omega (arith, segment.above);
      some = some;
      low = segment.low;
      bytes = record { filled = sound.filled load; inside = sound.inside load };
      not_both = segment.not_both;
    }

-- a header in front of others whose segments are placed
ArePlaced-more : (b : List ℕ) (free from : ℕ) (h : Phdr) (hs : List Phdr) (t : Bool) → maps h ≡ t → from ≤ 4096 * free → IsSoundHeader (length b) free h
    → ((next : ℕ) → next ≤ 4096 * free_after free h → ArePlaced b next (filter_map segment_of hs))
    → ArePlaced b from (filter_map segment_of (h ∷ hs))
ArePlaced-more b free from h hs true mapped free_is sound rest =
    let next = rest (h.vaddr + h.memsz) (rw mapped (omega arith)) in
    rw mapped (IsPlaced-header b free from h free_is sound mapped, next)
ArePlaced-more b free from h hs false not_mapped free_is sound rest =
    let next = rest from (rw not_mapped free_is) in
    rw not_mapped next

-- the segments of sound headers are placed
pub ArePlaced-headers : (b : List ℕ) (free from : ℕ) (hs : List Phdr) → from ≤ 4096 * free → AreSound (length b) free hs
    → ArePlaced b from (filter_map segment_of hs)
ArePlaced-headers b free from [] free_is sound = tt
ArePlaced-headers b free from (h ∷ hs) free_is sound =
    ArePlaced-more b free from h hs (maps h) refl free_is sound.0 (λ next le. ArePlaced-headers b (free_after free h) next hs le sound.1)

-- the segments of a file with no fault are placed
pub ArePlaced-whole : (b : List ℕ) → load_refusal b ≡ None → ArePlaced b 0 (segments b)
unfolding segments
ArePlaced-whole b whole = ArePlaced-headers b 0 0 (headers b) (omega arith) (AreSound-whole b whole)

-- each of placed segments is placed, from some address on
pub ArePlaced-at : (b : List ℕ) (from : ℕ) (ss : List Segment) (i : ℕ) (d : Segment) → ArePlaced b from ss → i < length ss
    → (at : ℕ) × IsPlaced b at (slice_index_or ss i d)
ArePlaced-at b from [] i d placed below = absurd (omega arith)
ArePlaced-at b from (s ∷ ss) zero d placed below = (from, placed.0)
ArePlaced-at b from (s ∷ ss) (suc i) d placed below = ArePlaced-at b (s.range.lo + s.range.len) ss i d placed.1 (omega arith)

-- the bytes of each segment of a file with no fault lie in the file
pub All-filled : (b : List ℕ) → load_refusal b ≡ None → All (IsFilled b) (segments b)
All-filled b whole i d below = (ArePlaced-at b 0 (segments b) i d (ArePlaced-whole b whole) below).1.bytes

-- the bytes of a placed segment that lie in the file
held_in_file : (n offset len : ℕ) → (0 < n → offset + n ≤ len) → min n (len - offset) ≡ n
held_in_file zero offset len inside = omega arith
held_in_file (suc n) offset len inside =
    let le = inside (omega arith) in
    omega arith

-- a placed segment has as many bytes as addresses
pub length-segment_bytes : (b : List ℕ) (s : Segment) → IsFilled b s → length (segment_bytes b s) ≡ s.range.len
unfolding segment_bytes
length-segment_bytes b s fits =
    let filled = fits.filled in
    let held = held_in_file s.filesz s.offset (length b) fits.inside in
    simp (length-append, length-take, length-drop, length-replicate, held) (omega arith)

-- the byte that a segment has at a place: the file's, or 0 behind the file's bytes
abbrev pub segment_byte : List ℕ → Segment → ℕ → ℕ
segment_byte b s k = if nat_lt k s.filesz then slice_index b (s.offset + k) else 0

-- in the file's bytes, and behind them
byte_by : (b : List ℕ) (s : Segment) (k : ℕ) (t : Bool) → nat_lt k s.filesz ≡ t → IsFilled b s → k < s.range.len
    → slice_index (take s.filesz (drop s.offset b) ++ replicate (s.range.len - s.filesz) 0) k ≡ (if t then slice_index b (s.offset + k) else 0)
byte_by b s k true before fits below =
    let lt : k < s.filesz = grind (arith, nat_tests) in
    let held = held_in_file s.filesz s.offset (length b) fits.inside in
    let room : k < length (take s.filesz (drop s.offset b)) = simp (length-take, length-drop, held) lt in
    get_or_append_left (take s.filesz (drop s.offset b)) (replicate (s.range.len - s.filesz) 0) 0 k room
    ∙ get_or-take s.filesz (drop s.offset b) k 0 lt ∙ get_or-drop s.offset b k 0
byte_by b s k false behind fits below =
    let le : s.filesz ≤ k = grind (arith, nat_tests) in
    let held = held_in_file s.filesz s.offset (length b) fits.inside in
    let len : length (take s.filesz (drop s.offset b)) ≡ s.filesz = simp (length-take, length-drop, held) in
    get_or-append_right (take s.filesz (drop s.offset b)) (replicate (s.range.len - s.filesz) 0) s.filesz k 0 len le
    ∙ get_or-replicate (s.range.len - s.filesz) (k - s.filesz) 0 0 (omega arith)

-- the bytes of a placed segment, one by one
pub slice_index-segment_bytes : (b : List ℕ) (s : Segment) (k : ℕ) → IsFilled b s → k < s.range.len → slice_index (segment_bytes b s) k ≡ segment_byte b s k
unfolding segment_bytes
slice_index-segment_bytes b s k fits below = byte_by b s k (nat_lt k s.filesz) refl fits below

-- the same, as elements of the list
pub slice_get-segment_bytes : (b : List ℕ) (s : Segment) (k : ℕ) → IsFilled b s → k < s.range.len → slice_get (segment_bytes b s) k ≡ Some (segment_byte b s k)
slice_get-segment_bytes b s k fits below =
    slice_get-get_or (segment_bytes b s) k 0 (rw (length-segment_bytes b s fits) below)
    ∙ ap (λ x. Some x) (slice_index-segment_bytes b s k fits below)

-- an element of the first of two lists
slice_get-append_left : (xs ys : List ℕ) (k : ℕ) → k < length xs → slice_get (xs ++ ys) k ≡ slice_get xs k
slice_get-append_left xs ys k below =
    slice_get-get_or (xs ++ ys) k 0 (simp length-append (omega arith))
    ∙ ap (λ x. Some x) (get_or_append_left xs ys 0 k below) ∙ sym (slice_get-get_or xs k 0 below)

-- an element of the second of two lists
slice_get-append_right : (xs ys : List ℕ) (k j : ℕ) → k ≡ length xs + j → j < length ys → slice_get (xs ++ ys) k ≡ slice_get ys j
slice_get-append_right xs ys k j is below =
    slice_get-get_or (xs ++ ys) k 0 (simp length-append (omega arith))
    ∙ ap (λ x. Some x) (ap (λ n. get_or (xs ++ ys) n 0) is ∙ get_or-append-add xs ys j 0) ∙ sym (slice_get-get_or ys j 0 below)

-- an address of a range, as two bounds
pub within_bounds : (lo len a : ℕ) → within lo len a ≡ true → (lo ≤ a) × (a < lo + len)
within_bounds lo len a inside = (grind (arith, nat_tests), grind (arith, nat_tests))

-- two bounds as a test of a range
pub within-bounds : (lo len a : ℕ) → lo ≤ a → a < lo + len → within lo len a ≡ true
within-bounds lo len a above below = grind (arith, nat_tests)

-- an address of two ranges that touch lies in one of them
joined_code : (lo : ℕ) (bytes : List ℕ) (r : Run) (rest : Option ℕ) (a : ℕ) (t u : Bool) → lo + length bytes ≡ r.lo
    → within lo (length bytes) a ≡ t → within r.lo (length r.bytes) a ≡ u
    → (if within lo (length (bytes ++ r.bytes)) a then slice_get (bytes ++ r.bytes) (a - lo) else rest)
    ≡ (if t then slice_get bytes (a - lo) else if u then slice_get r.bytes (a - r.lo) else rest)
joined_code lo bytes r rest a true u touch inside second =
    let bounds = within_bounds lo (length bytes) a inside in
    let whole : within lo (length (bytes ++ r.bytes)) a ≡ true =
    within-bounds lo (length (bytes ++ r.bytes)) a bounds.0 (simp length-append (omega arith)) in
    rw whole (slice_get-append_left bytes r.bytes (a - lo) (omega arith))
joined_code lo bytes r rest a false true touch outside inside =
    let bounds = within_bounds r.lo (length r.bytes) a inside in
    let whole : within lo (length (bytes ++ r.bytes)) a ≡ true =
    within-bounds lo (length (bytes ++ r.bytes)) a (omega arith) (simp length-append (omega arith)) in
    rw whole (slice_get-append_right bytes r.bytes (a - lo) (a - r.lo) (omega arith) (omega arith))
joined_code lo bytes r rest a false false touch outside second =
    let whole : within lo (length (bytes ++ r.bytes)) a ≡ false =
    let sum = length-append bytes r.bytes in
    grind (arith, nat_tests) in
    rw whole refl

-- a range in front of runs has its own bytes, and leaves theirs
join_by : (lo : ℕ) (bytes : List ℕ) (r : Run) (rs : List Run) (a : ℕ) (t : Bool) → (lo + length bytes == r.lo) ≡ t
    → code_of (if t then record { lo = lo; bytes = bytes ++ r.bytes } ∷ rs else record { lo = lo; bytes = bytes } ∷ r ∷ rs) a
    ≡ (if within lo (length bytes) a then slice_get bytes (a - lo) else code_of (r ∷ rs) a)
join_by lo bytes r rs a true touch =
    joined_code lo bytes r (code_of rs a) a (within lo (length bytes) a) (within r.lo (length r.bytes) a) (grind (arith, nat_tests)) refl refl
join_by lo bytes r rs a false touch = refl

-- the same, for any runs
pub code_of-join_run : (lo : ℕ) (bytes : List ℕ) (rs : List Run) (a : ℕ)
    → code_of (join_run lo bytes rs) a ≡ (if within lo (length bytes) a then slice_get bytes (a - lo) else code_of rs a)
code_of-join_run lo bytes [] a = refl
code_of-join_run lo bytes (r ∷ rs) a = join_by lo bytes r rs a (lo + length bytes == r.lo) refl

-- runs that stand apart from an address on have no byte below it
pub code_of-below : (from : ℕ) (rs : List Run) (a : ℕ) → AreApart from rs → a < from → code_of rs a ≡ None
code_of-below from [] a apart below = refl
code_of-below from (r ∷ rs) a apart below =
    let above = apart.0 in
    let outside : within r.lo (length r.bytes) a ≡ false = grind (arith, nat_tests) in
    rw outside (code_of-below (r.lo + length r.bytes + 1) rs a apart.3 (omega arith))

-- they stand apart from any address before it on
pub AreApart-below : (from next : ℕ) (rs : List Run) → from ≤ next → AreApart next rs → AreApart from rs
AreApart-below from next [] le apart = tt
AreApart-below from next (r ∷ rs) le apart =
    let above = apart.0 in
    (omega arith, apart.1, apart.2, apart.3)

-- a range in front of runs that stand apart
apart_by : (from lo : ℕ) (bytes : List ℕ) (r : Run) (rs : List Run) (t : Bool) → (lo + length bytes == r.lo) ≡ t
    → from ≤ lo → 0 < length bytes → lo + length bytes ≤ 0xFFFFF000 → AreApart (lo + length bytes) (r ∷ rs)
    → AreApart from (if t then record { lo = lo; bytes = bytes ++ r.bytes } ∷ rs else record { lo = lo; bytes = bytes } ∷ r ∷ rs)
apart_by from lo bytes r rs true touch above some low apart =
    let at : lo + length bytes ≡ r.lo = grind (arith, nat_tests) in
    let sum : length (bytes ++ r.bytes) ≡ length bytes + length r.bytes = length-append bytes r.bytes in
    let end = apart.2 in
    let next : r.lo + length r.bytes + 1 ≡ lo + length (bytes ++ r.bytes) + 1 = omega arith in
    (above, omega arith, omega arith, subst (λ (n : ℕ). AreApart n rs) next apart.3)
apart_by from lo bytes r rs false touch above some low apart =
    let after = apart.0 in
    let gap : lo + length bytes + 1 ≤ r.lo = grind (arith, nat_tests) in
    (above, some, low, (gap, apart.1, apart.2, apart.3))

-- the same, for any runs
pub AreSpread-apart : (from : ℕ) (rs : List Run) → AreApart from rs → AreSpread from rs
AreSpread-apart from [] apart = tt
AreSpread-apart from (r ∷ rs) apart = (apart.0, apart.2, AreSpread-apart (r.lo + length r.bytes + 1) rs apart.3)

pub AreApart-join_run : (from lo : ℕ) (bytes : List ℕ) (rs : List Run) → from ≤ lo → 0 < length bytes → lo + length bytes ≤ 0xFFFFF000
    → AreApart (lo + length bytes) rs → AreApart from (join_run lo bytes rs)
AreApart-join_run from lo bytes [] above some low apart = (above, some, low, tt)
AreApart-join_run from lo bytes (r ∷ rs) above some low apart =
    apart_by from lo bytes r rs (lo + length bytes == r.lo) refl above some low apart

-- a placed segment in front of runs that stand apart
placed_by : (b : List ℕ) (from : ℕ) (s : Segment) (rs : List Run) (t : Bool) → IsPlaced b from s → AreApart (s.range.lo + s.range.len) rs
    → AreApart from (if t then join_run s.range.lo (segment_bytes b s) rs else rs)
placed_by b from s rs true placed apart =
    let len = length-segment_bytes b s placed.bytes in
    let some = placed.some in
    let low = placed.low in
    AreApart-join_run from s.range.lo (segment_bytes b s) rs placed.above (omega arith) (omega arith) (rw len apart)
placed_by b from s rs false placed apart =
    let above = placed.above in
    AreApart-below from (s.range.lo + s.range.len) rs (omega arith) apart

-- the runs of placed segments stand apart
pub AreApart-runs_in : (b : List ℕ) (from : ℕ) (ss : List Segment) → ArePlaced b from ss → AreApart from (runs_in b ss)
AreApart-runs_in b from [] placed = tt
AreApart-runs_in b from (s ∷ ss) placed =
    placed_by b from s (runs_in b ss) s.exec placed.0 (AreApart-runs_in b (s.range.lo + s.range.len) ss placed.1)

-- the executable byte of a segment in front of others
exec_by : (b : List ℕ) (from : ℕ) (s : Segment) (rest : Option Cell) (rs : List Run) (a : ℕ) (e t : Bool) → IsPlaced b from s
    → s.exec ≡ e → within s.range.lo s.range.len a ≡ t → AreApart (s.range.lo + s.range.len) rs → exec_byte_of rest ≡ code_of rs a
    → exec_byte_of (first_of (if t then Some (record { byte = segment_byte b s (a - s.range.lo); write = s.write; exec = e }) else None) rest)
    ≡ code_of (if e then join_run s.range.lo (segment_bytes b s) rs else rs) a
exec_by b from s rest rs a true true placed is inside apart same =
    let bounds = within_bounds s.range.lo s.range.len a inside in
    sym (code_of-join_run s.range.lo (segment_bytes b s) rs a
    ∙ rw (length-segment_bytes b s placed.bytes, inside) (slice_get-segment_bytes b s (a - s.range.lo) placed.bytes (omega arith)))
exec_by b from s rest rs a true false placed is outside apart same =
    same ∙ sym (code_of-join_run s.range.lo (segment_bytes b s) rs a ∙ rw (length-segment_bytes b s placed.bytes, outside) refl)
exec_by b from s rest rs a false true placed is inside apart same =
    let bounds = within_bounds s.range.lo s.range.len a inside in
    sym (code_of-below (s.range.lo + s.range.len) rs a apart (bounds.1))
exec_by b from s rest rs a false false placed is outside apart same = same

-- the runs of placed segments have the executable bytes of their memory
pub code_of-runs_in : (b : List ℕ) (from : ℕ) (ss : List Segment) (a : ℕ) → ArePlaced b from ss → exec_byte_of (load_in b ss a) ≡ code_of (runs_in b ss) a
unfolding segment_cell
code_of-runs_in b from [] a placed = refl
code_of-runs_in b from (s ∷ ss) a placed =
    exec_by b from s (load_in b ss a) (runs_in b ss) a s.exec (within s.range.lo s.range.len a) placed.0 refl refl
    (AreApart-runs_in b (s.range.lo + s.range.len) ss placed.1) (code_of-runs_in b (s.range.lo + s.range.len) ss a placed.1)

-- the runs of a file with no fault have the executable bytes of its memory
pub code_of-runs_of : (b : List ℕ) → load_refusal b ≡ None → (a : ℕ) → exec_byte (load b) a ≡ code_of (runs_of b) a
unfolding load runs_of
code_of-runs_of b whole a = code_of-runs_in b 0 (segments b) a (ArePlaced-whole b whole)

-- they stand apart
pub AreApart-runs_of : (b : List ℕ) → load_refusal b ≡ None → AreApart 0 (runs_of b)
unfolding runs_of
AreApart-runs_of b whole = AreApart-runs_in b 0 (segments b) (ArePlaced-whole b whole)

-- the two laws of the runs
pub ruleset run_laws = (code_of-runs_of, AreApart-runs_of)
