-- Where a file with a frame differs from what a rewriting of an input can be, part by part in one order. This project's own.
use Rattle.std.specs.Prelude.{ℕ, ◌+◌, ◌-◌, ◌*◌, ◌/◌, max, Bool, true, false, ◌&&◌, ◌||◌, ◌==◌, List, [], ◌∷◌, length, Option, Some, None, is_some, nat_lt, if◌then◌else◌}
use Rattle.std.specs.List.{flat_map}
use Rattle.std.specs.Option.{option_map, option_or}
use Rattle.mv_base.specs.Memory.{within}
use Rattle.mv_base.specs.declared.range.RunPlace.{RunPlace}
use Rattle.elf32_read.specs.declared.image.Segment.{Segment}
use Rattle.elf32_read.specs.declared.run.Run.{Run}
use Rattle.elf32_read.specs.Fields.{entry_at, segments}
use Rattle.elf32_read.specs.Runs.{runs_of}
use Rattle.elf32_write.specs.File.{file_of}
use Rattle.elf32_write.specs.Plans.{plan_of}
use Rattle.elf32_write.specs.Frame.{Frame, frame_entry, counted}
use Rattle.x86_insn.specs.Flow.{flow_of}
use Rattle.counter_hooks.specs.Rules.{is_branch}
use Rattle.superset.specs.declared.site.Site.{Site}
use Rattle.superset.specs.Sites.{addresses}
use Rattle.simulation_laws.specs.declared.front.Difference.{Difference}
use Rattle.simulation_laws.specs.Code.{code_in, site_at}
use Rattle.simulation_laws.specs.Front.{difference}
use Rattle.simulation_laws.specs.Relocated.{kind_of}
use Rattle.simulation_laws.specs.Standing.{piece_difference, stub_difference}
use Rattle.image_layout.specs.Fit.{is_apart}
use Rattle.pair_check.specs.declared.differs.Differs.{Differs}
use Rattle.pair_check.specs.declared.differs.Part.{Part}
use Rattle.pair_check.specs.declared.differs.Part.TheVariants.{Room, Runs, File, Counted, Stub, Entry, Piece}

abbrev pub differs_at : Part → ℕ → ℕ → ℕ → Option Differs
differs_at part at kept found = Some (record { part = part; at = at; kept = kept; found = found })

-- a difference of lists, at its place
abbrev pub placed_at : Part → Option Difference → Option Differs
placed_at part o = option_map (λ d. record { part = part; at = d.place; kept = d.kept; found = d.found }) o

-- ---- Room: the block lies from 0x00100000 on, and shares no page with a segment

-- the pages of the block: its first, and the one behind its last
abbrev pub first_page : Frame → ℕ
first_page f = f.added.lo / 4096

abbrev pub end_page : Frame → ℕ
end_page f = (f.added.lo + f.added.len) / 4096

-- the first segment that shares a page, by the first page that is shared; else a base that is too low
abbrev pub room_differs : Frame → List Segment → Option Differs
room_differs f [] = if nat_lt f.added.lo 0x100000 then differs_at Room f.added.lo f.added.lo 0x100000 else None
room_differs f (s ∷ ss) =
    if is_apart (first_page f) (end_page f) s then room_differs f ss else differs_at Room (4096 * max (first_page f) (s.range.lo / 4096)) f.added.lo s.range.lo

-- ---- Runs: the frame has the input's runs

-- the number of runs, then the address and the length of each
abbrev pub run_numbers : List Run → List ℕ
run_numbers rs = length rs ∷ flat_map (λ r. r.lo ∷ length r.bytes ∷ []) rs

abbrev pub place_numbers : List RunPlace → List ℕ
place_numbers rs = length rs ∷ flat_map (λ r. r.lo ∷ r.len ∷ []) rs

-- an input's run and one of the frame, from a place on
abbrev pub run_differs : ℕ → Run → RunPlace → Option Differs
run_differs at r p =
    if r.lo == p.lo then (if length r.bytes == p.len then None else differs_at Runs (at + 1) (length r.bytes) p.len) else differs_at Runs at r.lo p.lo

abbrev pub runs_differ : List Run → Frame → Option Differs
runs_differ rs f = placed_at Runs (difference 0 (run_numbers rs) (place_numbers f.runs))

-- ---- File: the record is of version 2, and the file is that of the input and the frame's own parts

abbrev pub file_differs : List ℕ → List ℕ → Frame → Option Differs
file_differs b x f =
    if f.version == 1 then differs_at File 0x904 2 1 else placed_at File (difference 0 (file_of b (plan_of (entry_at b) f)) x)

-- ---- Counted: the listed pairs ascend, each is that of a site, and the ways of a branch or a loop are both counted or neither

-- a pair stands behind the one before it, if there is one
abbrev pub is_behind : Option (ℕ × ℕ) → ℕ × ℕ → Bool
is_behind None q = true
is_behind (Some p) q = if p.0 == q.0 then nat_lt p.1 q.1 else nat_lt p.0 q.0

-- the address before it, or 0
abbrev pub last_address : Option (ℕ × ℕ) → ℕ
last_address None = 0
last_address (Some p) = p.0

-- a kind is that of one of the ways that a branch or a loop goes; the kind of the other way
abbrev pub is_way : ℕ → Bool
is_way kind = kind == 1 || kind == 2

abbrev pub other_way : ℕ → ℕ
other_way kind = 3 - kind

-- the whole list has the other way at a pair's address
abbrev pub has_other : Frame → ℕ × ℕ → Bool
has_other f q = is_some (kind_of f (other_way q.1) q.0)

-- what is at a pair's address is a site; and where the pair counts a way, that is a branch or a loop whose other way is
-- counted too
abbrev pub counts_site : Frame → ℕ × ℕ → Option Site → Bool
counts_site f q None = false
counts_site f q (Some s) = if is_way q.1 then is_branch (flow_of s.insn) && has_other f q else true

abbrev pub is_counting : Frame → (ℕ → Option ℕ) → Option (ℕ × ℕ) → ℕ × ℕ → Bool
is_counting f code last q = is_behind last q && counts_site f q (site_at code q.0)

abbrev pub pairs_differ : Frame → (ℕ → Option ℕ) → ℕ → Option (ℕ × ℕ) → List (ℕ × ℕ) → Option Differs
pairs_differ f code k last [] = None
pairs_differ f code k last (q ∷ qs) =
    if is_counting f code last q then pairs_differ f code (k + 1) (Some q) qs else differs_at Counted k (last_address last) q.0

-- ---- Stub: the code begins with the lookup stub

abbrev pub stub_differs : Frame → Option Differs
stub_differs f = option_map (λ d. record { part = Stub; at = f.code.lo + d.place; kept = d.kept; found = d.found }) (stub_difference f)

-- ---- Entry and Piece: each site has its code, and no other address has an entry

-- at an address of the runs that has no site, or this one
abbrev pub site_differs : Frame → (ℕ → Option ℕ) → ℕ → Option Site → Option Differs
site_differs f code a None = if frame_entry f a == 0 then None else differs_at Entry a 0 (frame_entry f a)
site_differs f code a (Some s) =
    if within f.code.lo f.code.len (frame_entry f a)
    then option_map (λ d. record { part = Piece; at = a; kept = d.kept; found = d.found }) (piece_difference f code s)
    else differs_at Entry a f.code.lo (frame_entry f a)

abbrev pub address_differs : Frame → (ℕ → Option ℕ) → ℕ → Option Differs
address_differs f code a = site_differs f code a (site_at code a)

-- the first of what a test finds at numbers, one after the other
abbrev pub first_among : (ℕ → Option Differs) → List ℕ → Option Differs
first_among test [] = None
first_among test (a ∷ rest) = option_or (test a) (first_among test rest)

-- ---- the whole

-- what is wrong first in the parts that the file has once
abbrev pub parts_differ : List ℕ → List ℕ → Frame → Option Differs
parts_differ b x f =
    option_or (room_differs f (segments b))
    (option_or (runs_differ (runs_of b) f)
    (option_or (file_differs b x f)
    (option_or (pairs_differ f (code_in b) 0 None (counted f)) (stub_differs f))))

-- and then at the addresses of the input's runs, going up
abbrev pub sites_differ : (ℕ → Option ℕ) → List Run → Frame → Option Differs
sites_differ code rs f = first_among (address_differs f code) (addresses rs)

-- what is wrong first
abbrev pub differs : List ℕ → List ℕ → Frame → Option Differs
differs b x f = option_or (parts_differ b x f) (sites_differ (code_in b) (runs_of b) f)
