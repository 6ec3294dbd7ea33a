-- What an output is to its input before anything runs: how it loads, and what stands where. This project's own.
use Rattle.std.specs.Prelude.{◌≡◌, ℕ, ◌+◌, ◌^◌, ◌<◌, ◌≤◌, ◌⊎◌, Bool, true, false, List, length, Option, Some, None, slice_index}
use Rattle.std.specs.List.{AllByRecursion}
use Rattle.std.specs.Option.{option_map}
use Rattle.mv_base.specs.Bytes.{AreBytes}
use Rattle.mv_base.specs.Memory.{Cell, byte_of, exec_byte, is_writable, is_executable}
use Rattle.elf32_read.specs.Fields.{entry_at}
use Rattle.elf32_read.specs.Faults.{load_refusal}
use Rattle.elf32_read.specs.Load.{load}
use Rattle.elf32_write.specs.Frame.{Frame, frame, frame_table, frame_code, frame_map, is_added, is_private, counted, AscendPairs}
use Rattle.lookup_stub.specs.Stub.{stub}
use Rattle.lookup_stub.specs.Finding.{IsPlaced}
use Rattle.counter_hooks.specs.Rules.{is_branch}
use Rattle.superset.specs.declared.site.Site.{Site}
use Rattle.simulation_laws.specs.declared.anchors.Anchors.{Anchors}
use Rattle.simulation_laws.specs.declared.anchors.Ways.{Ways}
use Rattle.simulation_laws.specs.Code.{site_at, code_in}
use Rattle.simulation_laws.specs.Pieces.{piece_with, successor, counter_in, counter_code, ways_by}
use Rattle.step_laws.specs.Jumps.{jump_bytes}
use Rattle.x86_insn.specs.Flow.{flow_of, falls}

-- a cell that may not be executed
abbrev pub idle_cell : Cell → Cell
idle_cell c = record c { exec = false }

abbrev pub without_exec : Option Cell → Option Cell
without_exec c = option_map idle_cell c

-- these bytes stand from an address on in the added range but not in its private area, and may be executed and not written
pub record StandAt (x : List ℕ) (f : Frame) (at : ℕ) (bytes : List ℕ) : Type 0 where
  pub byte : (k : ℕ) → k < length bytes → exec_byte (load x) (at + k) ≡ Some (slice_index bytes k)
  pub fixed : (k : ℕ) → k < length bytes → is_writable (load x) (at + k) ≡ false
  pub added : (k : ℕ) → k < length bytes → is_added f (at + k) ≡ true
  pub public : (k : ℕ) → k < length bytes → is_private f (at + k) ≡ false

-- where the stub, with which the code begins, and the private area are
abbrev pub anchors_of : Frame → Anchors
anchors_of f = record { stub = f.code.lo; private = f.private }

-- where the counter of a kind at an address is
abbrev pub kind_of : Frame → ℕ → ℕ → Option ℕ
kind_of f kind a = counter_in f.first_counter (counted f) kind a

-- that of all executions there, and those of a branch or a loop that is taken, and that is passed
abbrev pub counter_of : Frame → ℕ → Option ℕ
counter_of f a = kind_of f 0 a

abbrev pub ways_of : Frame → ℕ → Option Ways
ways_of f a = ways_by (kind_of f 1 a) (kind_of f 2 a)

-- both ways are counted or neither, and where they are the instruction is a branch or a loop
abbrev pub ways_fit : Option ℕ → Option ℕ → Bool → Bool
ways_fit None None branches = true
ways_fit (Some taken) (Some passed) branches = branches
ways_fit (Some taken) None branches = false
ways_fit None (Some passed) branches = false

abbrev pub fits_ways : Frame → Site → Bool
fits_ways f s = ways_fit (kind_of f 1 s.at) (kind_of f 2 s.at) (is_branch (flow_of s.insn))

-- the counter of a site, if it has one, to stand where the frame maps the site
abbrev pub counter_there : Frame → Site → List ℕ
counter_there f s = counter_code (anchors_of f) (counter_of f s.at)

-- and behind it the site's piece
abbrev pub piece_place : Frame → Site → ℕ
piece_place f s = frame_map f s.at + length (counter_there f s)

abbrev pub piece_there : List ℕ → Frame → Site → List ℕ
piece_there b f s = piece_with (anchors_of f) (frame_map f) (code_in b) (ways_of f s.at) (piece_place f s) s

-- a place behind the piece of a site: where the instruction may go on, it is the successor's entry, or a join leads there
abbrev pub LeadsOn : List ℕ → Frame → ℕ → Site → Type 0
LeadsOn x f here s =
    falls (flow_of s.insn) ≡ true → (frame_map f (successor s) ≡ here) ⊎ StandAt x f here (jump_bytes here (frame_map f (successor s)))

-- the site's ways are counted both or neither, and only a branch's or a loop's; and where the frame maps the site its
-- counter stands, if it has one, then its piece, and behind it what leads on
pub record PieceAt (b x : List ℕ) (f : Frame) (s : Site) : Type 0 where
  pub ways : fits_ways f s ≡ true
  pub counts : StandAt x f (frame_map f s.at) (counter_there f s)
  pub stands : StandAt x f (piece_place f s) (piece_there b f s)
  pub leads : LeadsOn x f (piece_place f s + length (piece_there b f s)) s

-- an output loads as an image with a frame over its input: its block's parts, and around them the input's memory
pub record IsOutput (b x : List ℕ) (f : Frame) : Type 0 where
  -- the output is an image with this frame, whose block ends at most at 0xB0000000
  pub admitted : load_refusal x ≡ None
  pub framed : frame x ≡ Some f
  pub low : f.added.lo + f.added.len ≤ 0xB0000000
  -- the files are bytes
  pub bytes : AreBytes b
  pub bytes_there : AreBytes x
  -- outside the added range: the input's memory without execute marks, and the input maps nothing in it
  pub outside : (a : ℕ) → is_added f a ≡ false → load x a ≡ without_exec (load b a)
  pub free : (a : ℕ) → is_added f a ≡ true → load b a ≡ None
  -- in the added range the private area and the counters may be written, nothing else may, and they are 0 and not executable
  pub scratch : (a : ℕ) → is_private f a ≡ true → (is_added f a ≡ true) × (is_writable (load x) a ≡ true)
  pub fixed : (a : ℕ) → is_added f a ≡ true → is_private f a ≡ false → is_writable (load x) a ≡ false
  pub idle : (a : ℕ) → is_private f a ≡ true → is_executable (load x) a ≡ false
  pub zeros : (a : ℕ) → is_private f a ≡ true → byte_of (load x a) ≡ 0
  -- the code begins with the stub of the frame's form and runs
  pub stub : StandAt x f f.code.lo (stub f.form f.runs f.private)
  -- the table's bytes can be read at their addresses, which are added and not private
  pub table_added : (k : ℕ) → k < length (frame_table f) → (is_added f (f.table.lo + k) ≡ true) × (is_private f (f.table.lo + k) ≡ false)
  pub table_bytes : AreBytes (frame_table f)
  pub table_holds : (k : ℕ) → k < length (frame_table f) → option_map (λ c. c.byte) (load x (f.table.lo + k)) ≡ Some (slice_index (frame_table f) k)
  pub table_low : f.table.lo + length (frame_table f) < 2 ^ 32
  -- each run lies below 2^32, and the words that a lookup of it reads lie in the table
  pub placed : AllByRecursion (IsPlaced f.form (frame_table f) f.table.lo) f.runs
  -- the input's code cannot be written
  pub unwritable : (a : ℕ) → is_executable (load b) a ≡ true → is_writable (load b) a ≡ false
  -- the frame's code may be executed
  pub code : (k : ℕ) → k < length (frame_code f) → exec_byte (load x) (f.code.lo + k) ≡ Some (slice_index (frame_code f) k)
  -- addresses are mapped to addresses
  pub mapped : (a : ℕ) → a < 2 ^ 32 → frame_map f a < 2 ^ 32

-- and it starts where the input's entry is mapped, counts each address once in a kind, has each site's piece where the site
-- is mapped, and maps any other address to itself
pub record IsRelocated (b x : List ℕ) (f : Frame) : Type 0 where
  pub output : IsOutput b x f
  pub entry : entry_at x ≡ frame_map f (entry_at b)
  pub ascends : AscendPairs (counted f)
  pub pieces : (a : ℕ) (s : Site) → site_at (code_in b) a ≡ Some s → PieceAt b x f s
  pub others : (a : ℕ) → site_at (code_in b) a ≡ None → frame_map f a ≡ a
