-- What stands in the code of a frame. This project's own.
use Rattle.std.specs.Prelude.{◌≡◌, ℕ, ◌+◌, ◌-◌, ◌≤◌, Bool, ◌&&◌, List, [], ◌∷◌, ◌++◌, length, drop, Option, is_none, nat_le, ◌==◌, not, if◌then◌else◌}
use Rattle.x86_insn.specs.Flow.{flow_of, falls}
use Rattle.step_laws.specs.Jumps.{jump_bytes}
use Rattle.elf32_read.specs.declared.run.Run.{Run}
use Rattle.elf32_read.specs.Runs.{code_of}
use Rattle.elf32_write.specs.Frame.{Frame, frame_code, frame_entry, frame_map}
use Rattle.lookup_stub.specs.Stub.{stub}
use Rattle.superset.specs.declared.site.Site.{Site}
use Rattle.superset.specs.Targets.{successor}
use Rattle.simulation_laws.specs.declared.front.Difference.{Difference}
use Rattle.simulation_laws.specs.Code.{code_in}
use Rattle.simulation_laws.specs.Front.{difference}
use Rattle.simulation_laws.specs.Pieces.{piece_with}
use Rattle.simulation_laws.specs.Relocated.{anchors_of, counter_there, fits_ways, piece_place, ways_of}

-- the frame's code from an address on: nothing where that lies outside it
abbrev pub code_from : Frame → ℕ → List ℕ
code_from f at = if nat_le f.code.lo at then drop (at - f.code.lo) (frame_code f) else []

-- where the code first doesn't begin with the lookup stub of the frame's form and runs, counted from the code's first byte
abbrev pub stub_difference : Frame → Option Difference
stub_difference f = difference 0 (stub f.form f.runs f.private) (frame_code f)

-- an address has an entry, and this is it
abbrev pub is_entry : Frame → ℕ → ℕ → Bool
is_entry f a here = not (frame_entry f a == 0) && frame_entry f a == here

-- what leads on from behind a piece: nothing where the instruction doesn't go on, or its successor's entry is there; else a
-- join to where the successor is
abbrev pub way_there : Frame → ℕ → Site → List ℕ
way_there f here s = if falls (flow_of s.insn) && not (is_entry f (successor s) here) then jump_bytes here (frame_map f (successor s)) else []

-- the piece of a site over these executable bytes, behind the site's counter
abbrev pub piece_over : Frame → (ℕ → Option ℕ) → Site → List ℕ
piece_over f code s = piece_with (anchors_of f) (frame_map f) code (ways_of f s.at) (piece_place f s) s

-- what is to stand where the frame maps a site: its counter, if it has one, its piece, and what leads on behind it
abbrev pub site_code : Frame → (ℕ → Option ℕ) → Site → List ℕ
site_code f code s = counter_there f s ++ (piece_over f code s ++ way_there f (piece_place f s + length (piece_over f code s)) s)

-- where the frame's code first differs from that, counted from where the frame maps the site
abbrev pub piece_difference : Frame → (ℕ → Option ℕ) → Site → Option Difference
piece_difference f code s = difference 0 (site_code f code s) (code_from f (frame_map f s.at))

-- the site's ways are counted both or neither, and only a branch's or a loop's, and all of its code stands
abbrev pub has_piece : Frame → (ℕ → Option ℕ) → Site → Bool
has_piece f code s = fits_ways f s && is_none (piece_difference f code s)

-- the input's code is that of a run on the run's addresses, and ends behind them
abbrev pub HasRun : List ℕ → Run → Type 0
HasRun b r = (a : ℕ) → r.lo ≤ a → a ≤ r.lo + length r.bytes → code_in b a ≡ code_of (r ∷ []) a
