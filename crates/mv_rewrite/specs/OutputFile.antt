-- What the file that is written for an input and rules of what is counted is: its frame, its parts, and how they
-- load. This project's own.
use Rattle.std.specs.Prelude.{◌≡◌, ℕ, ◌+◌, ◌<◌, true, false, List, Some, None, slice_index}
use Rattle.mv_base.specs.Memory.{within}
use Rattle.elf32_read.specs.Fields.{entry_at}
use Rattle.elf32_read.specs.Faults.{load_refusal}
use Rattle.elf32_read.specs.Load.{load}
use Rattle.elf32_read.specs.Runs.{runs_of}
use Rattle.elf32_write.specs.Frame.{Frame, frame, frame_input, frame_code, frame_table, frame_entry, frame_map, is_added, is_private, counted, AscendPairs}
use Rattle.map_table.specs.Pairs.{entry_in}
use Rattle.map_table.specs.Paged.{places}
use Rattle.counter_hooks.specs.Rules.{number_of}
use Rattle.edge_hooks.specs.Rules as edges
use Rattle.image_layout.specs.Rules.{Rules}
use Rattle.superset.specs.declared.site.Site.{Site}
use Rattle.mv_rewrite.specs.Sites.{site_at, code_in, sites}
use Rattle.mv_rewrite.specs.Layout.{moved, size, base_of, chains, listed_at, pairs_at, code}
use Rattle.simulation_laws.specs.Relocated.{PieceAt, without_exec, anchors_of}

-- the file for an input, with its frame
pub record IsWrittenFor (b : List ℕ) (rules : Rules) (x : List ℕ) (f : Frame) : Type 0 where
  -- it is an image with this frame, and the input stands in it whole
  pub admitted : load_refusal x ≡ None
  pub framed : frame x ≡ Some f
  pub input_is : frame_input f ≡ b
  -- it adds the block of the input's size at the lowest place that has room
  pub base : base_of b rules ≡ Some f.added.lo
  pub size_is : f.added.len ≡ size b rules
  -- it counts exactly what the rules pick, each once: its list has the addresses of sites with kind 0, and those of branches
  -- and loops with kinds 1 and 2, ascending
  pub counted_are : counted f ≡ listed_at b rules
  pub ascends : AscendPairs (counted f)
  -- its record is of version 2, and names both rules
  pub version : f.version ≡ 2
  pub rule_is : f.rule ≡ number_of rules.all
  pub edge_rule_is : f.edge_rule ≡ edges.number_of rules.ways
  -- it has a table of form 2 over the input's runs
  pub form : f.form ≡ 2
  pub runs : f.runs ≡ places (runs_of b) f.table.lo
  -- its code is the stub of these runs, and behind it the chains of the input's sites with their counters, one behind the other
  pub code_is : frame_code f ≡ code rules (anchors_of f) (frame_map f) (code_in b) f.runs (sites b) (chains b)
  -- its table has the place of each site's piece, which isn't 0 and lies in the code; no two sites have one place, and there is
  -- no entry at any other address; so it maps each site to its piece, and any other address to itself
  pub entries : (a : ℕ) → frame_entry f a ≡ entry_in (pairs_at b rules f.code.lo) a
  pub none : (a : ℕ) → site_at (code_in b) a ≡ None → frame_entry f a ≡ 0
  pub inside : (a : ℕ) (s : Site) → site_at (code_in b) a ≡ Some s → (0 < frame_entry f a) × (within f.code.lo f.code.len (frame_entry f a) ≡ true)
  pub differ : (a c : ℕ) (s q : Site) → site_at (code_in b) a ≡ Some s → site_at (code_in b) c ≡ Some q → frame_entry f a ≡ frame_entry f c → a ≡ c
  pub maps : (a : ℕ) → frame_map f a ≡ moved (pairs_at b rules f.code.lo) a
  -- at each site's entry stands the site's counter, if it is counted, then its piece, and behind it the successor's entry or a join
  -- to it
  pub pieces : (a : ℕ) (s : Site) → site_at (code_in b) a ≡ Some s → PieceAt b x f s
  -- it starts where the input's entry is mapped
  pub entry : entry_at x ≡ frame_map f (entry_at b)
  -- outside the added range: the input's memory without execute marks, and the input maps nothing in it
  pub outside : (a : ℕ) → is_added f a ≡ false → load x a ≡ without_exec (load b a)
  pub free : (a : ℕ) → is_added f a ≡ true → load b a ≡ None
  -- the code may be executed and not written
  pub code : (k : ℕ) → k < f.code.len → load x (f.code.lo + k) ≡ Some (record { byte = slice_index (frame_code f) k; write = false; exec = true })
  -- the table with the list of counters may only be read
  pub table : (k : ℕ) → k < f.table.len → load x (f.table.lo + k) ≡ Some (record { byte = slice_index (frame_table f) k; write = false; exec = false })
  -- the private area and the counters are zeros that may be written and not executed
  pub private : (a : ℕ) → is_private f a ≡ true → load x a ≡ Some (record { byte = 0; write = true; exec = false })
  -- the rest of the added range is not mapped
  pub nothing :
      (a : ℕ) → is_added f a ≡ true → within f.code.lo f.code.len a ≡ false → within f.table.lo f.table.len a ≡ false
      → is_private f a ≡ false → load x a ≡ None
