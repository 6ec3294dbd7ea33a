-- What the run of an output is followed by: of its pieces, only the law that each site has. This project's own.
use Rattle.std.specs.Prelude.{◌≡◌, ℕ, List, Some, None}
use Rattle.elf32_read.specs.Fields.{entry_at}
use Rattle.elf32_write.specs.Frame.{Frame, frame_map}
use Rattle.superset.specs.declared.site.Site.{Site}
use Rattle.simulation_laws.specs.Code.{site_at, code_in}
use Rattle.simulation_laws.specs.Relocated.{IsOutput}
use Rattle.simulation_laws.specs.Stepping.{SiteLaw}

-- the output loads over its input, begins at the mapped entry, each site has its law, and any other address goes to itself
pub record IsCarried (b x : List ℕ) (f : Frame) : Type 0 where
  pub output : IsOutput b x f
  pub entry : entry_at x ≡ frame_map f (entry_at b)
  pub laws : (a : ℕ) (s : Site) → site_at (code_in b) a ≡ Some s → SiteLaw b x f s
  pub others : (a : ℕ) → site_at (code_in b) a ≡ None → frame_map f a ≡ a
