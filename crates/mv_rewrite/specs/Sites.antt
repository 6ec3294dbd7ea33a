-- The sites of a file. This project's own.
use Rattle.std.specs.Prelude.{ℕ, List}
use Rattle.elf32_read.specs.Runs.{runs_of}
use Rattle.superset.specs.declared.site.Site.{Site}
pub use Rattle.superset.specs.Sites.{sites_in}
pub use Rattle.simulation_laws.specs.Code.{code_in, site_at}

-- the sites of a file, ascending
unfoldable pub sites : List ℕ → List Site
sites b = sites_in (code_in b) (runs_of b)
