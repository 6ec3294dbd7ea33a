-- The bytes of a site's piece, of either kind. This project's own.
use Rattle.std.specs.Prelude.{ℕ, List}
use Rattle.simulation_laws.specs.declared.site_pieces.SitePiece.{SitePiece}
use Rattle.simulation_laws.specs.declared.site_pieces.SitePiece.TheVariants.{Plain, Edges}

abbrev pub bytes_in : SitePiece → List ℕ
bytes_in (Plain bytes) = bytes
bytes_in (Edges bytes) = bytes
