-- What is known of sites before they have places. This project's own.
use Rattle.std.specs.Prelude.{◌≡◌, ℕ, ◌<◌, List, length, map, slice_index}
use Rattle.image_layout.specs.Rules.{Rules}
use Rattle.superset.specs.declared.site.Site.{Site}
use Rattle.image_layout.specs.declared.places.Measured.{Measured}
use Rattle.image_layout.specs.Pieces.{listed, rank, code_lens}

-- for each site, how many counters stand before its own
pub record AreRanks (rules : Rules) (ss : List Site) (ranks : List ℕ) : Type 0 where
  pub count : length ranks ≡ length ss
  pub are : (k : ℕ) → k < length ss → slice_index ranks k ≡ rank rules ss k

-- the addresses of the sites, the lengths of their code, their ranks, and their counters
pub record IsMeasured (rules : Rules) (ss : List Site) (m : Measured) : Type 0 where
  pub addresses : m.addresses ≡ map (λ s. s.at) ss
  pub lens : m.lens ≡ code_lens rules ss
  pub ranks : AreRanks rules ss m.ranks
  pub counted : m.counted ≡ listed rules ss
