use Rattle.std.proofs.Common.{◌≡◌, ◌<◌, ℕ, length, map, take}
use Rattle.std.specs.Prelude.{slice_index}
use Rattle.image_layout.specs.Rules.{both}
use Rattle.image_layout.specs.Pieces.{listed, rank, code_lens}
use Rattle.image_layout.specs.laws.SiteFacts.{site_address}
use Rattle.image_layout.proofs.places.measure.Given as goal

abbrev pub invariant-loop-site : goal.invariant-loop-site
invariant-loop-site g l = record {
  addresses : l.addresses.items ≡ map site_address (take l.site-index l.sites);
  lens : l.lens.items ≡ code_lens (both l.hooks l.edges) (take l.site-index l.sites);
  many : length l.ranks.items ≡ l.site-index;
  ranks : (k : ℕ) → k < l.site-index → slice_index l.ranks.items k ≡ rank (both l.hooks l.edges) l.sites k;
  counted : l.counted.items ≡ listed (both l.hooks l.edges) (take l.site-index l.sites);
}
