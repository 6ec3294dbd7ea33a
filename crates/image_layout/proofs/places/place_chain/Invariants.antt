use Rattle.std.proofs.Common.{◌≡◌, ◌+◌, ℕ, drop}
use Rattle.std.specs.Prelude.{slice_index}
use Rattle.image_layout.specs.Parts.{link_parts, parts_len, placed, place_or}
use Rattle.image_layout.proofs.places.place_chain.Given as goal

abbrev pub invariant-loop-link : goal.invariant-loop-link
invariant-loop-link l = record {
  end : l.here + parts_len l.lens (link_parts (drop l.link-index l.link-items) l.chain.next) ≡ l.from + parts_len l.lens (link_parts l.link-items l.chain.next);
  are : (k : ℕ) → place_or (slice_index l.entries k) (placed l.lens l.here (link_parts (drop l.link-index l.link-items) l.chain.next)) k ≡ place_or (slice_index l.fn.entries k) (placed l.lens l.from (link_parts l.link-items l.chain.next)) k;
}
