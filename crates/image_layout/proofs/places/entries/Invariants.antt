use Rattle.std.proofs.Common.{◌≡◌, ◌+◌, ℕ, length, drop}
use Rattle.std.specs.Prelude.{slice_index}
use Rattle.image_layout.specs.Parts.{parts, parts_len, placed, place_or, entry}
use Rattle.image_layout.specs.Sites.{AreBelow}
use Rattle.image_layout.proofs.places.entries.Given as goal

abbrev pub invariant-loop-number : goal.invariant-loop-number
invariant-loop-number l = record {
  end : l.here + parts_len l.lens (parts (drop l.number l.chains)) ≡ l.first + parts_len l.lens (parts l.chains);
  are : (k : ℕ) → place_or (slice_index l.entries.items k) (placed l.lens l.here (parts (drop l.number l.chains))) k ≡ entry l.lens l.first (parts l.chains) k;
  count : length l.entries.items ≡ length l.lens;
  below : AreBelow (length l.lens) (drop l.number l.chains);
}
