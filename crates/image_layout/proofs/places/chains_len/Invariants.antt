use Rattle.std.proofs.Common.{◌≡◌, ◌+◌, length, drop}
use Rattle.image_layout.specs.Parts.{parts, parts_len}
use Rattle.image_layout.specs.Sites.{AreBelow}
use Rattle.image_layout.proofs.places.chains_len.Given as goal

abbrev pub invariant-loop-number : goal.invariant-loop-number
invariant-loop-number l = record {
  whole : l.len + parts_len l.lens (parts (drop l.number l.chains)) ≡ parts_len l.lens (parts l.chains);
  below : AreBelow (length l.lens) (drop l.number l.chains);
}
