use Rattle.std.proofs.Common.{◌≡◌, take}
use Rattle.std.specs.Prelude.{slice_index}
use Rattle.image_layout.specs.Layout.{pairs_by}
use Rattle.image_layout.proofs.places.pairs.Given as goal

abbrev pub invariant-loop-index : goal.invariant-loop-index
invariant-loop-index l = l.pairs.items ≡ take l.index (pairs_by (λ k. slice_index l.entries k) 0 l._sites)
