use Rattle.std.proofs.Common.{◌≡◌, take}
use Rattle.map_table.specs.Paged.{places}
use Rattle.image_layout.proofs.layout.run_places.Given as goal

abbrev pub invariant-loop-index : goal.invariant-loop-index
invariant-loop-index l = l.places.items ≡ take l.index (places l.runs l._lo)
