use Rattle.std.proofs.Common.{◌≡◌}
use Rattle.mv_base.specs.Effects.{UnmapAt, applied}
use Rattle.proc_image.specs.Paged.{cells}
use Rattle.proc_image.proofs.memory.Memory.unmap.Given as goal

abbrev pub invariant-loop-place : goal.invariant-loop-place
invariant-loop-place l = cells l.self ≡ applied (cells l.initial.self) (UnmapAt l.lo l.place)
