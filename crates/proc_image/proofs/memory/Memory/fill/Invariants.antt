use Rattle.std.proofs.Common.{◌≡◌, ℕ, length}
use Rattle.proc_image.specs.Mapping.{filled}
use Rattle.proc_image.specs.Paged.{cells, page_of}
use Rattle.proc_image.proofs.memory.Memory.fill.Given as goal

abbrev pub invariant-loop-place : goal.invariant-loop-place
invariant-loop-place l = record {
  done : cells l.self ≡ filled (cells l.initial.self) l.lo l.place l.bytes l.write l.exec;
  room : (q : ℕ) → length (page_of l.self q) ≡ length (page_of l.initial.self q);
}
