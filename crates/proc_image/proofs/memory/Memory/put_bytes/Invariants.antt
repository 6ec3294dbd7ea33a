use Rattle.std.proofs.Common.{◌≡◌, drop}
use Rattle.mv_base.specs.Memory.{put}
use Rattle.proc_image.specs.Paged.{cells}
use Rattle.proc_image.proofs.memory.Memory.put_bytes.Given as goal

abbrev pub invariant-loop-byte : goal.invariant-loop-byte
invariant-loop-byte l = put (cells l.fn.self) l.at l.bytes ≡ put (cells l.self) l.next (drop l.byte-index l.bytes)
