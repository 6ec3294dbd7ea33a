use Rattle.std.proofs.Common.{refl}
use Rattle.mv_base.specs.Bytes.{word}
use Rattle.lookup_stub.proofs.code.search_bytes.Goals as goal

pub returns : goal.returns
unfolding word
returns c = rw (c.to_le_bytes-lo.ensures, c.to_le_bytes-len.ensures, c.to_le_bytes-dir.ensures, c.to_le_bytes-tail.ensures) refl
