use Rattle.std.proofs.Common.{refl}
use Rattle.mv_base.specs.Bytes.{word}
use Rattle.call_rewrite.proofs.pieces.raise.Goals as goal

pub returns : goal.returns
unfolding word
returns c = rw c.to_le_bytes-number.ensures refl
