use Rattle.std.proofs.Common.{refl}
use Rattle.mv_base.specs.Bytes.{word}
use Rattle.mini_asm.proofs.writing.jump.Goals as goal

pub returns : goal.returns
unfolding word
returns c = rw (c.new.ensures, c.to_le_bytes-rel.ensures) refl
