use Rattle.std.proofs.Common.{◌+◌, refl}
use Rattle.mv_base.specs.Bytes.{word}
use Rattle.lookup_stub.specs.laws.StubBytes.{word_is}
use Rattle.lookup_stub.proofs.code.finish_bytes.Goals as goal

pub returns : goal.returns
unfolding word
returns c =
    let target = word_is c.to_le_bytes-target.result (c.args.private + 4) _ c.to_le_bytes-target.ensures refl in
    let esp = word_is c.to_le_bytes-esp.result (c.args.private + 8) _ c.to_le_bytes-esp.ensures refl in
    rw (target, esp) refl
