use Rattle.std.proofs.Common.{refl}
use Rattle.mv_base.specs.Memory.{exec_byte}
use Rattle.proc_image.specs.Paged.{cells}
use Rattle.x86_machine.proofs.Fetched.{fetch-standing}
use Rattle.x86_machine.proofs.cache.InsnCache.standing.Goals as goal

pub returns-then-is_code : goal.returns-then-is_code
returns-then-is_code c =
    fetch-standing (exec_byte (cells c.args.memory.now)) c.args.at c.bytes.result.now _ _ c.bytes.ensures.at_most (c.if-is_code.ensures.0 refl) c.bytes.ensures.spell
