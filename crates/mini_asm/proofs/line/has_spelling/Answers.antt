use Rattle.mini_asm.proofs.Reading.{spelled-by}
use Rattle.mini_asm.proofs.line.has_spelling.Goals as goal

pub returns : goal.returns
returns c = spelled-by c.args.insn.now c.encoded.result c.is_some.result c.encoded.ensures.is c.is_some.ensures
