use Rattle.std.proofs.Common.{length}
use Rattle.insn_text.proofs.writing.+put_rest.Given as goal

abbrev pub decreases-put_rest : goal.decreases-put_rest
decreases-put_rest l = length l.operands.now
