use Rattle.mini_asm.proofs.Reading.{reads-again}
use Rattle.mini_asm.proofs.laws.reads_again.Goals as goal

pub returns : goal.returns
returns c = reads-again
