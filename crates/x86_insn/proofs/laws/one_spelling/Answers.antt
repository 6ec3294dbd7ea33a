use Rattle.x86_insn.specs.Laws.{one_spelling as law}
use Rattle.x86_insn.proofs.laws.one_spelling.Goals as goal

pub returns : goal.returns
returns c = law
