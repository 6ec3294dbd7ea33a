use Rattle.x86_insn.specs.Laws.{spells_spelled, spelled_spells}
use Rattle.x86_insn.proofs.laws.spelled_by_the_table.Goals as goal

pub returns : goal.returns
returns c = record { spelled = spells_spelled; spells = spelled_spells }
