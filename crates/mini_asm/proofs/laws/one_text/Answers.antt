use Rattle.mini_asm.proofs.Reading.{one-text}
use Rattle.mini_asm.proofs.laws.one_text.Goals as goal

pub returns : goal.returns
returns c = one-text
