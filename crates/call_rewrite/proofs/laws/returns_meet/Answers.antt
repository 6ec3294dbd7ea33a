use Rattle.call_rewrite.specs.laws.Returns.{return_meets}
use Rattle.call_rewrite.proofs.laws.returns_meet.Goals as goal

pub returns : goal.returns
returns c = λ area here drop next stub o t at stub_low clear. return_meets area here drop next stub o t at stub_low clear
