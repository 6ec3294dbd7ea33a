use Rattle.call_rewrite.specs.laws.Calls.{call_meets}
use Rattle.call_rewrite.proofs.laws.calls_meet.Goals as goal

pub returns : goal.returns
returns c = λ area here next rel to o t at low to_low clear. call_meets area here next rel to o t at low to_low clear
