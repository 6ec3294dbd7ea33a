use Rattle.call_rewrite.specs.laws.Via.{call_via_meets}
use Rattle.call_rewrite.proofs.laws.calls_via_meet.Goals as goal

pub returns : goal.returns
returns c = λ area here next stub load operand o t at loads low stub_low clear. call_via_meets area here next stub load operand o t at loads low stub_low clear
