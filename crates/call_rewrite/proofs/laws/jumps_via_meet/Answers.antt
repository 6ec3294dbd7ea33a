use Rattle.call_rewrite.specs.laws.Via.{jump_via_meets}
use Rattle.call_rewrite.proofs.laws.jumps_via_meet.Goals as goal

pub returns : goal.returns
returns c = λ area here next stub load operand o t at loads stub_low clear. jump_via_meets area here next stub load operand o t at loads stub_low clear
