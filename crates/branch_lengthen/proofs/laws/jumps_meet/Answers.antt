use Rattle.step_laws.specs.laws.Joining.{jump_meets, joins}
use Rattle.branch_lengthen.proofs.laws.jumps_meet.Goals as goal

pub returns : goal.returns
returns c = record {
  jump = λ area here to next rel o t at low. jump_meets area here to next rel o t at low;
  join = λ area o t here to s at low w. joins area o t here to s at low w;
}
