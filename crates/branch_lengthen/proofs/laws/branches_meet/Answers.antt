use Rattle.branch_lengthen.specs.laws.Branches.{branch_meets}
use Rattle.branch_lengthen.proofs.laws.branches_meet.Goals as goal

pub returns : goal.returns
returns c = λ area k here to next rel o t at low. branch_meets area k here to next rel o t at low
