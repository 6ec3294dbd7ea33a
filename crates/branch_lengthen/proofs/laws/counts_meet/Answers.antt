use Rattle.branch_lengthen.specs.laws.Branches.{count_meets}
use Rattle.branch_lengthen.proofs.laws.counts_meet.Goals as goal

pub returns : goal.returns
returns c = λ area k here to next rel o t at low. count_meets area k here to next rel o t at low
