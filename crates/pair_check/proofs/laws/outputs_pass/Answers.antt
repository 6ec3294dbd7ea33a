use Rattle.pair_check.proofs.Passing.{output_passes}
use Rattle.pair_check.proofs.laws.outputs_pass.Goals as goal

pub returns : goal.returns
returns c = λ b rules x has there r is. output_passes b x rules r c.outputs_are_written.ensures there is has
