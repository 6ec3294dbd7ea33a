use Rattle.mv_rewrite.proofs.Replanned.{are_written}
use Rattle.mv_rewrite.proofs.laws.outputs_are_written.Goals as goal

pub returns : goal.returns
returns c = are_written
