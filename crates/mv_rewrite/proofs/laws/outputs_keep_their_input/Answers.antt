use Rattle.mv_rewrite.proofs.Kept.{keeps_input, gives_again}
use Rattle.mv_rewrite.proofs.laws.outputs_keep_their_input.Goals as goal

pub returns-clause-input : goal.returns-clause-input
returns-clause-input c = keeps_input

pub returns-clause-again : goal.returns-clause-again
returns-clause-again c = gives_again
