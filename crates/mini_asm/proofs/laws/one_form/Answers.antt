use Rattle.mini_asm.proofs.OneForm.{one-form}
use Rattle.mini_asm.proofs.laws.one_form.Goals as goal

pub returns : goal.returns
returns c = one-form
