use Rattle.std.proofs.Common.{sym, subst}
use Rattle.std.specs.Prelude.{IfSome, length, ◌≤◌}
use Rattle.x86_encode.specs.Encoding.{IsLeastOf}
use Rattle.x86_encode.specs.laws.Chosen.{least_of, least_short}
use Rattle.x86_encode.proofs.encoding.encoded.Goals as goal

pub returns-clause-is : goal.returns-clause-is
returns-clause-is c = subst (IsLeastOf c.args.insn.now) (sym c.least.ensures) (least_of c.args.insn.now)

pub returns-clause-at_most : goal.returns-clause-at_most
returns-clause-at_most c = subst (λ o. IfSome o (λ s. length s ≤ 15)) (sym c.least.ensures) (least_short c.args.insn.now _ (least_of c.args.insn.now))
