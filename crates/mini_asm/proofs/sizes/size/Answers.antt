use Rattle.mini_asm.proofs.Lengths.{transfer-size, other-size, no-transfer}
use Rattle.mini_asm.proofs.sizes.size.Goals as goal

pub returns-in-Some-clause-judged : goal.returns-in-Some-clause-judged
returns-in-Some-clause-judged c = λ judged. transfer-size c.args.insn.now c.in-Some.size c.in-Some.ensures.is

pub returns-in-Some-clause-transfer : goal.returns-in-Some-clause-transfer
returns-in-Some-clause-transfer c = λ transfer. transfer-size c.args.insn.now c.in-Some.size c.in-Some.ensures.is

pub returns-in-None-clause-judged : goal.returns-in-None-clause-judged
returns-in-None-clause-judged c = λ judged. other-size c.args.insn.now c.least_size.result c.in-None.ensures.is c.least_size.ensures.is judged

pub returns-in-None-clause-transfer : goal.returns-in-None-clause-transfer
returns-in-None-clause-transfer c = λ transfer. absurd (no-transfer c.args.insn.now c.in-None.ensures.is transfer)
