use Rattle.mini_asm.proofs.sizes.least_size.Goals as goal

pub returns-in-None-clause-is : goal.returns-in-None-clause-is
returns-in-None-clause-is c = λ s spells. absurd (c.in-None.ensures.is s spells)
