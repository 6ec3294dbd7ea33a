use Rattle.std.proofs.Common.{arith}
use Rattle.mini_asm.specs.Spots.IsMisfit.{Far, Full, Empty}
use Rattle.mini_asm.proofs.judging.misfit.Goals as goal

pub returns-in-Some : goal.returns-in-Some
returns-in-Some c = Far c.in-Some.place c.in-Some.ensures

pub returns-in-Err : goal.returns-in-Err
returns-in-Err c = Full c.in-Err.place c.in_default.ensures c.in-Err.ensures.none

pub returns-in-Ok-eq0 : goal.returns-in-Ok-eq0
returns-in-Ok-eq0 c = Empty c.in_default.ensures (omega (arith, c.in-Ok-eq0.ensures.some.0, c.in-Ok-eq0.field-0-test))
