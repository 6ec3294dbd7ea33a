use Rattle.std.proofs.Common.{ℕ, ◌<◌, ◌^◌, arith}
use Rattle.std.specs.Prelude.{IsTrue, ◌↔◌, nat_le}
use Rattle.std.proofs.lemmas.Bool.Decides.{nat_tests}
use Rattle.mini_asm.proofs.Reading.{judged-loop, judged-other}
use Rattle.mini_asm.proofs.line.is_judged.Goals as goal

at-most : (n : ℕ) → IsTrue (nat_le n 4294967295) ↔ (n < 2 ^ 32)
at-most n = (λ t. grind (arith, nat_tests), λ l. grind (arith, nat_tests))

pub returns-in-Some : goal.returns-in-Some
returns-in-Some c =
    judged-loop c.args.insn.now c.in-Some.to (nat_le c.in-Some.to 4294967295) c.in-Some.ensures (at-most c.in-Some.to)

pub returns-in-None : goal.returns-in-None
returns-in-None c = judged-other c.args.insn.now c.has_spelling.result c.in-None.ensures c.has_spelling.ensures
