use Rattle.std.proofs.Common.{◌≡◌, drop}
use Rattle.mini_asm.specs.Words.{digits_at}
use Rattle.mini_asm.proofs.words.digits.Given as goal

abbrev pub invariant-loop-at : goal.invariant-loop-at
invariant-loop-at l = digits_at l.value (drop l.at l.text) ≡ digits_at 0 l.text
