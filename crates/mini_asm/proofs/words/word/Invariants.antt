use Rattle.mini_asm.proofs.Splitting.{WordSoFar}
use Rattle.mini_asm.proofs.words.word.Given as goal

abbrev pub invariant-loop-at : goal.invariant-loop-at
invariant-loop-at l = WordSoFar l.text l.at
