use Rattle.std.proofs.Common.{length}
use Rattle.mini_asm.specs.Reads.{HasRead}
use Rattle.mini_asm.proofs.source.read_forms.Given as goal

abbrev pub invariant-loop-rest : goal.invariant-loop-rest
invariant-loop-rest l = HasRead l.source l.items.items l.rest

abbrev pub decreases-loop-rest : goal.decreases-loop-rest
decreases-loop-rest l = length l.rest
