use Rattle.std.proofs.Common.{◌≡◌, ◌++◌, ◌∷◌, take}
use Rattle.std.specs.List.{flat_map}
use Rattle.mv_base.specs.Text.{hex8}
use Rattle.trace_run.proofs.text.put_words.Given as goal

abbrev pub invariant-loop-number : goal.invariant-loop-number
invariant-loop-number l = l.to.items ≡ l.initial.to.items ++ flat_map (λ n. 32 ∷ hex8 n) (take l.number-index l.numbers)
