use Rattle.std.proofs.Common.{◌≡◌, ◌-◌, ◌++◌}
use Rattle.multiverse_cli.specs.Sample.{code_after}
use Rattle.multiverse_cli.proofs.sample.put_code.Given as goal

abbrev pub invariant-loop-made : goal.invariant-loop-made
invariant-loop-made l =
    l.to.items ++ code_after l.x (l.size - l._made) ≡ l.fn.to.items ++ code_after l.number l.size
