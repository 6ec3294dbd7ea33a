use Rattle.std.proofs.Common.{◌≡◌, ◌++◌, take, map}
use Rattle.syscall_log.specs.declared.item.Item.TheVariants as item
use Rattle.syscall_log.specs.Grammar.{lines}
use Rattle.syscall_log.proofs.write.put_effects.Given as goal

abbrev pub invariant-loop-effect : goal.invariant-loop-effect
invariant-loop-effect l = l.to.items ≡ l.fn.to.items ++ lines (map item.Change (take l.effect-index l.effects))
