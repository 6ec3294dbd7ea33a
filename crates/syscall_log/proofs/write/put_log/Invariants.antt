use Rattle.std.proofs.Common.{◌≡◌, ◌∷◌, ◌++◌, take, map}
use Rattle.syscall_log.specs.declared.item.Item.TheVariants as item
use Rattle.syscall_log.specs.Grammar.{lines, items_of}
use Rattle.syscall_log.proofs.write.put_log.Given as goal

abbrev pub invariant-loop-arg : goal.invariant-loop-arg
invariant-loop-arg l = l.to.items ≡ l.fn.to.items ++ lines (item.Header ∷ map item.Arg (take l.arg-index l.arg-items))

abbrev pub invariant-loop-answer : goal.invariant-loop-answer
invariant-loop-answer l = l.to.items ≡ l.fn.to.items ++ lines (items_of l.log.args (take l.answer-index l.answer-items))
