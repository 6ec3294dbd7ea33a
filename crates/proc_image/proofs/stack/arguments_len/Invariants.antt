use Rattle.std.proofs.Common.{◌≡◌, ◌+◌, length, drop}
use Rattle.proc_image.specs.Stack.{argument_bytes}
use Rattle.proc_image.proofs.stack.arguments_len.Given as goal

abbrev pub invariant-loop-arg : goal.invariant-loop-arg
invariant-loop-arg l = l.len + length (argument_bytes (drop l.arg-index l.args)) ≡ length (argument_bytes l.args)
