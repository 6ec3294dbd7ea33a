use Rattle.std.proofs.Common.{◌≡◌, ◌++◌, take, map, codes}
use Rattle.std.specs.List.{flat_map}
use Rattle.trace_run.specs.Texts.{words_line}
use Rattle.trace_run.proofs.text.put_calls.Given as goal

abbrev pub invariant-loop-call : goal.invariant-loop-call
invariant-loop-call l = l.to.items ≡ l.initial.to.items ++ flat_map (words_line (codes "call")) (map (λ c. c.words) (take l.call-index l.calls))
