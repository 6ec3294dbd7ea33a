use Rattle.std.proofs.Common.{◌≡◌, ◌++◌, take}
use Rattle.std.specs.List.{flat_map}
use Rattle.trace_run.specs.Texts.{count_line}
use Rattle.trace_run.proofs.text.put_counts.Given as goal

abbrev pub invariant-loop-count : goal.invariant-loop-count
invariant-loop-count l = l.to.items ≡ l.initial.to.items ++ flat_map count_line (take l.count-index l.counts)
