use Rattle.std.proofs.Common.{◌≡◌}
use Rattle.std.specs.List.{filter_map, range_with_len}
use Rattle.proc_image.specs.Paged.{cells}
use Rattle.trace_run.specs.Counts.{count_at}
use Rattle.trace_run.proofs.counting.frame_counts.Given as goal

abbrev pub invariant-loop-index : goal.invariant-loop-index
invariant-loop-index l = l.found.items ≡ filter_map (count_at l.frame (cells l.memory)) (range_with_len 0 l.index)
