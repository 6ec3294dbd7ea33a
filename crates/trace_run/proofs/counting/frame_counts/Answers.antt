use Rattle.std.proofs.Common.{◌≡◌, ℕ, ◌++◌, Option, ap, ◌∙◌, arith}
use Rattle.std.specs.Prelude.{option_to_list}
use Rattle.std.specs.List.{filter_map, range_with_len}
use Rattle.proc_image.specs.Paged.{cells}
use Rattle.trace_run.specs.Counts.{count_at, frame_counts}
use Rattle.trace_run.proofs.OneByOne.{counts_more}
use Rattle.trace_run.proofs.counting.frame_counts.Goals as goal

pub loop-index-preserved : goal.loop-index-preserved
loop-index-preserved c =
    counts_more (count_at c.args.frame.now (cells c.args.memory.now)) c.loop-index.index c.loop-index.found.items _ c.loop-index.invariant
    (c.in_ok-push_count.ensures ∙ ap (λ (o : Option (ℕ × ℕ × ℕ)). c.loop-index.found.items ++ option_to_list o) c.count_at.ensures)

pub returns : goal.returns
unfolding frame_counts
returns c =
    let all : c.loop-index.index ≡ c.args.frame.now.counters = omega (arith, c.counter_count-index-end.ensures, c.loop-index-test.false) in
    c.new.ensures ∙ (c.loop-index.invariant ∙ ap (λ n. filter_map (count_at c.args.frame.now (cells c.args.memory.now)) (range_with_len 0 n)) all)
