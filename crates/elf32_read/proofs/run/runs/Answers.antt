-- The image has the file's segments.
use Rattle.std.proofs.Common.{◌≡◌, List, IfOk, subst, sym, ◌∙◌}
use Rattle.std.specs.List.{All}
use Rattle.elf32_read.specs.declared.image.Segment.{Segment}
use Rattle.elf32_read.specs.Runs.{runs_in, runs_of, IsFilled}
use Rattle.elf32_read.specs.Segments.{All-filled}
use Rattle.elf32_read.proofs.run.runs.Goals as goal

pub segment_runs-requires : goal.segment_runs-requires
segment_runs-requires c =
    subst (λ (ss : List Segment). All (IsFilled c.args.bytes.now) ss) (sym (c.as_slice.ensures ∙ c.requires.image.segments_are))
    (All-filled c.args.bytes.now c.requires.image.whole)

pub returns-clause-list : goal.returns-clause-list
unfolding runs_of
returns-clause-list c =
    subst (λ (ss : List Segment). IfOk c.segment_runs.result (λ rs. rs.items ≡ runs_in c.args.bytes.now ss)) (c.as_slice.ensures ∙ c.requires.image.segments_are)
    c.segment_runs.ensures
