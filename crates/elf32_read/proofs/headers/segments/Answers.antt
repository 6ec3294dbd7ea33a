-- A header that maps addresses adds its segment.
use Rattle.std.proofs.Common.{◌++◌, option_to_list, ap, ◌∙◌, sym, append-nil}
use Rattle.elf32_read.proofs.Tables.{segments-more}
use Rattle.elf32_read.proofs.headers.segments.Goals as goal
use Rattle.elf32_read.proofs.headers.segments.Goals.{in-Some+in_ok-push, in_default}

pub loop-header-preserved : goal.loop-header-preserved
loop-header-preserved c =
    segments-more c.args.headers.now c.loop-header.header-index _ c.loop-header.segments.items c.match-segment_of.segments.items c.segment_of.result c.loop-header-test.true c.loop-header.invariant c.segment_of.ensures
    (elim c.match-segment_of.branch [
      | in-Some+in_ok-push w ↦ ap (λ v. v.items) w.segments-is ∙ w.in_ok-push.ensures.items ∙ ap (λ o. c.loop-header.segments.items ++ option_to_list o) (sym w.in-Some.is)
      | in_default w ↦ ap (λ v. v.items) w.segments-is ∙ sym (append-nil c.loop-header.segments.items) ∙ ap (λ o. c.loop-header.segments.items ++ option_to_list o) (sym w.in_default.is)
    ])
