use Rattle.std.proofs.Common.{◌+◌, ◌/◌, ◌≤◌, inl, inr, arith}
use Rattle.std.proofs.lemmas.Bool.{cases_lt}
use Rattle.image_layout.proofs.Fit.{free_before, free_after, taken, ended_more, rest_apart}
use Rattle.image_layout.proofs.room.free_page.Goals as goal

pub returns-then-page-pages-clause-free : goal.returns-then-page-pages-clause-free
returns-then-page-pages-clause-free c =
    let page = c.loop-segment.page in
    free_before page (page + c.args.pages) c.args.segments.now c.loop-segment.segment-index c.segment-item.result (omega arith) c.segment-item.is c.loop-segment.invariant.ended c.loop-segment.invariant.rest (omega arith)

pub loop-segment-preserved : goal.loop-segment-preserved
loop-segment-preserved c =
    let ss = c.args.segments.now in
    let k = c.loop-segment.segment-index in
    let s = c.segment-item.result in
    let new = c.max-page.result in
    let end : (s.range.lo + s.range.len + 4095) / 4096 ≤ new = omega arith in
    record {
      low = omega arith;
      high = omega arith;
      ended = ended_more c.loop-segment.page new ss k s (omega arith) c.segment-item.is (omega arith) end c.loop-segment.invariant.ended;
      earlier = λ page low below.
          elim (cases_lt page c.loop-segment.page) [
            | inl l ↦ c.loop-segment.invariant.earlier page low l
            | inr l ↦ taken ss k s page (page + c.args.pages) (omega arith) c.segment-item.is (omega arith) (omega arith)
          ];
      rest = rest_apart ss k s (omega arith) c.segment-item.is c.loop-segment.invariant.rest;
    }

pub returns-clause-free : goal.returns-clause-free
returns-clause-free c =
    let page = c.loop-segment.page in
    free_after page (page + c.args.pages) c.args.segments.now c.loop-segment.segment-index (omega arith) c.loop-segment.invariant.ended
