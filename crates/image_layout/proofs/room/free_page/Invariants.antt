use Rattle.std.proofs.Common.{◌≡◌, ℕ, ◌+◌, ◌<◌, ◌≤◌, true, false, take, drop}
use Rattle.std.specs.List.{list_all}
use Rattle.image_layout.specs.Fit.{is_apart}
use Rattle.image_layout.specs.Room.{ArePagesApart}
use Rattle.image_layout.proofs.Fit.{ends_by}
use Rattle.image_layout.proofs.room.free_page.Given as goal

abbrev pub invariant-loop-segment : goal.invariant-loop-segment
invariant-loop-segment l = record {
  low : 0x100 ≤ l.page;
  high : l.page ≤ 0x100000;
  ended : list_all (ends_by l.page) (take l.segment-index l.segments) ≡ true;
  earlier : (page : ℕ) → 0x100 ≤ page → page < l.page → list_all (is_apart page (page + l.pages)) l.segments ≡ false;
  rest : ArePagesApart 0 (drop l.segment-index l.segments);
}
