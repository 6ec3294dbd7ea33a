use Rattle.std.proofs.Common.{◌≡◌, false}
use Rattle.proc_image.specs.Counting.{some_below}
use Rattle.proc_image.specs.Paged.{is_mapped_in}
use Rattle.proc_image.proofs.page.Page.has_cell.Given as goal

abbrev pub invariant-loop-place : goal.invariant-loop-place
invariant-loop-place l = some_below (is_mapped_in l.self) l.place ≡ false
