use Rattle.std.proofs.Common.{◌-◌, arith}
use Rattle.std.specs.Vec.{vec_len}
use Rattle.proc_image.proofs.Pages.{IsLonger-resized}
use Rattle.proc_image.proofs.page.Page.reserve.Goals as goal

pub returns-in_ok-resize-clause-longer : goal.returns-in_ok-resize-clause-longer
returns-in_ok-resize-clause-longer c =
    IsLonger-resized c.args.self.now c.self.inside.cells.items c.resize.new.self.items 4096 (4096 - vec_len c.self.inside.cells) c.self.view_is (omega arith)
    c.in_ok-resize.ensures.items
