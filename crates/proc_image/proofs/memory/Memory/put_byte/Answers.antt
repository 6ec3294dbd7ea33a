use Rattle.std.proofs.Common.{◌∙◌, sym, arith}
use Rattle.proc_image.specs.Paged.{cells}
use Rattle.proc_image.proofs.Pages.{cells-high}
use Rattle.proc_image.proofs.Putting.{low_of_cell, room_of_cell, put-mapped, put-unmapped}
use Rattle.proc_image.proofs.memory.Memory.put_byte.Goals as goal

pub set-requires-clause-low : goal.set-requires-clause-low
set-requires-clause-low c = low_of_cell c.args.self.now c.args.at c.in-Some.cell c.in-Some.ensures

pub set-requires-clause-room : goal.set-requires-clause-room
set-requires-clause-room c = room_of_cell c.args.self.now c.args.at c.in-Some.cell c.in-Some.ensures

pub returns-in-Some : goal.returns-in-Some
returns-in-Some c =
    c.set.ensures.here
    ∙ put-mapped (cells c.args.self.now) c.args.at c.args.byte c.in-Some.cell c.with_byte.result (omega arith)
    (λ y high. cells-high c.args.self.now y (omega arith)) c.in-Some.ensures c.with_byte.ensures

pub returns-in_default : goal.returns-in_default
returns-in_default c =
    put-unmapped (cells c.args.self.now) c.args.at c.args.byte (omega arith) (λ y high. cells-high c.args.self.now y (omega arith)) (sym c.in_default.ensures)
