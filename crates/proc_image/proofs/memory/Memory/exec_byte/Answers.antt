use Rattle.std.proofs.Common.{sym, ap, arith}
use Rattle.mv_base.specs.Memory.{exec_byte_of}
use Rattle.proc_image.proofs.Pages.{cells-high}
use Rattle.proc_image.proofs.memory.Memory.exec_byte.Goals as goal

pub returns-then-at-from : goal.returns-then-at-from
returns-then-at-from c = sym (ap exec_byte_of (cells-high c.args.self.now c.args.at (omega arith)))
