use Rattle.std.proofs.lemmas.Result.{err_from_is_err_and}
use Rattle.proc_image.specs.Paged.{cells}
use Rattle.proc_image.proofs.Reading.{IsValueAt-byte, fault-first}
use Rattle.proc_image.proofs.memory.Memory.read_byte.Goals as goal

pub returns-in_err-byte : goal.returns-in_err-byte
returns-in_err-byte c =
    let p = err_from_is_err_and c.from_residual.result c.from_residual.ensures.1 in
    rw (p.1, p.2) (fault-first (cells c.args.self.now) c.args.at 0 c.in_err-byte.field-0.0 c.in_err-byte.ensures)

pub returns : goal.returns
returns c = rw c.from.ensures (IsValueAt-byte (cells c.args.self.now) c.args.at c.in_ok-byte.byte c.in_ok-byte.ensures)
