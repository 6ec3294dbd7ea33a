use Rattle.std.proofs.lemmas.Result.{err_from_is_err_and}
use Rattle.proc_image.specs.Paged.{cells}
use Rattle.proc_image.proofs.Reading.{IsValueAt-dword, fault-first, fault-second, fault-third, fault-fourth}
use Rattle.proc_image.proofs.memory.Memory.read_dword.Goals as goal

pub returns-in_err-byte : goal.returns-in_err-byte
returns-in_err-byte c =
    let p = err_from_is_err_and c.from_residual.result c.from_residual.ensures.1 in
    rw (p.1, p.2) (fault-first (cells c.args.self.now) c.args.at 3 c.in_err-byte.field-0.0 c.in_err-byte.ensures)

pub returns-in_err-byte-2 : goal.returns-in_err-byte-2
returns-in_err-byte-2 c =
    let p = err_from_is_err_and c.from_residual-in_err-byte-2.result c.from_residual-in_err-byte-2.ensures.1 in
    rw (p.1, p.2) (fault-second (cells c.args.self.now) c.args.at 2 c.in_ok-byte.field-0 c.in_err-byte-2.field-0.0 c.in_ok-byte.ensures c.in_err-byte-2.ensures)

pub returns-in_err-byte-3 : goal.returns-in_err-byte-3
returns-in_err-byte-3 c =
    let p = err_from_is_err_and c.from_residual-in_err-byte-3.result c.from_residual-in_err-byte-3.ensures.1 in
    rw (p.1, p.2) (fault-third (cells c.args.self.now) c.args.at 1 c.in_ok-byte.field-0 c.in_ok-byte-2.field-0 c.in_err-byte-3.field-0.0
    c.in_ok-byte.ensures c.in_ok-byte-2.ensures c.in_err-byte-3.ensures)

pub returns-in_err-byte-4 : goal.returns-in_err-byte-4
returns-in_err-byte-4 c =
    let p = err_from_is_err_and c.from_residual-in_err-byte-4.result c.from_residual-in_err-byte-4.ensures.1 in
    rw (p.1, p.2) (fault-fourth (cells c.args.self.now) c.args.at 0 c.in_ok-byte.field-0 c.in_ok-byte-2.field-0 c.in_ok-byte-3.field-0 c.in_err-byte-4.field-0.0
    c.in_ok-byte.ensures c.in_ok-byte-2.ensures c.in_ok-byte-3.ensures c.in_err-byte-4.ensures)

pub returns : goal.returns
returns c =
    IsValueAt-dword (cells c.args.self.now) c.args.at c.in_ok-byte.field-0 c.in_ok-byte-2.field-0 c.in_ok-byte-3.field-0 c.in_ok-byte-4.field-0 c.read_u32.result
    c.in_ok-byte.ensures c.in_ok-byte-2.ensures c.in_ok-byte-3.ensures c.in_ok-byte-4.ensures c.read_u32.ensures
