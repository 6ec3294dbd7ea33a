use Rattle.std.proofs.lemmas.Result.{err_from_is_err_and}
use Rattle.std.proofs.Common.{◌∙◌}
use Rattle.proc_image.specs.Paged.{cells}
use Rattle.proc_image.proofs.Reading.{IsValueAt-word, fault-first, fault-second}
use Rattle.proc_image.proofs.memory.Memory.read_word.Goals as goal

pub returns-in_err-byte : goal.returns-in_err-byte
returns-in_err-byte c =
    let p = err_from_is_err_and c.from_residual.result c.from_residual.ensures.1 in
    rw (p.1, p.2) (fault-first (cells c.args.self.now) c.args.at 1 c.in_err-byte.field-0.0 c.in_err-byte.ensures)

pub returns-in_err-byte-2 : goal.returns-in_err-byte-2
returns-in_err-byte-2 c =
    let p = err_from_is_err_and c.from_residual-in_err-byte-2.result c.from_residual-in_err-byte-2.ensures.1 in
    rw (p.1, p.2) (fault-second (cells c.args.self.now) c.args.at 0 c.in_ok-byte.field-0 c.in_err-byte-2.field-0.0 c.in_ok-byte.ensures c.in_err-byte-2.ensures)

pub returns : goal.returns
returns c =
    IsValueAt-word (cells c.args.self.now) c.args.at c.in_ok-byte.field-0 c.in_ok-byte-2.field-0 c.from.result c.in_ok-byte.ensures c.in_ok-byte-2.ensures
    (c.from.ensures ∙ c.read_u16.ensures)
