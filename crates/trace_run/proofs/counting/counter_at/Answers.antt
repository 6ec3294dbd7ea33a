use Rattle.std.proofs.Common.{subst, arith}
use Rattle.proc_image.specs.Access.{AreCopied, IsCopied}
use Rattle.proc_image.specs.Paged.{cells}
use Rattle.trace_run.proofs.OneByOne.{counter_read}
use Rattle.trace_run.proofs.counting.counter_at.Goals as goal

pub returns-in-Ok : goal.returns-in-Ok
returns-in-Ok c =
    let copied : AreCopied (cells c.args.memory.now) c.args.at c.read_bytes.new.to = subst (IsCopied (cells c.args.memory.now) c.args.at c.read_bytes.new.to) c.in-Ok.is c.read_bytes.ensures in
    counter_read (cells c.args.memory.now) c.args.at c.read_bytes.new.to c.read_u64.result (omega (arith, c.read_bytes.auto.to)) copied.mapped copied.same c.read_u64.ensures
