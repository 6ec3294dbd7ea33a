use Rattle.std.proofs.Common.{◌+◌, ◌-◌, ◌/◌, refl, arith}
use Rattle.proc_image.specs.Paged.{cells}
use Rattle.proc_image.proofs.Counts.{pages-le, all-pages-le}
use Rattle.proc_image.proofs.Fresh.{mapped_pages-filled}
use Rattle.proc_image.proofs.memory.Memory.pages_with.Goals as goal

pub overflow_sub-result : goal.overflow_sub-result
overflow_sub-result c =
    let le = pages-le (cells c.args.self.now) (c.args.lo / 4096) ((c.args.lo + c.args.len + 4095) / 4096 - c.args.lo / 4096) in
    omega arith

pub overflow_add-result : goal.overflow_add-result
overflow_add-result c = let le = all-pages-le (cells c.args.self.now) in omega arith

pub returns : goal.returns
returns c bytes write exec =
    let le = pages-le (cells c.args.self.now) (c.args.lo / 4096) ((c.args.lo + c.args.len + 4095) / 4096 - c.args.lo / 4096) in
    let all = mapped_pages-filled (cells c.args.self.now) c.args.lo c.args.len bytes write exec (c.args.lo / 4096) ((c.args.lo + c.args.len + 4095) / 4096 - c.args.lo / 4096)
    c.requires.some c.requires.low refl (omega arith) in
    omega arith
