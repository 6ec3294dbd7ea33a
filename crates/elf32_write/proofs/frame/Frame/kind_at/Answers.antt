use Rattle.std.proofs.Common.{◌<◌, ap, arith}
use Rattle.elf32_write.specs.Frame.{Frame, frame_at}
use Rattle.elf32_write.proofs.RecordRuns.{kind_low}
use Rattle.elf32_write.proofs.frame.Frame.kind_at.Goals as goal

pub overflow_cast-result : goal.overflow_cast-result
unfolding frame_at
overflow_cast-result c =
    let below : c.args.index < (frame_at c.self.inside.file.now).counters = omega (arith, c.requires, ap (λ (f : Frame). f.counters) c.self.view_is) in
    omega (arith, c.kind.ensures, kind_low (frame_at c.self.inside.file.now) c.args.index c.self.invariant.kinds below)

pub returns-clause-high : goal.returns-clause-high
unfolding frame_at
returns-clause-high c =
    let below : c.args.index < (frame_at c.self.inside.file.now).counters = omega (arith, c.requires, ap (λ (f : Frame). f.counters) c.self.view_is) in
    omega (arith, c.kind.ensures, kind_low (frame_at c.self.inside.file.now) c.args.index c.self.invariant.kinds below)
