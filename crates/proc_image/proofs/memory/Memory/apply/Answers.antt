use Rattle.proc_image.specs.Paged.{cells}
use Rattle.proc_image.proofs.Effecting.{refusal-desc, applied-desc}
use Rattle.proc_image.proofs.memory.Memory.apply.Goals as goal

pub returns-in-Desc : goal.returns-in-Desc
returns-in-Desc c =
    rw c.in-Desc.is (record {
      allowed = refusal-desc (cells c.args.self.now) c.in-Desc.index c.in-Desc.base;
      limit = λ map. cc;
      done = applied-desc (cells c.args.self.now) c.in-Desc.index c.in-Desc.base;
    })
