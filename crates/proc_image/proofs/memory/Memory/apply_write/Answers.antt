use Rattle.std.proofs.Common.{◌∙◌}
use Rattle.proc_image.specs.Paged.{cells}
use Rattle.proc_image.proofs.Effecting.{refusal-write, applied-write}
use Rattle.proc_image.proofs.memory.Memory.apply_write.Goals as goal

pub returns : goal.returns
returns c = record {
  allowed = refusal-write (cells c.args.self.now) c.args.lo c.args.bytes.now c.if-touches_code.ensures c.in_default.ensures c.in_default-write_fault.ensures;
  limit = λ map. cc;
  done = c.put_bytes.ensures ∙ applied-write (cells c.args.self.now) c.args.lo c.args.bytes.now;
}
