use Rattle.std.proofs.Common.{◌∙◌, ap, sym, arith, drop, ◌+◌}
use Rattle.mv_base.specs.Memory.{put, address_after}
use Rattle.proc_image.specs.Paged.{cells}
use Rattle.proc_image.proofs.Copying.{put-more, put-all}
use Rattle.proc_image.proofs.memory.Memory.put_bytes.Goals as goal

pub loop-byte-preserved : goal.loop-byte-preserved
loop-byte-preserved c =
    let k = c.loop-byte.byte-index in
    put-more _ (cells c.loop-byte.self) c.args.bytes.now c.loop-byte.next k (omega arith) (omega (arith, c.requires)) c.loop-byte-test.true c.loop-byte.invariant
    ∙ ap (λ m. put m (address_after c.loop-byte.next 1) (drop (k + 1) c.args.bytes.now)) (sym c.put_byte.ensures)

pub returns : goal.returns
returns c = put-all _ (cells c.loop-byte.self) c.args.bytes.now c.loop-byte.next c.loop-byte.byte-index (omega (arith, c.loop-byte-test.false)) c.loop-byte.invariant
