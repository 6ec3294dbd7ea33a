use Rattle.std.proofs.Common.{◌∙◌, ap, sym, length, Some}
use Rattle.std.proofs.lemmas.List.{length-set}
use Rattle.mv_base.specs.Memory.{is_mapped, read_fault, bytes_at}
use Rattle.proc_image.specs.Paged.{cells}
use Rattle.proc_image.proofs.Copying.{read-more, read-all}
use Rattle.proc_image.proofs.Walking.{walk-here, walk-next, walk-end}
use Rattle.proc_image.proofs.memory.Memory.read_bytes.Goals as goal

pub returns-in-Err : goal.returns-in-Err
returns-in-Err c =
    let m = cells c.args.self.now in
    let n = length c.args.to.now in
    ap (read_fault m c.args.at) c.loop-i.invariant.long
    ∙ sym (walk-here (is_mapped m) (read_fault m c.args.at n) c.loop-i.next n c.loop-i.i c.loop-i-test.true c.loop-i.invariant.mapped (sym c.in-Err.ensures.0))
    ∙ ap Some (sym c.in-Err.ensures.1)

pub loop-i-preserved : goal.loop-i-preserved
loop-i-preserved c =
    let m = cells c.args.self.now in
    let n = length c.args.to.now in
    record {
      long = simp length-set c.loop-i.invariant.long;
      copied = read-more m _ c.loop-i.to c.loop-i.next c.loop-i.i c.in-Ok.byte n c.loop-i-test.true c.loop-i.invariant.long c.in-Ok.ensures.1 c.loop-i.invariant.copied;
      mapped = walk-next (is_mapped m) _ c.loop-i.next n c.loop-i.i c.loop-i-test.true c.loop-i.invariant.mapped (sym c.in-Ok.ensures.0);
    }

pub returns : goal.returns
returns c =
    let m = cells c.args.self.now in
    let n = length c.args.to.now in
    record {
      mapped =
          ap (read_fault m c.args.at) c.loop-i.invariant.long
          ∙ sym (walk-end (is_mapped m) (read_fault m c.args.at n) c.loop-i.next n c.loop-i.i c.loop-i-test.false c.loop-i.invariant.mapped);
      same =
          read-all m _ c.loop-i.to c.loop-i.next c.loop-i.i n c.loop-i-test.false c.loop-i.invariant.long c.loop-i.invariant.copied
          ∙ ap (bytes_at m c.args.at) (sym c.loop-i.invariant.long);
    }
