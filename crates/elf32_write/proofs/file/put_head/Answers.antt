use Rattle.std.proofs.Common.{arith}
use Rattle.elf32_write.proofs.HeadBytes.{head_parts, front_fits, record_fits}
use Rattle.elf32_write.proofs.file.put_head.Goals as goal

pub overflow_sub-len : goal.overflow_sub-len
overflow_sub-len c =
    front_fits c.args.input.now c.args.plan.now c.args.image.now c.len.result c.put_front.new.file.items c.requires.image c.requires.headers c.in_ok-put_front.ensures.front (omega arith)

pub overflow_sub-len-2 : goal.overflow_sub-len-2
overflow_sub-len-2 c =
    record_fits _ c.args.plan.now c.len.result c.len-2.result c.put_front.new.file.items c.put_zeros.new.to.items c.put_record.new.to.items c.requires.runs
    (front_fits c.args.input.now c.args.plan.now c.args.image.now c.len.result c.put_front.new.file.items c.requires.image c.requires.headers c.in_ok-put_front.ensures.front (omega arith))
    (omega arith) c.in_ok-put_zeros.ensures c.in_ok-put_record.ensures (omega arith)

pub returns-clause-head : goal.returns-clause-head
returns-clause-head c =
    head_parts c.args.input.now c.args.plan.now c.len.result c.len-2.result c.put_front.new.file.items c.put_zeros.new.to.items c.put_record.new.to.items c.put_zeros-2.new.to.items
    c.in_ok-put_front.ensures.front (omega arith) c.in_ok-put_zeros.ensures c.in_ok-put_record.ensures (omega arith) c.in_ok-put_zeros-2.ensures
