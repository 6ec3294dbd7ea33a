use Rattle.mv_base.specs.Memory.{is_writable, write_fault}
use Rattle.proc_image.specs.Paged.{cells}
use Rattle.proc_image.proofs.Walking.{walk-start, walk-here, walk-next, walk-end}
use Rattle.proc_image.proofs.memory.Memory.write_fault.Goals as goal

pub loop-done-init : goal.loop-done-init
loop-done-init c = walk-start (is_writable (cells c.args.self.now)) c.args.at c.args.len

pub returns-then-not-can_write : goal.returns-then-not-can_write
returns-then-not-can_write c =
    walk-here (is_writable (cells c.args.self.now)) (write_fault (cells c.args.self.now) c.args.at c.args.len) c.loop-done.next c.args.len c.loop-done._done
    c.loop-done-test.true c.loop-done.invariant c.if-not-can_write.ensures

pub loop-done-preserved : goal.loop-done-preserved
loop-done-preserved c =
    walk-next (is_writable (cells c.args.self.now)) (write_fault (cells c.args.self.now) c.args.at c.args.len) c.loop-done.next c.args.len c.loop-done._done
    c.loop-done-test.true c.loop-done.invariant c.if-not-can_write.ensures

pub returns : goal.returns
returns c =
    walk-end (is_writable (cells c.args.self.now)) (write_fault (cells c.args.self.now) c.args.at c.args.len) c.loop-done.next c.args.len c.loop-done._done
    c.loop-done-test.false c.loop-done.invariant
