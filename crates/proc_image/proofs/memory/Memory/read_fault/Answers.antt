use Rattle.std.proofs.Common.{ap, sym, ◌∙◌, is_some}
use Rattle.mv_base.specs.Memory.{is_mapped, read_fault}
use Rattle.proc_image.specs.Paged.{cells}
use Rattle.proc_image.proofs.Walking.{walk-start, walk-here, walk-next, walk-end}
use Rattle.proc_image.proofs.memory.Memory.read_fault.Goals as goal

pub loop-done-init : goal.loop-done-init
loop-done-init c = walk-start (is_mapped (cells c.args.self.now)) c.args.at c.args.len

pub returns-then-is_none : goal.returns-then-is_none
returns-then-is_none c =
    walk-here (is_mapped (cells c.args.self.now)) (read_fault (cells c.args.self.now) c.args.at c.args.len) c.loop-done.next c.args.len c.loop-done._done
    c.loop-done-test.true c.loop-done.invariant (sym c.if-is_none.ensures ∙ ap is_some c.cell.ensures)

pub loop-done-preserved : goal.loop-done-preserved
loop-done-preserved c =
    walk-next (is_mapped (cells c.args.self.now)) (read_fault (cells c.args.self.now) c.args.at c.args.len) c.loop-done.next c.args.len c.loop-done._done
    c.loop-done-test.true c.loop-done.invariant (sym c.if-is_none.ensures ∙ ap is_some c.cell.ensures)

pub returns : goal.returns
returns c =
    walk-end (is_mapped (cells c.args.self.now)) (read_fault (cells c.args.self.now) c.args.at c.args.len) c.loop-done.next c.args.len c.loop-done._done
    c.loop-done-test.false c.loop-done.invariant
