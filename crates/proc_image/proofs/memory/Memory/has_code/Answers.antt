use Rattle.std.proofs.Common.{◌+◌, refl, sym, add-one}
use Rattle.mv_base.specs.Memory.{is_executable}
use Rattle.proc_image.specs.Paged.{cells}
use Rattle.proc_image.proofs.Counts.{some-zero, some-more, some-here}
use Rattle.proc_image.proofs.Effecting.{no_code-absent}
use Rattle.proc_image.proofs.memory.Memory.has_code.Goals as goal

pub returns-then-is_page_absent : goal.returns-then-is_page_absent
returns-then-is_page_absent c = sym (no_code-absent c.args.self.now c.args.lo c.args.len (c.if-is_page_absent.ensures refl) c.requires.low c.requires.page)

pub loop-place-init : goal.loop-place-init
loop-place-init c = some-zero (λ j. is_executable (cells c.args.self.now) (c.args.lo + j))

pub returns-then-can_execute : goal.returns-then-can_execute
returns-then-can_execute c =
    sym (some-here (λ j. is_executable (cells c.args.self.now) (c.args.lo + j)) c.args.len c.loop-place.place c.loop-place-test.true (sym c.if-can_execute.ensures))

pub loop-place-preserved : goal.loop-place-preserved
loop-place-preserved c =
    rw add-one (some-more (λ j. is_executable (cells c.args.self.now) (c.args.lo + j)) c.loop-place.place c.loop-place.invariant (sym c.if-can_execute.ensures))
