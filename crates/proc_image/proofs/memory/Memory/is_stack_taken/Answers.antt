use Rattle.std.proofs.Common.{sym, arith}
use Rattle.proc_image.specs.Paged.{cells}
use Rattle.proc_image.proofs.Stacking.{taken-page, free-pages}
use Rattle.proc_image.proofs.memory.Memory.is_stack_taken.Goals as goal

pub returns-then-holds_mapped : goal.returns-then-holds_mapped
returns-then-holds_mapped c = sym (taken-page (cells c.args.self.now) c.loop-page.page (omega arith) c.loop-page-test.true (sym c.if-holds_mapped.ensures))

pub returns : goal.returns
returns c = sym (free-pages (cells c.args.self.now) (λ p first last. c.loop-page.invariant p first (omega arith)))
