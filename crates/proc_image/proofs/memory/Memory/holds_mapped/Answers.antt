use Rattle.std.proofs.Common.{sym, ap, ◌∙◌}
use Rattle.proc_image.specs.Counting.{some_below}
use Rattle.proc_image.specs.Paged.{is_mapped_in}
use Rattle.proc_image.proofs.Counts.{holds-page, holds-high, holds-absent}
use Rattle.proc_image.proofs.memory.Memory.holds_mapped.Goals as goal

pub returns-then-page-ge-LIMIT_PAGE : goal.returns-then-page-ge-LIMIT_PAGE
returns-then-page-ge-LIMIT_PAGE c = sym (holds-high c.args.self.now c.args.page c.if-page-ge-LIMIT_PAGE.true)

pub returns-in-None : goal.returns-in-None
returns-in-None c = sym (holds-absent c.args.self.now c.args.page c.in-None.ensures)

pub returns-in-Some : goal.returns-in-Some
returns-in-Some c =
    c.has_cell.ensures ∙ ap (λ p. some_below (is_mapped_in p) 4096) c.in-Some.ensures ∙ sym (holds-page c.args.self.now c.args.page c.if-page-ge-LIMIT_PAGE.false)
