use Rattle.std.proofs.Common.{None, get_or, ap, sym, ◌∙◌, ◌%◌}
use Rattle.proc_image.proofs.Pages.{cells-page, cells-high}
use Rattle.proc_image.proofs.memory.Memory.cell.Goals as goal

pub returns-then-at-ge-LIMIT : goal.returns-then-at-ge-LIMIT
returns-then-at-ge-LIMIT c = sym (cells-high c.args.self.now c.args.at c.if-at-ge-LIMIT.true)

pub returns-in-None : goal.returns-in-None
returns-in-None c = sym (cells-page c.args.self.now c.args.at c.if-at-ge-LIMIT.false ∙ ap (λ p. get_or p (c.args.at % 4096) None) c.in-None.ensures)

pub returns-in-Some : goal.returns-in-Some
returns-in-Some c =
    c.cell.ensures ∙ ap (λ p. get_or p (c.args.at % 4096) None) c.in-Some.ensures ∙ sym (cells-page c.args.self.now c.args.at c.if-at-ge-LIMIT.false)
