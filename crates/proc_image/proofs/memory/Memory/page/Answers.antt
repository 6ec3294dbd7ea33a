use Rattle.std.proofs.Common.{[], get_or, ap, ◌∙◌, ◌%◌}
use Rattle.proc_image.proofs.Pages.{page_of-table}
use Rattle.proc_image.proofs.memory.Memory.page.Goals as goal

pub returns-in-None : goal.returns-in-None
returns-in-None c = page_of-table c.args.self.now c.args.number ∙ ap (λ t. get_or t (c.args.number % 1024) []) c.in-None.ensures

pub returns-in-Some : goal.returns-in-Some
returns-in-Some c = rw (page_of-table c.args.self.now c.args.number, ← c.in-Some.ensures) c.page.ensures
