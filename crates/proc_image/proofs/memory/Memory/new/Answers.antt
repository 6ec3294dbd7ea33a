use Rattle.std.proofs.Common.{ap, ◌∙◌}
use Rattle.proc_image.specs.Paged.{cells, cell_in}
use Rattle.proc_image.proofs.Pages.{cell_in-empty}
use Rattle.proc_image.proofs.memory.Memory.new.Goals as goal

pub returns : goal.returns
unfolding cells
returns c a = ap (λ d. cell_in d a) c.new.ensures.items ∙ cell_in-empty a
