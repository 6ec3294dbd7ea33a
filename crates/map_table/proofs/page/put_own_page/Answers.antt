use Rattle.std.proofs.Common.{◌∙◌, sym}
use Rattle.map_table.proofs.Pages.{no_own_page}
use Rattle.map_table.proofs.page.put_own_page.Goals as goal

pub returns : goal.returns
returns c = no_own_page c.args.pairs.now c.args.group c.args.bytes.now.items (sym c.has_pair.ensures ∙ c.if-has_pair.false)
