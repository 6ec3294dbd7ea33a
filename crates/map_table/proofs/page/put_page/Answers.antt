use Rattle.map_table.proofs.Pages.{page_parts}
use Rattle.map_table.proofs.page.put_page.Goals as goal

pub returns : goal.returns
returns c = page_parts c.args.pairs.now c.args.group c.args.bytes.now.items c.put_entries.new.bytes.items c.put_zeros.new.bytes.items c.in_ok-put_entries.ensures c.in_ok-put_zeros.ensures
