use Rattle.std.proofs.Common.{arith}
use Rattle.map_table.proofs.Pages.{zeros_behind}
use Rattle.map_table.proofs.page.put_zeros.Goals as goal

pub returns : goal.returns
returns c = zeros_behind c.args.bytes.now.items c.resize.new.self.items c.len.result _ c.args.count c.len.ensures (omega arith) c.in_ok-resize.ensures.items
