use Rattle.std.proofs.Common.{◌∙◌, ap}
use Rattle.map_table.specs.Pairs.{second_of}
use Rattle.map_table.specs.Paged.{Made}
use Rattle.map_table.proofs.Words.{no_entry}
use Rattle.map_table.proofs.table.Table.entry.Goals as goal

pub returns-in-0 : goal.returns-in-0
returns-in-0 c = no_entry _ _ _ c.args.address c.word_for.result c.self.invariant c.word_for.ensures c.in-0.is ∙ ap (λ (t : Made). second_of t.pairs c.args.address) c.self.view_is
