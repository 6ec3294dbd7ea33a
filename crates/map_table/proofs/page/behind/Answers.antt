use Rattle.map_table.specs.laws.Skips.{others_same}
use Rattle.map_table.proofs.page.behind.Goals as goal

pub returns-then-pair-address-clause-same : goal.returns-then-pair-address-clause-same
returns-then-pair-address-clause-same c = others_same c.in-Some.pair.now c.in-Some.others.now c.args.pairs.now c.args.address c.in-Some.ensures.cases.0 c.if-pair-address.true
