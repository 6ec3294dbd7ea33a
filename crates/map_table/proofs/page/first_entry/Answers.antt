use Rattle.std.proofs.Common.{ap}
use Rattle.std.proofs.lemmas.List.{nil_from_length}
use Rattle.map_table.specs.Pairs.{or_zero}
use Rattle.map_table.specs.laws.Skips.{first_is, first_above, first_none}
use Rattle.map_table.proofs.page.first_entry.Goals as goal

pub returns-in_default : goal.returns-in_default
returns-in_default c = ap or_zero (first_none c.args.pairs.now c.args.address (nil_from_length c.args.pairs.now c.in_default.ensures.cases))

pub returns-then-pair-address : goal.returns-then-pair-address
returns-then-pair-address c = ap or_zero (first_is c.in-Some.pair.now _ c.args.pairs.now c.args.address c.in-Some.ensures.cases.0 c.if-pair-address.true)

pub returns-else-pair-address : goal.returns-else-pair-address
returns-else-pair-address c = ap or_zero (first_above c.in-Some.pair.now _ c.args.pairs.now c.args.address c.in-Some.ensures.cases.0 c.requires c.if-pair-address.false)
