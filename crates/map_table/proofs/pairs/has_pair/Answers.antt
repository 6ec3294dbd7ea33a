use Rattle.std.proofs.Common.{◌∙◌}
use Rattle.std.proofs.lemmas.List.{nil_from_length}
use Rattle.map_table.specs.laws.Skips.{any_pair, no_pair}
use Rattle.map_table.proofs.pairs.has_pair.Goals as goal

pub returns-in_default : goal.returns-in_default
returns-in_default c = no_pair c.args.group.lo c.args.group.len c.pairs_from.result.now (nil_from_length c.pairs_from.result.now c.in_default.ensures.cases) ∙ c.pairs_from.ensures.site c.args.group.len

pub returns : goal.returns
returns c = any_pair c.args.group.lo c.args.group.len c.in-Some.pair.now _ c.pairs_from.result.now c.in-Some.ensures.cases.0 c.pairs_from.ensures.ascend ∙ c.pairs_from.ensures.site c.args.group.len
