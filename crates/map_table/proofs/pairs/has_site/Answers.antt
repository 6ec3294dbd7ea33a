use Rattle.std.proofs.Common.{◌∙◌}
use Rattle.std.proofs.lemmas.List.{nil_from_length}
use Rattle.map_table.specs.laws.Skips.{any_site, no_site}
use Rattle.map_table.proofs.pairs.has_site.Goals as goal

pub returns-in_default : goal.returns-in_default
returns-in_default c = no_site c.args.group.lo c.args.group.len c.sites_from.result.now (nil_from_length c.sites_from.result.now c.in_default.ensures.cases) ∙ c.sites_from.ensures.same c.args.group.len

pub returns : goal.returns
returns c = any_site c.args.group.lo c.args.group.len c.in-Some.site.now _ c.sites_from.result.now c.in-Some.ensures.cases.0 c.sites_from.ensures.ascend ∙ c.sites_from.ensures.same c.args.group.len
