use Rattle.std.proofs.Common.{take, arith}
use Rattle.std.proofs.lemmas.List.{length-take}
use Rattle.image_layout.specs.Rules.{both}
use Rattle.image_layout.specs.laws.Counters.{listed_most, listed_count}
use Rattle.image_layout.proofs.places.measure.Goals as goal

pub overflow_cast-len : goal.overflow_cast-len
overflow_cast-len g c =
    omega (arith, c.requires.few, c.len.ensures, listed_count (both c.args.hooks.now c.args.edges.now) (take c.loop-site.site-index c.args.sites.now) _ c.loop-site.invariant.counted, listed_most (both c.args.hooks.now c.args.edges.now) (take c.loop-site.site-index c.args.sites.now), length-take c.loop-site.site-index c.args.sites.now)
