use Rattle.std.proofs.Common.{arith, ◌∙◌}
use Rattle.image_layout.specs.Rules.{both}
use Rattle.mv_rewrite.proofs.Assembled.{added_is, ends_low}
use Rattle.mv_rewrite.proofs.LayoutFacts.{are_laid}
use Rattle.mv_rewrite.proofs.rewriting.added.Goals as goal

pub added_len-requires : goal.added_len-requires
added_len-requires g c = ends_low c.args._bytes.now (both c.args._hooks.now c.args._edges.now) c.args.plan.now (are_laid c.args._bytes.now c.requires.whole c.requires.admitted) c.requires.planned

pub new-requires : goal.new-requires
new-requires g c =
    omega (arith, ends_low c.args._bytes.now (both c.args._hooks.now c.args._edges.now) c.args.plan.now (are_laid c.args._bytes.now c.requires.whole c.requires.admitted) c.requires.planned, c.added_len.ensures)

pub returns : goal.returns
returns g c =
    let laid = are_laid c.args._bytes.now c.requires.whole c.requires.admitted in
    c.new.ensures ∙ (λ i. record { lo = c.args.plan.now.base; len = (c.added_len.ensures ∙ added_is c.args._bytes.now (both c.args._hooks.now c.args._edges.now) c.args.plan.now laid c.requires.planned) i })
