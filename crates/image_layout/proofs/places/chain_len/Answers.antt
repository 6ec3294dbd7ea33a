use Rattle.std.proofs.Common.{ℕ, List, ap, arith, sym}
use Rattle.image_layout.specs.Parts.{link_parts, parts_len}
use Rattle.image_layout.proofs.Steps.{links_step, links_end, join_some, join_none}
use Rattle.image_layout.proofs.places.chain_len.Goals as goal

pub loop-link-preserved : goal.loop-link-preserved
loop-link-preserved c =
    omega (arith, links_step c.args.lens.now c.links-link-items.result.now c.loop-link.link-index c.args.chain.now.next c.loop-link-test.true)

pub returns-in-Some : goal.returns-in-Some
returns-in-Some c =
    let next = c.args.chain.now.next in
    omega (arith, links_end c.args.lens.now c.links-link-items.result.now c.loop-link.link-index next c.loop-link-test.false, join_some c.args.lens.now next _ (sym c.in-Some.ensures), ap (λ (l : List ℕ). parts_len c.args.lens.now (link_parts l next)) c.links-link-items.ensures)

pub returns-in-None : goal.returns-in-None
returns-in-None c =
    let next = c.args.chain.now.next in
    omega (arith, links_end c.args.lens.now c.links-link-items.result.now c.loop-link.link-index next c.loop-link-test.false, join_none c.args.lens.now next (sym c.in-None.ensures), ap (λ (l : List ℕ). parts_len c.args.lens.now (link_parts l next)) c.links-link-items.ensures)
