use Rattle.std.proofs.Common.{ℕ, ◌<◌, List, length, ap, sym, ◌∙◌, subst, arith}
use Rattle.std.specs.List.{All}
use Rattle.std.specs.Prelude.{slice_index}
use Rattle.image_layout.specs.Parts.{link_parts, parts_len, placed, place_or}
use Rattle.image_layout.proofs.Steps.{links_step, links_end, join_some, join_none, place_step, place_links_end}
use Rattle.image_layout.proofs.places.place_chain.Goals as goal

pub overflow_add-here : goal.overflow_add-here
overflow_add-here c =
    let next = c.args.chain.now.next in
    omega (arith, links_step c.args.lens.now c.links-link-items.result.now c.loop-link.link-index next c.loop-link-test.true, ap (λ (l : List ℕ). parts_len c.args.lens.now (link_parts l next)) c.links-link-items.ensures)

pub loop-link-preserved : goal.loop-link-preserved
loop-link-preserved c =
    let items = c.links-link-items.result.now in
    let next = c.args.chain.now.next in
    let low = subst (λ (l : List ℕ). All (λ k. k < length c.args.lens.now) l) (sym c.links-link-items.ensures) c.requires.below in
    record {
      end = omega (arith, links_step c.args.lens.now items c.loop-link.link-index next c.loop-link-test.true);
      are = λ k. place_step c.args.lens.now c.loop-link.entries items c.loop-link.link-index next c.loop-link.here c.from-here.result k c.loop-link-test.true (omega (arith, low c.loop-link.link-index 0 c.loop-link-test.true, c.loop-link.auto.entries, c.requires.count)) c.from-here.ensures ∙ c.loop-link.invariant.are k;
    }

pub overflow_add-result : goal.overflow_add-result
overflow_add-result c =
    let next = c.args.chain.now.next in
    omega (arith, links_end c.args.lens.now c.links-link-items.result.now c.loop-link.link-index next c.loop-link-test.false, join_some c.args.lens.now next _ (sym c.in-Some.ensures), ap (λ (l : List ℕ). parts_len c.args.lens.now (link_parts l next)) c.links-link-items.ensures)

pub returns-in-Some-clause-end : goal.returns-in-Some-clause-end
returns-in-Some-clause-end c =
    let next = c.args.chain.now.next in
    omega (arith, links_end c.args.lens.now c.links-link-items.result.now c.loop-link.link-index next c.loop-link-test.false, join_some c.args.lens.now next _ (sym c.in-Some.ensures), ap (λ (l : List ℕ). parts_len c.args.lens.now (link_parts l next)) c.links-link-items.ensures)

pub returns-in-Some-clause-are : goal.returns-in-Some-clause-are
returns-in-Some-clause-are c =
    let items = c.links-link-items.result.now in
    let next = c.args.chain.now.next in
    λ k.
    sym (place_links_end c.args.lens.now c.loop-link.entries items c.loop-link.link-index next c.loop-link.here k c.loop-link-test.false)
    ∙ (c.loop-link.invariant.are k
    ∙ ap (λ (l : List ℕ). place_or (slice_index c.args.entries.now k) (placed c.args.lens.now c.args.from (link_parts l next)) k) c.links-link-items.ensures)

pub returns-in-None-clause-end : goal.returns-in-None-clause-end
returns-in-None-clause-end c =
    let next = c.args.chain.now.next in
    omega (arith, links_end c.args.lens.now c.links-link-items.result.now c.loop-link.link-index next c.loop-link-test.false, join_none c.args.lens.now next (sym c.in-None.ensures), ap (λ (l : List ℕ). parts_len c.args.lens.now (link_parts l next)) c.links-link-items.ensures)

pub returns-in-None-clause-are : goal.returns-in-None-clause-are
returns-in-None-clause-are c =
    let items = c.links-link-items.result.now in
    let next = c.args.chain.now.next in
    λ k.
    sym (place_links_end c.args.lens.now c.loop-link.entries items c.loop-link.link-index next c.loop-link.here k c.loop-link-test.false)
    ∙ (c.loop-link.invariant.are k
    ∙ ap (λ (l : List ℕ). place_or (slice_index c.args.entries.now k) (placed c.args.lens.now c.args.from (link_parts l next)) k) c.links-link-items.ensures)
