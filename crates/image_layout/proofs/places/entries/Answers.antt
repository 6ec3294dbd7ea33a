use Rattle.std.proofs.lemmas.Option.{get_or_from_slice_get}
use Rattle.std.proofs.Common.{◌≡◌, length, ap, sym, ◌∙◌, arith}
use Rattle.image_layout.proofs.Steps.{chains_step, below_here, place_next, place_chains_end, whole_slice}
use Rattle.image_layout.proofs.places.entries.Goals as goal

pub place_chain-here-requires-clause-below : goal.place_chain-here-requires-clause-below
place_chain-here-requires-clause-below c =
    (below_here _ c.args.chains.now c.loop-number.number c.get.result (omega (arith, c.loop-number-test.true, c.len-number-end.ensures)) (sym (get_or_from_slice_get c.args.chains.now _ _ _ (sym c.get.ensures))) c.loop-number.invariant.below).0

pub place_chain-here-requires-clause-room : goal.place_chain-here-requires-clause-room
place_chain-here-requires-clause-room c =
    omega (arith, chains_step c.args.lens.now c.args.chains.now c.loop-number.number c.get.result (omega (arith, c.loop-number-test.true, c.len-number-end.ensures)) (sym (get_or_from_slice_get c.args.chains.now _ _ _ (sym c.get.ensures))))

pub loop-number-preserved : goal.loop-number-preserved
loop-number-preserved c =
    let cs = c.args.chains.now in
    let i = c.loop-number.number in
    let lens = c.args.lens.now in
    let new = c.place_chain-here.new.entries in
    let old = c.loop-number.entries.items in
    let kept : length new ≡ length old = omega (arith, c.place_chain-here.auto.entries, c.deref_mut.ensures.value) in
    let same = whole_slice old new c.loop-number.entries.len c.loop-number.entries.ok.0 kept in
    record {
      end = omega (arith, c.place_chain-here.ensures.end, chains_step lens cs i c.get.result (omega (arith, c.loop-number-test.true, c.len-number-end.ensures)) (sym (get_or_from_slice_get c.args.chains.now _ _ _ (sym c.get.ensures))));
      are = λ k. place_next lens old c.deref_mut.result.now new _ cs i c.get.result c.loop-number.here c.place_chain-here.result k (omega (arith, c.loop-number-test.true, c.len-number-end.ensures)) (sym (get_or_from_slice_get c.args.chains.now _ _ _ (sym c.get.ensures))) c.deref_mut.ensures.value same c.place_chain-here.ensures.end (c.place_chain-here.ensures.are k) ∙ c.loop-number.invariant.are k;
      count = ap length same ∙ (kept ∙ c.loop-number.invariant.count);
      below = (below_here _ cs i c.get.result (omega (arith, c.loop-number-test.true, c.len-number-end.ensures)) (sym (get_or_from_slice_get c.args.chains.now _ _ _ (sym c.get.ensures))) c.loop-number.invariant.below).1;
    }

pub returns-clause-are : goal.returns-clause-are
returns-clause-are c =
    λ k. sym (place_chains_end c.args.lens.now c.loop-number.entries.items c.args.chains.now c.loop-number.number c.loop-number.here k (omega (arith, c.loop-number-test.false, c.len-number-end.ensures))) ∙ c.loop-number.invariant.are k
