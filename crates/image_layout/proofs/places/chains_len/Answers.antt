use Rattle.std.proofs.lemmas.Option.{get_or_from_slice_get}
use Rattle.std.proofs.Common.{arith, sym}
use Rattle.image_layout.proofs.Steps.{chains_step, chains_end, below_here}
use Rattle.image_layout.proofs.places.chains_len.Goals as goal

pub chain_len-len-requires-clause-below : goal.chain_len-len-requires-clause-below
chain_len-len-requires-clause-below c =
    (below_here _ c.args.chains.now c.loop-number.number c.get.result (omega (arith, c.loop-number-test.true, c.len-number-end.ensures)) (sym (get_or_from_slice_get c.args.chains.now _ _ _ (sym c.get.ensures))) c.loop-number.invariant.below).0

pub chain_len-len-requires-clause-room : goal.chain_len-len-requires-clause-room
chain_len-len-requires-clause-room c =
    omega (arith, chains_step c.args.lens.now c.args.chains.now c.loop-number.number c.get.result (omega (arith, c.loop-number-test.true, c.len-number-end.ensures)) (sym (get_or_from_slice_get c.args.chains.now _ _ _ (sym c.get.ensures))))

pub overflow_add-len : goal.overflow_add-len
overflow_add-len c =
    omega (arith, chains_step c.args.lens.now c.args.chains.now c.loop-number.number c.get.result (omega (arith, c.loop-number-test.true, c.len-number-end.ensures)) (sym (get_or_from_slice_get c.args.chains.now _ _ _ (sym c.get.ensures))))

pub loop-number-preserved : goal.loop-number-preserved
loop-number-preserved c = record {
  whole = omega (arith, chains_step c.args.lens.now c.args.chains.now c.loop-number.number c.get.result (omega (arith, c.loop-number-test.true, c.len-number-end.ensures)) (sym (get_or_from_slice_get c.args.chains.now _ _ _ (sym c.get.ensures))));
  below = (below_here _ c.args.chains.now c.loop-number.number c.get.result (omega (arith, c.loop-number-test.true, c.len-number-end.ensures)) (sym (get_or_from_slice_get c.args.chains.now _ _ _ (sym c.get.ensures))) c.loop-number.invariant.below).1;
}

pub returns : goal.returns
returns c = omega (arith, chains_end c.args.lens.now c.args.chains.now c.loop-number.number (omega (arith, c.loop-number-test.false, c.len-number-end.ensures)))
