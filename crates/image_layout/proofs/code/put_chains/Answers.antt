use Rattle.std.proofs.lemmas.Option.{get_or_from_slice_get}
use Rattle.std.proofs.Common.{ℕ, refl, ◌∙◌, arith, sym}
use Rattle.elf32_read.specs.Runs.{code_of}
use Rattle.image_layout.specs.Rules.{both}
use Rattle.image_layout.specs.Layout.{moved}
use Rattle.image_layout.specs.Parts.{chain_parts}
use Rattle.image_layout.specs.Pieces.{counters, code_lens, part_bytes, chain_code}
use Rattle.image_layout.proofs.Steps.{chains_step, chains_gone, below_here}
use Rattle.image_layout.proofs.Putting.{put_chain, length-put, put_all, sized_parts}
use Rattle.image_layout.proofs.code.put_chains.Goals as goal

pub put_chain-requires-clause-below : goal.put_chain-requires-clause-below
put_chain-requires-clause-below g c =
    (below_here _ c.args.chains.now c.loop-number.number c.get-chain.result (omega (arith, c.loop-number-test.true, c.len-number-end.ensures)) (sym (get_or_from_slice_get c.args.chains.now _ _ _ (sym c.get-chain.ensures))) c.loop-number.invariant.below).0

pub put_chain-requires-clause-room : goal.put_chain-requires-clause-room
put_chain-requires-clause-room g c =
    omega (arith, chains_step (code_lens (both c.args.hooks.now c.args.edges.now) c.args.sites.now) c.args.chains.now c.loop-number.number c.get-chain.result (omega (arith, c.loop-number-test.true, c.len-number-end.ensures)) (sym (get_or_from_slice_get c.args.chains.now _ _ _ (sym c.get-chain.ensures))))

pub loop-number-preserved : goal.loop-number-preserved
loop-number-preserved g c =
    let rules = (both c.args.hooks.now c.args.edges.now) in
    let ss = c.args.sites.now in
    let lens = code_lens rules ss in
    let cs = c.args.chains.now in
    let i = c.loop-number.number in
    let move : ℕ → ℕ = moved c.args.table.now.pairs in
    let code = code_of c.args.runs.now in
    let bytes = part_bytes c.args.anchors move code (counters rules c.args.anchors ss) ss in
    let sized = sized_parts rules c.args.anchors move code ss c.requires.whole c.requires.ascend in
    let now = c.loop-number.code.items in
    let new = c.put_chain.new.code.items in
    record {
      whole = put_chain lens bytes c.args.anchors.stub sized cs i c.get-chain.result now new (omega (arith, c.loop-number-test.true, c.len-number-end.ensures)) (sym (get_or_from_slice_get c.args.chains.now _ _ _ (sym c.get-chain.ensures))) c.in_ok-put_chain.ensures ∙ c.loop-number.invariant.whole;
      room = omega (arith, length-put lens bytes c.args.anchors.stub sized now new (chain_parts c.get-chain.result) c.in_ok-put_chain.ensures, chains_step lens cs i c.get-chain.result (omega (arith, c.loop-number-test.true, c.len-number-end.ensures)) (sym (get_or_from_slice_get c.args.chains.now _ _ _ (sym c.get-chain.ensures))), c.loop-number.invariant.room);
      below = (below_here _ cs i c.get-chain.result (omega (arith, c.loop-number-test.true, c.len-number-end.ensures)) (sym (get_or_from_slice_get c.args.chains.now _ _ _ (sym c.get-chain.ensures))) c.loop-number.invariant.below).1;
    }

pub returns : goal.returns
unfolding chain_code
returns g c =
    let ss = c.args.sites.now in
    let bytes = part_bytes c.args.anchors (moved c.args.table.now.pairs) (code_of c.args.runs.now) (counters (both c.args.hooks.now c.args.edges.now) c.args.anchors ss) ss in
    put_all (code_lens (both c.args.hooks.now c.args.edges.now) ss) bytes c.args.anchors.stub c.loop-number.code.items c.loop-number.code.items _ (chains_gone c.args.chains.now c.loop-number.number (omega (arith, c.loop-number-test.false, c.len-number-end.ensures))) refl ∙ c.loop-number.invariant.whole
