use Rattle.std.proofs.Common.{◌+◌, ◌∙◌, refl}
use Rattle.mv_base.specs.Bytes.{word}
use Rattle.counter_hooks.specs.Counter.{counter}
use Rattle.counter_hooks.specs.laws.Words.{word_is}
use Rattle.counter_hooks.proofs.code.counter_piece.Goals as goal

pub returns : goal.returns
unfolding counter word
returns c =
    let high = word_is c.to_le_bytes-3.result (c.args.counter + 4) _ c.to_le_bytes-3.ensures refl in
    c.new.ensures ∙ rw (c.to_le_bytes.ensures, c.to_le_bytes-2.ensures, high) refl
