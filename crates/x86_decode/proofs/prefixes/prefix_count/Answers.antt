use Rattle.x86_decode.proofs.Among.{front_step, front_end, front_other}
use Rattle.std.proofs.Common.{ℕ, ◌+◌, ap, sym, ◌∙◌}
use Rattle.x86_decode.proofs.prefixes.prefix_count.Goals as goal

pub loop-byte-preserved : goal.loop-byte-preserved
loop-byte-preserved c = record {
  counted = ap (λ (n : ℕ). n + 1) c.loop-byte.invariant.counted;
  whole = front_step c.args.bytes.now c.loop-byte.byte-index 0 _ c.loop-byte-test.true (sym c.is_prefix.ensures ∙ c.if-not-is_prefix.false) c.loop-byte.invariant.whole;
}

pub returns-then-not-is_prefix : goal.returns-then-not-is_prefix
returns-then-not-is_prefix c = c.loop-byte.invariant.counted ∙ front_other c.args.bytes.now c.loop-byte.byte-index 0 _ c.loop-byte-test.true (sym c.is_prefix.ensures ∙ c.if-not-is_prefix.true) c.loop-byte.invariant.whole

pub returns : goal.returns
returns c = c.loop-byte.invariant.counted ∙ front_end c.args.bytes.now c.loop-byte.byte-index _ c.loop-byte-test.false c.loop-byte.invariant.whole
