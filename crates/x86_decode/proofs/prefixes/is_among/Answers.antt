use Rattle.x86_decode.proofs.Among.{among_at, among_step, among_end}
use Rattle.std.proofs.Common.{sym}
use Rattle.x86_decode.proofs.prefixes.is_among.Goals as goal

pub loop-other-preserved : goal.loop-other-preserved
loop-other-preserved c = among_step c.args.list.now c.loop-other.other-index _ c.args.byte _ c.loop-other-test.true c.if-byte-other.false c.loop-other.invariant

pub returns-then-byte-other : goal.returns-then-byte-other
returns-then-byte-other c = sym (among_at c.args.list.now c.loop-other.other-index _ c.args.byte c.loop-other-test.true c.if-byte-other.true)

pub returns : goal.returns
returns c = among_end c.args.list.now c.loop-other.other-index c.args.byte _ c.loop-other-test.false c.loop-other.invariant
