use Rattle.std.proofs.Common.{◌+◌, ◌∙◌, arith}
use Rattle.mini_asm.proofs.Splitting.{word-more, word-space, word-end, rest_is, nothing-left}
use Rattle.mini_asm.proofs.words.word.Goals as goal

pub returns-then-byte-eq32-clause-word : goal.returns-then-byte-eq32-clause-word
returns-then-byte-eq32-clause-word c =
    (word-space c.args.text.now c.loop-at.at (omega arith) c.if-byte-eq32.true c.loop-at.invariant).word_is

pub returns-then-byte-eq32-clause-rest : goal.returns-then-byte-eq32-clause-rest
returns-then-byte-eq32-clause-rest c =
    rest_is c.args.text.now (c.loop-at.at + 1)
    ∙ (word-space c.args.text.now c.loop-at.at (omega arith) c.if-byte-eq32.true c.loop-at.invariant).rest_is

pub loop-at-preserved : goal.loop-at-preserved
loop-at-preserved c = word-more c.args.text.now c.loop-at.at (omega arith) c.if-byte-eq32.false c.loop-at.invariant

pub returns-clause-word : goal.returns-clause-word
returns-clause-word c = (word-end c.args.text.now c.loop-at.at (omega arith) c.loop-at.invariant).word_is

pub returns-clause-rest : goal.returns-clause-rest
returns-clause-rest c =
    nothing-left c.args.text.now ∙ (word-end c.args.text.now c.loop-at.at (omega arith) c.loop-at.invariant).rest_is
