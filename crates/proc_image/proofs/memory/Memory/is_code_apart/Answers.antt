use Rattle.std.proofs.Common.{◌∙◌, ap, refl, arith, slice_index}
use Rattle.mv_base.specs.Memory.{exec_byte}
use Rattle.proc_image.specs.Paged.{cells}
use Rattle.proc_image.proofs.Executing.{alike-start, alike-next, alike-none, alike-other, alike-end}
use Rattle.proc_image.proofs.memory.Memory.is_code_apart.Goals as goal

pub loop-byte-init : goal.loop-byte-init
loop-byte-init c = record { next_is = omega arith; alike = alike-start (exec_byte (cells c.args.self.now)) c.args.bytes.now c.args.at }

pub returns-then-code-byte : goal.returns-then-code-byte
returns-then-code-byte c = (
  λ f. absurd (cc),
  λ all. absurd (
      alike-other (exec_byte (cells c.args.self.now)) c.args.bytes.now c.args.at c.loop-byte.byte-index (slice_index c.args.bytes.now c.loop-byte.byte-index)
      c.loop-byte-test.true refl c.loop-byte.invariant.alike c.in-Some.code (c.in-Some.ensures ∙ ap (exec_byte (cells c.args.self.now)) c.loop-byte.invariant.next_is) c.if-code-byte.true all),
)

pub returns-in-None : goal.returns-in-None
returns-in-None c = (
  λ f. absurd (cc),
  λ all. absurd (
      alike-none (exec_byte (cells c.args.self.now)) c.args.bytes.now c.args.at c.loop-byte.byte-index (slice_index c.args.bytes.now c.loop-byte.byte-index)
      c.loop-byte-test.true refl c.loop-byte.invariant.alike (c.in-None.ensures ∙ ap (exec_byte (cells c.args.self.now)) c.loop-byte.invariant.next_is) all),
)

pub loop-byte-preserved : goal.loop-byte-preserved
loop-byte-preserved c = record {
  next_is = omega arith;
  alike = alike-next (exec_byte (cells c.args.self.now)) c.args.bytes.now c.args.at c.loop-byte.byte-index c.in-Some.code
      c.loop-byte-test.true c.if-code-byte.false c.loop-byte.invariant.alike (c.in-Some.ensures ∙ ap (exec_byte (cells c.args.self.now)) c.loop-byte.invariant.next_is);
}

pub returns : goal.returns
returns c = (λ _. alike-end (exec_byte (cells c.args.self.now)) c.args.bytes.now c.args.at c.loop-byte.byte-index c.loop-byte-test.false c.loop-byte.invariant.alike, λ _. refl)
