use Rattle.std.proofs.Common.{ap, ◌∙◌, arith}
use Rattle.mini_asm.specs.Faults.{is_line}
use Rattle.mini_asm.proofs.Lines.{is_line-take, is_line-all, first-line, split-line}
use Rattle.mini_asm.proofs.source.next_line.Goals as goal

pub returns-in_err-memchr-clause-none : goal.returns-in_err-memchr-clause-none
returns-in_err-memchr-clause-none c =
    rw c.from_residual.ensures (is_line-all c.args.text.now (λ k below. c.in_err-memchr.ensures k (omega arith) below))

pub returns-clause-some : goal.returns-clause-some
returns-clause-some c =
    let text = c.args.text.now in
    let n = c.in_ok-memchr.field-0 in
    let found = c.in_ok-memchr.ensures in
    let behind = c.split_at.ensures.back ∙ first-line text n found.0.high found.1 in
    record {
      whole = split-line text c.split_at.result.0.now c.split_at.result.1.now _ n c.split_at.ensures.front c.split_at.ensures.back behind;
      one = ap is_line c.split_at.ensures.front ∙ is_line-take text n (λ k below. found.0.before k (omega arith) below);
    }
