use Rattle.x86_decode.proofs.Best.{best_short, scan_step, scan_end}
use Rattle.std.proofs.Common.{◌≤◌, sym, subst}
use Rattle.x86_insn.specs.Scanning.{Scan}
use Rattle.x86_decode.specs.Reading.{scan_of, len_of}
use Rattle.x86_decode.proofs.form.scan_forms.Goals as goal

pub loop-form-preserved : goal.loop-form-preserved
loop-form-preserved c = record {
  whole = scan_step c.args.forms.now c.args.marks c.args.opcode c.args.bytes.now c.loop-form.form-index _ _ _ _ _ c.loop-form-test.true c.loop-form.invariant.whole c.scan_operands.ensures.is c.best-reading.ensures;
  len = subst (λ (s : Scan). len_of s ≤ 10) (sym c.best-reading.ensures) (best_short 10 (scan_of c.loop-form.reading) (scan_of c.scan_operands.result) c.loop-form.invariant.len c.scan_operands.ensures.len);
}

pub returns-clause-is : goal.returns-clause-is
returns-clause-is c = scan_end c.args.forms.now c.args.marks c.args.opcode c.args.bytes.now c.loop-form.form-index _ _ c.loop-form-test.false c.loop-form.invariant.whole
