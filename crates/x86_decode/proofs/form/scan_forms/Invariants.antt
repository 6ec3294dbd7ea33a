use Rattle.std.proofs.Common.{◌≡◌, ◌≤◌, drop}
use Rattle.x86_insn.specs.Scanning.{best}
use Rattle.x86_decode.specs.Candidates.{scan_forms}
use Rattle.x86_decode.specs.Reading.{scan_of, len_of}
use Rattle.x86_decode.proofs.form.scan_forms.Given as goal

-- the reading so far and that of the forms to come
abbrev pub invariant-loop-form : goal.invariant-loop-form
invariant-loop-form l = record {
  whole : best (scan_of l.reading) (scan_forms (drop l.form-index l.forms) l.fn.marks l.fn.opcode l.bytes) ≡ scan_forms l.forms l.fn.marks l.fn.opcode l.bytes;
  len : len_of (scan_of l.reading) ≤ 10;
}
