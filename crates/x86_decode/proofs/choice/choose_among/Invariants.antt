use Rattle.std.proofs.Common.{◌≡◌, drop}
use Rattle.x86_decode.specs.Candidates.{scan_forms}
use Rattle.x86_decode.proofs.choice.choose_among.Given as goal

-- those looked at take no such bytes
abbrev pub invariant-loop-form : goal.invariant-loop-form
invariant-loop-form l = scan_forms l.forms l.fn.marks l.fn.opcode l.fn.bytes ≡ scan_forms (drop l.form-index l.forms) l.fn.marks l.fn.opcode l.fn.bytes
