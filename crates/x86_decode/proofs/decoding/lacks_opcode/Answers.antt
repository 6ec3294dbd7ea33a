use Rattle.std.proofs.Common.{true, sym, ◌∙◌, ap}
use Rattle.x86_decode.proofs.Lacking.{opcode_lacks, lacks_opcode_is}
use Rattle.x86_decode.proofs.decoding.lacks_opcode.Goals as goal

pub returns-in-true-Once-clause-is : goal.returns-in-true-Once-clause-is
returns-in-true-Once-clause-is c = sym (lacks_opcode_is c.args.marks _ c.in-true-Once.ensures ∙ ap (opcode_lacks true) c.in-true-Once.is-1)

pub returns-in-true-F3-clause-is : goal.returns-in-true-F3-clause-is
returns-in-true-F3-clause-is c = sym (lacks_opcode_is c.args.marks _ c.in-true-F3.ensures ∙ ap (opcode_lacks true) c.in-true-F3.is-1)

pub returns-in-true-F3-2-clause-is : goal.returns-in-true-F3-2-clause-is
returns-in-true-F3-2-clause-is c = sym (lacks_opcode_is c.args.marks _ c.in-true-F3.ensures ∙ ap (opcode_lacks true) c.in-true-F3.is-1)

pub returns-in-false-default-clause-is : goal.returns-in-false-default-clause-is
returns-in-false-default-clause-is c = sym (lacks_opcode_is c.args.marks _ c.in-false-default.ensures)
