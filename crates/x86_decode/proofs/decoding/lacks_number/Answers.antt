use Rattle.std.proofs.Common.{refl, sym, ◌∙◌, arith}
use Rattle.x86_insn.specs.declared.insn.Rep.TheVariants.{Once}
use Rattle.x86_decode.proofs.Lacking.{only_with, lacks_number_is, at_marks, not_plain}
use Rattle.x86_decode.proofs.decoding.lacks_number.Goals as goal

pub returns-in-Once-false-false-clause-is : goal.returns-in-Once-false-false-clause-is
returns-in-Once-false-false-clause-is c = sym (lacks_number_is c.args.marks _ c.in-Once-false-false.ensures ∙ at_marks (only_with Once) _ _ _ _ _ _ c.in-Once-false-false.is-0 refl c.in-Once-false-false.is-2)

pub returns-in_default-clause-is : goal.returns-in_default-clause-is
returns-in_default-clause-is c = sym (lacks_number_is c.args.marks _ c.in_default.ensures ∙ at_marks (only_with Once) _ _ _ _ _ _ c.in_default.is-0 refl refl)

pub returns-in_default-2-clause-is : goal.returns-in_default-2-clause-is
returns-in_default-2-clause-is c = sym (lacks_number_is c.args.marks _ c.in_default.ensures ∙ at_marks (only_with Once) _ _ _ _ _ _ c.in_default.is-0 refl c.in_default.is-2)

pub returns-in_default-3 : goal.returns-in_default-3
returns-in_default-3 c = record { is = sym (lacks_number_is c.args.marks _ c.asks_memory.ensures ∙ not_plain c.args.marks.rep c.asks_memory.result c.args.marks.word c.in_default.not-Once-0); len = omega arith }
