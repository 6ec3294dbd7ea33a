use Rattle.std.proofs.Common.{refl, sym, ◌∙◌, arith}
use Rattle.x86_insn.specs.declared.insn.Rep.TheVariants.{F3}
use Rattle.x86_decode.proofs.Lacking.{only_with, lacks_hint_is, at_marks, not_repeated}
use Rattle.x86_decode.proofs.decoding.lacks_hint.Goals as goal

pub returns-in-F3-false-false-clause-is : goal.returns-in-F3-false-false-clause-is
returns-in-F3-false-false-clause-is c = sym (lacks_hint_is c.args.marks _ c.in-F3-false-false.ensures ∙ at_marks (only_with F3) _ _ _ _ _ _ c.in-F3-false-false.is-0 refl c.in-F3-false-false.is-2)

pub returns-in_default-clause-is : goal.returns-in_default-clause-is
returns-in_default-clause-is c = sym (lacks_hint_is c.args.marks _ c.in_default.ensures ∙ at_marks (only_with F3) _ _ _ _ _ _ c.in_default.is-0 refl refl)

pub returns-in_default-2-clause-is : goal.returns-in_default-2-clause-is
returns-in_default-2-clause-is c = sym (lacks_hint_is c.args.marks _ c.in_default.ensures ∙ at_marks (only_with F3) _ _ _ _ _ _ c.in_default.is-0 refl c.in_default.is-2)

pub returns-in_default-3 : goal.returns-in_default-3
returns-in_default-3 c = record { is = sym (lacks_hint_is c.args.marks _ c.asks_memory.ensures ∙ not_repeated c.args.marks.rep c.asks_memory.result c.args.marks.word c.in_default.not-F3-0); len = omega arith }
