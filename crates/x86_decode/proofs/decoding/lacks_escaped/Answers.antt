use Rattle.std.proofs.Common.{refl, sym, ◌∙◌}
use Rattle.x86_decode.proofs.Lacking.{escaped_lacks, lacks_escaped_is, at_marks}
use Rattle.x86_decode.proofs.decoding.lacks_escaped.Goals as goal

pub returns-in-Once-false-false-clause-is : goal.returns-in-Once-false-false-clause-is
returns-in-Once-false-false-clause-is c = sym (lacks_escaped_is c.args.marks _ c.in-Once-false-false.ensures ∙ at_marks escaped_lacks _ _ _ _ _ _ c.in-Once-false-false.is-0 refl c.in-Once-false-false.is-2)

pub returns-in-F3-default-default-clause-is : goal.returns-in-F3-default-default-clause-is
returns-in-F3-default-default-clause-is c = sym (lacks_escaped_is c.args.marks _ c.in-F3-default-default.ensures ∙ at_marks escaped_lacks _ _ _ _ _ _ c.in-F3-default-default.is-0 refl refl)

pub returns-in-F3-default-default-2-clause-is : goal.returns-in-F3-default-default-2-clause-is
returns-in-F3-default-default-2-clause-is c = sym (lacks_escaped_is c.args.marks _ c.in-F3-default-default.ensures ∙ at_marks escaped_lacks _ _ _ _ _ _ c.in-F3-default-default.is-0 refl c.in-F3-default-default.is-2)

pub returns-in-F3-default-default-3-clause-is : goal.returns-in-F3-default-default-3-clause-is
returns-in-F3-default-default-3-clause-is c = sym (lacks_escaped_is c.args.marks _ c.asks_memory.ensures ∙ at_marks escaped_lacks _ _ _ _ _ _ c.in-F3-default-default.is-0 refl refl)

pub returns-in-Once-default-default-clause-is : goal.returns-in-Once-default-default-clause-is
returns-in-Once-default-default-clause-is c = sym (lacks_escaped_is c.args.marks _ c.in-Once-default-default.ensures ∙ at_marks escaped_lacks _ _ _ _ _ _ c.in-Once-default-default.is-0 refl refl)

pub returns-in-Once-default-default-2-clause-is : goal.returns-in-Once-default-default-2-clause-is
returns-in-Once-default-default-2-clause-is c = sym (lacks_escaped_is c.args.marks _ c.in-Once-default-default.ensures ∙ at_marks escaped_lacks _ _ _ _ _ _ c.in-Once-default-default.is-0 refl c.in-Once-default-default.is-2)

pub returns-in-Once-default-default-3-clause-is : goal.returns-in-Once-default-default-3-clause-is
returns-in-Once-default-default-3-clause-is c = sym (lacks_escaped_is c.args.marks _ c.in-Once-default-default.ensures ∙ at_marks escaped_lacks _ _ _ _ _ _ c.in-Once-default-default.is-0 refl c.in-Once-default-default.is-2)
