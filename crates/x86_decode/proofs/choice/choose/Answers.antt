use Rattle.std.proofs.Common.{[], ap, ◌∙◌}
use Rattle.x86_decode.specs.Candidates.{rows_behind, scan_rest}
use Rattle.x86_decode.proofs.Behind.{escape_byte, one_byte_opcode}
use Rattle.x86_decode.proofs.Choosing.{chosen_bare, chosen_behind, chosen_through}
use Rattle.x86_decode.proofs.choice.choose.Goals as goal

pub returns-in-Some-eq15-default : goal.returns-in-Some-eq15-default
returns-in-Some-eq15-default c =
    chosen_through c.choose_escaped.result c.args.marks.now _ _ (ap (scan_rest (rows_behind []) c.args.marks.now) c.in-Some-eq15-default.ensures.cases.0 ∙ escape_byte _ c.args.marks.now c.in-Some-eq15-default.rest.now c.in-Some-eq15-default.field-0-0-test) c.choose_escaped.ensures

pub returns-in-Some : goal.returns-in-Some
returns-in-Some c =
    chosen_bare c.choose_among.result c.args.marks.now _ (chosen_behind c.choose_among.result (rows_behind []) c.args.marks.now c.args.bytes.now c.in-Some.rest.now c.in-Some.opcode.now 0 _ _ c.in-Some.ensures.cases.0 (one_byte_opcode _ c.args.marks.now c.in-Some.rest.now c.in-Some.opcode-test.0.1 c.in-Some.opcode-test.1) c.one_byte.ensures c.choose_among.ensures)
