use Rattle.std.proofs.Common.{[], ◌∷◌}
use Rattle.x86_decode.specs.Candidates.{rows_behind}
use Rattle.x86_decode.proofs.Behind.{two_byte_opcode}
use Rattle.x86_decode.proofs.Choosing.{chosen_behind}
use Rattle.x86_decode.proofs.choice.choose_escaped.Goals as goal

pub returns-in-Some : goal.returns-in-Some
returns-in-Some c =
    chosen_behind c.choose_among.result (rows_behind (0x0F ∷ [])) c.args.marks.now c.args.bytes.now c.in-Some.rest.now c.in-Some.opcode.now 1 _ _ c.in-Some.ensures.cases.0 (two_byte_opcode _ c.args.marks.now c.in-Some.rest.now c.in-Some.opcode-test.1) c.two_byte.ensures c.choose_among.ensures
