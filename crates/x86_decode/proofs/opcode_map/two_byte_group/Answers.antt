use Rattle.std.proofs.Common.{ℕ, [], ◌∷◌, sym, ap}
use Rattle.x86_insn.specs.Rows.{rows}
use Rattle.x86_decode.specs.Candidates.{rows_behind, group_at}
use Rattle.x86_decode.proofs.opcode_map.two_byte_group.Goals as goal

pub returns-in-186 : goal.returns-in-186
unfolding rows_behind rows
returns-in-186 c = sym (ap (λ (b : ℕ). group_at b (0x0F ∷ [])) c.in-186.is)
