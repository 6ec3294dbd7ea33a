use Rattle.std.proofs.Common.{[], None, refl, arith}
use Rattle.x86_insn.specs.Rows.{rows}
use Rattle.x86_decode.specs.declared.opcode_map.TheConstants.{ONE_BYTE}
use Rattle.x86_decode.specs.Candidates.{rows_behind}
use Rattle.x86_decode.proofs.Maps.{map_right}
use Rattle.x86_decode.proofs.opcode_map.one_byte_single.Goals as goal

-- the map is computed
pub returns : goal.returns
unfolding rows_behind rows
returns c = map_right ONE_BYTE 0 256 [] None refl c.args.opcode c.args.opcode (omega arith) (omega arith)
