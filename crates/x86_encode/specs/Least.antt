-- The least spelling: the least over the candidates of an instruction, and the three rows of each one's kind. This project's
-- own.
use Rattle.std.specs.Prelude.{ℕ, List, Option, Some, None, if◌then◌else◌}
use Rattle.x86_insn.specs.declared.insn.Insn.{Insn}
use Rattle.x86_insn.specs.declared.row.Row.{Row}
use Rattle.x86_insn.specs.declared.row.Operands.{Operands}
use Rattle.x86_encode.specs.declared.candidates.Candidate.{Candidate}
use Rattle.x86_encode.specs.Order.{is_upto}
use Rattle.x86_encode.specs.Assembling.{assembled}
use Rattle.x86_encode.specs.Slots.{byte_row, full_row, short_row}
use Rattle.x86_encode.specs.Candidates.{general, special}

abbrev pub lesser : Option (List ℕ) → Option (List ℕ) → Option (List ℕ)
lesser None t = t
lesser (Some s) None = Some s
lesser (Some s) (Some t) = if is_upto s t then Some s else Some t

abbrev pub by_row : Option Row → Operands → Option (List ℕ)
by_row None o = None
by_row (Some r) o = assembled r o

unfoldable pub by_rows : Candidate → Option (List ℕ)
by_rows c =
    lesser (by_row (byte_row c.kind) c.operands) (lesser (by_row (full_row c.kind) c.operands) (by_row (short_row c.kind) c.operands))

abbrev pub by_candidate : Option Candidate → Option (List ℕ)
by_candidate None = None
by_candidate (Some c) = by_rows c

unfoldable pub least : Insn → Option (List ℕ)
least i = lesser (by_candidate (general i)) (by_candidate (special i))
