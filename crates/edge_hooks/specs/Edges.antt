-- The piece of a branch or a loop with a counter on each of its ways. This project's own; the encodings are Intel's.
use Rattle.std.specs.Prelude.{◌≡◌, ℕ, ◌+◌, List, [], ◌∷◌, length}
use Rattle.std.specs.List.{concat}
use Rattle.mv_base.specs.Memory.{Memory, address_after}
use Rattle.x86_insn.specs.declared.insn.Insn.{Insn}
use Rattle.x86_insn.specs.declared.insn.Insn.TheVariants as insn
use Rattle.x86_insn.specs.declared.insn.Flow.{Flow}
use Rattle.x86_insn.specs.declared.insn.Flow.TheVariants as flow
use Rattle.x86_insn.specs.Meaning.{cond_number}
use Rattle.step_laws.specs.Jumps.{jump_bytes}
use Rattle.step_laws.specs.Standing.{Stands}
use Rattle.branch_lengthen.specs.Near.{loop_opcode}

-- how many bytes a counter has
abbrev pub counter_size : ℕ
counter_size = 46

-- the same instruction, which jumps over a counter and a short jump: 0F, 80 and the condition's number, 48; or the loop's
-- opcode, 48
abbrev pub front_bytes : Insn → List ℕ
front_bytes (insn.Branch cond rel) = 0x0F ∷ (0x80 + cond_number cond) ∷ 0x30 ∷ 0 ∷ 0 ∷ 0 ∷ []
front_bytes (insn.Loop kind rel) = loop_opcode kind ∷ 0x30 ∷ []
front_bytes i = []

-- where the counters stand and the near jump, from the piece's first byte on
abbrev pub passed_from : Insn → ℕ
passed_from i = length (front_bytes i)

abbrev pub taken_from : Insn → ℕ
taken_from i = passed_from i + 48

abbrev pub jump_from : Insn → ℕ
jump_from i = passed_from i + 94

-- the instruction; the counter of those that pass, and a short jump behind the piece; the counter of those that are taken,
-- and a near jump to the target
abbrev pub edge_parts : Insn → ℕ → ℕ → List ℕ → List ℕ → List (List ℕ)
edge_parts i here to passed taken =
    front_bytes i ∷ passed ∷ (0xEB ∷ 0x33 ∷ []) ∷ taken ∷ jump_bytes (address_after here (jump_from i)) to ∷ []

abbrev pub edge_bytes : Insn → ℕ → ℕ → List ℕ → List ℕ → List ℕ
edge_bytes i here to passed taken = concat (edge_parts i here to passed taken)

-- how many bytes that is, where it stands for an instruction
abbrev pub edge_size : Flow → ℕ
edge_size flow.Branch = 105
edge_size flow.Count = 101
edge_size _ = 0

-- such a piece stands in memory, with these bytes for its counters
pub record IsEdge (i : Insn) (here to : ℕ) (passed taken : List ℕ) (m : Memory) : Type 0 where
  pub stands : Stands m here (edge_bytes i here to passed taken)
  pub passed_len : length passed ≡ counter_size
  pub taken_len : length taken ≡ counter_size
