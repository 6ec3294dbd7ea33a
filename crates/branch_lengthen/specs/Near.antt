-- The pieces of direct transfers, by the address at which they stand and the one to which they go. Intel SDM, volume 2;
-- that these bytes stand for an instruction is this project's own.
use Rattle.std.specs.Prelude.{ℕ, ◌+◌, List, [], ◌∷◌}
use Rattle.std.specs.List.{concat}
use Rattle.mv_base.specs.Bytes.{word}
use Rattle.mv_base.specs.Memory.{distance, address_after}
use Rattle.x86_insn.specs.declared.insn.Cond.{Cond}
use Rattle.x86_insn.specs.declared.insn.Insn.{Insn}
use Rattle.x86_insn.specs.declared.insn.Insn.TheVariants as insn
use Rattle.x86_insn.specs.declared.insn.LoopKind.{LoopKind}
use Rattle.x86_insn.specs.declared.insn.LoopKind.TheVariants.{Ne, E, Plain, Ecxz}
use Rattle.x86_insn.specs.declared.insn.Flow.{Flow}
use Rattle.x86_insn.specs.declared.insn.Flow.TheVariants as flow
use Rattle.x86_insn.specs.Meaning.{cond_number}
pub use Rattle.step_laws.specs.Jumps.{jump_bytes}

-- a near branch: 0F, 80 and the condition's number, and the displacement from its end
abbrev pub branch_bytes : Cond → ℕ → ℕ → List ℕ
branch_bytes cond here to = 0x0F ∷ (0x80 + cond_number cond) ∷ word (distance (address_after here 6) to)

-- LOOPNE, LOOPE, LOOP and JECXZ
abbrev pub loop_opcode : LoopKind → ℕ
loop_opcode Ne = 0xE0
loop_opcode E = 0xE1
loop_opcode Plain = 0xE2
loop_opcode Ecxz = 0xE3

-- the same instruction jumps over a short jump, which jumps over a near one: loop +2; jmp +5; jmp to
abbrev pub count_parts : LoopKind → ℕ → ℕ → List (List ℕ)
count_parts kind here to = (loop_opcode kind ∷ 2 ∷ []) ∷ (0xEB ∷ 5 ∷ []) ∷ jump_bytes (address_after here 4) to ∷ []

abbrev pub count_bytes : LoopKind → ℕ → ℕ → List ℕ
count_bytes kind here to = concat (count_parts kind here to)

-- the piece of a direct transfer but a call; no other instruction has one of these
abbrev pub near_bytes : Insn → ℕ → ℕ → List ℕ
near_bytes (insn.Jump rel) here to = jump_bytes here to
near_bytes (insn.Branch cond rel) here to = branch_bytes cond here to
near_bytes (insn.Loop kind rel) here to = count_bytes kind here to
near_bytes i here to = []

-- the flows whose pieces these are: all but calls, returns and jumps through an operand
abbrev pub IsNear : Flow → Type 0
IsNear flow.Plain = Unit {0}
IsNear flow.System = Unit {0}
IsNear flow.Trap = Unit {0}
IsNear flow.Jump = Unit {0}
IsNear flow.Branch = Unit {0}
IsNear flow.Count = Unit {0}
IsNear flow.Call = ⊥
IsNear flow.JumpVia = ⊥
IsNear flow.CallVia = ⊥
IsNear flow.Return = ⊥

-- how many bytes the piece of an instruction of these flows has, by the instruction's own
abbrev pub near_size : Flow → ℕ → ℕ
near_size flow.Plain len = len
near_size flow.System len = len
near_size flow.Trap len = len
near_size flow.Jump len = 5
near_size flow.Branch len = 6
near_size flow.Count len = 9
near_size flow.Call len = 0
near_size flow.JumpVia len = 0
near_size flow.CallVia len = 0
near_size flow.Return len = 0

-- the piece of an instruction of these flows: its own bytes, or a direct transfer's
abbrev pub near_code : Flow → List ℕ → Insn → ℕ → ℕ → List ℕ
near_code flow.Plain own i here to = own
near_code flow.System own i here to = own
near_code flow.Trap own i here to = own
near_code flow.Jump own i here to = near_bytes i here to
near_code flow.Branch own i here to = near_bytes i here to
near_code flow.Count own i here to = near_bytes i here to
near_code flow.Call own i here to = []
near_code flow.JumpVia own i here to = []
near_code flow.CallVia own i here to = []
near_code flow.Return own i here to = []
