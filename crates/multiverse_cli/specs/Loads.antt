-- What loads the operand of a jump or a call in an output. Source of the instructions: Intel SDM, volume 2.
use Rattle.std.specs.Prelude.{ℕ, List, ◌⊎◌}
use Rattle.x86_insn.specs.Meaning.{source_of}
use Rattle.x86_insn.specs.Spelling.{Spells}
use Rattle.x86_insn.specs.declared.insn.Insn.TheVariants as insn
use Rattle.x86_insn.specs.declared.insn.Reg.TheVariants.{Eax}
use Rattle.x86_insn.specs.declared.insn.Rm.{Rm}
use Rattle.x86_insn.specs.declared.insn.Rm.TheVariants.{R}
use Rattle.x86_insn.specs.declared.insn.Width.TheVariants.{D}
use Rattle.x86_encode.specs.Encoding.{IsLeast}
use Rattle.call_rewrite.specs.Far.{load_bytes}

-- some spelling is that of a jump or a call through the operand
abbrev pub IsGoneThrough : Rm → Type 0
IsGoneThrough operand = (s : List ℕ) × (Spells s (insn.JumpVia operand) ⊎ Spells s (insn.CallVia operand))

-- the bytes that load EAX from such an operand are a spelling of MOV, as short as any, and the least of the shortest
abbrev pub LoadsByLeast : Type 0
LoadsByLeast = (operand : Rm) → IsGoneThrough operand → IsLeast (insn.Mov D (R Eax) (source_of operand)) (load_bytes operand)
