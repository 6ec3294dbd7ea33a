-- What a line says, and what the reader of a line answers.
use Rattle.std.specs.Prelude.{◌≡◌, ℕ, ◌^◌, ◌<◌, List, Option, Some, None}
use Rattle.x86_insn.specs.declared.insn.Insn.{Insn}
use Rattle.x86_insn.specs.declared.insn.Insn.TheVariants as insn
use Rattle.x86_insn.specs.Spelling.{Spells}
use Rattle.insn_text.specs.Text.{text_of}

-- some bytes spell the instruction
abbrev pub HasSpelling : Insn → Type 0
HasSpelling i = (s : List ℕ) × Spells s i

-- the line is the text of this instruction, or of none, where `next` is the address behind it
abbrev pub IsReading : List ℕ → ℕ → Option Insn → Type 0
IsReading line next None = (i : Insn) → HasSpelling i → text_of i next ≡ line → ⊥
IsReading line next (Some i) = HasSpelling i × (text_of i next ≡ line)

-- the same of a line whose address is not known: of a direct transfer it tells where it goes, and how far a loop goes isn't
-- judged
abbrev pub IsJudged : Insn → Type 0
IsJudged (insn.Loop kind to) = to < 2 ^ 32
IsJudged i = HasSpelling i

-- where a loop goes
abbrev pub loop_target : Insn → Option ℕ
loop_target (insn.Loop kind to) = Some to
loop_target i = None

abbrev pub IsJudgment : List ℕ → Option Insn → Type 0
IsJudgment line None = (i : Insn) → IsJudged i → text_of i 0 ≡ line → ⊥
IsJudgment line (Some i) = IsJudged i × (text_of i 0 ≡ line)
