-- What the encoder writes: the least of an instruction's spellings. This project's own.
use Rattle.std.specs.Prelude.{◌≡◌, ℕ, ◌≤◌, List, ◌++◌, length, drop, Option, Some, None}
use Rattle.x86_insn.specs.declared.insn.Insn.{Insn}
use Rattle.x86_insn.specs.Spelling.{Spells}
use Rattle.x86_encode.specs.Order.{Upto}

-- a spelling of the instruction that is as short as any, and the least in byte order among the shortest
pub record IsLeast (i : Insn) (s : List ℕ) : Type 0 where
  pub spells : Spells s i
  pub least : (t : List ℕ) → Spells t i → Upto s t

-- the least spelling, or none where there is none
abbrev pub IsLeastOf : Insn → Option (List ℕ) → Type 0
IsLeastOf i None = (s : List ℕ) → Spells s i → ⊥
IsLeastOf i (Some s) = IsLeast i s

-- the room after the least spelling was written at its front; unchanged where there is none
abbrev pub IsEncoded : Insn → List ℕ → Option ℕ → List ℕ → Type 0
IsEncoded i old None new = ((s : List ℕ) → Spells s i → ⊥) × (new ≡ old)
IsEncoded i old (Some n) new = (s : List ℕ) × IsLeast i s × (length s ≡ n) × (n ≤ 15) × (new ≡ s ++ drop n old)
