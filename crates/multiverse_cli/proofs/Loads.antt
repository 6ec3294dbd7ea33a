-- The bytes that load an operand, by the law of the encoder.
use Rattle.std.proofs.Common.{◌≡◌, ℕ, List, [], Option, Some, ◌⊎◌, ◌≤◌, length, if◌then◌else◌, unwrap_or, ap, sym, subst}
use Rattle.x86_insn.specs.Meaning.{source_of}
use Rattle.x86_insn.specs.Spelling.{Spells}
use Rattle.x86_insn.specs.declared.insn.Insn.TheVariants as insn
use Rattle.x86_insn.specs.declared.insn.Reg.TheVariants.{Eax}
use Rattle.x86_insn.specs.declared.insn.Rm.{Rm}
use Rattle.x86_insn.specs.declared.insn.Rm.TheVariants.{R}
use Rattle.x86_insn.specs.declared.insn.Width.TheVariants.{D}
use Rattle.x86_encode.specs.Candidates.{is_gs}
use Rattle.x86_encode.specs.Encoding.{IsLeast}
use Rattle.x86_encode.specs.Least.{least}
use Rattle.call_rewrite.specs.Far.{load_bytes}
use Rattle.multiverse_cli.specs.Loads.{LoadsByLeast}

-- what the law of the encoder says
abbrev pub OperandsLoad : Type 0
OperandsLoad =
    (s : List ℕ) (operand : Rm) → (Spells s (insn.JumpVia operand) ⊎ Spells s (insn.CallVia operand))
    → (load : List ℕ) × (least (insn.Mov D (R Eax) (source_of operand)) ≡ Some load) × IsLeast (insn.Mov D (R Eax) (source_of operand)) load
    × (length load ≤ (if is_gs operand then 8 else 7))

pub loads-of : OperandsLoad → LoadsByLeast
loads-of law operand through =
    let found = law through.0 operand through.1 in
    let same : load_bytes operand ≡ found.0 = ap (λ (o : Option (List ℕ)). unwrap_or o []) found.1 in
    let P : List ℕ → Type 0 = λ s. IsLeast (insn.Mov D (R Eax) (source_of operand)) s in
    subst P (sym same) found.2
