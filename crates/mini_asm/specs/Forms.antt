-- What a source line is by itself, whatever its address and whatever the other lines are. This project's own.
use Rattle.std.specs.Prelude.{◌≡◌, ℕ, ◌≤◌, List, [], ◌∷◌, ◌++◌, length, codes, Option, Some, None}
use Rattle.mv_base.specs.Bytes.{AreBytes}
use Rattle.mv_base.specs.Text.{hex_text}
use Rattle.x86_insn.specs.declared.insn.Insn.{Insn}
use Rattle.x86_insn.specs.declared.insn.Insn.TheVariants as insn
use Rattle.insn_text.specs.Names.{stem, ending}
use Rattle.insn_text.specs.Text.{text_of}
use Rattle.mini_asm.specs.declared.form.Form.{Form}
use Rattle.mini_asm.specs.declared.form.Form.TheVariants as form
use Rattle.mini_asm.specs.Lines.{IsJudged}
use Rattle.mini_asm.specs.Names.{IsName}

-- a label: its name and a colon
abbrev pub IsLabel : List ℕ → List ℕ → Type 0
IsLabel line name = IsName name × (line ≡ name ++ codes ":")

abbrev pub IsLabelOf : List ℕ → Option (List ℕ) → Type 0
IsLabelOf line None = (name : List ℕ) → IsLabel line name → ⊥
IsLabelOf line (Some name) = IsLabel line name

-- bytes as they stand: 1 to 4,096 pairs of digits
pub record IsRaw (line bytes : List ℕ) : Type 0 where
  pub some : 1 ≤ length bytes
  pub most : length bytes ≤ 4096
  pub are_bytes : AreBytes bytes
  pub text : line ≡ codes "bytes " ++ hex_text bytes

abbrev pub IsRawOf : List ℕ → Option (List ℕ) → Type 0
IsRawOf line None = (bytes : List ℕ) → IsRaw line bytes → ⊥
IsRawOf line (Some bytes) = IsRaw line bytes

-- a direct transfer to a label: the mnemonic, a space and the label's name; how far it goes is 0 here
abbrev pub IsTransfer : Insn → Type 0
IsTransfer (insn.Jump rel) = rel ≡ 0
IsTransfer (insn.Branch cond rel) = rel ≡ 0
IsTransfer (insn.Loop kind rel) = rel ≡ 0
IsTransfer (insn.Call rel) = rel ≡ 0
IsTransfer i = ⊥

pub record IsAimed (line : List ℕ) (i : Insn) (name : List ℕ) : Type 0 where
  pub transfer : IsTransfer i
  pub is_name : IsName name
  pub text : line ≡ (stem i ++ ending i) ++ 32 ∷ name

abbrev pub IsAimedOf : List ℕ → Option (Insn × List ℕ) → Type 0
IsAimedOf line None = (i : Insn) (name : List ℕ) → IsAimed line i name → ⊥
IsAimedOf line (Some p) = IsAimed line p.0 p.1

-- the forms of a line: nothing, a label, bytes, an instruction as it reads where the address behind it is 0, and a direct
-- transfer to a label
abbrev pub IsForm : List ℕ → Form → Type 0
IsForm line form.Nothing = line ≡ []
IsForm line (form.Label name) = IsLabel line name
IsForm line (form.Raw bytes) = IsRaw line bytes
IsForm line (form.Code i) = IsJudged i × (text_of i 0 ≡ line)
IsForm line (form.Aimed i name) = IsAimed line i name

-- the form of a line, or none where it is no line of a source at all
abbrev pub IsFormOf : List ℕ → Option Form → Type 0
IsFormOf line None = (f : Form) → IsForm line f → ⊥
IsFormOf line (Some f) = IsForm line f
