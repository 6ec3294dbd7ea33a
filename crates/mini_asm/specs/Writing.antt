-- The bytes and the text of lines whose places are known. This project's own.
use Rattle.std.specs.Prelude.{ℕ, ◌+◌, List, [], ◌∷◌, ◌++◌, codes, Option, Some, None}
use Rattle.std.specs.List.{cons_option}
use Rattle.std.specs.Option.{option_map_or}
use Rattle.mv_base.specs.Bytes.{word}
use Rattle.mv_base.specs.Memory.{address_after}
use Rattle.mv_base.specs.Text.{hex_text}
use Rattle.x86_insn.specs.declared.insn.Insn.{Insn}
use Rattle.x86_insn.specs.declared.insn.Insn.TheVariants as insn
use Rattle.x86_insn.specs.Meaning.{cond_number}
use Rattle.x86_encode.specs.Least.{least}
use Rattle.insn_text.specs.Text.{text_of}
use Rattle.mini_asm.specs.declared.form.Form.{Form}
use Rattle.mini_asm.specs.declared.form.Form.TheVariants as form
use Rattle.mini_asm.specs.declared.listings.Listed.{Listed}
use Rattle.mini_asm.specs.declared.spots.Spot.{Spot}
use Rattle.mini_asm.specs.Building.{relative}
use Rattle.mini_asm.specs.Spots.{with_target}

-- direct jumps and branches always have four bytes of displacement
abbrev pub long : Insn → Option (List ℕ)
long (insn.Jump rel) = Some (0xE9 ∷ word rel)
long (insn.Branch cond rel) = Some (0x0F ∷ (0x80 + cond_number cond) ∷ word rel)
long i = None

-- the bytes of an instruction
abbrev pub written : Insn → List ℕ
written i = option_map_or (λ s. s) (long i) (option_map_or (λ s. s) (least i) [])

-- an instruction at its place
abbrev pub code_line : Insn → Spot → Listed
code_line i s = record {
  at = s.at;
  bytes = written (relative (address_after s.at s.size) i);
  text = text_of (relative (address_after s.at s.size) i) (address_after s.at s.size);
}

-- bytes as they stand, at their place
abbrev pub raw_line : List ℕ → Spot → Listed
raw_line bytes s = record { at = s.at; bytes = bytes; text = codes "bytes " ++ hex_text bytes }

-- the line of a form at its place, where it has bytes
abbrev pub line_of : (List ℕ → ℕ) → Option Form → Spot → Option Listed
line_of addresses None s = None
line_of addresses (Some (form.Raw bytes)) s = Some (raw_line bytes s)
line_of addresses (Some (form.Code i)) s = Some (code_line i s)
line_of addresses (Some (form.Aimed i name)) s = Some (code_line (with_target (addresses name) i) s)
line_of addresses (Some f) s = None

abbrev pub lines_of : (List ℕ → ℕ) → List (Option Form) → List Spot → List Listed
lines_of addresses [] spots = []
lines_of addresses (f ∷ forms) [] = []
lines_of addresses (f ∷ forms) (s ∷ spots) = cons_option (line_of addresses f s) (lines_of addresses forms spots)
