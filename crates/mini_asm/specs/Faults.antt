-- Which line of a source is at fault. Lines are counted from 1. This project's own.
use Rattle.std.specs.Prelude.{◌≡◌, ℕ, ◌+◌, ◌-◌, ◌%◌, ◌^◌, ◌<◌, ◌≤◌, ◌==◌, Bool, not, if◌then◌else◌, List, [], ◌∷◌, ◌++◌, length, map, IsTrue, Option, Some, None, slice_get}
use Rattle.std.specs.List.{All, Contains, flat_map, list_all}
use Rattle.mv_base.specs.Memory.{distance}
use Rattle.elf32_read.specs.CodeImage.{code_base}
use Rattle.x86_insn.specs.declared.insn.Insn.{Insn}
use Rattle.x86_insn.specs.declared.insn.Insn.TheVariants as insn
use Rattle.x86_encode.specs.Encoding.{IsLeast}
use Rattle.mini_asm.specs.declared.form.Form.{Form}
use Rattle.mini_asm.specs.declared.form.Form.TheVariants as form
use Rattle.mini_asm.specs.Forms.{IsForm, IsLabel}

-- no byte of a text is a line feed
abbrev pub is_line : List ℕ → Bool
is_line text = list_all (λ c. not (c == 10)) text

-- a line and its line feed
abbrev pub ended : List ℕ → List ℕ
ended line = line ++ 10 ∷ []

-- the lines of a source, and what no line feed follows
pub record IsSplit (source : List ℕ) (lines : List (List ℕ)) (rest : List ℕ) : Type 0 where
  pub whole : source ≡ flat_map ended lines ++ rest
  pub each : All (λ line. IsTrue (is_line line)) lines
  pub last : IsTrue (is_line rest)

-- the line at a place is the label
abbrev pub LabelAt : List (List ℕ) → ℕ → List ℕ → Type 0
LabelAt lines place name = (line : List ℕ) × (slice_get lines place ≡ Some line) × IsLabel line name

-- a form may stand at a place among lines: no earlier line defines its label, and some line defines the label that it names
abbrev pub MayStand : List (List ℕ) → ℕ → Form → Type 0
MayStand lines place (form.Label name) = (k : ℕ) → k < place → ¬ LabelAt lines k name
MayStand lines place (form.Aimed i name) = (k : ℕ) × LabelAt lines k name
MayStand lines place f = Unit {0}

-- the line at a place is a line of a source
pub record IsGood (lines : List (List ℕ)) (place : ℕ) : Type 0 where
  pub line : List ℕ
  pub here : slice_get lines place ≡ Some line
  pub says : Form
  pub is_form : IsForm line says
  pub stands : MayStand lines place says

-- the first place that has a property
pub record IsFirst (P : ℕ → Type 0) (place : ℕ) : Type 0 where
  pub holds : P place
  pub none_before : (k : ℕ) → k < place → ¬ P k

-- bytes that no line feed follows are one more line, and never a good one
abbrev pub IsBad : List (List ℕ) → List ℕ → ℕ → Type 0
IsBad lines rest place = (place < length lines + (if length rest == 0 then 0 else 1)) × ¬ IsGood lines place

-- how many bytes the least spelling has
abbrev pub LeastOfLength : Insn → ℕ → Type 0
LeastOfLength i n = (s : List ℕ) × IsLeast i s × (length s ≡ n)

-- how many bytes a line has, whatever its address
abbrev pub transfer_length : Insn → Option ℕ
transfer_length (insn.Jump rel) = Some 5
transfer_length (insn.Branch cond rel) = Some 6
transfer_length (insn.Loop kind rel) = Some 2
transfer_length (insn.Call rel) = Some 5
transfer_length i = None

abbrev pub HasLength : Insn → ℕ → Type 0
HasLength (insn.Jump rel) n = n ≡ 5
HasLength (insn.Branch cond rel) n = n ≡ 6
HasLength (insn.Loop kind rel) n = n ≡ 2
HasLength (insn.Call rel) n = n ≡ 5
HasLength i n = LeastOfLength i n

abbrev pub HasSize : Form → ℕ → Type 0
HasSize form.Nothing n = n ≡ 0
HasSize (form.Label name) n = n ≡ 0
HasSize (form.Raw bytes) n = n ≡ length bytes
HasSize (form.Code i) n = HasLength i n
HasSize (form.Aimed i name) n = HasLength i n

-- a line, its form, its address and how many bytes it has
pub record Draft : Type 0 where
  pub line : List ℕ
  pub says : Form
  pub at : ℕ
  pub size : ℕ

abbrev pub end_of : Draft → ℕ
end_of d = d.at + d.size

abbrev pub Following : ℕ → List Draft → Type 0
Following at [] = Unit {0}
Following at (d ∷ drafts) = (d.at ≡ at) × Following (end_of d) drafts

-- the lines of a source that are all good, with their addresses; these are counted on past the last of memory
pub record AreDrafts (source : List ℕ) (drafts : List Draft) : Type 0 where
  pub split : IsSplit source (map (λ (d : Draft). d.line) drafts) []
  pub good : (k : ℕ) → k < length drafts → IsGood (map (λ (d : Draft). d.line) drafts) k
  pub forms : All (λ d. IsForm d.line d.says) drafts
  pub sizes : All (λ d. HasSize d.says d.size) drafts
  pub follow : Following code_base drafts

-- a signed byte doesn't reach so far, modulo 2^32
abbrev pub IsOutOfReach : ℕ → ℕ → Type 0
IsOutOfReach from to = (128 ≤ distance (from % 2 ^ 32) (to % 2 ^ 32)) × (distance (from % 2 ^ 32) (to % 2 ^ 32) < 2 ^ 32 - 128)

-- a loop whose target is too far from its end
abbrev pub IsFarLoop : List Draft → Draft → Form → Type 0
IsFarLoop drafts d (form.Code (insn.Loop kind to)) = IsOutOfReach (end_of d) to
IsFarLoop drafts d (form.Aimed (insn.Loop kind rel) name) =
    (e : Draft) × Contains drafts e × (e.says ≡ form.Label name) × IsOutOfReach (end_of d) e.at
IsFarLoop drafts d f = ⊥

abbrev pub IsFarAt : List Draft → ℕ → Type 0
IsFarAt drafts place = (d : Draft) × (slice_get drafts place ≡ Some d) × IsFarLoop drafts d d.says

-- a line ends past the most bytes of code: 1 MiB
abbrev pub most_code : ℕ
most_code = 1048576

abbrev pub EndsPast : List Draft → ℕ → Type 0
EndsPast drafts place = (d : Draft) × (slice_get drafts place ≡ Some d) × (code_base + most_code < end_of d)

-- no line has bytes
abbrev pub HasNoCode : List Draft → Type 0
HasNoCode drafts = All (λ d. d.size ≡ 0) drafts

-- the line that is at fault, counted from 1: the first that is no line of a source; else the first loop whose target is too
-- far; else the first line that ends past the most bytes of code; else, where there is no code, the one behind the last line
pub data IsFault (source : List ℕ) : ℕ → Type 0 where
  BadLine :
      (lines : List (List ℕ)) (rest : List ℕ) (k : ℕ) → IsSplit source lines rest → IsFirst (IsBad lines rest) k
      → IsFault source (k + 1)
  FarLoop : (drafts : List Draft) (k : ℕ) → AreDrafts source drafts → IsFirst (IsFarAt drafts) k → IsFault source (k + 1)
  TooLong :
      (drafts : List Draft) (k : ℕ) → AreDrafts source drafts → ((j : ℕ) → ¬ IsFarAt drafts j)
      → IsFirst (EndsPast drafts) k → IsFault source (k + 1)
  NoCode :
      (drafts : List Draft) → AreDrafts source drafts → ((j : ℕ) → ¬ IsFarAt drafts j) → HasNoCode drafts
      → IsFault source (length drafts + 1)
