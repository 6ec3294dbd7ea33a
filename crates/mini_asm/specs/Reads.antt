-- What is read of a source before its addresses are known.
use Rattle.std.specs.Prelude.{◌≡◌, ℕ, ◌+◌, ◌<◌, ◌==◌, Bool, List, [], ◌∷◌, ◌++◌, length, IsTrue, Option, Some, None}
use Rattle.std.specs.List.{All, AllZip, flat_map}
use Rattle.mini_asm.specs.declared.form.Form.{Form}
use Rattle.mini_asm.specs.Faults.{IsFault, IsGood, IsSplit, ended, is_line}
use Rattle.mini_asm.specs.Forms.{IsFormOf}

-- the line stands before the first line feed, and the rest behind it
pub record IsNextLine (text line rest : List ℕ) : Type 0 where
  pub whole : text ≡ line ++ 10 ∷ rest
  pub one : IsTrue (is_line line)

-- the first lines of a source, by their forms, and the rest behind them
pub record HasRead (source : List ℕ) (forms : List (Option Form)) (rest : List ℕ) : Type 0 where
  pub lines : List (List ℕ)
  pub whole : source ≡ flat_map ended lines ++ rest
  pub each : All (λ line. IsTrue (is_line line)) lines
  pub are_forms : AllZip IsFormOf lines forms

-- all lines of a source, by their forms, and whether nothing stands behind the last line feed
pub record AreForms (source : List ℕ) (forms : List (Option Form)) (whole : Bool) : Type 0 where
  pub lines : List (List ℕ)
  pub rest : List ℕ
  pub split : IsSplit source lines rest
  pub are_forms : AllZip IsFormOf lines forms
  pub ends : whole ≡ (length rest == 0)

-- the lines of a source, by their forms; all of them are good
pub record AreGood (source : List ℕ) (forms : List (Option Form)) : Type 0 where
  pub lines : List (List ℕ)
  pub split : IsSplit source lines []
  pub are_forms : AllZip IsFormOf lines forms
  pub good : (k : ℕ) → k < length lines → IsGood lines k

-- the place of the first line that is no line of a source, or none
abbrev pub IsBadAt : List ℕ → List (Option Form) → Option ℕ → Type 0
IsBadAt source forms None = AreGood source forms
IsBadAt source forms (Some place) = IsFault source (place + 1)
