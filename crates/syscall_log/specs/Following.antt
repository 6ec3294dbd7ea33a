-- What a text has next in its phase.
use Rattle.std.specs.Prelude.{◌≡◌, ◌≢◌, ℕ, Bool, true, not, ◌==◌, List, ◌∷◌, ◌++◌}
use Rattle.std.specs.List.{list_all}
use Rattle.syscall_log.specs.declared.item.Item.{Item}
use Rattle.syscall_log.specs.declared.phase.Phase.{Phase}
use Rattle.syscall_log.specs.Grammar.{line_of}
use Rattle.syscall_log.specs.Phases.{MayCome, phase_after}

-- no byte of a text is a line feed
abbrev pub one_line : List ℕ → Bool
one_line text = list_all (λ c. not (c == 10)) text

-- the line stands before the first line feed, and the rest behind it
pub record IsFirstLine (text line rest : List ℕ) : Type 0 where
  pub whole : text ≡ line ++ 10 ∷ rest
  pub one : one_line line ≡ true

-- there is no line feed
abbrev pub HasNoLine : List ℕ → Type 0
HasNoLine text = (line rest : List ℕ) → text ≢ line ++ 10 ∷ rest

-- the text begins with the line of an item that may come; the phase after it, and the text behind it
pub record Continues (phase : Phase) (text : List ℕ) (i : Item) (after : Phase) (rest : List ℕ) : Type 0 where
  pub begins : text ≡ line_of i ++ 10 ∷ rest
  pub may_come : MayCome phase i
  pub goes_on : after ≡ phase_after phase i

-- the text begins with the line of no item that may come
abbrev pub IsStuck : Phase → List ℕ → Type 0
IsStuck phase text = (i : Item) (rest : List ℕ) → MayCome phase i → text ≢ line_of i ++ 10 ∷ rest
