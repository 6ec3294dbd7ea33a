-- Which line of a text is the first that no log has. Lines are counted from 1. This project's own.
use Rattle.std.specs.Prelude.{◌≡◌, ℕ, ◌-◌, ⊤, List, ◌++◌, length}
use Rattle.syscall_log.specs.declared.answer.Answer.{Answer}
use Rattle.syscall_log.specs.declared.item.Item.{Item}
use Rattle.syscall_log.specs.declared.fault.LogFault.{LogFault}
use Rattle.syscall_log.specs.declared.fault.LogFault.TheVariants as fault
use Rattle.syscall_log.specs.Rules.{IsLog}
use Rattle.syscall_log.specs.Grammar.{lines, items_of, text_of}

-- the bytes are the text of a log
pub record IsLogText (bytes : List ℕ) : Type 0 where
  pub args : List (List ℕ)
  pub answers : List Answer
  pub is_log : IsLog args answers
  pub is_text : bytes ≡ text_of args answers

-- the bytes begin with the first n lines of some log, each with its line feed
pub record BeginsLog (bytes : List ℕ) (n : ℕ) : Type 0 where
  pub args : List (List ℕ)
  pub answers : List Answer
  pub is_log : IsLog args answers
  pub front : List Item
  pub back : List Item
  pub items : items_of args answers ≡ front ++ back
  pub count : length front ≡ n
  pub rest : List ℕ
  pub begins : bytes ≡ lines front ++ rest

-- the bytes are no log's text; the lines before line k begin some log, and the lines up to k don't
pub record IsBadLine (bytes : List ℕ) (k : ℕ) : Type 0 where
  pub no_log : ¬ IsLogText bytes
  pub before : BeginsLog bytes (k - 1)
  pub here : ¬ BeginsLog bytes k

-- why bytes are not read: a line, or want of memory
abbrev pub IsFault : List ℕ → LogFault → Type 0
IsFault bytes (fault.Line k) = IsBadLine bytes k
IsFault bytes fault.NoMemory = ⊤
