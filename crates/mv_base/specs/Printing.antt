-- What a sink's call does to the bytes that were written.
use Rattle.std.specs.Prelude.{◌≡◌, ℕ, List, ◌++◌, Result, Ok, Err}
use Rattle.mv_base.specs.Appended.{AppendsPrefix}

-- the bytes are appended, or where the call failed a part with which they begin
abbrev pub Prints : {A E : Type 0} → Result A E → List ℕ → List ℕ → List ℕ → Type 0
Prints (Ok _) bytes before after = after ≡ before ++ bytes
Prints (Err _) bytes before after = AppendsPrefix before after bytes
