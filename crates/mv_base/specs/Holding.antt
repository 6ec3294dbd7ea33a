-- What a store's calls do to the bytes that names hold. A name that isn't held has None.
use Rattle.std.specs.Prelude.{◌≡◌, ◌<◌, ◌≤◌, ℕ, List, ◌++◌, length, Option, Some, Result, Ok, Err, IsSomeAnd, ◌⊎◌, ⊤}
use Rattle.mv_base.specs.declared.store.Got.{Got}
use Rattle.mv_base.specs.declared.store.Got.TheVariants.{Whole, TooLong}

-- the part is what the whole begins with
abbrev pub Begins : List ℕ → List ℕ → Type 0
Begins part whole = (rest : List ℕ) × (whole ≡ part ++ rest)

-- `get` answers Whole with all that the name holds, and TooLong where that is more than the limit
abbrev pub Gets : {E : Type 0} → Result Got E → Option (List ℕ) → ℕ → List ℕ → Type 0
Gets (Ok Whole) held limit bytes = held ≡ Some bytes
Gets (Ok TooLong) held limit bytes = IsSomeAnd held (λ all. limit < length all)
Gets (Err _) held limit bytes = ⊤

-- where `get` answers Whole, there are at most as many bytes as the limit
abbrev pub KeepsLimit : {E : Type 0} → Result Got E → ℕ → List ℕ → Type 0
KeepsLimit (Ok Whole) limit bytes = length bytes ≤ limit
KeepsLimit (Ok TooLong) limit bytes = ⊤
KeepsLimit (Err _) limit bytes = ⊤

-- a name holds what it held, or a part with which the new bytes begin
abbrev pub KeepsOrBegins : Option (List ℕ) → Option (List ℕ) → List ℕ → Type 0
KeepsOrBegins before after bytes = (after ≡ before) ⊎ IsSomeAnd after (λ part. Begins part bytes)

-- after `put` the name holds the bytes, or where it failed what it held or a part of them
abbrev pub Puts : {A E : Type 0} → Result A E → Option (List ℕ) → Option (List ℕ) → List ℕ → Type 0
Puts (Ok _) before after bytes = after ≡ Some bytes
Puts (Err _) before after bytes = KeepsOrBegins before after bytes
