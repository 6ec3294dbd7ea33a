-- What stands at the front of a list, and where that first differs from what is wanted. This project's own.
use Rattle.std.specs.Prelude.{ℕ, ◌+◌, Bool, ◌==◌, List, [], ◌∷◌, Option, None, Some, is_none, if◌then◌else◌}
use Rattle.simulation_laws.specs.declared.front.Difference.{Difference}

-- the first place at which the second list doesn't go on as the first does, where places are counted from k on: the byte
-- that is wanted and the one that is found, 256 where the second list has ended
abbrev pub difference : ℕ → List ℕ → List ℕ → Option Difference
difference k [] x = None
difference k (b ∷ bs) [] = Some (record { place = k; kept = b; found = 256 })
difference k (b ∷ bs) (c ∷ cs) = if b == c then difference (k + 1) bs cs else Some (record { place = k; kept = b; found = c })

-- the second list begins with the first
abbrev pub begins : List ℕ → List ℕ → Bool
begins part x = is_none (difference 0 part x)
