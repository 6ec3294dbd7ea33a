-- Digits of which none is taken away.
use Rattle.std.proofs.Common.{◌≡◌, ℕ, ◌<◌, List, [], ◌∷◌, length, refl, arith}
use Rattle.insn_text.specs.Text.{significant}

-- the last digit stays
pub last_stays : (ds : List ℕ) → length ds < 2 → ds ≡ significant ds
unfolding significant
last_stays [] few = refl
last_stays (d ∷ []) few = refl
last_stays (d ∷ e ∷ ds) few = absurd (omega (arith, few))
