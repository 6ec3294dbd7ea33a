-- What the numbers of rules are.
use Rattle.std.proofs.Common.{◌≡◌, ℕ, ◌≤◌, true, eqb, ◌||◌, arith}
use Rattle.std.proofs.lemmas.Bool.Decides.{nat_tests}

-- the number of an edge rule is small
pub edge_low : (e : ℕ) → (eqb e 0 || eqb e 1 || eqb e 6) ≡ true → e ≤ 6
edge_low e h = grind (arith, nat_tests, h)
