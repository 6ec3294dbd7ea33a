-- Pairs of an old and a new address. This project's own.
use Rattle.std.specs.Prelude.{ℕ, ◌+◌, ◌^◌, ◌<◌, ◌≤◌, List, [], ◌∷◌, map, Option, Some, None, IsSome, ◌==◌, if◌then◌else◌}
use Rattle.elf32_read.specs.declared.run.Run.{Run}
use Rattle.elf32_read.specs.Runs.{code_of}

-- the second part of an address's pair
unfoldable pub second_of : List (ℕ × ℕ) → ℕ → Option ℕ
second_of [] a = None
second_of (p ∷ ps) a = if p.0 == a then Some p.1 else second_of ps a

abbrev pub or_zero : Option ℕ → ℕ
or_zero None = 0
or_zero (Some n) = n

-- the same, or 0 where an address has no pair
abbrev pub entry_in : List (ℕ × ℕ) → ℕ → ℕ
entry_in ps a = or_zero (second_of ps a)

-- the first parts of pairs
abbrev pub firsts : List (ℕ × ℕ) → List ℕ
firsts ps = map (λ p. p.0) ps

-- addresses strictly ascend, from one on
abbrev pub Ascend : ℕ → List ℕ → Type 0
Ascend from [] = Unit {0}
Ascend from (a ∷ as') = (from ≤ a) × Ascend (a + 1) as'

-- a pair's first part lies in a run, and its second part is an address that isn't 0
pub record IsPair (rs : List Run) (p : ℕ × ℕ) : Type 0 where
  pub inside : IsSome (code_of rs p.0)
  pub some : 0 < p.1
  pub fits : p.1 < 2 ^ 32
