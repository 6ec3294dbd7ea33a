-- Chains whose links stand in one list. This project's own.
use Rattle.std.specs.Prelude.{ℕ, ◌+◌, ◌≤◌, List, take, drop}
use Rattle.sequence_join.specs.declared.chain.Span.{Span}
use Rattle.sequence_join.specs.Chains.{Chain}

-- the chain of a span of links
abbrev pub chain_in : List ℕ → Span → Chain
chain_in links s = record { links = take s.len (drop s.from links); next = s.next }

-- a span lies in so many links
pub record IsWithin (n : ℕ) (s : Span) : Type 0 where
  pub within : s.from + s.len ≤ n
