-- What the steps of the code give: marks of sites, and a chain from one of its sites on.
use Rattle.std.specs.Prelude.{◌≡◌, ℕ, ◌+◌, Bool, false, List, length, drop, Option, Some, None, slice_index_or}
use Rattle.sequence_join.specs.declared.chain.Span.{Span}
use Rattle.superset.specs.declared.site.Site.{Site}
use Rattle.sequence_join.specs.Chains.{Chain, no_links, link, rest, goes_on}

-- what marks say of an index; one that has no mark isn't taken
abbrev pub is_taken : List Bool → ℕ → Bool
is_taken marks k = slice_index_or marks k false

-- the chain from the site of index k on
abbrev pub chain_at : (ℕ → Bool) → List Site → ℕ → Chain
chain_at taken sites k = link k (rest taken (goes_on sites k) (k + 1) (drop (k + 1) sites))

-- the chain from the next site on, where there is one; where there is none the chain has ended, at an address or none
abbrev pub chain_by : (ℕ → Bool) → List Site → Option ℕ → Option ℕ → Chain
chain_by taken sites address None = no_links address
chain_by taken sites address (Some k) = chain_at taken sites k

-- a span that begins behind so many links is that of a chain
pub record IsSpanOf (n : ℕ) (c : Chain) (s : Span) : Type 0 where
  pub from : s.from ≡ n
  pub len : s.len ≡ length c.links
  pub next : s.next ≡ c.next
