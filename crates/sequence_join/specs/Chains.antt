-- Chains: the sites of a program in lines of instructions that stand one behind the other. The method is after
-- Multiverse; the rule which sites come together is this project's own. A site is named by its index among the sites.
use Rattle.std.specs.Prelude.{◌≡◌, ◌==◌, ℕ, ◌+◌, ◌<◌, Bool, false, ◌||◌, List, [], ◌∷◌, ◌++◌, Option, Some, None, Contains, slice_get, nat_lt, if◌then◌else◌}
use Rattle.std.specs.List.{count_by, flat_map, list_any}
use Rattle.std.specs.Option.{option_and_then, option_map}
use Rattle.x86_insn.specs.Flow.{flow_of, falls}
use Rattle.superset.specs.declared.site.Site.{Site}
use Rattle.superset.specs.Targets.{successor}

-- a chain: its links, which are sites by their indexes from 0 on, and the address behind the last one's instruction, where
-- its flow falls through
pub record Chain : Type 0 where
  pub links : List ℕ
  pub next : Option ℕ

-- the address at which a site's flow goes on by itself: the successor, or none where the flow doesn't fall through
abbrev pub after : Site → Option ℕ
after s = if falls (flow_of s.insn) then Some (successor s) else None

-- a site is the one that is looked for, if one is
abbrev pub is_there : Option ℕ → Site → Bool
is_there None s = false
is_there (Some a) s = s.at == a

-- the chain of no link, at whose place the flow goes on at an address or doesn't
abbrev pub no_links : Option ℕ → Chain
no_links next = record { links = []; next = next }

-- a chain with one more link in front
abbrev pub link : ℕ → Chain → Chain
link k c = record { links = k ∷ c.links; next = c.next }

-- an index is one of a list
abbrev pub is_among : List ℕ → ℕ → Bool
is_among ks j = list_any (λ k. k == j) ks

-- which sites are taken when one more chain is made
abbrev pub with_links : (ℕ → Bool) → Chain → ℕ → Bool
with_links taken c j = taken j || is_among c.links j

-- The rest of a chain, by which sites are taken and where the last site goes on. The site there is looked for among the
-- sites from index k on; the chain ends where it is taken or there is none.
unfoldable pub rest : (ℕ → Bool) → Option ℕ → ℕ → List Site → Chain
rest taken next k [] = no_links next
rest taken next k (s ∷ ss) =
    if is_there next s then (if taken k then no_links next else link k (rest taken (after s) (k + 1) ss))
    else rest taken next (k + 1) ss

-- the chain that starts at a site of index k, with the sites behind it
abbrev pub start : (ℕ → Bool) → ℕ → Site → List Site → Chain
start taken k s ss = link k (rest taken (after s) (k + 1) ss)

-- the chains of the sites from index k on: one starts at each site that is not taken
unfoldable pub chains_from : (ℕ → Bool) → ℕ → List Site → List Chain
chains_from taken k [] = []
chains_from taken k (s ∷ ss) =
    let c = start taken k s ss in
    if taken k then chains_from taken (k + 1) ss else c ∷ chains_from (with_links taken c) (k + 1) ss

-- the chains of sites
abbrev pub chains_of : List Site → List Chain
chains_of sites = chains_from (λ k. false) 0 sites

-- all links, chain by chain
abbrev pub order : List Chain → List ℕ
order cs = flat_map (λ c. c.links) cs

-- each index below n stands in a list exactly once, and no other stands there
abbrev pub EachOnce : ℕ → List ℕ → Type 0
EachOnce n ks = (k : ℕ) → count_by (λ j. j == k) ks ≡ (if nat_lt k n then 1 else 0)

-- the address of the site of an index
abbrev pub address_of : List Site → ℕ → Option ℕ
address_of sites k = option_map (λ s. s.at) (slice_get sites k)

-- the address at which the site of an index goes on by itself
abbrev pub goes_on : List Site → ℕ → Option ℕ
goes_on sites k = option_and_then after (slice_get sites k)

-- the site of index j goes on by itself at that of index k
pub record LeadsTo (sites : List Site) (j k : ℕ) : Type 0 where
  pub at : ℕ
  pub goes : goes_on sites j ≡ Some at
  pub there : address_of sites k ≡ Some at

-- from the site of index j on each leads to the next, and the last goes on at `next`
abbrev pub AreLinked : List Site → ℕ → List ℕ → Option ℕ → Type 0
AreLinked sites j [] next = goes_on sites j ≡ next
AreLinked sites j (k ∷ ks) next = LeadsTo sites j k × AreLinked sites k ks next

-- a chain has a link, each leads to the next, and the last goes on at `next`
abbrev pub AreLinks : List Site → List ℕ → Option ℕ → Type 0
AreLinks sites [] next = ⊥
AreLinks sites (k ∷ ks) next = AreLinked sites k ks next

abbrev pub IsLinked : List Site → Chain → Type 0
IsLinked sites c = AreLinks sites c.links c.next

-- indexes begin with the first that isn't among those before
abbrev pub BeginsFirst : List ℕ → List ℕ → Type 0
BeginsFirst before [] = ⊥
BeginsFirst before (k ∷ ks) = (Contains before k → ⊥) × ((j : ℕ) → j < k → Contains before j)

-- a chain behind others, whose links stand before: it begins at the first site that is in none, and a site at which it
-- could go on is in a chain already, be it this one
pub record IsGreedy (sites : List Site) (before : List ℕ) (c : Chain) : Type 0 where
  pub begins : BeginsFirst before c.links
  pub ends : (a k : ℕ) → c.next ≡ Some a → address_of sites k ≡ Some a → Contains (before ++ c.links) k

-- each of some chains is so, behind those before it
abbrev pub AreGreedy : List Site → List ℕ → List Chain → Type 0
AreGreedy sites before [] = Unit {0}
AreGreedy sites before (c ∷ cs) = IsGreedy sites before c × AreGreedy sites (before ++ c.links) cs
