-- What is asked of sites and of the chains that name them. This project's own.
use Rattle.std.specs.Prelude.{◌≡◌, ℕ, ◌<◌, ◌≤◌, List, length, Option, IfSome, slice_get}
use Rattle.std.specs.List.{All, AllByRecursion}
use Rattle.mv_base.specs.Memory.{exec_bytes}
use Rattle.call_rewrite.specs.Far.{load_of}
use Rattle.superset.specs.declared.site.Site.{Site}
use Rattle.sequence_join.specs.Chains.{Chain}

-- a site's instruction has at most 15 bytes, and its operand is loaded by at most 8
pub record IsShort (s : Site) : Type 0 where
  pub short : s.len ≤ 15
  pub load : length (load_of s.insn) ≤ 8

abbrev pub AreShort : List Site → Type 0
AreShort ss = (k : ℕ) → IfSome (slice_get ss k) IsShort

-- a site has an instruction, and all its bytes are there
pub record IsWhole (code : ℕ → Option ℕ) (s : Site) : Type 0 where
  pub some : 0 < s.len
  pub whole : length (exec_bytes code s.at s.len) ≡ s.len

abbrev pub AreWhole : (ℕ → Option ℕ) → List Site → Type 0
AreWhole code ss = (k : ℕ) → IfSome (slice_get ss k) (IsWhole code)

-- the links of chains are below a number
abbrev pub LinksBelow : ℕ → Chain → Type 0
LinksBelow n c = All (λ k. k < n) c.links

abbrev pub AreBelow : ℕ → List Chain → Type 0
AreBelow n cs = AllByRecursion (LinksBelow n) cs
