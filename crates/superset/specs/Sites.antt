-- Sites: the addresses at which an instruction lies wholly in executable cells. The method is after Multiverse,
-- which disassembles from every byte.
use Rattle.std.specs.Prelude.{◌≡◌, ℕ, ◌+◌, ◌<◌, ◌≤◌, List, [], ◌∷◌, length, Option, Some, None, Contains}
use Rattle.std.specs.List.{AllByRecursion, filter_map, flat_map, range_with_len}
use Rattle.x86_insn.specs.Step.{Fetched, Absent, Found, Unknown, fetch_in}
use Rattle.elf32_read.specs.declared.run.Run.{Run}
use Rattle.superset.specs.declared.site.Site.{Site}

abbrev pub site_found : ℕ → Fetched → Option Site
site_found a Absent = None
site_found a (Found i len) = Some (record { at = a; len = len; insn = i })
site_found a Unknown = None

-- the site at an address of executable bytes, where there is one
abbrev pub site_at : (ℕ → Option ℕ) → ℕ → Option Site
site_at code a = site_found a (fetch_in code a)

abbrev pub run_addresses : Run → List ℕ
run_addresses r = range_with_len r.lo (length r.bytes)

-- the addresses of runs, one after the other
unfoldable pub addresses : List Run → List ℕ
addresses rs = flat_map run_addresses rs

-- the sites among the addresses of runs, in their order
unfoldable pub sites_in : (ℕ → Option ℕ) → List Run → List Site
sites_in code rs = filter_map (site_at code) (addresses rs)

-- sites whose addresses strictly ascend, from an address on
abbrev pub Ascend : ℕ → List Site → Type 0
Ascend from [] = Unit {0}
Ascend from (s ∷ ss) = (from ≤ s.at) × Ascend (s.at + 1) ss

-- a site's instruction ends below the highest page or at it
abbrev pub EndsLow : Site → Type 0
EndsLow s = s.at + s.len ≤ 0xFFFFF000

-- a site's instruction has 1 to 15 bytes
abbrev pub HasLength : Site → Type 0
HasLength s = (0 < s.len) × (s.len ≤ 15)

-- all sites of executable bytes and nothing else, ascending
pub record AreSites (code : ℕ → Option ℕ) (found : List Site) : Type 0 where
  pub all : (a : ℕ) (s : Site) → site_at code a ≡ Some s → Contains found s
  pub only : AllByRecursion (λ s. site_at code s.at ≡ Some s) found
  pub ascend : Ascend 0 found
