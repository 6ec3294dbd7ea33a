-- A table of form 2: a page of zeros; then for each run its directory, which has one word for each group of 1,024 of its
-- addresses; then one page for each group in which an address of a pair lies. The other groups have the address of the
-- page of zeros. This project's own format.
use Rattle.std.specs.Prelude.{ℕ, ◌+◌, ◌-◌, ◌*◌, ◌<◌, ◌≤◌, List, [], ◌∷◌, ◌++◌, length, map, replicate, if◌then◌else◌}
use Rattle.std.specs.List.{range_with_len, flat_map, count_by, AllByRecursion}
use Rattle.mv_base.specs.Bytes.{words}
use Rattle.mv_base.specs.Table.{group_count, page_named}
use Rattle.mv_base.specs.declared.range.RunPlace.{RunPlace}
use Rattle.elf32_read.specs.declared.run.Run.{Run}
use Rattle.elf32_read.specs.RunCount.{bytes_len}
use Rattle.elf32_read.specs.Runs.{AreApart}
use Rattle.map_table.specs.declared.group.Group.{Group}
use Rattle.map_table.specs.Groups.{groups, has_site}
use Rattle.map_table.specs.Pairs.{entry_in, firsts, Ascend, IsPair}

-- the words of a group's page: the entries of its addresses, then zeros
unfoldable pub page : List (ℕ × ℕ) → Group → List ℕ
page ps g = map (entry_in ps) (range_with_len g.lo g.len) ++ replicate (1024 - g.len) 0

-- the name of a group's page, where the next page that is not that of zeros lies at an address, and where the one behind
-- it then lies
abbrev pub page_name : List ℕ → ℕ → ℕ → Group → ℕ
page_name sites blank at g = if has_site sites g then at else blank

abbrev pub next_page : List ℕ → ℕ → Group → ℕ
next_page sites at g = if has_site sites g then at + 4096 else at

-- the words of directories: the name of each group's page
unfoldable pub directory : List ℕ → ℕ → ℕ → List Group → List ℕ
directory sites blank at [] = []
directory sites blank at (g ∷ gs) = page_name sites blank at g ∷ directory sites blank (next_page sites at g) gs

-- the words of the pages of groups; a group without a site has none of its own
abbrev pub own_page : List (ℕ × ℕ) → Group → List ℕ
own_page ps g = if has_site (firsts ps) g then page ps g else []

unfoldable pub pages : List (ℕ × ℕ) → List Group → List ℕ
pages ps gs = flat_map (own_page ps) gs

-- where the first page behind the directories lies, in a table at an address
abbrev pub first_page : ℕ → List Group → ℕ
first_page lo gs = lo + 4096 + 4 * length gs

-- the table of pairs for an address: words of four bytes each
unfoldable pub table_words : List Run → List (ℕ × ℕ) → ℕ → List ℕ
table_words rs ps lo =
    replicate 1024 0 ++ directory (firsts ps) lo (first_page lo (groups rs)) (groups rs) ++ pages ps (groups rs)

unfoldable pub table_bytes : List Run → List (ℕ × ℕ) → ℕ → List ℕ
table_bytes rs ps lo = words (table_words rs ps lo)

-- how many bytes a table has for sites
unfoldable pub table_size : List Run → List ℕ → ℕ
table_size rs sites = 4096 + 4 * length (groups rs) + 4096 * count_by (has_site sites) (groups rs)

-- the runs with their directories, which stand one behind the other from an address on
unfoldable pub places_from : ℕ → List Run → List RunPlace
places_from dir [] = []
places_from dir (r ∷ rs) =
    record { lo = r.lo; len = length r.bytes; dir = dir } ∷ places_from (dir + 4 * group_count (length r.bytes)) rs

-- the runs with their directories in a table at an address
abbrev pub places : List Run → ℕ → List RunPlace
places rs lo = places_from (lo + 4096) rs

-- a run's directory and each page that it names lie in a table's bytes, which stand at an address
pub record IsPaged (bytes : List ℕ) (lo : ℕ) (r : RunPlace) : Type 0 where
  pub low : lo ≤ r.dir
  pub high : r.dir + 4 * group_count r.len ≤ lo + length bytes
  pub page_low : (g : ℕ) → g < group_count r.len → lo ≤ page_named bytes lo r.dir g
  pub page_high : (g : ℕ) → g < group_count r.len → page_named bytes lo r.dir g + 4096 ≤ lo + length bytes

-- runs of which a table can be made: at most 64, which ascend with a gap between any two and have at most 16 MiB together
pub record AreRuns (rs : List Run) : Type 0 where
  pub few : length rs ≤ 64
  pub apart : AreApart 0 rs
  pub small : bytes_len rs ≤ 16777216

-- what a table is made of: runs, pairs and its address
pub record Made : Type 0 where
  pub runs : List Run
  pub pairs : List (ℕ × ℕ)
  pub lo : ℕ

-- what is asked of them
pub record IsMade (t : Made) : Type 0 where
  pub runs : AreRuns t.runs
  pub ascend : Ascend 0 (firsts t.pairs)
  pub pairs : AllByRecursion (IsPair t.runs) t.pairs
  pub room : t.lo + table_size t.runs (firsts t.pairs) ≤ 0xB0000000
