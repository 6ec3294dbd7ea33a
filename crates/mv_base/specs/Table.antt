-- How a table from old to new addresses is read. This project's own format. It has one of two forms, and a word is 0
-- where an address has no new one.
-- Form 1, flat: for each run one word an address, from the run's directory address on.
-- Form 2, paged: for each run a directory, which has the address of a page for each group of 1,024 addresses; the last
-- group of a run is shorter where needed. A page has 1,024 words, one for each address of its group.
use Rattle.std.specs.Prelude.{ℕ, ◌+◌, ◌-◌, ◌*◌, ◌/◌, ◌%◌, List, [], ◌∷◌, Option, Some, None, ◌==◌, if◌then◌else◌}
use Rattle.mv_base.specs.declared.range.RunPlace.{RunPlace}
use Rattle.mv_base.specs.Bytes.{word_at}
use Rattle.mv_base.specs.Memory.{within}

-- the run that an address lies in
abbrev pub run_of : List RunPlace → ℕ → Option RunPlace
run_of [] a = None
run_of (r ∷ rs) a = if within r.lo r.len a then Some r else run_of rs a

-- the word for an address in a table of form 1, whose bytes lie from lo on
abbrev pub flat_word : List ℕ → ℕ → ℕ → Option RunPlace → ℕ
flat_word table lo a None = 0
flat_word table lo a (Some r) = word_at table (r.dir - lo + 4 * (a - r.lo))

-- an address's entry in a table of form 1: its new address, or 0
abbrev pub flat_entry : List ℕ → ℕ → List RunPlace → ℕ → ℕ
flat_entry table lo runs a = flat_word table lo a (run_of runs a)

-- how many groups a run of this length has
abbrev pub group_count : ℕ → ℕ
group_count len = (len + 1023) / 1024

-- the page that word g of a directory names
abbrev pub page_named : List ℕ → ℕ → ℕ → ℕ → ℕ
page_named table lo dir g = word_at table (dir - lo + 4 * g)

-- the page of the k-th address of a run with this directory
abbrev pub page_at : List ℕ → ℕ → ℕ → ℕ → ℕ
page_at table lo dir k = page_named table lo dir (k / 1024)

-- the word for an address in a table of form 2, whose bytes lie from lo on
abbrev pub paged_word : List ℕ → ℕ → ℕ → Option RunPlace → ℕ
paged_word table lo a None = 0
paged_word table lo a (Some r) = word_at table (page_at table lo r.dir (a - r.lo) - lo + 4 * ((a - r.lo) % 1024))

-- an address's entry in a table of form 2: its new address, or 0
abbrev pub paged_entry : List ℕ → ℕ → List RunPlace → ℕ → ℕ
paged_entry table lo runs a = paged_word table lo a (run_of runs a)

-- an address's entry in a table of form 1 or 2
abbrev pub entry_at : ℕ → List ℕ → ℕ → List RunPlace → ℕ → ℕ
entry_at form table lo runs a = if form == 1 then flat_entry table lo runs a else paged_entry table lo runs a

-- an entry that is not 0, or the address itself
abbrev pub entry_or : ℕ → ℕ → ℕ
entry_or entry a = if entry == 0 then a else entry
