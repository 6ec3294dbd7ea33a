-- How many pages of memory hold a mapped byte. This project's own.
use Rattle.std.specs.Prelude.{ℕ, zero, suc, ◌+◌, ◌*◌, Bool, false, ◌||◌, if◌then◌else◌}
use Rattle.mv_base.specs.Memory.{Memory, is_mapped}

-- whether a number below n passes a test, and how many do
unfoldable pub some_below : (ℕ → Bool) → ℕ → Bool
some_below test zero = false
some_below test (suc n) = some_below test n || test n

unfoldable pub count_below : (ℕ → Bool) → ℕ → ℕ
count_below test zero = 0
count_below test (suc n) = count_below test n + (if test n then 1 else 0)

-- the page with this number holds a mapped byte: one of its 4,096 addresses is mapped
unfoldable pub holds_mapped : Memory → ℕ → Bool
holds_mapped m p = some_below (λ k. is_mapped m (4096 * p + k)) 4096

-- how many of n pages from the first on do
unfoldable pub mapped_pages_in : Memory → ℕ → ℕ → ℕ
mapped_pages_in m first n = count_below (λ j. holds_mapped m (first + j)) n

-- how many of all 2^20 pages do
unfoldable pub mapped_pages : Memory → ℕ
mapped_pages m = count_below (holds_mapped m) 0x100000

-- the bytes of these pages
abbrev pub mapped_size : Memory → ℕ
mapped_size m = 4096 * mapped_pages m
