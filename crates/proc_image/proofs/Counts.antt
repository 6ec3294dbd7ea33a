-- Counts of the numbers below a bound that pass a test, and of pages.
use Rattle.std.proofs.Common.{◌≡◌, ℕ, zero, suc, ◌+◌, ◌*◌, ◌/◌, ◌%◌, ◌<◌, ◌≤◌, Bool, true, false, ◌||◌, List, [], get_or, None, is_some, nat_lt, if◌then◌else◌, refl, ap, ap₂, ◌∙◌, arith, add-suc, add_assoc}
use Rattle.std.proofs.lemmas.Bool.Decides.{nat_tests}
use Rattle.mv_base.specs.Memory.{Memory, is_mapped}
use Rattle.proc_image.specs.declared.memory.Memory.{Memory as Pages}
use Rattle.proc_image.specs.Counting.{some_below, count_below, holds_mapped, mapped_pages, mapped_pages_in}
use Rattle.proc_image.specs.Paged.{Page, is_mapped_in, cells, page_of, table_of}
use Rattle.proc_image.proofs.Pages.{page_of-table, cells-page, cells-high}

-- no number below 0 passes
pub some-zero : (test : ℕ → Bool) → some_below test 0 ≡ false
unfolding some_below
some-zero test = refl

-- nor does one below n + 1, where n fails and all below it
pub some-more : (test : ℕ → Bool) (n : ℕ) → some_below test n ≡ false → test n ≡ false → some_below test (suc n) ≡ false
unfolding some_below
some-more test n before here = ap₂ ◌||◌ before here

-- one passes
pub some-here : (test : ℕ → Bool) (n k : ℕ) → k < n → test k ≡ true → some_below test n ≡ true
unfolding some_below
some-here test zero k below passes = absurd (omega arith)
some-here test (suc n) k below passes = go (λ earlier. some-here test n k earlier passes) (nat_lt k n) refl
  where
    either : (a : Bool) → (a || true) ≡ true
    either true = refl
    either false = refl

    go : (k < n → some_below test n ≡ true) → (t : Bool) → nat_lt k n ≡ t → (some_below test n || test n) ≡ true
    go rec true e = let earlier : k < n = grind (arith, nat_tests) in ap (λ b. b || test n) (rec earlier)
    go rec false e =
        let same : n ≡ k = grind (arith, nat_tests) in
        ap (λ b. some_below test n || b) (ap test same ∙ passes) ∙ either (some_below test n)

-- none passes
pub some-none : (test : ℕ → Bool) (n : ℕ) → ((k : ℕ) → k < n → test k ≡ false) → some_below test n ≡ false
some-none test zero fails = some-zero test
some-none test (suc n) fails = some-more test n (some-none test n (λ k below. fails k (omega arith))) (fails n (omega arith))

-- tests that agree
pub some-same : (p q : ℕ → Bool) (n : ℕ) → ((k : ℕ) → k < n → q k ≡ p k) → some_below q n ≡ some_below p n
unfolding some_below
some-same p q zero same = refl
some-same p q (suc n) same = ap₂ ◌||◌ (some-same p q n (λ k below. same k (omega arith))) (same n (omega arith))

-- counts, one number more
pub count-zero : (test : ℕ → Bool) → count_below test 0 ≡ 0
unfolding count_below
count-zero test = refl

pub count-next : (test : ℕ → Bool) (n : ℕ) → test n ≡ true → count_below test (suc n) ≡ count_below test n + 1
unfolding count_below
count-next test n passes = ap (λ b. count_below test n + (if b then 1 else 0)) passes

pub count-skip : (test : ℕ → Bool) (n : ℕ) → test n ≡ false → count_below test (suc n) ≡ count_below test n
unfolding count_below
count-skip test n fails = ap (λ b. count_below test n + (if b then 1 else 0)) fails ∙ let none : count_below test n + 0 ≡ count_below test n = omega arith in none

pub count-same : (p q : ℕ → Bool) (n : ℕ) → ((k : ℕ) → k < n → q k ≡ p k) → count_below q n ≡ count_below p n
unfolding count_below
count-same p q zero same = refl
count-same p q (suc n) same = ap₂ (λ a b. a + (if b then 1 else 0)) (count-same p q n (λ k below. same k (omega arith))) (same n (omega arith))

-- counts of two ranges
pub count-add : (test : ℕ → Bool) (m n : ℕ) → count_below test (m + n) ≡ count_below test m + count_below (λ j. test (m + j)) n
unfolding count_below
count-add test m zero = let same : m + 0 ≡ m = omega arith in ap (count_below test) same ∙ (let more : count_below test m ≡ count_below test m + 0 = omega arith in more)
count-add test m (suc n) =
    ap (count_below test) (add-suc m n)
    ∙ ap (λ a. a + (if test (m + n) then 1 else 0)) (count-add test m n)
    ∙ add_assoc (count_below test m) (count_below (λ j. test (m + j)) n) (if test (m + n) then 1 else 0)

-- where all pass, and where none does
pub count-all : (test : ℕ → Bool) (n : ℕ) → ((k : ℕ) → k < n → test k ≡ true) → count_below test n ≡ n
count-all test zero all = count-zero test
count-all test (suc n) all = let rest = count-all test n (λ k below. all k (omega arith)) in count-next test n (all n (omega arith)) ∙ (let e : count_below test n + 1 ≡ suc n = omega arith in e)

pub count-none : (test : ℕ → Bool) (n : ℕ) → ((k : ℕ) → k < n → test k ≡ false) → count_below test n ≡ 0
count-none test zero none = count-zero test
count-none test (suc n) none = count-skip test n (none n (omega arith)) ∙ count-none test n (λ k below. none k (omega arith))

-- ---- pages

-- the page of an address
page_at : (p k : ℕ) → k < 4096 → (4096 * p + k) / 4096 ≡ p
page_at p k below = omega arith

place_at : (p k : ℕ) → k < 4096 → (4096 * p + k) % 4096 ≡ k
place_at p k below = omega arith

-- a page holds a mapped byte where one of its places has a cell
pub holds-page : (m : Pages) (p : ℕ) → p < 0xFFFFF → holds_mapped (cells m) p ≡ some_below (is_mapped_in (page_of m p)) 4096
unfolding holds_mapped
holds-page m p low = some-same (is_mapped_in (page_of m p)) (λ k. is_mapped (cells m) (4096 * p + k)) 4096 (λ k below.
    let in_memory : 4096 * p + k < 0xFFFFF000 = omega arith in
    ap is_some (cells-page m (4096 * p + k) in_memory
    ∙ ap₂ (λ n i. get_or (page_of m n) i None) (page_at p k below) (place_at p k below)))

pub holds-high : (m : Pages) (p : ℕ) → 0xFFFFF ≤ p → holds_mapped (cells m) p ≡ false
unfolding holds_mapped
holds-high m p high = some-none (λ k. is_mapped (cells m) (4096 * p + k)) 4096 (λ k below.
    let above : 0xFFFFF000 ≤ 4096 * p + k = omega arith in
    ap is_some (cells-high m (4096 * p + k) above))

pub holds-absent : (m : Pages) (p : ℕ) → page_of m p ≡ [] → holds_mapped (cells m) p ≡ false
holds-absent m p absent = go (nat_lt p 0xFFFFF) refl
  where
    go : (t : Bool) → nat_lt p 0xFFFFF ≡ t → holds_mapped (cells m) p ≡ false
    go true e =
        let low : p < 0xFFFFF = grind (arith, nat_tests) in
        holds-page m p low ∙ ap (λ q. some_below (is_mapped_in q) 4096) absent ∙ some-none (is_mapped_in []) 4096 (λ k below. refl)
    go false e = let high : 0xFFFFF ≤ p = grind (arith, nat_tests) in holds-high m p high

-- a table that is not there has no such page
pub pages-absent : (m : Pages) (t : ℕ) → table_of m t ≡ [] → mapped_pages_in (cells m) (1024 * t) 1024 ≡ 0
unfolding mapped_pages_in
pages-absent m t absent = count-none (λ j. holds_mapped (cells m) (1024 * t + j)) 1024 (λ j below.
    let row : (1024 * t + j) / 1024 ≡ t = omega arith in
    holds-absent m (1024 * t + j) (page_of-table m (1024 * t + j) ∙ ap (λ i. get_or (table_of m i) ((1024 * t + j) % 1024) []) row ∙ ap (λ (r : List Page). get_or r ((1024 * t + j) % 1024) []) absent))

-- pages of one more table
pub pages-more : (m : Memory) (t : ℕ) → count_below (holds_mapped m) (1024 * (t + 1)) ≡ count_below (holds_mapped m) (1024 * t) + mapped_pages_in m (1024 * t) 1024
unfolding mapped_pages_in
pages-more m t = let more : 1024 * (t + 1) ≡ 1024 * t + 1024 = omega arith in ap (count_below (holds_mapped m)) more ∙ count-add (holds_mapped m) (1024 * t) 1024

-- there are no more than all
pub count-le : (test : ℕ → Bool) (n : ℕ) → count_below test n ≤ n
unfolding count_below
count-le test zero = omega arith
count-le test (suc n) = go (test n) (count-le test n)
  where
    go : (t : Bool) → count_below test n ≤ n → count_below test n + (if t then 1 else 0) ≤ suc n
    go true le = omega arith
    go false le = omega arith

pub pages-le : (m : Memory) (first n : ℕ) → mapped_pages_in m first n ≤ n
unfolding mapped_pages_in
pages-le m first n = count-le (λ j. holds_mapped m (first + j)) n

pub all-pages-le : (m : Memory) → mapped_pages m ≤ 0x100000
unfolding mapped_pages
all-pages-le m = count-le (holds_mapped m) 0x100000
