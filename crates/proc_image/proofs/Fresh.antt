-- How many pages hold a mapped byte once a range is filled.
use Rattle.std.proofs.Common.{◌≡◌, ℕ, ◌+◌, ◌-◌, ◌*◌, ◌/◌, ◌<◌, ◌≤◌, Bool, true, false, List, slice_index, Some, is_some, nat_lt, if◌then◌else◌, refl, ap, ◌∙◌, arith}
use Rattle.std.proofs.lemmas.Bool.Decides.{nat_tests}
use Rattle.mv_base.specs.Memory.{Memory, within, is_mapped}
use Rattle.proc_image.specs.Counting.{count_below, holds_mapped, mapped_pages, mapped_pages_in}
use Rattle.proc_image.specs.Mapping.{filled}
use Rattle.proc_image.proofs.Counts.{some-same, some-here, count-same, count-add, count-all}
use Rattle.proc_image.proofs.Fills.{is_inside, is_below, is_above}

-- a page of which a memory holds what another holds
pub holds-same : (m n : Memory) (p : ℕ) → ((k : ℕ) → k < 4096 → n (4096 * p + k) ≡ m (4096 * p + k)) → holds_mapped n p ≡ holds_mapped m p
unfolding holds_mapped
holds-same m n p same = some-same (λ k. is_mapped m (4096 * p + k)) (λ k. is_mapped n (4096 * p + k)) 4096 (λ k below. ap is_some (same k below))

-- a page with a mapped address
pub holds-at : (m : Memory) (p k : ℕ) → k < 4096 → is_mapped m (4096 * p + k) ≡ true → holds_mapped m p ≡ true
unfolding holds_mapped
holds-at m p k below mapped = some-here (λ i. is_mapped m (4096 * p + i)) 4096 k below mapped

filled-in : (m : Memory) (lo len : ℕ) (bytes : List ℕ) (w x : Bool) (a : ℕ) → within lo len a ≡ true → is_mapped (filled m lo len bytes w x) a ≡ true
unfolding filled
filled-in m lo len bytes w x a is = ap (λ t. is_some (if t then Some (record { byte = slice_index bytes (a - lo); write = w; exec = x }) else m a)) is

filled-out : (m : Memory) (lo len : ℕ) (bytes : List ℕ) (w x : Bool) (a : ℕ) → within lo len a ≡ false → filled m lo len bytes w x a ≡ m a
unfolding filled
filled-out m lo len bytes w x a is = ap (λ t. if t then Some (record { byte = slice_index bytes (a - lo); write = w; exec = x }) else m a) is

-- each page of the range holds a mapped byte
holds-filled : (m : Memory) (lo len : ℕ) (bytes : List ℕ) (w x : Bool) (p : ℕ) → lo / 4096 ≤ p → p < (lo + len + 4095) / 4096 → 0 < len
    → holds_mapped (filled m lo len bytes w x) p ≡ true
holds-filled m lo len bytes w x p first last some = go (nat_lt (4096 * p) lo) refl
  where
    go : (t : Bool) → nat_lt (4096 * p) lo ≡ t → holds_mapped (filled m lo len bytes w x) p ≡ true
    go true e =
        let begins : 4096 * p < lo = grind (arith, nat_tests) in
        let at : 4096 * p + (lo - 4096 * p) ≡ lo = omega arith in
        holds-at (filled m lo len bytes w x) p (lo - 4096 * p) (omega arith)
        (filled-in m lo len bytes w x (4096 * p + (lo - 4096 * p)) (is_inside lo len (4096 * p + (lo - 4096 * p)) (omega arith) (omega arith)))
    go false e =
        let inside : lo ≤ 4096 * p = grind (arith, nat_tests) in
        holds-at (filled m lo len bytes w x) p 0 (omega arith) (filled-in m lo len bytes w x (4096 * p + 0) (is_inside lo len (4096 * p + 0) (omega arith) (omega arith)))

-- three ranges of pages
split : (test : ℕ → Bool) (first count rest : ℕ) → count_below test (first + (count + rest))
    ≡ count_below test first + (count_below (λ j. test (first + j)) count + count_below (λ k. test (first + (count + k))) rest)
split test first count rest = count-add test first (count + rest) ∙ ap (λ n. count_below test first + n) (count-add (λ j. test (first + j)) count rest)

pub mapped_pages-filled : (m : Memory) (lo len : ℕ) (bytes : List ℕ) (w x : Bool) (first count : ℕ) → 0 < len → lo + len ≤ 0xFFFFF000 → first ≡ lo / 4096 → first + count ≡ (lo + len + 4095) / 4096
    → mapped_pages (filled m lo len bytes w x) + mapped_pages_in m first count ≡ mapped_pages m + count
unfolding mapped_pages mapped_pages_in
mapped_pages-filled m lo len bytes w x first count some low first_is end_is =
    let rest : ℕ = 0x100000 - (first + count) in
    let all : 0x100000 ≡ first + (count + rest) = omega arith in
    let new : count_below (holds_mapped (filled m lo len bytes w x)) 0x100000 ≡ _ = ap (count_below (holds_mapped (filled m lo len bytes w x))) all ∙ split (holds_mapped (filled m lo len bytes w x)) first count rest in
    let old : count_below (holds_mapped m) 0x100000 ≡ _ = ap (count_below (holds_mapped m)) all ∙ split (holds_mapped m) first count rest in
    let before : count_below (holds_mapped (filled m lo len bytes w x)) first ≡ count_below (holds_mapped m) first =
    count-same (holds_mapped m) (holds_mapped (filled m lo len bytes w x)) first (λ p below. holds-same m (filled m lo len bytes w x) p (λ k small.
    filled-out m lo len bytes w x (4096 * p + k) (is_below lo len (4096 * p + k) (omega arith)))) in
    let within_range : count_below (λ j. holds_mapped (filled m lo len bytes w x) (first + j)) count ≡ count =
    count-all (λ j. holds_mapped (filled m lo len bytes w x) (first + j)) count (λ j below. holds-filled m lo len bytes w x (first + j) (omega arith) (omega arith) some) in
    let after : count_below (λ k. holds_mapped (filled m lo len bytes w x) (first + (count + k))) rest ≡ count_below (λ k. holds_mapped m (first + (count + k))) rest =
    count-same (λ k. holds_mapped m (first + (count + k))) (λ k. holds_mapped (filled m lo len bytes w x) (first + (count + k))) rest (λ j below.
    holds-same m (filled m lo len bytes w x) (first + (count + j)) (λ k small.
    filled-out m lo len bytes w x (4096 * (first + (count + j)) + k) (is_above lo len (4096 * (first + (count + j)) + k) (omega arith)))) in
    omega arith
