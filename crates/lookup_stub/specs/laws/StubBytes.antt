-- The bytes of the stub, part by part.
use Rattle.std.proofs.Common.{◌≡◌, ℕ, suc, ◌⊎◌, inl, inr, ◌+◌, ◌-◌, ◌*◌, ◌/◌, ◌%◌, ◌^◌, ◌<◌, ◌≤◌, Bool, true, false, ◌==◌, List, [], ◌∷◌, ◌++◌, length, take, if◌then◌else◌, slice_index, get_or, refl, sym, ap, ◌∙◌, arith, length-append}
use Rattle.std.specs.List.{concat}
use Rattle.std.specs.Int.{w32, to_le_bytes}
use Rattle.std.proofs.lemmas.Bool.{cases_lt}
use Rattle.std.proofs.lemmas.List.{get_or_append_left, get_or-append_right, get_or_default, take_more}
use Rattle.std.proofs.lemmas.List.Folds.{concat-append}
use Rattle.mv_base.specs.Bytes.{word}
use Rattle.mv_base.specs.declared.range.RunPlace.{RunPlace}
use Rattle.lookup_stub.specs.Stub.{head, search, searches, choose, turn_page, finish, ending, stub, stub_size}

-- the low four bytes of a sum are those of the sum modulo 2^32
word_of_sum : (n : ℕ) → word (n % 2 ^ 32) ≡ word n
unfolding word
word_of_sum n =
    let a : n % 2 ^ 32 % 256 ≡ n % 256 = omega arith in
    let b : n % 2 ^ 32 / 256 % 256 ≡ n / 256 % 256 = omega arith in
    let c : n % 2 ^ 32 / 65536 % 256 ≡ n / 65536 % 256 = omega arith in
    let d : n % 2 ^ 32 / 16777216 % 256 ≡ n / 16777216 % 256 = omega arith in
    λ i. a i ∷ b i ∷ c i ∷ d i ∷ []

-- as the code has them
pub word_is : (bytes : List ℕ) (n m : ℕ) → bytes ≡ to_le_bytes w32 m → m ≡ n % 2 ^ 32 → bytes ≡ word n
word_is bytes n m e sum = e ∙ ap (to_le_bytes w32) sum ∙ unfold word in word_of_sum n

-- ---- lengths

pub searches_len : (rs : List RunPlace) → length (concat (searches rs)) ≡ 26 * length rs
unfolding word
searches_len [] = refl
searches_len (r ∷ rs) =
    let here = ap length (concat-append (search r (length rs)) (searches rs)) ∙ length-append (concat (search r (length rs))) (concat (searches rs)) in
    omega (arith, here, searches_len rs)

ending_len : (form p : ℕ) → length (concat (ending form p)) ≡ (if form == 1 then 31 else 45)
unfolding word
ending_len form p = go (form == 1)
  where
    go : (b : Bool) → length (concat ((if b then 0xEB ∷ 0x08 ∷ [] else 0xEB ∷ 0x16 ∷ []) ∷ ((if b then choose else turn_page ++ choose) ++ finish p))) ≡ (if b then 31 else 45)
    go true = refl
    go false = refl

-- the stub in three parts
stub_parts : (form : ℕ) (runs : List RunPlace) (p : ℕ) → stub form runs p ≡ concat (head p) ++ (concat (searches runs) ++ concat (ending form p))
unfolding stub
stub_parts form runs p =
    concat-append (head p) (searches runs ++ ending form p) ∙ ap (λ (t : List ℕ). concat (head p) ++ t) (concat-append (searches runs) (ending form p))

pub stub_length : (form : ℕ) (runs : List RunPlace) (p : ℕ) → length (stub form runs p) ≡ stub_size form (length runs)
unfolding word
stub_length form runs p =
    let parts = ap length (stub_parts form runs p) ∙ length-append (concat (head p)) (concat (searches runs) ++ concat (ending form p)) in
    let more = length-append (concat (searches runs)) (concat (ending form p)) in
    let sum : 20 + (26 * length runs + (if form == 1 then 31 else 45)) ≡ (if form == 1 then 51 else 65) + 26 * length runs = go (form == 1) in
    omega (arith, parts, more, searches_len runs, ending_len form p, sum)
  where
    go : (b : Bool) → 20 + (26 * length runs + (if b then 31 else 45)) ≡ (if b then 51 else 65) + 26 * length runs
    go true = omega arith
    go false = omega arith

-- ---- bytes

pub head_at : (form : ℕ) (runs : List RunPlace) (p i : ℕ) → i < 20 → slice_index (concat (head p)) i ≡ slice_index (stub form runs p) i
unfolding word
head_at form runs p i l =
    sym (ap (λ (s : List ℕ). slice_index s i) (stub_parts form runs p) ∙ get_or_append_left (concat (head p)) (concat (searches runs) ++ concat (ending form p)) 0 i l)

-- behind the head
behind_head : (form : ℕ) (runs : List RunPlace) (p i : ℕ) → 20 ≤ i → slice_index (stub form runs p) i ≡ slice_index (concat (searches runs) ++ concat (ending form p)) (i - 20)
unfolding word
behind_head form runs p i l =
    ap (λ (s : List ℕ). slice_index s i) (stub_parts form runs p) ∙ get_or-append_right (concat (head p)) (concat (searches runs) ++ concat (ending form p)) 20 i 0 refl l

search_at : (runs : List RunPlace) (j : ℕ) (r : RunPlace) → j / 26 < length runs → r ≡ get_or runs (j / 26) r
    → slice_index (concat (searches runs)) j ≡ slice_index (concat (search r (length runs - 1 - j / 26))) (j % 26)
unfolding word
search_at [] j r l e = absurd (omega arith)
search_at (q ∷ rs) j r l e = go (cases_lt j 26) (search_at rs (j - 26) r)
  where
    parts : concat (searches (q ∷ rs)) ≡ concat (search q (length rs)) ++ concat (searches rs)
    parts = concat-append (search q (length rs)) (searches rs)

    go : (j < 26) ⊎ (26 ≤ j) → ((j - 26) / 26 < length rs → r ≡ get_or rs ((j - 26) / 26) r → slice_index (concat (searches rs)) (j - 26) ≡ slice_index (concat (search r (length rs - 1 - (j - 26) / 26))) ((j - 26) % 26))
        → slice_index (concat (searches (q ∷ rs))) j ≡ slice_index (concat (search r (suc (length rs) - 1 - j / 26))) (j % 26)
    go (inl small) rec =
        let first : j / 26 ≡ 0 = omega arith in
        let place : j ≡ j % 26 = omega arith in
        let same : q ≡ r = sym (e ∙ ap (λ (i : ℕ). get_or (q ∷ rs) i r) first) in
        let behind : length rs ≡ suc (length rs) - 1 - j / 26 = omega arith in
        ap (λ (s : List ℕ). slice_index s j) parts ∙ get_or_append_left (concat (search q (length rs))) (concat (searches rs)) 0 j small
        ∙ (λ t. slice_index (concat (search (same t) (behind t))) (place t))
    go (inr big) rec =
        let next : j / 26 ≡ suc ((j - 26) / 26) = omega arith in
        let place : (j - 26) % 26 ≡ j % 26 = omega arith in
        let behind : length rs - 1 - (j - 26) / 26 ≡ suc (length rs) - 1 - j / 26 = omega arith in
        ap (λ (s : List ℕ). slice_index s j) parts ∙ get_or-append_right (concat (search q (length rs))) (concat (searches rs)) 26 j 0 refl big
        ∙ rec (omega arith) (e ∙ ap (λ (i : ℕ). get_or (q ∷ rs) i r) next)
        ∙ (λ t. slice_index (concat (search r (behind t))) (place t))

pub run_at : (form : ℕ) (runs : List RunPlace) (p i : ℕ) (r : RunPlace) → 20 ≤ i → (i - 20) / 26 < length runs → r ≡ get_or runs ((i - 20) / 26) r
    → slice_index (concat (search r (length runs - 1 - (i - 20) / 26))) ((i - 20) % 26) ≡ slice_index (stub form runs p) i
run_at form runs p i r low l e =
    let len = searches_len runs in
    sym (behind_head form runs p i low ∙ get_or_append_left (concat (searches runs)) (concat (ending form p)) 0 (i - 20) (omega arith) ∙ search_at runs (i - 20) r l e)

pub end_at : (form : ℕ) (runs : List RunPlace) (p i : ℕ) → 20 ≤ i → length runs ≤ (i - 20) / 26 → slice_index (concat (ending form p)) (i - 20 - 26 * length runs) ≡ slice_index (stub form runs p) i
end_at form runs p i low l =
    sym (behind_head form runs p i low ∙ get_or-append_right (concat (searches runs)) (concat (ending form p)) (26 * length runs) (i - 20) 0 (searches_len runs) (omega arith))

-- the same as the code has them
pub run_read : (form : ℕ) (runs : List RunPlace) (p i : ℕ) (d : RunPlace) (bytes : List ℕ) → 20 ≤ i → (i - 20) / 26 < length runs
    → bytes ≡ concat (search (get_or runs ((i - 20) / 26) d) (length runs - 1 - (i - 20) / 26)) → slice_index bytes ((i - 20) % 26) ≡ slice_index (stub form runs p) i
run_read form runs p i d bytes low l e =
    ap (λ (s : List ℕ). slice_index s ((i - 20) % 26)) e ∙ run_at form runs p i (get_or runs ((i - 20) / 26) d) low l (get_or_default runs ((i - 20) / 26) d (get_or runs ((i - 20) / 26) d) l)

pub head_read : (form : ℕ) (runs : List RunPlace) (p i : ℕ) (bytes : List ℕ) → i < 20 → bytes ≡ concat (head p) → slice_index bytes i ≡ slice_index (stub form runs p) i
head_read form runs p i bytes l e = ap (λ (s : List ℕ). slice_index s i) e ∙ head_at form runs p i l

-- behind the tests, by the form
pub flat_read : (form : ℕ) (runs : List RunPlace) (p i b : ℕ) → 20 ≤ i → length runs ≤ (i - 20) / 26 → form ≡ 1 → b ≡ slice_index (concat (ending 1 p)) (i - 20 - 26 * length runs)
    → b ≡ slice_index (stub form runs p) i
flat_read form runs p i b low l same e =
    e ∙ ap (λ (f : ℕ). slice_index (concat (ending f p)) (i - 20 - 26 * length runs)) (sym same) ∙ end_at form runs p i low l

pub paged_read : (form : ℕ) (runs : List RunPlace) (p i b : ℕ) → 20 ≤ i → length runs ≤ (i - 20) / 26 → form ≡ 2 → b ≡ slice_index (concat (ending 2 p)) (i - 20 - 26 * length runs)
    → b ≡ slice_index (stub form runs p) i
paged_read form runs p i b low l same e =
    e ∙ ap (λ (f : ℕ). slice_index (concat (ending f p)) (i - 20 - 26 * length runs)) (sym same) ∙ end_at form runs p i low l

-- ---- the loop

pub one_byte : (s old new : List ℕ) (i b : ℕ) → i < length s → old ≡ take i s → b ≡ slice_index s i → new ≡ old ++ b ∷ [] → new ≡ take (i + 1) s
one_byte s old new i b l e at more = more ∙ (λ t. e t ++ at t ∷ []) ∙ sym (take_more s i 0 l)
