-- The lowest page at which a block fits between segments.
use Rattle.std.proofs.Common.{◌≡◌, ℕ, zero, suc, ◌+◌, ◌*◌, ◌/◌, ◌<◌, ◌≤◌, ◌&&◌, ◌||◌, Bool, true, false, List, [], ◌∷◌, length, take, drop, get_or, Option, Some, None, refl, sym, ap, ◌∙◌, subst, inl, inr, arith}
use Rattle.std.specs.List.{list_all}
use Rattle.std.specs.Option.{option_map}
use Rattle.std.specs.Prelude.{nat_le}
use Rattle.std.proofs.lemmas.Bool.{cases_lt}
use Rattle.std.proofs.lemmas.Bool.Decides.{nat_tests}
use Rattle.std.proofs.lemmas.List.{take-append-drop, take_all, drop_more}
use Rattle.std.proofs.lemmas.List.Folds.{list_all-append, list_all_at, list_all_more}
use Rattle.elf32_read.specs.declared.image.Segment.{Segment}
use Rattle.image_layout.specs.Fit.{is_apart, has_room, lowest, first_fit}
use Rattle.image_layout.specs.Room.{ArePagesApart}

-- a segment ends at a page at the latest
abbrev pub ends_by : ℕ → Segment → Bool
ends_by page s = nat_le ((s.range.lo + s.range.len + 4095) / 4096) page

and_parts : (a b : Bool) → (a && b) ≡ true → (a ≡ true) × (b ≡ true)
and_parts true b h = (refl, h)
and_parts false b h = absurd (cc h)

both : (a b : Bool) → a ≡ true → b ≡ true → (a && b) ≡ true
both a b h k = rw (h, k) refl

or_second : (a b : Bool) → b ≡ true → (a || b) ≡ true
or_second true b h = refl
or_second false b h = h

neither : (a b : Bool) → a ≡ false → b ≡ false → (a || b) ≡ false
neither a b h k = rw (h, k) refl

and_false : (b : Bool) → (b && false) ≡ false
and_false true = refl
and_false false = refl

weaker : (from : ℕ) (ss : List Segment) → ArePagesApart from ss → ArePagesApart 0 ss
weaker from [] h = tt
weaker from (s ∷ ss) h = (omega arith, h.1)

-- the first number that passes a test
pub lowest_is : (test : ℕ → Bool) (from n q : ℕ) → from ≤ q → q < from + n → test q ≡ true → ((p : ℕ) → from ≤ p → p < q → test p ≡ false) → lowest test from n ≡ Some q
unfolding lowest
lowest_is test from zero q low high passes before = absurd (omega arith)
lowest_is test from (suc n) q low high passes before =
    elim (cases_lt from q) [
      | inl l ↦ rw (before from (omega arith) l) (lowest_is test (from + 1) n q (omega arith) (omega arith) passes (λ p a b. before p (omega arith) b))
      | inr l ↦
          let same : from ≡ q = omega arith in
          let here : test from ≡ true = ap test same ∙ passes in
          rw here (ap Some same)
    ]

pub lowest_none : (test : ℕ → Bool) (from n : ℕ) → ((p : ℕ) → from ≤ p → p < from + n → test p ≡ false) → lowest test from n ≡ None
unfolding lowest
lowest_none test from zero fails = refl
lowest_none test from (suc n) fails = rw (fails from (omega arith) (omega arith)) (lowest_none test (from + 1) n (λ p a b. fails p (omega arith) (omega arith)))

no_room_by_limit : (ss : List Segment) (size page : ℕ) → 0xB0000000 < 4096 * page + size → has_room ss size page ≡ false
unfolding has_room
no_room_by_limit ss size page l = let t : nat_le (4096 * page + size) 0xB0000000 ≡ false = grind (arith, nat_tests) in rw t

no_room_by_pages : (ss : List Segment) (size page : ℕ) → list_all (is_apart page (page + size / 4096)) ss ≡ false → has_room ss size page ≡ false
unfolding has_room
no_room_by_pages ss size page h = rw h (and_false (nat_le (4096 * page + size) 0xB0000000))

room_at : (ss : List Segment) (size page : ℕ) → 4096 * page + size ≤ 0xB0000000 → list_all (is_apart page (page + size / 4096)) ss ≡ true → has_room ss size page ≡ true
unfolding has_room
room_at ss size page l h = let t : nat_le (4096 * page + size) 0xB0000000 ≡ true = grind (arith, nat_tests) in rw (t, h)

-- the lowest free page is where the block fits, unless it ends too high there
pub fits_at : (ss : List Segment) (size page : ℕ) → 0 < size → 0x100 ≤ page → list_all (is_apart page (page + size / 4096)) ss ≡ true → ((p : ℕ) → 0x100 ≤ p → p < page → list_all (is_apart p (p + size / 4096)) ss ≡ false) → 4096 * page + size ≤ 0xB0000000 → first_fit ss size ≡ Some (4096 * page)
unfolding first_fit
fits_at ss size page some low free before limit =
    ap (option_map (λ (p : ℕ). 4096 * p)) (lowest_is (has_room ss size) 0x100 0xAFF00 page low (omega arith) (room_at ss size page limit free) (λ p a b. no_room_by_pages ss size p (before p a b)))

pub fits_nowhere : (ss : List Segment) (size page : ℕ) → ((p : ℕ) → 0x100 ≤ p → p < page → list_all (is_apart p (p + size / 4096)) ss ≡ false) → 0xB0000000 < 4096 * page + size → first_fit ss size ≡ None
unfolding first_fit
fits_nowhere ss size page before limit =
    ap (option_map (λ (p : ℕ). 4096 * p)) (lowest_none (has_room ss size) 0x100 0xAFF00 (λ p a b.
    elim (cases_lt p page) [ inl l ↦ no_room_by_pages ss size p (before p a l) | inr l ↦ no_room_by_limit ss size p (omega arith) ]))

-- segments that all end early or all begin late are apart from a block
ends_apart : (from to : ℕ) (ss : List Segment) → list_all (ends_by from) ss ≡ true → list_all (is_apart from to) ss ≡ true
ends_apart from to [] h = refl
ends_apart from to (s ∷ ss) h =
    let w = and_parts (ends_by from s) (list_all (ends_by from) ss) h in
    let here : is_apart from to s ≡ true = or_second (nat_le to (s.range.lo / 4096)) (ends_by from s) w.0 in
    rw (here, ends_apart from to ss w.1) refl

begins_apart : (from to page : ℕ) (ss : List Segment) → ArePagesApart page ss → to ≤ page → list_all (is_apart from to) ss ≡ true
begins_apart from to page [] h l = refl
begins_apart from to page (s ∷ ss) h l =
    let early : nat_le to (s.range.lo / 4096) ≡ true = grind (arith, nat_tests, h.0) in
    rw (early, begins_apart from to ((s.range.lo + s.range.len + 4095) / 4096) ss h.1 (omega (arith, h.0))) refl

rest_at : (ss : List Segment) (k : ℕ) (s : Segment) → k < length ss → s ≡ get_or ss k s → drop k ss ≡ s ∷ drop (k + 1) ss
rest_at ss k s l e = drop_more ss k s l ∙ ap (λ (x : Segment). x ∷ drop (k + 1) ss) (sym e)

-- a block before segment k, above all earlier ones, is apart from all
pub free_before : (from to : ℕ) (ss : List Segment) (k : ℕ) (s : Segment) → k < length ss → s ≡ get_or ss k s → list_all (ends_by from) (take k ss) ≡ true → ArePagesApart 0 (drop k ss) → to ≤ s.range.lo / 4096 → list_all (is_apart from to) ss ≡ true
free_before from to ss k s l e ended rest below =
    let later = subst (λ (t : List Segment). ArePagesApart 0 t) (rest_at ss k s l e) rest in
    let from_here : ArePagesApart (s.range.lo / 4096) (s ∷ drop (k + 1) ss) = (omega arith, later.1) in
    ap (list_all (is_apart from to)) (sym (take-append-drop k ss))
    ∙ list_all-append (is_apart from to) (take k ss) (drop k ss)
    ∙ both (list_all (is_apart from to) (take k ss)) (list_all (is_apart from to) (drop k ss)) (ends_apart from to (take k ss) ended)
    (ap (list_all (is_apart from to)) (rest_at ss k s l e) ∙ begins_apart from to (s.range.lo / 4096) (s ∷ drop (k + 1) ss) from_here below)

-- a block above all segments is apart from all
pub free_after : (from to : ℕ) (ss : List Segment) (k : ℕ) → length ss ≤ k → list_all (ends_by from) (take k ss) ≡ true → list_all (is_apart from to) ss ≡ true
free_after from to ss k l ended = ends_apart from to ss (ap (list_all (ends_by from)) (sym (take_all k ss l)) ∙ ended)

-- a block that ends above a segment's first page and starts below its last isn't apart from it
pub taken : (ss : List Segment) (k : ℕ) (s : Segment) (from to : ℕ) → k < length ss → s ≡ get_or ss k s → s.range.lo / 4096 < to → from < (s.range.lo + s.range.len + 4095) / 4096 → list_all (is_apart from to) ss ≡ false
taken ss k s from to l e above below =
    let here : is_apart from to s ≡ false = neither (nat_le to (s.range.lo / 4096)) (ends_by from s) (grind (arith, nat_tests)) (grind (arith, nat_tests)) in
    list_all_at (is_apart from to) ss k s l (ap (is_apart from to) (sym e) ∙ here)

ended_later : (low high : ℕ) (ss : List Segment) → low ≤ high → list_all (ends_by low) ss ≡ true → list_all (ends_by high) ss ≡ true
ended_later low high [] l h = refl
ended_later low high (s ∷ ss) l h =
    let w = and_parts (ends_by low s) (list_all (ends_by low) ss) h in
    let here : ends_by high s ≡ true = grind (arith, nat_tests, w.0) in
    rw (here, ended_later low high ss l w.1) refl

pub ended_more : (low high : ℕ) (ss : List Segment) (k : ℕ) (s : Segment) → k < length ss → s ≡ get_or ss k s → low ≤ high → (s.range.lo + s.range.len + 4095) / 4096 ≤ high → list_all (ends_by low) (take k ss) ≡ true → list_all (ends_by high) (take (k + 1) ss) ≡ true
ended_more low high ss k s l e up ends before =
    let here : ends_by high s ≡ true = grind (arith, nat_tests) in
    list_all_more (ends_by high) ss k s l
    ∙ both (list_all (ends_by high) (take k ss)) (ends_by high (get_or ss k s)) (ended_later low high (take k ss) up before) (ap (ends_by high) (sym e) ∙ here)

pub rest_apart : (ss : List Segment) (k : ℕ) (s : Segment) → k < length ss → s ≡ get_or ss k s → ArePagesApart 0 (drop k ss) → ArePagesApart 0 (drop (k + 1) ss)
rest_apart ss k s l e rest =
    let later = subst (λ (t : List Segment). ArePagesApart 0 t) (rest_at ss k s l e) rest in
    weaker ((s.range.lo + s.range.len + 4095) / 4096) (drop (k + 1) ss) later.1

-- the same of equal lists
pub fit_of : (ts ss : List Segment) (size : ℕ) {o : Option ℕ} → ts ≡ ss → o ≡ first_fit ts size → o ≡ first_fit ss size
fit_of ts ss size e h = h ∙ ap (λ (l : List Segment). first_fit l size) e
