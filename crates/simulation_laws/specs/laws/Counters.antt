-- Where the counter of a kind at an address is in a frame, and whose counter one is.
use Rattle.std.proofs.Common.{◌≡◌, ℕ, zero, suc, ◌+◌, ◌*◌, ◌<◌, ◌≤◌, Bool, true, false, ◌==◌, ◌&&◌, List, [], ◌∷◌, length, Some, None, if◌then◌else◌, refl, sym, ap, ◌∙◌, subst, arith, ◌⊎◌, inl, inr, eq-or-lt_of_le}
use Rattle.std.specs.Prelude.{get_or}
use Rattle.std.proofs.lemmas.Bool.{and_parts, and_from, both_ways, false_from_ne_true, eq-eqb, eqb-true, cases_lt}
use Rattle.std.proofs.lemmas.List.FromFn.{length-map-range_with_len, get_or-map-range_with_len}
use Rattle.std.proofs.lemmas.Option.{none-some, same_Some}
use Rattle.elf32_write.specs.Frame.{Frame, counted_at, kind_at, pair_at, counted, IsBefore, AscendPairs, counter_place}
use Rattle.simulation_laws.specs.Pieces.{counter_in}
use Rattle.simulation_laws.specs.Relocated.{kind_of}

-- ---- in a list

-- a pair is that of an address and a kind
abbrev pub IsThat : ℕ → ℕ → ℕ × ℕ → Type 0
IsThat kind a q = (q.0 ≡ a) × (q.1 ≡ kind)

pub is_that : (kind a : ℕ) (q : ℕ × ℕ) → IsThat kind a q → (q.0 == a && q.1 == kind) ≡ true
is_that kind a q is = and_from (q.0 == a) (q.1 == kind) (eq-eqb q.0 a is.0) (eq-eqb q.1 kind is.1)

pub that_by : (kind a : ℕ) (q : ℕ × ℕ) → (q.0 == a && q.1 == kind) ≡ true → IsThat kind a q
that_by kind a q h = let p = and_parts (q.0 == a) (q.1 == kind) h in (eqb-true q.0 a p.0, eqb-true q.1 kind p.1)

pub not_that : (kind a : ℕ) (q : ℕ × ℕ) → (IsThat kind a q → ⊥) → (q.0 == a && q.1 == kind) ≡ false
not_that kind a q none = false_from_ne_true (q.0 == a && q.1 == kind) (λ h. none (that_by kind a q h))

pub found_in : (first : ℕ) (qs : List (ℕ × ℕ)) (kind a k : ℕ) → k < length qs → IsThat kind a (get_or qs k (0, 0)) → ((j : ℕ) → j < k → IsThat kind a (get_or qs j (0, 0)) → ⊥) → counter_in first qs kind a ≡ Some (first + 8 * k)
unfolding counter_in
found_in first [] kind a k lt is none = absurd (omega arith)
found_in first (q ∷ qs) kind a zero lt is none =
    let same : first ≡ first + 8 * 0 = omega arith in
    ap (λ b. if b then Some first else counter_in (first + 8) qs kind a) (is_that kind a q is) ∙ ap Some same
found_in first (q ∷ qs) kind a (suc k) lt is none =
    let same : first + 8 + 8 * k ≡ first + 8 * suc k = omega arith in
    ap (λ b. if b then Some first else counter_in (first + 8) qs kind a) (not_that kind a q (none 0 (omega arith)))
    ∙ (found_in (first + 8) qs kind a k (omega (arith, lt)) is (λ j l. none (suc j) (omega (arith, l))) ∙ ap Some same)

pub absent_in : (first : ℕ) (qs : List (ℕ × ℕ)) (kind a : ℕ) → ((j : ℕ) → j < length qs → IsThat kind a (get_or qs j (0, 0)) → ⊥) → counter_in first qs kind a ≡ None
unfolding counter_in
absent_in first [] kind a none = refl
absent_in first (q ∷ qs) kind a none =
    ap (λ b. if b then Some first else counter_in (first + 8) qs kind a) (not_that kind a q (none 0 (omega arith)))
    ∙ absent_in (first + 8) qs kind a (λ j l. none (suc j) (omega (arith, l)))

-- the number of that pair in a list, with its counter's place
pub record IsCounted (first : ℕ) (qs : List (ℕ × ℕ)) (kind a p : ℕ) : Type 0 where
  pub number : ℕ
  pub below : number < length qs
  pub is : IsThat kind a (get_or qs number (0, 0))
  pub place : p ≡ first + 8 * number

pub where_in : (first : ℕ) (qs : List (ℕ × ℕ)) (kind a p : ℕ) → counter_in first qs kind a ≡ Some p → IsCounted first qs kind a p
unfolding counter_in
where_in first [] kind a p e = absurd (none-some p e)
where_in first (q ∷ qs) kind a p e = go (λ h. where_in (first + 8) qs kind a p h) (q.0 == a && q.1 == kind) refl e
  where
    go : (counter_in (first + 8) qs kind a ≡ Some p → IsCounted (first + 8) qs kind a p) → (b : Bool) → (q.0 == a && q.1 == kind) ≡ b → (if b then Some first else counter_in (first + 8) qs kind a) ≡ Some p → IsCounted first (q ∷ qs) kind a p
    go rest true h e = let same = same_Some first p e in record { number = 0; below = omega arith; is = that_by kind a q h; place = omega (arith, same) }
    go rest false h e =
        let w = rest e in
        record { number = suc w.number; below = omega (arith, w.below); is = w.is; place = omega (arith, w.place) }

pub nowhere_in : (first : ℕ) (qs : List (ℕ × ℕ)) (kind a j : ℕ) → counter_in first qs kind a ≡ None → j < length qs → IsThat kind a (get_or qs j (0, 0)) → ⊥
unfolding counter_in
nowhere_in first [] kind a j e lt is = omega arith
nowhere_in first (q ∷ qs) kind a j e lt is = go (λ j h. nowhere_in (first + 8) qs kind a j h) (q.0 == a && q.1 == kind) refl e j lt is
  where
    go : ((j : ℕ) → counter_in (first + 8) qs kind a ≡ None → j < length qs → IsThat kind a (get_or qs j (0, 0)) → ⊥) → (b : Bool) → (q.0 == a && q.1 == kind) ≡ b → (if b then Some first else counter_in (first + 8) qs kind a) ≡ None → (j : ℕ) → j < length (q ∷ qs) → IsThat kind a (get_or (q ∷ qs) j (0, 0)) → ⊥
    go rest true h e j lt is = none-some first (sym e)
    go rest false h e zero lt is = both_ways (q.0 == a && q.1 == kind) h (is_that kind a q is)
    go rest false h e (suc j) lt is = rest j e (omega (arith, lt)) is

-- ---- in a frame

pub length-counted : (f : Frame) → length (counted f) ≡ f.counters
length-counted f = length-map-range_with_len (pair_at f) 0 f.counters

pub counted_is : (f : Frame) (k : ℕ) → k < f.counters → get_or (counted f) k (0, 0) ≡ pair_at f k
counted_is f k lt = get_or-map-range_with_len (pair_at f) 0 f.counters k k (0, 0) lt (omega arith)

-- a counter of a kind at an address, and why no other is one
pub record IsCounter (f : Frame) (kind a p : ℕ) : Type 0 where
  pub number : ℕ
  pub below : number < f.counters
  pub is : IsThat kind a (pair_at f number)
  pub place : p ≡ counter_place f number

pub is_counter : (f : Frame) (kind a p : ℕ) → kind_of f kind a ≡ Some p → IsCounter f kind a p
is_counter f kind a p e =
    let w = where_in f.first_counter (counted f) kind a p e in
    let below : w.number < f.counters = omega (arith, w.below, length-counted f) in
    record { number = w.number; below = below; is = subst (λ q. IsThat kind a q) (counted_is f w.number below) w.is; place = w.place }

pub no_counter : (f : Frame) (kind a k : ℕ) → kind_of f kind a ≡ None → k < f.counters → IsThat kind a (pair_at f k) → ⊥
no_counter f kind a k e lt is =
    nowhere_in f.first_counter (counted f) kind a k e (omega (arith, lt, length-counted f)) (subst (λ q. IsThat kind a q) (sym (counted_is f k lt)) is)

pub rises : (f : Frame) → AscendPairs (counted f) → (i j : ℕ) → i < j → j < f.counters → IsBefore (pair_at f i) (pair_at f j)
rises f up i j l lt =
    let before = up i j l (omega (arith, lt, length-counted f)) in
    subst (λ q. IsBefore q (pair_at f j)) (counted_is f i (omega (arith, l, lt))) (subst (λ q. IsBefore (get_or (counted f) i (0, 0)) q) (counted_is f j lt) before)

-- a pair is not before itself
never_before : (p q : ℕ × ℕ) → IsBefore p q → p.0 ≡ q.0 → p.1 ≡ q.1 → ⊥
never_before p q (inl h) at kind = omega (arith, h, at)
never_before p q (inr h) at kind = omega (arith, h.1, kind)

-- no two counters have one address and kind
pub apart : (f : Frame) → AscendPairs (counted f) → (i j : ℕ) → i < f.counters → j < f.counters → counted_at f i ≡ counted_at f j → kind_at f i ≡ kind_at f j → i ≡ j
apart f up i j li lj at kind = go (cases_lt i j) (cases_lt j i)
  where
    go : (i < j) ⊎ (j ≤ i) → (j < i) ⊎ (i ≤ j) → i ≡ j
    go (inl h) q = absurd (never_before (pair_at f i) (pair_at f j) (rises f up i j h lj) at kind)
    go (inr h) (inl q) = absurd (never_before (pair_at f j) (pair_at f i) (rises f up j i q li) (sym at) (sym kind))
    go (inr h) (inr q) = omega (arith, h, q)

-- ---- a search

-- the counters before a place have lower addresses, and those from another on have not
pub record IsSearched (f : Frame) (a low high : ℕ) : Type 0 where
  pub below : (k : ℕ) → k < low → counted_at f k < a
  pub above : (k : ℕ) → high ≤ k → k < f.counters → a ≤ counted_at f k
  pub within : high ≤ f.counters

pub starts : (f : Frame) (a : ℕ) → IsSearched f a 0 f.counters
starts f a = record { below = λ k l. absurd (omega arith); above = λ k l lt. absurd (omega arith); within = omega arith }

-- addresses never fall
never_falls : (p q : ℕ × ℕ) → IsBefore p q → p.0 ≤ q.0
never_falls p q (inl h) = omega (arith, h)
never_falls p q (inr h) = omega (arith, h.0)

falls_not : (f : Frame) → AscendPairs (counted f) → (i j : ℕ) → i ≤ j → j < f.counters → counted_at f i ≤ counted_at f j
falls_not f up i j l lt = go (eq-or-lt_of_le l)
  where
    go : (i ≡ j) ⊎ (i < j) → counted_at f i ≤ counted_at f j
    go (inl e) = let same = ap (counted_at f) e in omega (arith, same)
    go (inr more) = never_falls (pair_at f i) (pair_at f j) (rises f up i j more lt)

-- a counter between them is one or the other
pub later : (f : Frame) (a low high m : ℕ) → AscendPairs (counted f) → IsSearched f a low high → m < high → counted_at f m < a → IsSearched f a (m + 1) high
later f a low high m up h lt is = record { below = λ k l. omega (arith, falls_not f up k m (omega (arith, l)) (omega (arith, lt, h.within)), is); above = h.above; within = h.within }

pub sooner : (f : Frame) (a low high m : ℕ) → AscendPairs (counted f) → IsSearched f a low high → m < high → a ≤ counted_at f m → IsSearched f a low m
sooner f a low high m up h lt is = record { below = h.below; above = λ k l small. omega (arith, falls_not f up m k l small, is); within = omega (arith, lt, h.within) }

-- ---- kind after kind

-- so many pairs stand before an address and a kind, and the others don't
pub record IsFrom (f : Frame) (a kind n : ℕ) : Type 0 where
  pub before : (k : ℕ) → k < n → IsBefore (pair_at f k) (a, kind)
  pub behind : (k : ℕ) → n ≤ k → k < f.counters → IsBefore (pair_at f k) (a, kind) → ⊥
  pub within : n ≤ f.counters

-- where the places of a search have met, so many stand before the first kind
pub met : (f : Frame) (a low high : ℕ) → IsSearched f a low high → high ≤ low → IsFrom f a 0 high
met f a low high h end = record { before = λ k l. inl (h.below k (omega (arith, l, end))); behind = λ k l lt. never k (h.above k l lt); within = h.within }
  where
    never : (k : ℕ) → a ≤ counted_at f k → IsBefore (pair_at f k) (a, 0) → ⊥
    never k le (inl l) = omega (arith, le, l)
    never k le (inr e) = omega (arith, e.1)

-- the pair there, if it is that of the address and kind, has its counter
pub found_from : (f : Frame) (a kind n : ℕ) → IsFrom f a kind n → n < f.counters → IsThat kind a (pair_at f n) → kind_of f kind a ≡ Some (counter_place f n)
found_from f a kind n h lt is =
    found_in f.first_counter (counted f) kind a n (omega (arith, lt, length-counted f)) (subst (IsThat kind a) (sym (counted_is f n lt)) is)
    (λ j l other.
    let there = subst (IsThat kind a) (counted_is f j (omega (arith, l, lt))) other in
    never_before (pair_at f j) (a, kind) (h.before j l) there.0 there.1)

-- what is behind a place and has the address and kind is the pair there
that_there : (f : Frame) (a kind n k : ℕ) → AscendPairs (counted f) → IsFrom f a kind n → n ≤ k → k < f.counters → IsThat kind a (pair_at f k) → k ≡ n
that_there f a kind n k up h l lt is = go (eq-or-lt_of_le l)
  where
    go : (n ≡ k) ⊎ (n < k) → k ≡ n
    go (inl e) = sym e
    go (inr more) = absurd (h.behind n (omega arith) (omega (arith, more, lt)) (moved (rises f up n k more lt)))
      where
        moved : IsBefore (pair_at f n) (pair_at f k) → IsBefore (pair_at f n) (a, kind)
        moved (inl b) = inl (omega (arith, b, is.0))
        moved (inr b) = inr (b.0 ∙ is.0, omega (arith, b.1, is.1))

pub missed_from : (f : Frame) (a kind n : ℕ) → AscendPairs (counted f) → IsFrom f a kind n → (n < f.counters → IsThat kind a (pair_at f n) → ⊥) → kind_of f kind a ≡ None
missed_from f a kind n up h none =
    absent_in f.first_counter (counted f) kind a (λ j l is. let lt : j < f.counters = omega (arith, l, length-counted f) in never j lt (subst (IsThat kind a) (counted_is f j lt) is))
  where
    never : (k : ℕ) → k < f.counters → IsThat kind a (pair_at f k) → ⊥
    never k lt is = elim (cases_lt k n) [
      | inl l ↦ never_before (pair_at f k) (a, kind) (h.before k l) is.0 is.1
      | inr l ↦
          let same = that_there f a kind n k up h l lt is in
          none (omega (arith, same, lt)) (subst (λ m. IsThat kind a (pair_at f m)) same is)
    ]

-- so many stand before the next kind
later_kind : (q : ℕ × ℕ) (a kind : ℕ) → IsBefore q (a, kind) → IsBefore q (a, kind + 1)
later_kind q a kind (inl l) = inl l
later_kind q a kind (inr e) = inr (e.0, omega (arith, e.1))

pub next_found : (f : Frame) (a kind n : ℕ) → AscendPairs (counted f) → IsFrom f a kind n → n < f.counters → IsThat kind a (pair_at f n) → IsFrom f a (kind + 1) (n + 1)
next_found f a kind n up h lt is = record {
  before = λ k l. let low : k ≤ n = omega (arith, l) in elim (eq-or-lt_of_le low) [
    | inl e ↦ subst (λ m. IsBefore (pair_at f m) (a, kind + 1)) (sym e) (inr (is.0, omega (arith, is.1)))
    | inr more ↦ later_kind (pair_at f k) a kind (h.before k more)
  ];
  behind = λ k l small. never k (rises f up n k (omega (arith, l)) small);
  within = omega (arith, lt);
}
  where
    never : (k : ℕ) → IsBefore (pair_at f n) (pair_at f k) → IsBefore (pair_at f k) (a, kind + 1) → ⊥
    never k (inl b) (inl c) = omega (arith, b, c, is.0)
    never k (inl b) (inr c) = omega (arith, b, c.0, is.0)
    never k (inr b) (inl c) = omega (arith, b.0, c, is.0)
    never k (inr b) (inr c) = omega (arith, b.1, c.1, is.1)

pub next_missed : (f : Frame) (a kind n : ℕ) → AscendPairs (counted f) → IsFrom f a kind n → (n < f.counters → IsThat kind a (pair_at f n) → ⊥) → IsFrom f a (kind + 1) n
next_missed f a kind n up h none = record {
  before = λ k l. later_kind (pair_at f k) a kind (h.before k l);
  behind = λ k l small. never k l small;
  within = h.within;
}
  where
    -- before the next kind, and not before this one, is this one
    this_kind : (q : ℕ × ℕ) → (IsBefore q (a, kind) → ⊥) → IsBefore q (a, kind + 1) → IsThat kind a q
    this_kind q not_before (inl l) = absurd (not_before (inl l))
    this_kind q not_before (inr e) = (e.0, elim (cases_lt q.1 kind) [ inl l ↦ absurd (not_before (inr (e.0, l))) | inr l ↦ omega (arith, l, e.1) ])

    never : (k : ℕ) → n ≤ k → k < f.counters → IsBefore (pair_at f k) (a, kind + 1) → ⊥
    never k l small next =
        let is = this_kind (pair_at f k) (h.behind k l small) next in
        let same = that_there f a kind n k up h l small is in
        none (omega (arith, same, small)) (subst (λ m. IsThat kind a (pair_at f m)) same is)
