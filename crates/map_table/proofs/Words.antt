-- The word for an address of a run, in a table that is built.
use Rattle.std.proofs.Common.{◌≡◌, ℕ, zero, suc, ◌+◌, ◌-◌, ◌*◌, ◌/◌, ◌%◌, ◌<◌, ◌≤◌, Bool, true, false, cond, eqb, List, [], ◌∷◌, length, drop, get_or, map, Option, Some, None, refl, sym, ap, ◌∙◌, subst, arith}
use Rattle.std.specs.List.{AllByRecursion}
use Rattle.std.proofs.lemmas.List.{drop_more, drop_all}
use Rattle.std.proofs.lemmas.Bool.{and_parts, leb-true, ltb-true}
use Rattle.mv_base.specs.Bytes.{word_at}
use Rattle.mv_base.specs.Memory.{within}
use Rattle.mv_base.specs.Table.{run_of, group_count, page_at, paged_word}
use Rattle.mv_base.specs.declared.range.RunPlace.{RunPlace}
use Rattle.elf32_read.specs.declared.run.Run.{Run}
use Rattle.map_table.specs.Pairs.{second_of, or_zero, entry_in, IsPair}
use Rattle.map_table.specs.Paged.{Made, IsPaged, places_from, places}
use Rattle.map_table.specs.Built.{IsBuilt}
use Rattle.map_table.specs.laws.Reading.{laws}

length-places : (dir : ℕ) (rs : List Run) → length (places_from dir rs) ≡ length rs
unfolding places_from
length-places dir [] = refl
length-places dir (r ∷ rs) = ap suc (length-places (dir + 4 * group_count (length r.bytes)) rs)

-- the place of the k-th run
place_at : (rs : List Run) (dir k : ℕ) (r : Run) (d : RunPlace) → k < length rs → r ≡ get_or rs k r
    → get_or (places_from dir rs) k d ≡ record { lo = r.lo; len = length r.bytes; dir = get_or (map (λ q. q.dir) (places_from dir rs)) k 0 }
unfolding places_from
place_at [] dir k r d lt e = absurd (omega arith)
place_at (q ∷ rs) dir zero r d lt e = ap (λ (x : Run). record { lo = x.lo; len = length x.bytes; dir = dir }) (sym e)
place_at (q ∷ rs) dir (suc k) r d lt e = place_at rs (dir + 4 * group_count (length q.bytes)) k r d (omega arith) e

-- the places from the k-th on
places_here : (rs : List Run) (first k : ℕ) (r : Run) (dirs : List ℕ) (at : ℕ) → k < length rs → r ≡ get_or rs k r → dirs ≡ map (λ q. q.dir) (places_from first rs) → at ≡ get_or dirs k 0
    → drop k (places_from first rs) ≡ record { lo = r.lo; len = length r.bytes; dir = at } ∷ drop (k + 1) (places_from first rs)
places_here rs first k r dirs at lt e dirs_are at_is =
    let q : RunPlace = record { lo = r.lo; len = length r.bytes; dir = at } in
    let there : at ≡ get_or (map (λ p. p.dir) (places_from first rs)) k 0 = at_is ∙ ap (λ (l : List ℕ). get_or l k 0) dirs_are in
    drop_more (places_from first rs) k q (omega (arith, lt, length-places first rs))
    ∙ ap (λ (p : RunPlace). p ∷ drop (k + 1) (places_from first rs)) (place_at rs first k r q lt e ∙ (λ i. record { lo = r.lo; len = length r.bytes; dir = sym there i }))

all_from : {X : Type 0} (P : X → Type 0) (xs : List X) (k : ℕ) → AllByRecursion P xs → AllByRecursion P (drop k xs)
all_from P [] zero h = h
all_from P [] (suc k) h = h
all_from P (x ∷ xs) zero h = h
all_from P (x ∷ xs) (suc k) h = all_from P xs k h.1

-- what is read of an address so far behind the first of a run with this directory
pub record Reads (t : Made) (x : List ℕ) (a at off : ℕ) : Type 0 where
  pub low : t.lo ≤ at
  pub high : at + 4 * (off / 1024) + 4 ≤ t.lo + length x
  pub page_low : t.lo ≤ page_at x t.lo at off
  pub page_high : page_at x t.lo at off + 4096 ≤ t.lo + length x
  pub entry : word_at x (page_at x t.lo at off - t.lo + 4 * (off % 1024)) ≡ entry_in t.pairs a

module _ (t : Made) (dirs x : List ℕ) (a : ℕ) (built : IsBuilt t dirs x) where
  abbrev all : List RunPlace
  all = places t.runs t.lo

  reads_at : (q : RunPlace) → IsPaged x t.lo q → run_of (places t.runs t.lo) a ≡ Some q → within q.lo q.len a ≡ true → Reads t x a q.dir (a - q.lo)
  reads_at q paged found w =
      let s = and_parts _ _ w in
      let from : q.lo ≤ a = leb-true _ _ s.0 in
      let below : a < q.lo + q.len = ltb-true _ _ s.1 in
      let lt : (a - q.lo) / 1024 < group_count q.len = omega (arith, from, below) in
      record {
        low = paged.low;
        high = omega (arith, paged.high, lt);
        page_low = paged.page_low ((a - q.lo) / 1024) lt;
        page_high = paged.page_high ((a - q.lo) / 1024) lt;
        entry = ap (paged_word x t.lo a) (sym found) ∙ (laws t t dirs x x built refl refl).reads_are a;
      }

  module _ (k : ℕ) (r : Run) (lt : k < length t.runs) (is : r ≡ get_or t.runs k r) (same : run_of (places t.runs t.lo) a ≡ run_of (drop k (places t.runs t.lo)) a) where
    -- the run has the address
    pub reads_here : (at : ℕ) → at ≡ get_or dirs k 0 → within r.lo (length r.bytes) a ≡ true → Reads t x a at (a - r.lo)
    reads_here at at_is w =
        let q : RunPlace = record { lo = r.lo; len = length r.bytes; dir = at } in
        let rest = drop (k + 1) (places t.runs t.lo) in
        let here = places_here t.runs (t.lo + 4096) k r dirs at lt is built.dirs_are at_is in
        let paged = subst (AllByRecursion (IsPaged x t.lo)) here (all_from (IsPaged x t.lo) (places t.runs t.lo) k (laws t t dirs x x built refl refl).inside_are) in
        reads_at q paged.0 (same ∙ (ap (λ (qs : List RunPlace). run_of qs a) here ∙ ap (λ (b : Bool). cond b (Some q) (run_of rest a)) w)) w

    -- the run doesn't have it
    pub later : within r.lo (length r.bytes) a ≡ false → run_of (places t.runs t.lo) a ≡ run_of (drop (k + 1) (places t.runs t.lo)) a
    later w =
        let at : ℕ = get_or dirs k 0 in
        let q : RunPlace = record { lo = r.lo; len = length r.bytes; dir = at } in
        let rest = drop (k + 1) (places t.runs t.lo) in
        let here = places_here t.runs (t.lo + 4096) k r dirs at lt is built.dirs_are refl in
        same ∙ (ap (λ (qs : List RunPlace). run_of qs a) here ∙ ap (λ (b : Bool). cond b (Some q) (run_of rest a)) w)

  -- no run has it
  pub nowhere : (k : ℕ) → length t.runs ≤ k → run_of (places t.runs t.lo) a ≡ run_of (drop k (places t.runs t.lo)) a → 0 ≡ entry_in t.pairs a
  nowhere k le same =
      let none : run_of (places t.runs t.lo) a ≡ None = same ∙ ap (λ (qs : List RunPlace). run_of qs a) (drop_all k (places t.runs t.lo) (omega (arith, le, length-places (t.lo + 4096) t.runs))) in
      ap (paged_word x t.lo a) (sym none) ∙ (laws t t dirs x x built refl refl).reads_are a

pub has_dirs : (t : Made) (dirs x : List ℕ) → IsBuilt t dirs x → length dirs ≡ length t.runs
has_dirs t dirs x built = ap length built.dirs_are ∙ (length-dirs (places t.runs t.lo) ∙ length-places (t.lo + 4096) t.runs)
  where
    length-dirs : (qs : List RunPlace) → length (map (λ q. q.dir) qs) ≡ length qs
    length-dirs [] = refl
    length-dirs (q ∷ qs) = ap suc (length-dirs qs)

-- ---- an entry that is 0

some_second : (rs : List Run) (ps : List (ℕ × ℕ)) (a : ℕ) → AllByRecursion (IsPair rs) ps → entry_in ps a ≡ 0 → second_of ps a ≡ None
unfolding second_of
some_second rs [] a each e = refl
some_second rs (p ∷ ps) a each e = by_first (eqb p.0 a) each.0 e (some_second rs ps a each.1)
  where
    by_first : (b : Bool) → IsPair rs p → or_zero (cond b (Some p.1) (second_of ps a)) ≡ 0 → (entry_in ps a ≡ 0 → second_of ps a ≡ None) → cond b (Some p.1) (second_of ps a) ≡ None
    by_first true is e rest = absurd (omega (arith, is.some, e))
    by_first false is e rest = rest e

pub no_entry : (t : Made) (dirs x : List ℕ) (a n : ℕ) → IsBuilt t dirs x → n ≡ entry_in t.pairs a → n ≡ 0 → None ≡ second_of t.pairs a
no_entry t dirs x a n built is zero_is = sym (some_second t.runs t.pairs a built.made.pairs (sym is ∙ zero_is))

second_by : (o : Option ℕ) (n : ℕ) → n ≡ or_zero o → 0 < n → Some n ≡ o
second_by None n e some = absurd (omega (arith, e, some))
second_by (Some m) n e some = ap (λ (k : ℕ). Some k) e

pub has_entry : (ps : List (ℕ × ℕ)) (a n : ℕ) → n ≡ entry_in ps a → 0 < n → Some n ≡ second_of ps a
has_entry ps a n is some = second_by (second_of ps a) n is some
