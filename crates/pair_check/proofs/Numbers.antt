-- The numbers of runs, run by run.
use Rattle.std.proofs.Common.{◌≡◌, ℕ, ◌+◌, ◌*◌, ◌<◌, Bool, true, false, ◌==◌, [], ◌∷◌, List, length, drop, get_or, Some, None, if◌then◌else◌, refl, sym, ap, ◌∙◌, arith}
use Rattle.std.specs.List.{flat_map}
use Rattle.std.proofs.lemmas.Bool.{eq-eqb}
use Rattle.std.proofs.lemmas.List.{drop_more}
use Rattle.mv_base.specs.declared.range.RunPlace.{RunPlace}
use Rattle.elf32_read.specs.declared.run.Run.{Run}
use Rattle.simulation_laws.specs.Front.{difference}
use Rattle.pair_check.specs.declared.differs.Differs.{Differs}
use Rattle.pair_check.specs.declared.differs.Part.TheVariants.{Runs}
use Rattle.pair_check.specs.Parts.{differs_at, placed_at, run_differs}

abbrev pub run_words : List Run → List ℕ
run_words rs = flat_map (λ r. r.lo ∷ length r.bytes ∷ []) rs

abbrev pub place_words : List RunPlace → List ℕ
place_words rs = flat_map (λ r. r.lo ∷ r.len ∷ []) rs

-- one run: it differs, or the next is looked at
run_same : (at : ℕ) (r : Run) (p : RunPlace) (rs : List Run) (ps : List RunPlace) → run_differs at r p ≡ None → difference at (run_words (r ∷ rs)) (place_words (p ∷ ps)) ≡ difference (at + 1 + 1) (run_words rs) (place_words ps)
run_same at r p rs ps h = go (r.lo == p.lo) (length r.bytes == p.len) h
  where
    go : (v w : Bool) → (if v then (if w then None else differs_at Runs (at + 1) (length r.bytes) p.len) else differs_at Runs at r.lo p.lo) ≡ None
        → (if v then (if w then difference (at + 1 + 1) (run_words rs) (place_words ps) else Some (record { place = at + 1; kept = length r.bytes; found = p.len })) else Some (record { place = at; kept = r.lo; found = p.lo })) ≡ difference (at + 1 + 1) (run_words rs) (place_words ps)
    go true true h = refl
    go true false h = absurd (cc h)
    go false w h = absurd (cc h)

run_other : (at : ℕ) (r : Run) (p : RunPlace) (rs : List Run) (ps : List RunPlace) (d : Differs) → run_differs at r p ≡ Some d → placed_at Runs (difference at (run_words (r ∷ rs)) (place_words (p ∷ ps))) ≡ Some d
run_other at r p rs ps d h = go (r.lo == p.lo) (length r.bytes == p.len) h
  where
    go : (v w : Bool) → (if v then (if w then None else differs_at Runs (at + 1) (length r.bytes) p.len) else differs_at Runs at r.lo p.lo) ≡ Some d
        → placed_at Runs (if v then (if w then difference (at + 1 + 1) (run_words rs) (place_words ps) else Some (record { place = at + 1; kept = length r.bytes; found = p.len })) else Some (record { place = at; kept = r.lo; found = p.lo })) ≡ Some d
    go true true h = absurd (cc h)
    go true false h = h
    go false w h = h

-- at an index
pub run_next : (at i : ℕ) (rs : List Run) (ps : List RunPlace) (r : Run) (p : RunPlace) → at ≡ 1 + 2 * i → i < length rs → i < length ps → r ≡ get_or rs i r → p ≡ get_or ps i p → run_differs at r p ≡ None
    → difference (1 + 2 * i) (run_words (drop i rs)) (place_words (drop i ps)) ≡ difference (1 + 2 * (i + 1)) (run_words (drop (i + 1) rs)) (place_words (drop (i + 1) ps))
run_next at i rs ps r p e l m run place h =
    let cut : drop i rs ≡ r ∷ drop (i + 1) rs = drop_more rs i r l ∙ ap (λ (q : Run). q ∷ drop (i + 1) rs) (sym run) in
    let cut2 : drop i ps ≡ p ∷ drop (i + 1) ps = drop_more ps i p m ∙ ap (λ (q : RunPlace). q ∷ drop (i + 1) ps) (sym place) in
    (λ j. difference (sym e j) (run_words (cut j)) (place_words (cut2 j)))
    ∙ (run_same at r p (drop (i + 1) rs) (drop (i + 1) ps) h
    ∙ ap (λ n. difference n (run_words (drop (i + 1) rs)) (place_words (drop (i + 1) ps))) (let f : at + 1 + 1 ≡ 1 + 2 * (i + 1) = omega (arith, e) in f))

pub run_found : (at i : ℕ) (rs : List Run) (ps : List RunPlace) (r : Run) (p : RunPlace) (d : Differs) → at ≡ 1 + 2 * i → i < length rs → i < length ps → r ≡ get_or rs i r → p ≡ get_or ps i p → run_differs at r p ≡ Some d
    → placed_at Runs (difference (1 + 2 * i) (run_words (drop i rs)) (place_words (drop i ps))) ≡ Some d
run_found at i rs ps r p d e l m run place h =
    let cut : drop i rs ≡ r ∷ drop (i + 1) rs = drop_more rs i r l ∙ ap (λ (q : Run). q ∷ drop (i + 1) rs) (sym run) in
    let cut2 : drop i ps ≡ p ∷ drop (i + 1) ps = drop_more ps i p m ∙ ap (λ (q : RunPlace). q ∷ drop (i + 1) ps) (sym place) in
    (λ j. placed_at Runs (difference (sym e j) (run_words (cut j)) (place_words (cut2 j)))) ∙ run_other at r p (drop (i + 1) rs) (drop (i + 1) ps) d h

-- where there are as many, they are looked at
pub run_counts : (n m : ℕ) (xs ys : List ℕ) → n ≡ m → difference 0 (n ∷ xs) (m ∷ ys) ≡ difference 1 xs ys
run_counts n m xs ys e = ap (λ v. if v then difference 1 xs ys else Some (record { place = 0; kept = n; found = m })) (eq-eqb n m e)
