-- Where a list first differs from what is wanted.
use Rattle.std.proofs.Common.{◌≡◌, ℕ, zero, suc, ◌+◌, ◌<◌, ◌≤◌, ◌⊎◌, inl, inr, Bool, true, false, List, [], ◌∷◌, ◌++◌, length, drop, get_or, refl, sym, ap, ◌∙◌, arith, ◌==◌, if◌then◌else◌}
use Rattle.std.specs.Prelude.{slice_index, Option, Some, None, is_none}
use Rattle.std.specs.Option.{option_or}
use Rattle.std.proofs.Math.Seq.{drop-cons}
use Rattle.std.proofs.lemmas.Bool.{eqb-true, eq-eqb, ne_eqb, cases_lt}
use Rattle.std.proofs.lemmas.List.{drop_all, get_or_past, get_or_default}
use Rattle.std.proofs.lemmas.Option.{same_Some}
use Rattle.simulation_laws.specs.declared.front.Difference.{Difference}
use Rattle.simulation_laws.specs.Front.{difference, begins}

abbrev at_place : ℕ → ℕ → ℕ → Difference
at_place place kept found = record { place = place; kept = kept; found = found }

-- ---- byte by byte

go_on : (k b c : ℕ) (bs cs : List ℕ) → b ≡ c → difference k (b ∷ bs) (c ∷ cs) ≡ difference (k + 1) bs cs
go_on k b c bs cs same = ap (λ v. if v then difference (k + 1) bs cs else Some (at_place k b c)) (eq-eqb b c same)

stop_here : (k b c : ℕ) (bs cs : List ℕ) → (b ≡ c → ⊥) → difference k (b ∷ bs) (c ∷ cs) ≡ Some (at_place k b c)
stop_here k b c bs cs never = ap (λ v. if v then difference (k + 1) bs cs else Some (at_place k b c)) (ne_eqb b c never)

cut : (xs : List ℕ) (i : ℕ) → i < length xs → drop i xs ≡ get_or xs i 0 ∷ drop (i + 1) xs
cut xs i lt = drop-cons xs i 0 lt ∙ ap (λ n. get_or xs i 0 ∷ drop n xs) (let e : suc i ≡ i + 1 = omega arith in e)

-- where the bytes are alike at an index, it is looked for behind that
pub next : (k i : ℕ) (part x : List ℕ) → i < length part → get_or part i 0 < 256 → get_or part i 0 ≡ get_or x i 256 → difference k (drop i part) (drop i x) ≡ difference (k + 1) (drop (i + 1) part) (drop (i + 1) x)
next k i part x lt byte same = go (cases_lt i (length x))
  where
    go : (i < length x) ⊎ (length x ≤ i) → difference k (drop i part) (drop i x) ≡ difference (k + 1) (drop (i + 1) part) (drop (i + 1) x)
    go (inl l) =
        rw (cut part i lt) (rw (cut x i l) (go_on k (get_or part i 0) (get_or x i 0) (drop (i + 1) part) (drop (i + 1) x) (same ∙ get_or_default x i 256 0 l)))
    go (inr l) = absurd (omega (arith, byte, same, get_or_past x i 256 l))

-- where they differ, there it is
pub stops : (k i : ℕ) (part x : List ℕ) (kept found : ℕ) → i < length part → kept ≡ get_or part i 0 → found ≡ get_or x i 256 → (kept ≡ found → ⊥) → difference k (drop i part) (drop i x) ≡ Some (at_place k kept found)
stops k i part x kept found lt wanted there never = go (cases_lt i (length x))
  where
    go : (i < length x) ⊎ (length x ≤ i) → difference k (drop i part) (drop i x) ≡ Some (at_place k kept found)
    go (inl l) =
        let read : found ≡ get_or x i 0 = there ∙ get_or_default x i 256 0 l in
        rw wanted (rw read (rw (cut part i lt) (rw (cut x i l) (stop_here k (get_or part i 0) (get_or x i 0) (drop (i + 1) part) (drop (i + 1) x) (λ e. never (wanted ∙ (e ∙ sym read)))))))
    go (inr l) =
        let past : found ≡ 256 = there ∙ get_or_past x i 256 l in
        rw wanted (rw past (rw (cut part i lt) (rw (drop_all i x l) refl)))

-- and where the part ends there is none
pub ended : (k i : ℕ) (part x : List ℕ) → length part ≤ i → difference k (drop i part) x ≡ None
ended k i part x le = ap (λ t. difference k t x) (drop_all i part le)

-- ---- what it says of the bytes

pub none_fits : (k : ℕ) (part x : List ℕ) → difference k part x ≡ None → length part ≤ length x
none_fits k [] x h = omega arith
none_fits k (b ∷ bs) [] h = absurd (cc h)
none_fits k (b ∷ bs) (c ∷ cs) h = go (b == c) h (none_fits (k + 1) bs cs)
  where
    go : (v : Bool) → (if v then difference (k + 1) bs cs else Some (at_place k b c)) ≡ None → (difference (k + 1) bs cs ≡ None → length bs ≤ length cs) → length (b ∷ bs) ≤ length (c ∷ cs)
    go true g rest = omega (arith, rest g)
    go false g rest = absurd (cc g)

pub none_same : (k : ℕ) (part x : List ℕ) (j : ℕ) → difference k part x ≡ None → j < length part → slice_index x j ≡ slice_index part j
none_same k [] x j h lt = absurd (omega arith)
none_same k (b ∷ bs) [] j h lt = absurd (cc h)
none_same k (b ∷ bs) (c ∷ cs) j h lt = go (b == c) refl h (none_same (k + 1) bs cs) j lt
  where
    go : (v : Bool) → (b == c) ≡ v → (if v then difference (k + 1) bs cs else Some (at_place k b c)) ≡ None → ((i : ℕ) → difference (k + 1) bs cs ≡ None → i < length bs → slice_index cs i ≡ slice_index bs i) → (i : ℕ) → i < length (b ∷ bs) → slice_index (c ∷ cs) i ≡ slice_index (b ∷ bs) i
    go true e g rest zero l = sym (eqb-true b c e)
    go true e g rest (suc i) l = rest i g (omega (arith, l))
    go false e g rest i l = absurd (cc g)

pub same_none : (k : ℕ) (part x : List ℕ) → length part ≤ length x → ((j : ℕ) → j < length part → slice_index x j ≡ slice_index part j) → difference k part x ≡ None
same_none k [] x fits same = refl
same_none k (b ∷ bs) [] fits same = absurd (omega arith)
same_none k (b ∷ bs) (c ∷ cs) fits same =
    go_on k b c bs cs (sym (same 0 (omega arith))) ∙ same_none (k + 1) bs cs (omega arith) (λ j lt. same (suc j) (omega (arith, lt)))

-- the place of one is at most behind the bytes
pub place_most : (k : ℕ) (part x : List ℕ) (d : Difference) → difference k part x ≡ Some d → d.place ≤ k + length x
place_most k [] x d h = absurd (cc h)
place_most k (b ∷ bs) [] d h = let e = same_Some (at_place k b 256) d h in omega (arith, ap (λ (v : Difference). v.place) e)
place_most k (b ∷ bs) (c ∷ cs) d h = go (b == c) h (place_most (k + 1) bs cs d)
  where
    go : (v : Bool) → (if v then difference (k + 1) bs cs else Some (at_place k b c)) ≡ Some d → (difference (k + 1) bs cs ≡ Some d → d.place ≤ k + 1 + length cs) → d.place ≤ k + length (c ∷ cs)
    go true g rest = omega (arith, rest g)
    go false g rest = let e = same_Some (at_place k b c) d g in omega (arith, ap (λ (v : Difference). v.place) e)

-- ---- part by part

-- that of one part behind another is that of the first, else that of the second behind the first
pub of_append : (k : ℕ) (xs ys z : List ℕ) → difference k (xs ++ ys) z ≡ option_or (difference k xs z) (difference (k + length xs) ys (drop (length xs) z))
of_append k [] ys z = ap (λ n. difference n ys z) (let e : k ≡ k + 0 = omega arith in e)
of_append k (x ∷ xs) ys [] = refl
of_append k (x ∷ xs) ys (z ∷ zs) = go (x == z) (of_append (k + 1) xs ys zs)
  where
    go : (v : Bool) → difference (k + 1) (xs ++ ys) zs ≡ option_or (difference (k + 1) xs zs) (difference (k + 1 + length xs) ys (drop (length xs) zs)) → (if v then difference (k + 1) (xs ++ ys) zs else Some (at_place k x z)) ≡ option_or (if v then difference (k + 1) xs zs else Some (at_place k x z)) (difference (k + length (x ∷ xs)) ys (drop (length (x ∷ xs)) (z ∷ zs)))
    go true rest = rest ∙ ap (λ n. option_or (difference (k + 1) xs zs) (difference n ys (drop (length xs) zs))) (let same : k + 1 + length xs ≡ k + length (x ∷ xs) = omega arith in same)
    go false rest = refl

pub append_some : (k : ℕ) (xs ys z : List ℕ) (d : Difference) → difference k xs z ≡ Some d → difference k (xs ++ ys) z ≡ Some d
append_some k xs ys z d h = of_append k xs ys z ∙ ap (λ o. option_or o (difference (k + length xs) ys (drop (length xs) z))) h

pub append_none : (k : ℕ) (xs ys z : List ℕ) → difference k xs z ≡ None → difference k (xs ++ ys) z ≡ difference (k + length xs) ys (drop (length xs) z)
append_none k xs ys z h = of_append k xs ys z ∙ ap (λ o. option_or o (difference (k + length xs) ys (drop (length xs) z))) h

-- ---- a list begins with another

pub none_by : (o : Option Difference) → is_none o ≡ true → o ≡ None
none_by None h = refl
none_by (Some d) h = absurd (cc h)

pub begins_none : (part x : List ℕ) → begins part x ≡ true → difference 0 part x ≡ None
begins_none part x h = none_by (difference 0 part x) h

pub begins_by : (part x : List ℕ) → length part ≤ length x → ((k : ℕ) → k < length part → slice_index x k ≡ slice_index part k) → begins part x ≡ true
begins_by part x fits same = ap is_none (same_none 0 part x fits same)

pub begins_fits : (part x : List ℕ) → begins part x ≡ true → length part ≤ length x
begins_fits part x h = none_fits 0 part x (begins_none part x h)

pub begins_same : (part x : List ℕ) (k : ℕ) → begins part x ≡ true → k < length part → slice_index x k ≡ slice_index part k
begins_same part x k h lt = none_same 0 part x k (begins_none part x h) lt
