-- The counters one by one: how far they ascend, and which have their other way in the list.
use Rattle.std.proofs.Common.{◌≡◌, ℕ, zero, suc, ◌+◌, ◌-◌, ◌<◌, ◌≤◌, ◌⊎◌, inl, inr, Bool, true, false, ◌==◌, ◌&&◌, ◌||◌, List, [], ◌∷◌, length, drop, get_or, Option, Some, None, if◌then◌else◌, nat_lt, refl, sym, ap, ◌∙◌, subst, arith}
use Rattle.std.specs.Prelude.{is_some, replicate, set}
use Rattle.std.proofs.lemmas.Option.{slice_get-get_or, same_Some}
use Rattle.std.proofs.lemmas.Bool.{eq-eqb, eqb-true, ltb-true, lt-ltb, ne_eqb, and_from, and_parts, cases_lt}
use Rattle.std.proofs.lemmas.List.{drop_more, drop_all, get_or-set_same, get_or-set_other, length-set}
use Rattle.elf32_write.specs.Frame.{Frame, IsBefore, counted, pair_at}
use Rattle.simulation_laws.specs.Code.{site_at}
use Rattle.simulation_laws.specs.Pieces.{counter_in}
use Rattle.simulation_laws.specs.laws.Counters.{length-counted, counted_is}
use Rattle.pair_check.specs.declared.differs.Part.TheVariants.{Counted}
use Rattle.pair_check.specs.Parts.{differs_at, is_behind, is_way, other_way, has_other, counts_site, is_counting, last_address, pairs_differ}
use Rattle.pair_check.specs.Walking.{pair_before, IsOrdered, IsPlace, is_other, AreMarked, AreMarks}

-- ---- behind

pub before_by : (p q : ℕ × ℕ) → is_behind (Some p) q ≡ true → IsBefore p q
before_by p q h = go (p.0 == q.0) refl h
  where
    go : (v : Bool) → (p.0 == q.0) ≡ v → (if v then nat_lt p.1 q.1 else nat_lt p.0 q.0) ≡ true → IsBefore p q
    go true e g = inr (eqb-true p.0 q.0 e, ltb-true p.1 q.1 g)
    go false e g = inl (ltb-true p.0 q.0 g)

pub by_before : (p q : ℕ × ℕ) → IsBefore p q → is_behind (Some p) q ≡ true
by_before p q (inl l) = ap (λ v. if v then nat_lt p.1 q.1 else nat_lt p.0 q.0) (ne_eqb p.0 q.0 (λ e. omega (arith, e, l))) ∙ lt-ltb p.0 q.0 l
by_before p q (inr l) = ap (λ v. if v then nat_lt p.1 q.1 else nat_lt p.0 q.0) (eq-eqb p.0 q.0 l.0) ∙ lt-ltb p.1 q.1 l.1

pub before_trans : (p q r : ℕ × ℕ) → IsBefore p q → IsBefore q r → IsBefore p r
before_trans p q r (inl a) (inl b) = inl (omega (arith, a, b))
before_trans p q r (inl a) (inr b) = inl (omega (arith, a, b.0))
before_trans p q r (inr a) (inl b) = inl (omega (arith, a.0, b))
before_trans p q r (inr a) (inr b) = inr (omega (arith, a.0, b.0), omega (arith, a.1, b.1))

pub never_itself : (p q : ℕ × ℕ) → IsBefore p q → p ≡ q → ⊥
never_itself p q (inl h) e = let at = ap (λ (r : ℕ × ℕ). r.0) e in omega (arith, h, at)
never_itself p q (inr h) e = let kind = ap (λ (r : ℕ × ℕ). r.1) e in omega (arith, h.1, kind)

-- ---- the pairs that ascend

next_before : (f : Frame) (n k : ℕ) → IsOrdered f n → k + 1 < n → IsBefore (pair_at f k) (pair_at f (k + 1))
next_before f n k is lt =
    before_by (pair_at f k) (pair_at f (k + 1)) (subst (λ m. is_behind (Some (pair_at f m)) (pair_at f (k + 1)) ≡ true) (let e : k + 1 - 1 ≡ k = omega arith in e) (sym (ap (λ v. is_behind (if v then None else Some (pair_at f (k + 1 - 1))) (pair_at f (k + 1))) (ne_eqb (k + 1) 0 (λ e. omega (arith, e)))) ∙ is.behind (k + 1) lt))

pub all_before : (f : Frame) (n i d : ℕ) → IsOrdered f n → i + d + 1 < n → IsBefore (pair_at f i) (pair_at f (i + d + 1))
all_before f n i zero is lt = subst (λ m. IsBefore (pair_at f i) (pair_at f m)) (let e : i + 1 ≡ i + 0 + 1 = omega arith in e) (next_before f n i is (omega (arith, lt)))
all_before f n i (suc d) is lt =
    let near = all_before f n i d is (omega (arith, lt)) in
    let next = next_before f n (i + d + 1) is (omega (arith, lt)) in
    subst (λ m. IsBefore (pair_at f i) (pair_at f m)) (let e : i + d + 1 + 1 ≡ i + suc d + 1 = omega arith in e) (before_trans (pair_at f i) (pair_at f (i + d + 1)) (pair_at f (i + d + 1 + 1)) near next)

pub rising : (f : Frame) (n i j : ℕ) → IsOrdered f n → i < j → j < n → IsBefore (pair_at f i) (pair_at f j)
rising f n i j is l lt =
    let same : i + (j - i - 1) + 1 ≡ j = omega (arith, l) in
    subst (λ m. IsBefore (pair_at f i) (pair_at f m)) same (all_before f n i (j - i - 1) is (omega (arith, lt, same)))

-- ---- a search for a pair among them

pub record IsSearched (f : Frame) (n : ℕ) (q : ℕ × ℕ) (low high : ℕ) : Type 0 where
  pub below : (k : ℕ) → k < low → IsBefore (pair_at f k) q
  pub above : (k : ℕ) → high ≤ k → k < n → IsBefore (pair_at f k) q → ⊥
  pub within : high ≤ n

pub starts : (f : Frame) (n : ℕ) (q : ℕ × ℕ) → IsSearched f n q 0 n
starts f n q = record { below = λ k l. absurd (omega arith); above = λ k l lt. absurd (omega arith); within = omega arith }

at_most : (f : Frame) (n k m : ℕ) (q : ℕ × ℕ) → IsOrdered f n → k ≤ m → m < n → IsBefore (pair_at f m) q → IsBefore (pair_at f k) q
at_most f n k m q is le lt before = go (cases_lt k m)
  where
    go : (k < m) ⊎ (m ≤ k) → IsBefore (pair_at f k) q
    go (inl l) = before_trans (pair_at f k) (pair_at f m) q (rising f n k m is l lt) before
    go (inr l) = let e : m ≡ k = omega (arith, le, l) in subst (λ i. IsBefore (pair_at f i) q) e before

pub later : (f : Frame) (n : ℕ) (q : ℕ × ℕ) (low high m : ℕ) → IsOrdered f n → IsSearched f n q low high → m < high → is_behind (Some (pair_at f m)) q ≡ true → IsSearched f n q (m + 1) high
later f n q low high m is h lt e = record {
  below = λ k l. at_most f n k m q is (omega (arith, l)) (omega (arith, lt, h.within)) (before_by (pair_at f m) q e);
  above = h.above;
  within = h.within;
}

pub sooner : (f : Frame) (n : ℕ) (q : ℕ × ℕ) (low high m : ℕ) → IsOrdered f n → IsSearched f n q low high → m < high → is_behind (Some (pair_at f m)) q ≡ false → IsSearched f n q low m
sooner f n q low high m is h lt e = record {
  below = h.below;
  above = λ k l small before. absurd (cc (sym e ∙ by_before (pair_at f m) q (at_most f n m k q is l small before)));
  within = omega (arith, lt, h.within);
}

pub met : (f : Frame) (n : ℕ) (q : ℕ × ℕ) (low high : ℕ) → IsOrdered f n → IsSearched f n q low high → high ≤ low → IsPlace f n q high
met f n q low high is h end = record { within = h.within; alone = λ k lt e. alone k lt e (cases_lt k high) (cases_lt high k) }
  where
    alone : (k : ℕ) → k < n → pair_at f k ≡ q → (k < high) ⊎ (high ≤ k) → (high < k) ⊎ (k ≤ high) → k ≡ high
    alone k lt e (inl l) o = absurd (never_itself (pair_at f k) q (h.below k (omega (arith, l, end))) e)
    alone k lt e (inr l) (inl m) = absurd (h.above high (omega arith) (omega (arith, m, lt)) (subst (IsBefore (pair_at f high)) e (rising f n high k is m lt)))
    alone k lt e (inr l) (inr m) = omega (arith, l, m)

-- ---- marks

-- where no pair of the first is this one's other way, nothing is marked
same_marks : (b : Bool) → b ≡ (b || false)
same_marks true = refl
same_marks false = refl

pub none_marked : (f : Frame) (n : ℕ) (q : ℕ × ℕ) (old : List Bool) → length old ≡ n → ((k : ℕ) → k < n → is_way (pair_at f k).1 ≡ true → is_other (pair_at f k) q ≡ false) → AreMarked f n q old old
none_marked f n q old count none = record { count = count; set = λ k lt way. same_marks (get_or old k false) ∙ ap (λ v. get_or old k false || v) (sym (none k lt way)) }

or_true : (b : Bool) → true ≡ (b || true)
or_true true = refl
or_true false = refl

-- a kind of a way is 1 or 2
pub one_way : (kind : ℕ) → is_way kind ≡ true → (kind ≡ 1) ⊎ (kind ≡ 2)
one_way kind h = go (kind == 1) (kind == 2) refl refl h
  where
    go : (v w : Bool) → (kind == 1) ≡ v → (kind == 2) ≡ w → (v || w) ≡ true → (kind ≡ 1) ⊎ (kind ≡ 2)
    go true w e d g = inl (eqb-true kind 1 e)
    go false true e d g = inr (eqb-true kind 2 d)
    go false false e d g = absurd (cc g)

way_of : (kind : ℕ) → (kind ≡ 1) ⊎ (kind ≡ 2) → is_way kind ≡ true
way_of kind (inl e) = ap is_way e
way_of kind (inr e) = ap is_way e

not_other : (p q : ℕ × ℕ) → (q.0 ≡ p.0 → q.1 ≡ other_way p.1 → ⊥) → is_other p q ≡ false
not_other p q none = go (q.0 == p.0 && q.1 == other_way p.1) refl
  where
    go : (v : Bool) → (q.0 == p.0 && q.1 == other_way p.1) ≡ v → v ≡ false
    go true e = let w = and_parts (q.0 == p.0) (q.1 == other_way p.1) e in absurd (none (eqb-true q.0 p.0 w.0) (eqb-true q.1 (other_way p.1) w.1))
    go false e = refl

-- the other way of a way is a way, and back
back : (kind : ℕ) → (kind ≡ 1) ⊎ (kind ≡ 2) → ((other_way kind ≡ 1) ⊎ (other_way kind ≡ 2)) × (other_way (other_way kind) ≡ kind)
back kind (inl e) = (inr (omega (arith, e)), omega (arith, e))
back kind (inr e) = (inl (omega (arith, e)), omega (arith, e))

pub no_way : (f : Frame) (n : ℕ) (q : ℕ × ℕ) (old : List Bool) → length old ≡ n → is_way q.1 ≡ false → AreMarked f n q old old
no_way f n q old count h = none_marked f n q old count (λ k lt way. not_other (pair_at f k) q (λ at e. never (pair_at f k).1 (one_way (pair_at f k).1 way) e))
  where
    never : (kind : ℕ) → (kind ≡ 1) ⊎ (kind ≡ 2) → q.1 ≡ other_way kind → ⊥
    never kind o e =
        let way : is_way q.1 ≡ true = ap is_way e ∙ way_of (other_way kind) (back kind o).0 in
        cc (sym h ∙ way)

-- the pair that is wanted for q
abbrev wanted : ℕ × ℕ → ℕ × ℕ
wanted q = (q.0, 3 - q.1)

is_wanted : (p q : ℕ × ℕ) → is_way p.1 ≡ true → q.0 ≡ p.0 → q.1 ≡ other_way p.1 → p ≡ wanted q
is_wanted p q way at e = let kind : p.1 ≡ 3 - q.1 = go (one_way p.1 way) in λ i. (sym at i, kind i)
  where
    go : (p.1 ≡ 1) ⊎ (p.1 ≡ 2) → p.1 ≡ 3 - q.1
    go (inl o) = omega (arith, o, e)
    go (inr o) = omega (arith, o, e)

pub not_there : (f : Frame) (n place : ℕ) (q : ℕ × ℕ) (old : List Bool) → length old ≡ n → IsPlace f n (wanted q) place → (place < n → pair_at f place ≡ wanted q → ⊥) → AreMarked f n q old old
not_there f n place q old count is none =
    none_marked f n q old count (λ k lt way. not_other (pair_at f k) q (λ at e.
    let there = is_wanted (pair_at f k) q way at e in
    let same = is.alone k lt there in
    none (omega (arith, lt, same)) (subst (λ m. pair_at f m ≡ wanted q) same there)))

pub marked : (f : Frame) (n place : ℕ) (q : ℕ × ℕ) (old : List Bool) → length old ≡ n → q.1 ≤ 2 → IsPlace f n (wanted q) place → place < n → (pair_at f place).0 ≡ q.0 → (pair_at f place).1 ≡ 3 - q.1 → AreMarked f n q old (set old place true)
marked f n place q old count high is below at kind = record {
  count = length-set old place true ∙ count;
  set = λ k lt way. go k lt way (cases_lt k place) (cases_lt place k);
}
  where
    other : (k : ℕ) → k < n → is_way (pair_at f k).1 ≡ true → (k ≡ place → ⊥) → get_or (set old place true) k false ≡ (get_or old k false || is_other (pair_at f k) q)
    other k lt way ne =
        get_or-set_other old place k true false ne
        ∙ (same_marks (get_or old k false)
        ∙ ap (λ v. get_or old k false || v) (sym (not_other (pair_at f k) q (λ a e. ne (is.alone k lt (is_wanted (pair_at f k) q way a e))))))

    go : (k : ℕ) → k < n → is_way (pair_at f k).1 ≡ true → (k < place) ⊎ (place ≤ k) → (place < k) ⊎ (k ≤ place) → get_or (set old place true) k false ≡ (get_or old k false || is_other (pair_at f k) q)
    go k lt way (inl l) o = other k lt way (λ e. omega (arith, e, l))
    go k lt way (inr l) (inl m) = other k lt way (λ e. omega (arith, e, m))
    go k lt way (inr l) (inr m) =
        let e : place ≡ k = omega (arith, l, m) in
        let here : is_other (pair_at f k) q ≡ true =
        subst (λ j. is_other (pair_at f j) q ≡ true) e (and_from (q.0 == (pair_at f place).0) (q.1 == other_way (pair_at f place).1) (eq-eqb q.0 (pair_at f place).0 (sym at)) (eq-eqb q.1 (other_way (pair_at f place).1) (omega (arith, kind, high)))) in
        subst (λ j. get_or (set old place true) j false ≡ true) e (get_or-set_same old place true false (omega (arith, below, count)))
        ∙ (or_true (get_or old k false) ∙ ap (λ v. get_or old k false || v) (sym here))

-- ---- all of the list

-- whether the pairs from one on have one of an address and a kind
abbrev has_from : Frame → ℕ → ℕ → ℕ → Bool
has_from f t kind a = is_some (counter_in 0 (drop t (counted f)) kind a)

-- the pairs before one are marked, and those from it on are still to be seen
pub record AreMarking (f : Frame) (n t : ℕ) (marks : List Bool) : Type 0 where
  pub count : length marks ≡ n
  pub set : (k : ℕ) → k < n → is_way (pair_at f k).1 ≡ true → has_other f (pair_at f k) ≡ (get_or marks k false || has_from f t (other_way (pair_at f k).1) (pair_at f k).0)

anywhere : (m n : ℕ) (qs : List (ℕ × ℕ)) (kind a : ℕ) → is_some (counter_in m qs kind a) ≡ is_some (counter_in n qs kind a)
unfolding counter_in
anywhere m n [] kind a = refl
anywhere m n (q ∷ qs) kind a = go (q.0 == a && q.1 == kind) (anywhere (m + 8) (n + 8) qs kind a)
  where
    go : (v : Bool) → is_some (counter_in (m + 8) qs kind a) ≡ is_some (counter_in (n + 8) qs kind a) → is_some (if v then Some m else counter_in (m + 8) qs kind a) ≡ is_some (if v then Some n else counter_in (n + 8) qs kind a)
    go true rest = refl
    go false rest = rest

pub marking_starts : (f : Frame) (n : ℕ) (marks : List Bool) → length marks ≡ n → ((k : ℕ) → get_or marks k false ≡ false) → AreMarking f n 0 marks
marking_starts f n marks count none = record {
  count = count;
  set = λ k lt way. anywhere f.first_counter 0 (counted f) (other_way (pair_at f k).1) (pair_at f k).0 ∙ ap (λ v. v || has_from f 0 (other_way (pair_at f k).1) (pair_at f k).0) (sym (none k));
}

seen : (f : Frame) (t kind a : ℕ) → t < f.counters → has_from f t kind a ≡ (((pair_at f t).0 == a && (pair_at f t).1 == kind) || has_from f (t + 1) kind a)
unfolding counter_in
seen f t kind a lt =
    let q = pair_at f t in
    let cut : drop t (counted f) ≡ q ∷ drop (t + 1) (counted f) = drop_more (counted f) t (0, 0) (omega (arith, lt, length-counted f)) ∙ ap (λ (p : ℕ × ℕ). p ∷ drop (t + 1) (counted f)) (counted_is f t lt) in
    ap (λ qs. is_some (counter_in 0 qs kind a)) cut ∙ go (q.0 == a && q.1 == kind)
  where
    go : (v : Bool) → is_some (if v then Some 0 else counter_in (0 + 8) (drop (t + 1) (counted f)) kind a) ≡ (v || has_from f (t + 1) kind a)
    go true = refl
    go false = anywhere (0 + 8) 0 (drop (t + 1) (counted f)) kind a

or_assoc : (u v w : Bool) → (u || (v || w)) ≡ ((u || v) || w)
or_assoc true v w = refl
or_assoc false v w = refl

pub marking_goes : (f : Frame) (n t : ℕ) (q : ℕ × ℕ) (old new : List Bool) → t < f.counters → q ≡ pair_at f t → AreMarking f n t old → AreMarked f n q old new → AreMarking f n (t + 1) new
marking_goes f n t q old new lt e is now = record {
  count = now.count;
  set = λ k l way.
      let kind = other_way (pair_at f k).1 in
      let a = (pair_at f k).0 in
      let marked_now : get_or new k false ≡ (get_or old k false || is_other (pair_at f k) (pair_at f t)) = now.set k l way ∙ ap (λ p. get_or old k false || is_other (pair_at f k) p) e in
      is.set k l way
      ∙ (ap (λ v. get_or old k false || v) (seen f t kind a lt)
      ∙ (or_assoc (get_or old k false) (is_other (pair_at f k) (pair_at f t)) (has_from f (t + 1) kind a)
      ∙ ap (λ v. v || has_from f (t + 1) kind a) (sym marked_now)));
}

pub marking_ends : (f : Frame) (n t : ℕ) (marks : List Bool) → f.counters ≤ t → AreMarking f n t marks → AreMarks f n marks
unfolding counter_in
marking_ends f n t marks le is = record {
  count = is.count;
  set = λ k lt way. sym (is.set k lt way ∙ (ap (λ qs. get_or marks k false || is_some (counter_in 0 qs (other_way (pair_at f k).1) (pair_at f k).0)) (drop_all t (counted f) (omega (arith, le, length-counted f))) ∙ end (get_or marks k false)));
}
  where
    end : (b : Bool) → (b || is_some (counter_in 0 [] zero zero)) ≡ b
    end true = refl
    end false = refl

-- ---- the first that is wrong

module _ (code : ℕ → Option ℕ) (f : Frame) where
  -- nothing is wrong in the pairs before one
  abbrev pub IsRight : ℕ → Type 0
  IsRight k = pairs_differ f code 0 None (counted f) ≡ pairs_differ f code k (pair_before f k) (drop k (counted f))

  cut_at : (k : ℕ) → k < f.counters → drop k (counted f) ≡ pair_at f k ∷ drop (k + 1) (counted f)
  cut_at k lt = drop_more (counted f) k (0, 0) (omega (arith, lt, length-counted f)) ∙ ap (λ (p : ℕ × ℕ). p ∷ drop (k + 1) (counted f)) (counted_is f k lt)

  by_test : (k : ℕ) (v : Bool) → k < f.counters → is_counting f code (pair_before f k) (pair_at f k) ≡ v
      → pairs_differ f code k (pair_before f k) (drop k (counted f)) ≡ (if v then pairs_differ f code (k + 1) (Some (pair_at f k)) (drop (k + 1) (counted f)) else differs_at Counted k (last_address (pair_before f k)) (pair_at f k).0)
  by_test k v lt h =
      ap (pairs_differ f code k (pair_before f k)) (cut_at k lt)
      ∙ ap (λ w. if w then pairs_differ f code (k + 1) (Some (pair_at f k)) (drop (k + 1) (counted f)) else differs_at Counted k (last_address (pair_before f k)) (pair_at f k).0) h

  after : (k : ℕ) → Some (pair_at f k) ≡ pair_before f (k + 1)
  after k = ap (λ m. Some (pair_at f m)) (let e : k ≡ k + 1 - 1 = omega arith in e) ∙ sym (ap (λ v. if v then None else Some (pair_at f (k + 1 - 1))) (ne_eqb (k + 1) 0 (λ e. omega (arith, e))))

  pub right_goes : (n k : ℕ) → IsOrdered f n → k < n → counts_site f (pair_at f k) (site_at code (pair_at f k).0) ≡ true → IsRight k → IsRight (k + 1)
  right_goes n k is lt h before =
      before ∙ (by_test k true (omega (arith, lt, is.within)) (and_from (is_behind (pair_before f k) (pair_at f k)) (counts_site f (pair_at f k) (site_at code (pair_at f k).0)) (is.behind k lt) h)
      ∙ ap (λ last. pairs_differ f code (k + 1) last (drop (k + 1) (counted f))) (after k))

  pub wrong_site : (n k : ℕ) → IsOrdered f n → k < n → counts_site f (pair_at f k) (site_at code (pair_at f k).0) ≡ false → IsRight k
      → pairs_differ f code 0 None (counted f) ≡ differs_at Counted k (last_address (pair_before f k)) (pair_at f k).0
  wrong_site n k is lt h before = before ∙ by_test k false (omega (arith, lt, is.within)) (λ i. is.behind k lt i && h i)

  pub wrong_order : (n : ℕ) → IsOrdered f n → n < f.counters → IsRight n → pairs_differ f code 0 None (counted f) ≡ differs_at Counted n (last_address (pair_before f n)) (pair_at f n).0
  wrong_order n is lt before = before ∙ by_test n false lt (ap (λ v. v && counts_site f (pair_at f n) (site_at code (pair_at f n).0)) (is.ends lt))

  pub none_wrong : (n : ℕ) → f.counters ≤ n → IsRight n → pairs_differ f code 0 None (counted f) ≡ None
  none_wrong n le before = before ∙ ap (pairs_differ f code n (pair_before f n)) (drop_all n (counted f) (omega (arith, le, length-counted f)))

  pub right_at : (k n : ℕ) → k ≡ n → IsRight k → IsRight n
  right_at k n e is = subst IsRight e is

-- the mark of a pair says whether it has its other way
pub way_has : (f : Frame) (n k : ℕ) (q : ℕ × ℕ) (marks : List Bool) (v : Bool) → k < n → q ≡ pair_at f k → AreMarks f n marks → v ≡ get_or marks k v → is_way q.1 ≡ true → v ≡ has_other f q
way_has f n k q marks v lt e are mark way =
    let below : k < length marks = omega (arith, lt, are.count) in
    mark ∙ (same_Some (get_or marks k v) (get_or marks k false) (sym (slice_get-get_or marks k v below) ∙ slice_get-get_or marks k false below) ∙ (are.set k lt (sym (ap (λ (p : ℕ × ℕ). is_way p.1) e) ∙ way) ∙ sym (ap (has_other f) e)))

-- at first no mark is set
pub none_set : (n : ℕ) (marks : List Bool) → marks ≡ replicate n false → (k : ℕ) → get_or marks k false ≡ false
none_set n marks e k = ap (λ ms. get_or ms k false) e ∙ all_false n k
  where
    all_false : (n k : ℕ) → get_or (replicate n false) k false ≡ false
    all_false zero k = refl
    all_false (suc n) zero = refl
    all_false (suc n) (suc k) = all_false n k
