-- A table's bytes, read by the rule of form 2.
use Rattle.std.proofs.Common.{◌≡◌, ◌≢◌, ℕ, zero, suc, ◌+◌, ◌-◌, ◌*◌, ◌/◌, ◌%◌, ◌^◌, ◌<◌, ◌≤◌, min, Bool, true, false, cond, eqb, List, [], ◌∷◌, ◌++◌, length, get_or, map, Option, Some, None, ◌⊎◌, inl, inr, refl, sym, ap, ◌∙◌, subst, arith, length-append}
use Rattle.std.specs.Prelude.{replicate, IsSome, slice_get}
use Rattle.std.specs.List.{range_with_len, list_any, count_by, AllByRecursion}
use Rattle.std.proofs.lemmas.List.{length-replicate, get_or_append_left, get_or-append-add, get_or-replicate}
use Rattle.std.proofs.lemmas.List.FromFn.{length-map-range_with_len, get_or-map-range_with_len}
use Rattle.std.proofs.lemmas.List.Sums.{sum_by-cons}
use Rattle.std.proofs.lemmas.Bool.{and_parts, leb-true, ltb-true, eqb-true, eqb-false, or_parts}
use Rattle.mv_base.specs.Bytes.{word_at, words}
use Rattle.mv_base.specs.Words.{length-words, word_at-words, words-append}
use Rattle.mv_base.specs.Memory.{within}
use Rattle.mv_base.specs.Table.{run_of, group_count, page_named, paged_word, paged_entry}
use Rattle.mv_base.specs.declared.range.RunPlace.{RunPlace}
use Rattle.elf32_read.specs.declared.run.Run.{Run}
use Rattle.elf32_read.specs.Runs.{AreApart, code_of}
use Rattle.map_table.specs.declared.group.Group.{Group}
use Rattle.map_table.specs.Groups.{group_of, groups_in, groups, has_site}
use Rattle.map_table.specs.Ends.{EndsLow, EndLow}
use Rattle.map_table.specs.Pairs.{second_of, or_zero, entry_in, firsts, IsPair}
use Rattle.map_table.specs.Paged.{page, next_page, directory, own_page, pages, first_page, table_words, table_bytes, table_size, places_from, places, IsPaged, Made, IsMade}
use Rattle.map_table.specs.Built.{IsBuilt}
use Rattle.map_table.specs.laws.Counts.{length-groups_in, groups_cons}
use Rattle.map_table.specs.laws.Skips.{inside, second_none, second_here, second_later}

-- ---- groups end low

all_append : {X : Type 0} (P : X → Type 0) (xs ys : List X) → AllByRecursion P xs → AllByRecursion P ys → AllByRecursion P (xs ++ ys)
all_append P [] ys h k = k
all_append P (x ∷ xs) ys h k = (h.0, all_append P xs ys h.1 k)

group_ends : (r : Run) (i n : ℕ) → r.lo + length r.bytes ≤ 0xFFFFF000 → i + n ≤ group_count (length r.bytes) → EndLow (map (group_of r) (range_with_len i n))
unfolding group_of
group_ends r i zero end le = tt
group_ends r i (suc n) end le = (record { end = omega arith; few = omega arith }, group_ends r (i + 1) n end (omega arith))

run_ends : (r : Run) → r.lo + length r.bytes ≤ 0xFFFFF000 → EndLow (groups_in r)
unfolding groups_in
run_ends r end = group_ends r 0 (group_count (length r.bytes)) end (omega arith)

pub groups_end : (from : ℕ) (rs : List Run) → AreApart from rs → EndLow (groups rs)
unfolding groups
groups_end from [] apart = tt
groups_end from (r ∷ rs) apart = all_append EndsLow (groups_in r) (groups rs) (run_ends r apart.2) (groups_end (r.lo + length r.bytes + 1) rs apart.3)

-- ---- lengths

pub length-directory : (sites : List ℕ) (blank at : ℕ) (gs : List Group) → length (directory sites blank at gs) ≡ length gs
unfolding directory
length-directory sites blank at [] = refl
length-directory sites blank at (g ∷ gs) = ap suc (length-directory sites blank (next_page sites at g) gs)

length-page : (ps : List (ℕ × ℕ)) (g : Group) → g.len ≤ 1024 → length (page ps g) ≡ 1024
unfolding page
length-page ps g few =
    omega (
      arith,
      few,
      length-append (map (entry_in ps) (range_with_len g.lo g.len)) (replicate (1024 - g.len) 0),
      length-map-range_with_len (entry_in ps) g.lo g.len,
      length-replicate {A = ℕ} (1024 - g.len) 0,
    )

length-own : (ps : List (ℕ × ℕ)) (g : Group) (b : Bool) → g.len ≤ 1024 → length (cond b (page ps g) []) ≡ 1024 * cond b 1 0
length-own ps g true few = omega (arith, length-page ps g few)
length-own ps g false few = refl

pages_cons : (ps : List (ℕ × ℕ)) (g : Group) (gs : List Group) → pages ps (g ∷ gs) ≡ own_page ps g ++ pages ps gs
unfolding pages
pages_cons ps g gs = refl

pages_nil : (ps : List (ℕ × ℕ)) → pages ps [] ≡ []
unfolding pages
pages_nil ps = refl

-- a group has at most 1,024 addresses
abbrev IsShort : Group → Type 0
IsShort g = g.len ≤ 1024

short_in : (r : Run) (i n : ℕ) → AllByRecursion IsShort (map (group_of r) (range_with_len i n))
unfolding group_of
short_in r i zero = tt
short_in r i (suc n) = (omega arith, short_in r (i + 1) n)

short_run : (r : Run) → AllByRecursion IsShort (groups_in r)
unfolding groups_in
short_run r = short_in r 0 (group_count (length r.bytes))

groups_short : (rs : List Run) → AllByRecursion IsShort (groups rs)
unfolding groups
groups_short [] = tt
groups_short (r ∷ rs) = all_append IsShort (groups_in r) (groups rs) (short_run r) (groups_short rs)

length-pages : (ps : List (ℕ × ℕ)) (gs : List Group) → AllByRecursion IsShort gs → length (pages ps gs) ≡ 1024 * count_by (has_site (firsts ps)) gs
length-pages ps [] short = ap (λ (l : List ℕ). length l) (pages_nil ps)
length-pages ps (g ∷ gs) short =
    omega (
      arith,
      length-pages ps gs short.1,
      ap (λ (l : List ℕ). length l) (pages_cons ps g gs),
      length-append (own_page ps g) (pages ps gs),
      length-own ps g (has_site (firsts ps) g) short.0,
      sum_by-cons (λ h. cond (has_site (firsts ps) h) 1 0) g gs,
    )

-- the length of any table
pub length-table_bytes : (rs : List Run) (ps : List (ℕ × ℕ)) (lo : ℕ) → length (table_bytes rs ps lo) ≡ table_size rs (firsts ps)
unfolding table_bytes table_words table_size
length-table_bytes rs ps lo =
    let z : List ℕ = replicate 1024 0 in
    let d : List ℕ = directory (firsts ps) lo (first_page lo (groups rs)) (groups rs) in
    let p : List ℕ = pages ps (groups rs) in
    omega (
      arith,
      length-words ((z ++ d) ++ p),
      length-append (z ++ d) p,
      length-append z d,
      length-replicate {A = ℕ} 1024 0,
      length-directory (firsts ps) lo (first_page lo (groups rs)) (groups rs),
      length-pages ps (groups rs) (groups_short rs),
    )

-- ---- which page a word of a directory names

-- a page of its own: its number among those of the groups, and its words there
record Own (ps : List (ℕ × ℕ)) (at : ℕ) (gs : List Group) (g : Group) (name : ℕ) : Type 0 where
  number : ℕ
  is : name ≡ at + 4096 * number
  high : 1024 * number + 1024 ≤ length (pages ps gs)
  word : (k : ℕ) → k < 1024 → get_or (pages ps gs) (1024 * number + k) 0 ≡ get_or (page ps g) k 0

-- the page of zeros
record Blank (ps : List (ℕ × ℕ)) (blank : ℕ) (g : Group) (name : ℕ) : Type 0 where
  is : name ≡ blank
  none : has_site (firsts ps) g ≡ false

Named : List (ℕ × ℕ) → ℕ → ℕ → List Group → Group → ℕ → Type 0
Named ps blank at gs g name = Own ps at gs g name ⊎ Blank ps blank g name

first_by : (ps : List (ℕ × ℕ)) (blank at : ℕ) (g : Group) (gs : List Group) (b : Bool) → g.len ≤ 1024 → has_site (firsts ps) g ≡ b
    → Own ps at (g ∷ gs) g (cond b at blank) ⊎ Blank ps blank g (cond b at blank)
first_by ps blank at g gs true few has =
    let own : own_page ps g ≡ page ps g = ap (λ b. cond b (page ps g) []) has in
    let all : pages ps (g ∷ gs) ≡ page ps g ++ pages ps gs = pages_cons ps g gs ∙ ap (λ (l : List ℕ). l ++ pages ps gs) own in
    let len = length-page ps g few in
    inl (record {
      number = 0;
      is = omega arith;
      high = omega (arith, ap (λ (l : List ℕ). length l) all, length-append (page ps g) (pages ps gs), len);
      word = λ k lt.
          let e : 1024 * 0 + k ≡ k = omega arith in
          ap (λ n. get_or (pages ps (g ∷ gs)) n 0) e ∙ (ap (λ (l : List ℕ). get_or l k 0) all ∙ get_or_append_left (page ps g) (pages ps gs) 0 k (omega (arith, lt, len)));
    })
first_by ps blank at g gs false few has = inr (record { is = refl; none = has })

later_own : (ps : List (ℕ × ℕ)) (at : ℕ) (g h : Group) (gs : List Group) (name : ℕ) (b : Bool) → g.len ≤ 1024 → has_site (firsts ps) g ≡ b → Own ps (cond b (at + 4096) at) gs h name
    → Own ps at (g ∷ gs) h name
later_own ps at g h gs name true few has own =
    let mine : own_page ps g ≡ page ps g = ap (λ b. cond b (page ps g) []) has in
    let all : pages ps (g ∷ gs) ≡ page ps g ++ pages ps gs = pages_cons ps g gs ∙ ap (λ (l : List ℕ). l ++ pages ps gs) mine in
    let len = length-page ps g few in
    record {
      number = own.number + 1;
      is = omega (arith, own.is);
      high = omega (arith, ap (λ (l : List ℕ). length l) all, length-append (page ps g) (pages ps gs), len, own.high);
      word = λ k lt.
          let e : 1024 * (own.number + 1) + k ≡ length (page ps g) + (1024 * own.number + k) = omega (arith, len) in
          ap (λ n. get_or (pages ps (g ∷ gs)) n 0) e ∙ (ap (λ (l : List ℕ). get_or l (length (page ps g) + (1024 * own.number + k)) 0) all
          ∙ (get_or-append-add (page ps g) (pages ps gs) (1024 * own.number + k) 0 ∙ own.word k lt));
    }
later_own ps at g h gs name false few has own =
    let mine : own_page ps g ≡ [] = ap (λ b. cond b (page ps g) []) has in
    let all : pages ps (g ∷ gs) ≡ pages ps gs = pages_cons ps g gs ∙ ap (λ (l : List ℕ). l ++ pages ps gs) mine in
    record {
      number = own.number;
      is = own.is;
      high = omega (arith, ap (λ (l : List ℕ). length l) all, own.high);
      word = λ k lt. ap (λ (l : List ℕ). get_or l (1024 * own.number + k) 0) all ∙ own.word k lt;
    }

later : (ps : List (ℕ × ℕ)) (blank at : ℕ) (g h : Group) (gs : List Group) (name : ℕ) → g.len ≤ 1024 → Named ps blank (next_page (firsts ps) at g) gs h name
    → Named ps blank at (g ∷ gs) h name
unfolding Named
later ps blank at g h gs name few named =
    elim named [ inl own ↦ inl (later_own ps at g h gs name (has_site (firsts ps) g) few refl own) | inr none ↦ inr none ]

named : (ps : List (ℕ × ℕ)) (blank at : ℕ) (gs : List Group) (j : ℕ) (d : Group) → EndLow gs → j < length gs → Named ps blank at gs (get_or gs j d) (get_or (directory (firsts ps) blank at gs) j 0)
unfolding directory Named
named ps blank at [] j d ends lt = absurd (omega arith)
named ps blank at (g ∷ gs) zero d ends lt = first_by ps blank at g gs (has_site (firsts ps) g) ends.0.few refl
named ps blank at (g ∷ gs) (suc j) d ends lt =
    later ps blank at g (get_or gs j d) gs (get_or (directory (firsts ps) blank (next_page (firsts ps) at g) gs) j 0) ends.0.few
    (named ps blank (next_page (firsts ps) at g) gs j d ends.1 (omega arith))

-- ---- where the groups of a run are among those of all

record Placed (rs : List Run) (dir : ℕ) (q : RunPlace) : Type 0 where
  first : ℕ
  dir_is : q.dir ≡ dir + 4 * first
  room : first + group_count q.len ≤ length (groups rs)
  group_is : (k : ℕ) (d : Group) → k < group_count q.len → get_or (groups rs) (first + k) d ≡ record { lo = q.lo + 1024 * k; len = min 1024 (q.len - 1024 * k) }

placed_first : (r : Run) (rs : List Run) (dir : ℕ) → Placed (r ∷ rs) dir (record { lo = r.lo; len = length r.bytes; dir = dir })
unfolding groups_in group_of
placed_first r rs dir = record {
  first = 0;
  dir_is = omega arith;
  room = omega (arith, ap (λ (l : List Group). length l) (groups_cons r rs), length-append (groups_in r) (groups rs), length-groups_in r);
  group_is = λ k d lt.
      let e : 0 + k ≡ k = omega arith in
      ap (λ n. get_or (groups (r ∷ rs)) n d) e ∙ (ap (λ (l : List Group). get_or l k d) (groups_cons r rs)
      ∙ (get_or_append_left (groups_in r) (groups rs) d k (omega (arith, lt, length-groups_in r)) ∙ get_or-map-range_with_len (group_of r) 0 (group_count (length r.bytes)) k k d lt e));
}

placed_later : (r : Run) (rs : List Run) (dir : ℕ) (q : RunPlace) → Placed rs (dir + 4 * group_count (length r.bytes)) q → Placed (r ∷ rs) dir q
placed_later r rs dir q is = record {
  first = group_count (length r.bytes) + is.first;
  dir_is = omega (arith, is.dir_is);
  room = omega (arith, is.room, ap (λ (l : List Group). length l) (groups_cons r rs), length-append (groups_in r) (groups rs), length-groups_in r);
  group_is = λ k d lt.
      let e : group_count (length r.bytes) + is.first + k ≡ length (groups_in r) + (is.first + k) = omega (arith, length-groups_in r) in
      ap (λ n. get_or (groups (r ∷ rs)) n d) e ∙ (ap (λ (l : List Group). get_or l (length (groups_in r) + (is.first + k)) d) (groups_cons r rs)
      ∙ (get_or-append-add (groups_in r) (groups rs) (is.first + k) d ∙ is.group_is k d lt));
}

all_map : {X : Type 0} (P Q : X → Type 0) (xs : List X) → ((x : X) → P x → Q x) → AllByRecursion P xs → AllByRecursion Q xs
all_map P Q [] f h = tt
all_map P Q (x ∷ xs) f h = (f x h.0, all_map P Q xs f h.1)

all_placed : (rs : List Run) (dir : ℕ) → AllByRecursion (Placed rs dir) (places_from dir rs)
unfolding places_from
all_placed [] dir = tt
all_placed (r ∷ rs) dir = (
  placed_first r rs dir,
  all_map (Placed rs (dir + 4 * group_count (length r.bytes))) (Placed (r ∷ rs) dir) (places_from (dir + 4 * group_count (length r.bytes)) rs)
      (placed_later r rs dir) (all_placed rs (dir + 4 * group_count (length r.bytes))),
)

-- the run that an address lies in
record Hit (P : RunPlace → Type 0) (a : ℕ) (q : RunPlace) : Type 0 where
  holds : P q
  from : q.lo ≤ a
  below : a < q.lo + q.len

hit_step : (P : RunPlace → Type 0) (a : ℕ) (r q : RunPlace) (rest : Option RunPlace) (b : Bool) → P r → within r.lo r.len a ≡ b → cond b (Some r) rest ≡ Some q → (rest ≡ Some q → Hit P a q) → Hit P a q
hit_step P a r q rest true p w h later =
    let e : r ≡ q = cc h in
    let s = and_parts _ _ w in
    subst (Hit P a) e (record { holds = p; from = leb-true _ _ s.0; below = ltb-true _ _ s.1 })
hit_step P a r q rest false p w h later = later h

hit : (P : RunPlace → Type 0) (a : ℕ) (q : RunPlace) (qs : List RunPlace) → AllByRecursion P qs → run_of qs a ≡ Some q → Hit P a q
hit P a q [] h e = absurd (cc e)
hit P a q (r ∷ rs) h e = hit_step P a r q (run_of rs a) (within r.lo r.len a) h.0 refl e (hit P a q rs h.1)

-- an address in no run has no code
miss_step : (b : Bool) (lo : ℕ) (q : RunPlace) (rest : Option RunPlace) (here code : Option ℕ) → cond b (Some q) rest ≡ None → (rest ≡ None → code ≡ None) → cond b here code ≡ None
miss_step true lo q rest here code h later = absurd (cc h)
miss_step false lo q rest here code h later = later h

miss : (dir a : ℕ) (rs : List Run) → run_of (places_from dir rs) a ≡ None → code_of rs a ≡ None
unfolding places_from
miss dir a [] h = refl
miss dir a (r ∷ rs) h =
    miss_step (within r.lo (length r.bytes) a) r.lo (record { lo = r.lo; len = length r.bytes; dir = dir }) (run_of (places_from (dir + 4 * group_count (length r.bytes)) rs) a)
    (slice_get r.bytes (a - r.lo)) (code_of rs a) h (miss (dir + 4 * group_count (length r.bytes)) a rs)

-- ---- addresses without a pair

same_or_other : (a b : ℕ) (t : Bool) → eqb a b ≡ t → (a ≡ b) ⊎ (a ≢ b)
same_or_other a b true h = inl (eqb-true a b h)
same_or_other a b false h = inr (eqb-false a b h)

outside_pairs : (rs : List Run) (ps : List (ℕ × ℕ)) (a : ℕ) → AllByRecursion (IsPair rs) ps → code_of rs a ≡ None → second_of ps a ≡ None
outside_pairs rs [] a h none = second_none a
outside_pairs rs (p ∷ ps) a h none =
    elim (same_or_other p.0 a (eqb p.0 a) refl) [
      | inl e ↦ absurd (cc (subst IsSome (ap (code_of rs) e ∙ none) h.0.inside))
      | inr ne ↦ second_later p ps a ne ∙ outside_pairs rs ps a h.1 none
    ]

no_site_no_pair : (lo len a : ℕ) (ps : List (ℕ × ℕ)) → list_any (within lo len) (firsts ps) ≡ false → within lo len a ≡ true → second_of ps a ≡ None
no_site_no_pair lo len a [] none w = second_none a
no_site_no_pair lo len a (p ∷ ps) none w =
    let parts = or_parts (within lo len p.0) (list_any (within lo len) (firsts ps)) none in
    second_later p ps a (λ e. cc (ap (within lo len) e, parts.0, w)) ∙ no_site_no_pair lo len a ps parts.1 w

entry_fits : (rs : List Run) (ps : List (ℕ × ℕ)) (a : ℕ) → AllByRecursion (IsPair rs) ps → entry_in ps a < 2 ^ 32
entry_fits rs [] a h = omega (arith, ap or_zero (second_none a))
entry_fits rs (p ∷ ps) a h =
    elim (same_or_other p.0 a (eqb p.0 a) refl) [
      | inl e ↦ omega (arith, ap or_zero (second_here p ps a e), h.0.fits)
      | inr ne ↦ omega (arith, ap or_zero (second_later p ps a ne), entry_fits rs ps a h.1)
    ]

-- ---- words by their places

-- a table's words: those of a page of zeros, of directories and of pages
record Parts (w z d p : List ℕ) : Type 0 where
  all : w ≡ z ++ d ++ p
  blank : length z ≡ 1024
  zeros : (i : ℕ) → i < 1024 → get_or z i 0 ≡ 0

length-parts : (w z d p : List ℕ) → Parts w z d p → length w ≡ 1024 + length d + length p
length-parts w z d p is = omega (arith, ap (λ (l : List ℕ). length l) is.all, length-append (z ++ d) p, length-append z d, is.blank)

at_zero : (w z d p : List ℕ) (i : ℕ) → Parts w z d p → i < 1024 → get_or w i 0 ≡ 0
at_zero w z d p i is lt =
    ap (λ (l : List ℕ). get_or l i 0) is.all ∙ (get_or_append_left (z ++ d) p 0 i (omega (arith, lt, is.blank, length-append z d))
    ∙ (get_or_append_left z d 0 i (omega (arith, lt, is.blank)) ∙ is.zeros i lt))

at_name : (w z d p : List ℕ) (j : ℕ) → Parts w z d p → j < length d → get_or w (1024 + j) 0 ≡ get_or d j 0
at_name w z d p j is lt =
    let e : 1024 + j ≡ length z + j = omega (arith, is.blank) in
    ap (λ (l : List ℕ). get_or l (1024 + j) 0) is.all ∙ (get_or_append_left (z ++ d) p 0 (1024 + j) (omega (arith, lt, is.blank, length-append z d))
    ∙ (ap (λ n. get_or (z ++ d) n 0) e ∙ get_or-append-add z d j 0))

at_page : (w z d p : List ℕ) (n k : ℕ) → Parts w z d p → length d ≡ n → get_or w (1024 + n + k) 0 ≡ get_or p k 0
at_page w z d p n k is len =
    let e : 1024 + n + k ≡ length (z ++ d) + k = omega (arith, is.blank, len, length-append z d) in
    ap (λ (l : List ℕ). get_or l (1024 + n + k) 0) is.all ∙ (ap (λ m. get_or (z ++ d ++ p) m 0) e ∙ get_or-append-add (z ++ d) p k 0)

-- an entry in a page
page_entry : (ps : List (ℕ × ℕ)) (g : Group) (m a : ℕ) → m < g.len → g.lo + m ≡ a → get_or (page ps g) m 0 ≡ entry_in ps a
unfolding page
page_entry ps g m a lt e =
    get_or_append_left (map (entry_in ps) (range_with_len g.lo g.len)) (replicate (1024 - g.len) 0) 0 m (omega (arith, lt, length-map-range_with_len (entry_in ps) g.lo g.len))
    ∙ get_or-map-range_with_len (entry_in ps) g.lo g.len m a 0 lt e

-- ---- the table of what it is made of

table_parts : (t : Made) → Parts (table_words t.runs t.pairs t.lo) (replicate 1024 0) (directory (firsts t.pairs) t.lo (first_page t.lo (groups t.runs)) (groups t.runs)) (pages t.pairs (groups t.runs))
unfolding table_words
table_parts t = record { all = refl; blank = length-replicate {A = ℕ} 1024 0; zeros = λ i lt. get_or-replicate 1024 i 0 0 lt }

module _ (t : Made) (made : IsMade t) where
  abbrev gs : List Group
  gs = groups t.runs

  abbrev at : ℕ
  at = first_page t.lo (groups t.runs)

  unfoldable d : List ℕ
  d = directory (firsts t.pairs) t.lo (first_page t.lo (groups t.runs)) (groups t.runs)

  unfoldable p : List ℕ
  p = pages t.pairs (groups t.runs)

  unfoldable w : List ℕ
  w = table_words t.runs t.pairs t.lo

  parts : Parts w (replicate 1024 0) d p
  unfolding w d p
  parts = table_parts t

  ends : EndLow (groups t.runs)
  ends = groups_end 0 t.runs made.runs.apart

  length-d : length d ≡ length (groups t.runs)
  unfolding d
  length-d = length-directory (firsts t.pairs) t.lo (first_page t.lo (groups t.runs)) (groups t.runs)

  length-p : length p ≡ 1024 * count_by (has_site (firsts t.pairs)) (groups t.runs)
  unfolding p
  length-p = length-pages t.pairs (groups t.runs) (groups_short t.runs)

  length-w : length w ≡ 1024 + length (groups t.runs) + length p
  length-w = omega (arith, length-parts w (replicate 1024 0) d p parts, length-d)

  room : t.lo + 4096 + 4 * length (groups t.runs) + 4 * length p ≤ 0xB0000000
  unfolding table_size
  room = omega (arith, made.room, length-p)

  -- a name in a directory
  record IsName (name : ℕ) : Type 0 where
    low : t.lo ≤ name
    high : name + 4096 ≤ t.lo + 4 * length w

  name_by : (g : Group) (name : ℕ) → Named t.pairs t.lo (first_page t.lo (groups t.runs)) (groups t.runs) g name → IsName name
  unfolding Named p
  name_by g name named =
      elim named [
        | inl own ↦ record { low = omega (arith, own.is); high = omega (arith, own.is, own.high, length-w) }
        | inr none ↦ record { low = omega (arith, none.is); high = omega (arith, none.is, length-w) }
      ]

  blank_group : Group
  blank_group = record { lo = 0; len = 0 }

  names : (j : ℕ) → j < length (groups t.runs) → Named t.pairs t.lo (first_page t.lo (groups t.runs)) (groups t.runs) (get_or (groups t.runs) j blank_group) (get_or d j 0)
  unfolding d
  names j lt = named t.pairs t.lo (first_page t.lo (groups t.runs)) (groups t.runs) j blank_group ends lt

  name_read : (q : RunPlace) (k : ℕ) (is : Placed t.runs (t.lo + 4096) q) → k < group_count q.len → page_named (words w) t.lo q.dir k ≡ get_or d (is.first + k) 0
  name_read q k is lt =
      let j : ℕ = is.first + k in
      let below : j < length (groups t.runs) = omega (arith, is.room, lt) in
      let name = name_by (get_or (groups t.runs) j blank_group) (get_or d j 0) (names j below) in
      let here : get_or w (1024 + j) 0 ≡ get_or d j 0 = at_name w (replicate 1024 0) d p j parts (omega (arith, below, length-d)) in
      let place : q.dir - t.lo + 4 * k ≡ 4 * (1024 + j) = omega (arith, is.dir_is) in
      ap (word_at (words w)) place
      ∙ (word_at-words w (1024 + j) (omega (arith, below, length-w)) (omega (arith, here, name.high, length-w, room)) ∙ here)

  paged : (q : RunPlace) → Placed t.runs (t.lo + 4096) q → IsPaged (words w) t.lo q
  paged q is = record {
    low = omega (arith, is.dir_is);
    high = omega (arith, is.dir_is, is.room, length-words w, length-w);
    page_low = λ k lt.
        let j : ℕ = is.first + k in
        let name = name_by (get_or (groups t.runs) j blank_group) (get_or d j 0) (names j (omega (arith, is.room, lt))) in
        omega (arith, name_read q k is lt, name.low);
    page_high = λ k lt.
        let j : ℕ = is.first + k in
        let name = name_by (get_or (groups t.runs) j blank_group) (get_or d j 0) (names j (omega (arith, is.room, lt))) in
        omega (arith, name_read q k is lt, name.high, length-words w);
  }

  pub all_paged : AllByRecursion (IsPaged (table_bytes t.runs t.pairs t.lo) t.lo) (places t.runs t.lo)
  unfolding table_bytes w
  all_paged = all_map (Placed t.runs (t.lo + 4096)) (IsPaged (words w) t.lo) (places t.runs t.lo) paged (all_placed t.runs (t.lo + 4096))

  -- the entry of an address of a group whose page has a name
  by_name : (g : Group) (name m a : ℕ) → Named t.pairs t.lo (first_page t.lo (groups t.runs)) (groups t.runs) g name → m < 1024 → m < g.len → g.lo + m ≡ a
      → word_at (words w) (name - t.lo + 4 * m) ≡ entry_in t.pairs a
  unfolding Named p
  by_name g name m a named few lt e =
      elim named [
        | inl own ↦
            let i : ℕ = 1024 * own.number + m in
            let here : get_or w (1024 + length (groups t.runs) + i) 0 ≡ entry_in t.pairs a =
            at_page w (replicate 1024 0) d p (length (groups t.runs)) i parts length-d ∙ (own.word m few ∙ page_entry t.pairs g m a lt e) in
            let place : name - t.lo + 4 * m ≡ 4 * (1024 + length (groups t.runs) + i) = omega (arith, own.is) in
            ap (word_at (words w)) place
            ∙ (word_at-words w (1024 + length (groups t.runs) + i) (omega (arith, own.high, few, length-w)) (omega (arith, here, entry_fits t.runs t.pairs a made.pairs)) ∙ here)
        | inr none ↦
            let here : get_or w m 0 ≡ 0 = at_zero w (replicate 1024 0) d p m parts few in
            let place : name - t.lo + 4 * m ≡ 4 * m = omega (arith, none.is) in
            let no : entry_in t.pairs a ≡ 0 = ap or_zero (no_site_no_pair g.lo g.len a t.pairs none.none (inside g.lo g.len a (omega arith) (omega arith))) in
            ap (word_at (words w)) place ∙ (word_at-words w m (omega (arith, few, length-w)) (omega (arith, here)) ∙ (here ∙ sym no))
      ]

  found : (a : ℕ) (q : RunPlace) → Hit (Placed t.runs (t.lo + 4096)) a q → paged_word (words w) t.lo a (Some q) ≡ entry_in t.pairs a
  found a q h =
      let k : ℕ = (a - q.lo) / 1024 in
      let m : ℕ = (a - q.lo) % 1024 in
      let lt : k < group_count q.len = omega (arith, h.from, h.below) in
      let j : ℕ = h.holds.first + k in
      let g : Group = get_or (groups t.runs) j blank_group in
      let g_is = h.holds.group_is k blank_group lt in
      let lo_is : g.lo ≡ q.lo + 1024 * k = ap (λ (x : Group). x.lo) g_is in
      let len_is : g.len ≡ min 1024 (q.len - 1024 * k) = ap (λ (x : Group). x.len) g_is in
      ap (λ n. word_at (words w) (n - t.lo + 4 * m)) (name_read q k h.holds lt)
      ∙ by_name g (get_or d j 0) m a (names j (omega (arith, h.holds.room, lt))) (omega arith) (omega (arith, len_is, h.from, h.below)) (omega (arith, lo_is, h.from))

  read_by : (a : ℕ) (o : Option RunPlace) → run_of (places t.runs t.lo) a ≡ o → paged_word (words w) t.lo a o ≡ entry_in t.pairs a
  read_by a None e = sym (ap or_zero (outside_pairs t.runs t.pairs a made.pairs (miss (t.lo + 4096) a t.runs e)))
  read_by a (Some q) e = found a q (hit (Placed t.runs (t.lo + 4096)) a q (places t.runs t.lo) (all_placed t.runs (t.lo + 4096)) e)

  pub reads : (a : ℕ) → paged_entry (table_bytes t.runs t.pairs t.lo) t.lo (places t.runs t.lo) a ≡ entry_in t.pairs a
  unfolding table_bytes w
  reads a = read_by a (run_of (places t.runs t.lo) a) refl

-- ---- the bytes, part by part

pub table_is : (rs : List Run) (ps : List (ℕ × ℕ)) (lo first : ℕ) (gs : List Group) (b0 b1 b2 b3 : List ℕ) → gs ≡ groups rs → first ≡ first_page lo gs → b0 ≡ [] → b1 ≡ b0 ++ words (replicate 1024 0)
    → b2 ≡ b1 ++ words (directory (firsts ps) lo first gs) → b3 ≡ b2 ++ words (pages ps gs) → b3 ≡ table_bytes rs ps lo
unfolding table_bytes table_words
table_is rs ps lo first gs b0 b1 b2 b3 gs_is first_is e0 e1 e2 e3 =
    let z : List ℕ = replicate 1024 0 in
    let d : List ℕ = directory (firsts ps) lo (first_page lo (groups rs)) (groups rs) in
    let p : List ℕ = pages ps (groups rs) in
    let one : b1 ≡ words z = e1 ∙ ap (λ (l : List ℕ). l ++ words z) e0 in
    let moved : directory (firsts ps) lo first gs ≡ d = ap (λ n. directory (firsts ps) lo n gs) first_is ∙ ap (λ (l : List Group). directory (firsts ps) lo (first_page lo l) l) gs_is in
    let two : b2 ≡ words (z ++ d) = e2 ∙ (ap (λ (l : List ℕ). b1 ++ words l) moved ∙ (ap (λ (l : List ℕ). l ++ words d) one ∙ sym (words-append z d))) in
    e3 ∙ (ap (λ (l : List Group). b2 ++ words (pages ps l)) gs_is ∙ (ap (λ (l : List ℕ). l ++ words p) two ∙ sym (words-append (z ++ d) p)))

-- what is asked of the parts
pub record HasRoom (rs : List Run) (ps : List (ℕ × ℕ)) (lo : ℕ) : Type 0 where
  pub end : lo + 4096 + 4 * length (groups rs) + 4096 * count_by (has_site (firsts ps)) (groups rs) ≤ 0xB0000000

pub has_room : (t : Made) → IsMade t → HasRoom t.runs t.pairs t.lo
unfolding table_size
has_room t made = record { end = omega (arith, made.room) }

-- ---- what is known of the bytes of a table in memory

pub record Laws (t : Made) (x : List ℕ) : Type 0 where
  pub len : length x ≡ table_size t.runs (firsts t.pairs)
  pub reads_are : (a : ℕ) → paged_entry x t.lo (places t.runs t.lo) a ≡ entry_in t.pairs a
  pub inside_are : AllByRecursion (IsPaged x t.lo) (places t.runs t.lo)

pub laws : (t u : Made) (dirs bytes x : List ℕ) → IsBuilt u dirs bytes → u ≡ t → x ≡ bytes → Laws t x
laws t u dirs bytes x built same is =
    subst (λ (v : Made). Laws v x) same
    (subst (Laws u) (sym (is ∙ built.bytes_are)) (record { len = length-table_bytes u.runs u.pairs u.lo; reads_are = reads u built.made; inside_are = all_paged u built.made }))

-- and of the bytes that a table of what is asked for has
pub made_laws : (t : Made) → IsMade t → Laws t (table_bytes t.runs t.pairs t.lo)
made_laws t made = record { len = length-table_bytes t.runs t.pairs t.lo; reads_are = reads t made; inside_are = all_paged t made }
