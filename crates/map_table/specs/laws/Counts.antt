-- How many groups runs have, and how many pages.
use Rattle.std.proofs.Common.{◌≡◌, ℕ, zero, suc, ◌+◌, ◌-◌, ◌*◌, ◌^◌, ◌<◌, ◌≤◌, Bool, cond, List, [], ◌∷◌, ◌++◌, length, get_or, drop, map, refl, sym, ap, ◌∙◌, subst, arith, append_assoc, length-append}
use Rattle.std.specs.List.{range_with_len, count_by}
use Rattle.std.proofs.lemmas.List.Sums.{sum_by-cons, count_by-le-length}
use Rattle.std.proofs.lemmas.List.FromFn.{length-map-range_with_len, map-range_with_len_more}
use Rattle.std.proofs.Math.Seq.{drop-cons}
use Rattle.std.proofs.lemmas.List.{append-nil, drop_all}
use Rattle.mv_base.specs.Table.{group_count}
use Rattle.elf32_read.specs.declared.run.Run.{Run}
use Rattle.elf32_read.specs.RunCount.{bytes_len}
use Rattle.elf32_read.specs.Runs.{AreApart}
use Rattle.map_table.specs.declared.group.Group.{Group}
use Rattle.map_table.specs.Groups.{group_of, groups_in, groups, has_site}
use Rattle.map_table.specs.Paged.{table_size, places_from}

-- a run in an apart list ends low
pub apart_ends : (from : ℕ) (rs : List Run) → AreApart from rs → (k : ℕ) (r : Run) → k < length rs → r ≡ get_or rs k r → r.lo + length r.bytes ≤ 0xFFFFF000
apart_ends from [] apart k r l e = absurd (omega arith)
apart_ends from (q ∷ rs) apart zero r l e = subst (λ (x : Run). x.lo + length x.bytes ≤ 0xFFFFF000) (sym e) apart.2
apart_ends from (q ∷ rs) apart (suc k) r l e = apart_ends (q.lo + length q.bytes + 1) rs apart.3 k r (omega arith) e

pub length-groups_in : (r : Run) → length (groups_in r) ≡ group_count (length r.bytes)
unfolding groups_in
length-groups_in r = length-map-range_with_len (group_of r) 0 (group_count (length r.bytes))

-- ---- the pages of a run, group by group

abbrev one_if : Bool → ℕ
one_if b = cond b 1 0

-- the pages of n groups of a run, from one on
unfoldable pub pages_left : List ℕ → Run → ℕ → ℕ → ℕ
pages_left sites r i n = count_by (has_site sites) (map (group_of r) (range_with_len i n))

pub pages_all : (sites : List ℕ) (r : Run) (n : ℕ) → n ≡ group_count (length r.bytes) → count_by (has_site sites) (groups_in r) ≡ 0 + pages_left sites r 0 (n - 0)
unfolding pages_left groups_in
pages_all sites r n e =
    let same : group_count (length r.bytes) ≡ n - 0 = omega arith in
    ap (λ k. count_by (has_site sites) (map (group_of r) (range_with_len 0 k))) same
    ∙ omega arith

pages_step : (sites : List ℕ) (r : Run) (i n : ℕ) → i < n → pages_left sites r i (n - i) ≡ cond (has_site sites (group_of r i)) 1 0 + pages_left sites r (i + 1) (n - (i + 1))
unfolding pages_left
pages_step sites r i n lt =
    let more : n - i ≡ suc (n - (i + 1)) = omega arith in
    ap (λ k. count_by (has_site sites) (map (group_of r) (range_with_len i k))) more
    ∙ sum_by-cons (λ g. cond (has_site sites g) 1 0) (group_of r i) (map (group_of r) (range_with_len (i + 1) (n - (i + 1))))

pub page_more : (sites : List ℕ) (r : Run) (all pages one i n : ℕ) (g : Group) → i < n → g ≡ group_of r i → one ≡ cond (has_site sites g) 1 0 → all ≡ pages + pages_left sites r i (n - i)
    → all ≡ pages + one + pages_left sites r (i + 1) (n - (i + 1))
page_more sites r all pages one i n g lt same is e =
    omega (arith, e, pages_step sites r i n lt, is, ap (λ (h : Group). one_if (has_site sites h)) same)

pub pages_bound : (sites : List ℕ) (r : Run) → count_by (has_site sites) (groups_in r) ≤ group_count (length r.bytes)
pages_bound sites r = omega (arith, count_by-le-length (has_site sites) (groups_in r), length-groups_in r)

pub pages_none : (sites : List ℕ) (r : Run) (all pages i n : ℕ) → n ≤ i → all ≡ pages + pages_left sites r i (n - i) → all ≡ pages
unfolding pages_left
pages_none sites r all pages i n le e =
    let none : n - i ≡ 0 = omega arith in
    omega (arith, e, ap (λ k. count_by (has_site sites) (map (group_of r) (range_with_len i k))) none)

-- one group more of a run
pub group_more : (r : Run) (n : ℕ) (old now new : List Group) (g : Group) → g ≡ group_of r n → now ≡ old ++ map (group_of r) (range_with_len 0 n) → new ≡ now ++ g ∷ []
    → new ≡ old ++ map (group_of r) (range_with_len 0 (n + 1))
group_more r n old now new g is before after =
    let zero_more : 0 + n ≡ n = omega arith in
    let more = map-range_with_len_more (group_of r) 0 n n zero_more in
    after ∙ (ap (λ (l : List Group). l ++ g ∷ []) before ∙ (ap (λ (h : Group). (old ++ map (group_of r) (range_with_len 0 n)) ++ h ∷ []) is
    ∙ (append_assoc old (map (group_of r) (range_with_len 0 n)) (group_of r n ∷ []) ∙ ap (λ (l : List Group). old ++ l) (sym more))))

-- ---- what is left behind an element

pub next_at : {X : Type 0} (xs : List X) (i : ℕ) (d : X) → i < length xs → drop i xs ≡ get_or xs i d ∷ drop (i + 1) xs
next_at xs i d lt =
    let one : suc i ≡ i + 1 = omega arith in
    drop-cons xs i d lt ∙ ap (λ k. get_or xs i d ∷ drop k xs) one

pub next_is : {X : Type 0} (xs : List X) (i : ℕ) (x : X) → i < length xs → x ≡ get_or xs i x → drop i xs ≡ x ∷ drop (i + 1) xs
next_is xs i x lt e =
    let one : suc i ≡ i + 1 = omega arith in
    drop-cons xs i x lt ∙ (ap (λ y. y ∷ drop (suc i) xs) (sym e) ∙ ap (λ k. x ∷ drop k xs) one)

pub none_left : {X : Type 0} (xs : List X) (i : ℕ) → length xs ≤ i → drop i xs ≡ []
none_left xs i le = drop_all i xs le

pub groups_none : groups [] ≡ []
unfolding groups
groups_none = refl

pub groups_cons : (r : Run) (rs : List Run) → groups (r ∷ rs) ≡ groups_in r ++ groups rs
unfolding groups
groups_cons r rs = refl

pub groups_next : (rs : List Run) (i : ℕ) (r : Run) → i < length rs → r ≡ get_or rs i r → groups (drop i rs) ≡ groups_in r ++ groups (drop (i + 1) rs)
groups_next rs i r lt e = ap groups (next_is rs i r lt e) ∙ groups_cons r (drop (i + 1) rs)

pub groups_left : (rs : List Run) (i : ℕ) → length rs ≤ i → groups (drop i rs) ≡ []
groups_left rs i le = ap groups (none_left rs i le) ∙ groups_none

-- the groups of a run stand behind those that stand already
pub groups_step : (rs : List Run) (i : ℕ) (r : Run) (now new : List Group) → i < length rs → r ≡ get_or rs i r → now ++ groups (drop i rs) ≡ groups rs → new ≡ now ++ groups_in r
    → new ++ groups (drop (i + 1) rs) ≡ groups rs
groups_step rs i r now new lt e before after =
    ap (λ (l : List Group). l ++ groups (drop (i + 1) rs)) after
    ∙ (append_assoc now (groups_in r) (groups (drop (i + 1) rs)) ∙ (ap (λ (l : List Group). now ++ l) (sym (groups_next rs i r lt e)) ∙ before))

pub groups_done : (rs : List Run) (i : ℕ) (now : List Group) → length rs ≤ i → now ++ groups (drop i rs) ≡ groups rs → now ≡ groups rs
groups_done rs i now le is = sym (append-nil now) ∙ (ap (λ (l : List Group). now ++ l) (sym (groups_left rs i le)) ∙ is)

-- ---- how many groups there are

pub length-groups : (rs : List Run) → 1024 * length (groups rs) ≤ bytes_len rs + 1023 * length rs
length-groups [] = omega (arith, ap (λ (l : List Group). length l) groups_none)
length-groups (r ∷ rs) =
    omega (arith, length-groups rs, length-groups_in r, ap (λ (l : List Group). length l) (groups_cons r rs), length-append (groups_in r) (groups rs), sum_by-cons (λ (q : Run). length q.bytes) r rs)

pub run_small : (rs : List Run) (k : ℕ) (r : Run) → k < length rs → r ≡ get_or rs k r → length r.bytes ≤ bytes_len rs
run_small [] k r lt e = absurd (omega arith)
run_small (q ∷ rs) zero r lt e = omega (arith, ap (λ (x : Run). length x.bytes) e, sum_by-cons (λ (x : Run). length x.bytes) q rs)
run_small (q ∷ rs) (suc k) r lt e = omega (arith, run_small rs k r (omega arith) e, sum_by-cons (λ (x : Run). length x.bytes) q rs)

pub count-append : (sites : List ℕ) (gs hs : List Group) → count_by (has_site sites) (gs ++ hs) ≡ count_by (has_site sites) gs + count_by (has_site sites) hs
count-append sites [] hs = omega arith
count-append sites (g ∷ gs) hs =
    omega (arith, count-append sites gs hs, sum_by-cons (λ x. one_if (has_site sites x)) g gs, sum_by-cons (λ x. one_if (has_site sites x)) g (gs ++ hs))

-- the bytes of the directories and the pages of runs
abbrev pub rest_size : List Run → List ℕ → ℕ
rest_size rs sites = 4 * length (groups rs) + 4096 * count_by (has_site sites) (groups rs)

pub size_first : (rs : List Run) (sites : List ℕ) → table_size rs sites ≡ 4096 + rest_size rs sites
unfolding table_size
size_first rs sites = omega arith

pub size_step : (rs : List Run) (sites : List ℕ) (i : ℕ) (r : Run) (all len one : ℕ) → i < length rs → r ≡ get_or rs i r → all ≡ len + rest_size (drop i rs) sites
    → one ≡ 4 * length (groups_in r) + 4096 * count_by (has_site sites) (groups_in r) → all ≡ len + one + rest_size (drop (i + 1) rs) sites
size_step rs sites i r all len one lt e before is =
    let next = groups_next rs i r lt e in
    omega (arith, before, is, ap (λ (l : List Group). length l) next, ap (count_by (has_site sites)) next, length-append (groups_in r) (groups (drop (i + 1) rs)), count-append sites (groups_in r) (groups (drop (i + 1) rs)))

pub size_done : (rs : List Run) (sites : List ℕ) (i all len : ℕ) → length rs ≤ i → all ≡ len + rest_size (drop i rs) sites → len ≡ all
size_done rs sites i all len le is =
    let none = groups_left rs i le in
    omega (arith, is, ap (λ (l : List Group). length l) none, ap (count_by (has_site sites)) none)

pub size_bound : (rs : List Run) (sites : List ℕ) → length rs ≤ 64 → bytes_len rs ≤ 16777216 → table_size rs sites ≤ 2 ^ 27
unfolding table_size
size_bound rs sites few small =
    omega (arith, length-groups rs, count_by-le-length (has_site sites) (groups rs), few, small)

-- ---- directories of runs, one behind the other

pub places_cons : (dir : ℕ) (r : Run) (rs : List Run) → map (λ q. q.dir) (places_from dir (r ∷ rs)) ≡ dir ∷ map (λ q. q.dir) (places_from (dir + 4 * group_count (length r.bytes)) rs)
unfolding places_from
places_cons dir r rs = refl

places_nil : (dir : ℕ) → map (λ q. q.dir) (places_from dir []) ≡ []
unfolding places_from
places_nil dir = refl

pub record DirsLeft (rs : List Run) (first i : ℕ) (dirs : List ℕ) (dir : ℕ) : Type 0 where
  pub left : dirs ++ map (λ q. q.dir) (places_from dir (drop i rs)) ≡ map (λ q. q.dir) (places_from first rs)
  pub end : dir + 4 * length (groups (drop i rs)) ≡ first + 4 * length (groups rs)

pub dirs_step : (rs : List Run) (first i : ℕ) (dirs new : List ℕ) (dir next : ℕ) (r : Run) → i < length rs → r ≡ get_or rs i r → DirsLeft rs first i dirs dir → new ≡ dirs ++ dir ∷ []
    → next ≡ dir + 4 * group_count (length r.bytes) → DirsLeft rs first (i + 1) new next
dirs_step rs first i dirs new dir next r lt e is pushed moved =
    let behind : List Run = drop (i + 1) rs in
    let split : map (λ q. q.dir) (places_from dir (drop i rs)) ≡ dir ∷ map (λ q. q.dir) (places_from next behind) =
    ap (λ (l : List Run). map (λ q. q.dir) (places_from dir l)) (next_is rs i r lt e) ∙ (places_cons dir r behind ∙ ap (λ n. dir ∷ map (λ q. q.dir) (places_from n behind)) (sym moved)) in
    record {
      left = ap (λ (l : List ℕ). l ++ map (λ q. q.dir) (places_from next behind)) pushed
          ∙ (append_assoc dirs (dir ∷ []) (map (λ q. q.dir) (places_from next behind)) ∙ (ap (λ (l : List ℕ). dirs ++ l) (sym split) ∙ is.left));
      end = omega (arith, is.end, moved, length-groups_in r, ap (λ (l : List Group). length l) (groups_next rs i r lt e), length-append (groups_in r) (groups (drop (i + 1) rs)));
    }

pub dirs_done : (rs : List Run) (first i : ℕ) (dirs : List ℕ) (dir : ℕ) → length rs ≤ i → DirsLeft rs first i dirs dir → dirs ≡ map (λ q. q.dir) (places_from first rs)
dirs_done rs first i dirs dir le is =
    sym (append-nil dirs) ∙ (ap (λ (l : List ℕ). dirs ++ l) (sym (ap (λ (l : List Run). map (λ q. q.dir) (places_from dir l)) (none_left rs i le) ∙ places_nil dir)) ∙ is.left)
