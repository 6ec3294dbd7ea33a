-- The runs of a frame record, one after the other.
use Rattle.std.proofs.Common.{◌≡◌, ℕ, zero, suc, ◌+◌, ◌-◌, ◌*◌, ◌/◌, ◌%◌, ◌<◌, ◌≤◌, Bool, true, false, cond, ◌&&◌, List, [], ◌∷◌, length, map, Option, Some, None, eqb, nat_le, ◌≢◌, refl, sym, ap, ◌∙◌, subst, inl, inr, arith}
use Rattle.std.specs.List.{range_with_len, slice_get, sum_by, list_all}
use Rattle.std.proofs.lemmas.Bool.{and_parts, cases_lt, eqb-true, leb-true, eq-eqb, ne_eqb}
use Rattle.std.proofs.lemmas.List.FromFn.{length-map-range_with_len}
use Rattle.std.proofs.lemmas.List.Sums.{sum_by-cons}
use Rattle.mv_base.specs.declared.range.RunPlace.{RunPlace}
use Rattle.mv_base.specs.Memory.{within}
use Rattle.mv_base.specs.Bytes.{word_at}
use Rattle.mv_base.specs.Table.{run_of, flat_word, paged_word, group_count, page_named, page_at}
use Rattle.elf32_write.specs.Frame.{field, frame_at, run_place_at, rule_in, edge_rule_in, has_kinds, has_numbers, kind_at, has_places, has_block, is_run, is_in_table, has_pages, has_part, has_runs, Frame, TableAt, table_at, frame_table, frame_entry}
use Rattle.elf32_write.specs.Rules.{edge_low}
use Rattle.elf32_write.specs.Within.{within_parts}
use Rattle.elf32_write.specs.Framing.{IsFramed}

-- the runs from the i-th on of the first n that a record spells
unfoldable pub runs_from : List ℕ → ℕ → ℕ → List RunPlace
runs_from x i n = map (run_place_at x) (range_with_len i (n - i))

pub from_first : (x : List ℕ) (n : ℕ) → n ≡ field x 15 → (frame_at x).runs ≡ runs_from x 0 n
unfolding runs_from frame_at
from_first x n e = ap (λ k. map (run_place_at x) (range_with_len 0 k)) (let all : field x 15 ≡ n - 0 = omega arith in all)

pub from_next : (x : List ℕ) (i n : ℕ) → i < n → runs_from x i n ≡ run_place_at x i ∷ runs_from x (i + 1) n
unfolding runs_from
from_next x i n lt =
    let more : n - i ≡ suc (n - (i + 1)) = omega arith in
    ap (λ k. map (run_place_at x) (range_with_len i k)) more

pub from_end : (x : List ℕ) (i n : ℕ) → n ≤ i → runs_from x i n ≡ []
unfolding runs_from
from_end x i n le = ap (λ k. map (run_place_at x) (range_with_len i k)) (let none : n - i ≡ 0 = omega arith in none)

-- the rule on the runs, run by run
pub rule_first : (t : TableAt) (x : List ℕ) (n : ℕ) → n ≡ field x 15 → has_runs t 0 (frame_at x).runs ≡ has_runs t 0 (runs_from x 0 n)
rule_first t x n e = ap (has_runs t 0) (from_first x n e)

rule_step : (t : TableAt) (x : List ℕ) (from i n : ℕ) → i < n
    → has_runs t from (runs_from x i n)
    ≡ (is_run from (run_place_at x i) && has_part t (run_place_at x i) && has_runs t ((run_place_at x i).lo + (run_place_at x i).len + 1) (runs_from x (i + 1) n))
unfolding has_runs
rule_step t x from i n lt = ap (λ (rs : List RunPlace). has_runs t from rs) (from_next x i n lt)

pub rule_fails : (t : TableAt) (x : List ℕ) (all : Bool) (from i n : ℕ) → i < n → all ≡ has_runs t from (runs_from x i n) → is_run from (run_place_at x i) ≡ false → false ≡ all
rule_fails t x all from i n lt same fails =
    sym (same ∙ (rule_step t x from i n lt
    ∙ ap (λ s. s && has_part t (run_place_at x i) && has_runs t ((run_place_at x i).lo + (run_place_at x i).len + 1) (runs_from x (i + 1) n)) fails))

pub part_fails : (t : TableAt) (x : List ℕ) (all : Bool) (from i n : ℕ) → i < n → all ≡ has_runs t from (runs_from x i n) → is_run from (run_place_at x i) ≡ true
    → has_part t (run_place_at x i) ≡ false → false ≡ all
part_fails t x all from i n lt same holds fails =
    sym (same ∙ (rule_step t x from i n lt
    ∙ (ap (λ s. s && has_part t (run_place_at x i) && has_runs t ((run_place_at x i).lo + (run_place_at x i).len + 1) (runs_from x (i + 1) n)) holds
    ∙ ap (λ s. true && s && has_runs t ((run_place_at x i).lo + (run_place_at x i).len + 1) (runs_from x (i + 1) n)) fails)))

pub rule_holds : (t : TableAt) (x : List ℕ) (all : Bool) (from next i n : ℕ) → i < n → all ≡ has_runs t from (runs_from x i n) → is_run from (run_place_at x i) ≡ true
    → has_part t (run_place_at x i) ≡ true → next ≡ (run_place_at x i).lo + (run_place_at x i).len + 1 → all ≡ has_runs t next (runs_from x (i + 1) n)
rule_holds t x all from next i n lt same holds part e =
    same ∙ (rule_step t x from i n lt
    ∙ (ap (λ s. s && has_part t (run_place_at x i) && has_runs t ((run_place_at x i).lo + (run_place_at x i).len + 1) (runs_from x (i + 1) n)) holds
    ∙ (ap (λ s. true && s && has_runs t ((run_place_at x i).lo + (run_place_at x i).len + 1) (runs_from x (i + 1) n)) part
    ∙ ap (λ k. has_runs t k (runs_from x (i + 1) n)) (sym e))))

pub rule_end : (t : TableAt) (x : List ℕ) (all : Bool) (from i n : ℕ) → n ≤ i → all ≡ has_runs t from (runs_from x i n) → true ≡ all
unfolding has_runs
rule_end t x all from i n le same = sym (same ∙ ap (λ (rs : List RunPlace). has_runs t from rs) (from_end x i n le))

-- the length of the runs, run by run
abbrev pub len_of : List RunPlace → ℕ
len_of rs = sum_by (λ r. r.len) rs

pub len_first : (x : List ℕ) (n : ℕ) → n ≡ field x 15 → len_of (frame_at x).runs ≡ 0 + len_of (runs_from x 0 n)
len_first x n e = omega (arith, ap len_of (from_first x n e))

pub len_next : (x : List ℕ) (all size next i n : ℕ) → i < n → all ≡ size + len_of (runs_from x i n) → next ≡ size + (run_place_at x i).len → all ≡ next + len_of (runs_from x (i + 1) n)
len_next x all size next i n lt same e = omega (arith, ap len_of (from_next x i n lt), sum_by-cons (λ (r : RunPlace). r.len) (run_place_at x i) (runs_from x (i + 1) n))

pub len_end : (x : List ℕ) (all size i n : ℕ) → n ≤ i → all ≡ size + len_of (runs_from x i n) → all ≡ size
len_end x all size i n le same = omega (arith, ap len_of (from_end x i n le))

-- ---- the runs by their numbers

pub run_total : (x : List ℕ) → length (frame_at x).runs ≡ field x 15
unfolding frame_at
run_total x = length-map-range_with_len (run_place_at x) 0 (field x 15)

get_run : (x : List ℕ) (n i j : ℕ) → i < n → slice_get (map (run_place_at x) (range_with_len j n)) i ≡ Some (run_place_at x (j + i))
get_run x zero i j lt = absurd (omega arith)
get_run x (suc n) zero j lt = ap (λ k. Some (run_place_at x k)) (let e : j ≡ j + 0 = omega arith in e)
get_run x (suc n) (suc i) j lt = get_run x n i (j + 1) (omega arith) ∙ ap (λ k. Some (run_place_at x k)) (let e : j + 1 + i ≡ j + suc i = omega arith in e)

pub run_number : (x : List ℕ) (i : ℕ) → i < field x 15 → slice_get (frame_at x).runs i ≡ Some (run_place_at x i)
unfolding frame_at
run_number x i lt = get_run x (field x 15) i 0 lt ∙ ap (λ k. Some (run_place_at x k)) (let e : 0 + i ≡ i = omega arith in e)

-- ---- the run of an address, run by run

pub search_first : (x : List ℕ) (a n : ℕ) → n ≡ field x 15 → run_of (frame_at x).runs a ≡ run_of (runs_from x 0 n) a
search_first x a n e = ap (λ (rs : List RunPlace). run_of rs a) (from_first x n e)

pub search_hits : (x : List ℕ) (a i n : ℕ) (all : Option RunPlace) (r : RunPlace) → i < n → all ≡ run_of (runs_from x i n) a → r ≡ run_place_at x i → within r.lo r.len a ≡ true → Some r ≡ all
search_hits x a i n all r lt same e hits =
    let here : within (run_place_at x i).lo (run_place_at x i).len a ≡ true = ap (λ (q : RunPlace). within q.lo q.len a) (sym e) ∙ hits in
    ap Some e ∙ sym (same ∙ (ap (λ (rs : List RunPlace). run_of rs a) (from_next x i n lt) ∙ ap (λ t. cond t (Some (run_place_at x i)) (run_of (runs_from x (i + 1) n) a)) here))

pub search_misses : (x : List ℕ) (a i n : ℕ) (all : Option RunPlace) (r : RunPlace) → i < n → all ≡ run_of (runs_from x i n) a → r ≡ run_place_at x i → within r.lo r.len a ≡ false → all ≡ run_of (runs_from x (i + 1) n) a
search_misses x a i n all r lt same e misses =
    let here : within (run_place_at x i).lo (run_place_at x i).len a ≡ false = ap (λ (q : RunPlace). within q.lo q.len a) (sym e) ∙ misses in
    same ∙ (ap (λ (rs : List RunPlace). run_of rs a) (from_next x i n lt) ∙ ap (λ t. cond t (Some (run_place_at x i)) (run_of (runs_from x (i + 1) n) a)) here)

pub search_end : (x : List ℕ) (a i n : ℕ) (all : Option RunPlace) → n ≤ i → all ≡ run_of (runs_from x i n) a → None ≡ all
search_end x a i n all le same = sym (same ∙ ap (λ (rs : List RunPlace). run_of rs a) (from_end x i n le))

-- ---- the rules as facts

pub framed : (x : List ℕ) → 0x1000 ≤ length x → 1 ≤ field x 1 → field x 1 ≤ 2 → 1 ≤ field x 2 → field x 2 ≤ 2 → field x 15 ≤ 64 → field x 3 ≤ 268435456 → has_numbers x ≡ true → has_kinds (frame_at x) ≡ true → has_runs (table_at (frame_at x)) 0 (frame_at x).runs ≡ true → IsFramed x
unfolding has_places has_block frame_at
framed x room first last one two few short numbers kinds runs =
    let n3 = and_parts _ _ numbers in
    let n2 = and_parts _ _ n3.0 in
    let n1 = and_parts _ _ n2.0 in
    let places = n1.0 in
    let block = n1.1 in
    let rules = and_parts _ _ n2.1 in
    let p7 = and_parts _ _ places in
    let p6 = and_parts _ _ p7.0 in
    let p5 = and_parts _ _ p6.0 in
    let p4 = and_parts _ _ p5.0 in
    let p3 = and_parts _ _ p4.0 in
    let p2 = and_parts _ _ p3.0 in
    let p1 = and_parts _ _ p2.0 in
    let b2 = and_parts _ _ block in
    let b1 = and_parts _ _ b2.0 in
    record {
      room = room;
      version_low = first;
      version_high = last;
      form_low = one;
      form_high = two;
      few_runs = few;
      short_input = short;
      code = eqb-true _ _ p1.0;
      table = eqb-true _ _ p1.1;
      private_lo = eqb-true _ _ p2.1;
      first_counter = eqb-true _ _ p4.1;
      list = record { fits = leb-true _ _ p5.1; place = eqb-true _ _ p6.1 };
      added = eqb-true _ _ p7.1;
      size = eqb-true _ _ b1.0;
      low = leb-true _ _ b2.1;
      rule = leb-true _ _ rules.0;
      edge_rule = edge_low (edge_rule_in x) rules.1;
      kinds = kinds;
      runs = runs;
    }

-- the run that an address lies in has its part of the table
pub record IsPlaced (t : TableAt) (a : ℕ) (r : RunPlace) : Type 0 where
  pub from : r.lo ≤ a
  pub below : a < r.lo + r.len
  pub part : has_part t r ≡ true

placed_step : (t : TableAt) (a : ℕ) (q r : RunPlace) (rest : Option RunPlace) (b : Bool) → within q.lo q.len a ≡ b → cond b (Some q) rest ≡ Some r
    → has_part t q ≡ true → (rest ≡ Some r → IsPlaced t a r) → IsPlaced t a r
placed_step t a q r rest true w h part later =
    let e : q ≡ r = cc h in
    let p = within_parts q.lo q.len a w in
    subst (λ (s : RunPlace). IsPlaced t a s) e (record { from = p.0; below = p.1; part = part })
placed_step t a q r rest false w h part later = later h

pub placed_run : (t : TableAt) (a from : ℕ) (rs : List RunPlace) (r : RunPlace) → has_runs t from rs ≡ true → run_of rs a ≡ Some r → IsPlaced t a r
unfolding has_runs
placed_run t a from [] r keeps h = absurd (cc h)
placed_run t a from (q ∷ rs) r keeps h =
    let k2 = and_parts _ _ keeps in
    let k1 = and_parts _ _ k2.0 in
    placed_step t a q r (run_of rs a) (within q.lo q.len a) refl h k1.1 (λ later. placed_run t a (q.lo + q.len + 1) rs r k2.1 later)

-- ---- the entry of an address

-- the parts of the table of a run, in each form
pub record IsFlat (t : TableAt) (r : RunPlace) : Type 0 where
  pub low : t.lo ≤ r.dir
  pub high : r.dir + 4 * r.len ≤ t.list

pub flat_part : (t : TableAt) (r : RunPlace) → t.form ≡ 1 → has_part t r ≡ true → IsFlat t r
unfolding has_part
flat_part t r e h =
    let one : eqb t.form 1 ≡ true = eq-eqb t.form 1 e in
    let p = and_parts _ _ (rw one at h) in
    record { low = leb-true _ _ p.0; high = leb-true _ _ p.1 }

pub record IsPaged (t : TableAt) (r : RunPlace) : Type 0 where
  pub low : t.lo ≤ r.dir
  pub high : r.dir + 4 * group_count r.len ≤ t.list
  pub pages : (g : ℕ) → g < group_count r.len → (t.lo ≤ page_named t.bytes t.lo r.dir g) × (page_named t.bytes t.lo r.dir g + 4096 ≤ t.list)

listed : (test : ℕ → Bool) (i n g : ℕ) → list_all test (range_with_len i n) ≡ true → g < n → test (i + g) ≡ true
listed test i zero g h lt = absurd (omega arith)
listed test i (suc n) zero h lt = ap test (let e : i + 0 ≡ i = omega arith in e) ∙ (and_parts _ _ h).0
listed test i (suc n) (suc g) h lt =
    ap test (let e : i + suc g ≡ i + 1 + g = omega arith in e) ∙ listed test (i + 1) n g (and_parts _ _ h).1 (omega arith)

page_there : (t : TableAt) (r : RunPlace) (g : ℕ) → has_pages t r ≡ true → g < group_count r.len → is_in_table t (page_named t.bytes t.lo r.dir g) 4096 ≡ true
unfolding has_pages
page_there t r g h lt =
    let test : ℕ → Bool = λ k. is_in_table t (page_named t.bytes t.lo r.dir k) 4096 in
    ap test (let e : g ≡ 0 + g = omega arith in e) ∙ listed test 0 (group_count r.len) g h lt

pub paged_part : (t : TableAt) (r : RunPlace) → t.form ≢ 1 → has_part t r ≡ true → IsPaged t r
unfolding has_part
paged_part t r e h =
    let no : eqb t.form 1 ≡ false = ne_eqb t.form 1 e in
    let p = and_parts _ _ (rw no at h) in
    let q = and_parts _ _ p.0 in
    record {
      low = leb-true _ _ q.0;
      high = leb-true _ _ q.1;
      pages = λ g lt. let s = and_parts _ _ (page_there t r g p.1 lt) in (leb-true _ _ s.0, leb-true _ _ s.1);
    }

-- the run that an address lies in, of a file that has a frame
pub record IsFound (f : Frame) (a : ℕ) (r : RunPlace) : Type 0 where
  pub placed : IsPlaced (table_at f) a r
  pub run : Some r ≡ run_of f.runs a

pub found_run : (x : List ℕ) (f : Frame) (a : ℕ) (r : RunPlace) → IsFramed x → frame_at x ≡ f → Some r ≡ run_of (frame_at x).runs a → IsFound f a r
found_run x f a r is view h =
    subst (λ (g : Frame). IsFound g a r) view
    (record { placed = placed_run (table_at (frame_at x)) a 0 (frame_at x).runs r is.runs (sym h); run = h })

no_run : (b : Bool) (table : List ℕ) (lo a : ℕ) (r : Option RunPlace) → None ≡ r → 0 ≡ cond b (flat_word table lo a r) (paged_word table lo a r)
no_run true table lo a r h = ap (flat_word table lo a) h
no_run false table lo a r h = ap (paged_word table lo a) h

pub entry_none : (f : Frame) (a : ℕ) → None ≡ run_of f.runs a → 0 ≡ frame_entry f a
unfolding frame_entry
entry_none f a h = no_run (eqb f.form 1) (frame_table f) f.table.lo a (run_of f.runs a) h

pub entry_flat : (f : Frame) (a : ℕ) (r : RunPlace) → f.form ≡ 1 → Some r ≡ run_of f.runs a → frame_entry f a ≡ flat_word (frame_table f) f.table.lo a (Some r)
unfolding frame_entry
entry_flat f a r e h =
    let one : eqb f.form 1 ≡ true = eq-eqb f.form 1 e in
    ap (λ b. cond b (flat_word (frame_table f) f.table.lo a (run_of f.runs a)) (paged_word (frame_table f) f.table.lo a (run_of f.runs a))) one
    ∙ ap (flat_word (frame_table f) f.table.lo a) (sym h)

pub entry_paged : (f : Frame) (a : ℕ) (r : RunPlace) → f.form ≢ 1 → Some r ≡ run_of f.runs a → frame_entry f a ≡ paged_word (frame_table f) f.table.lo a (Some r)
unfolding frame_entry
entry_paged f a r e h =
    let no : eqb f.form 1 ≡ false = ne_eqb f.form 1 e in
    ap (λ b. cond b (flat_word (frame_table f) f.table.lo a (run_of f.runs a)) (paged_word (frame_table f) f.table.lo a (run_of f.runs a))) no
    ∙ ap (paged_word (frame_table f) f.table.lo a) (sym h)

-- ---- the pages of a directory, group by group

abbrev pub page_test : TableAt → RunPlace → ℕ → Bool
page_test t r g = is_in_table t (page_named t.bytes t.lo r.dir g) 4096

-- those from the i-th on of n
unfoldable pub pages_from : TableAt → RunPlace → ℕ → ℕ → Bool
pages_from t r i n = list_all (page_test t r) (range_with_len i (n - i))

pub pages_first : (t : TableAt) (r : RunPlace) (n : ℕ) → n ≡ group_count r.len → has_pages t r ≡ pages_from t r 0 n
unfolding has_pages pages_from
pages_first t r n e = ap (λ k. list_all (page_test t r) (range_with_len 0 k)) (let all : group_count r.len ≡ n - 0 = omega arith in all)

pages_next : (t : TableAt) (r : RunPlace) (i n : ℕ) → i < n → pages_from t r i n ≡ (page_test t r i && pages_from t r (i + 1) n)
unfolding pages_from
pages_next t r i n lt = ap (λ k. list_all (page_test t r) (range_with_len i k)) (let more : n - i ≡ suc (n - (i + 1)) = omega arith in more)

pub page_fails : (t : TableAt) (r : RunPlace) (all : Bool) (i n : ℕ) → i < n → all ≡ pages_from t r i n → page_test t r i ≡ false → false ≡ all
page_fails t r all i n lt same fails = sym (same ∙ (pages_next t r i n lt ∙ ap (λ s. s && pages_from t r (i + 1) n) fails))

pub page_holds : (t : TableAt) (r : RunPlace) (all : Bool) (i n : ℕ) → i < n → all ≡ pages_from t r i n → page_test t r i ≡ true → all ≡ pages_from t r (i + 1) n
page_holds t r all i n lt same holds = same ∙ (pages_next t r i n lt ∙ ap (λ s. s && pages_from t r (i + 1) n) holds)

pub pages_end : (t : TableAt) (r : RunPlace) (all : Bool) (i n : ℕ) → n ≤ i → all ≡ pages_from t r i n → true ≡ all
unfolding pages_from
pages_end t r all i n le same = sym (same ∙ ap (λ k. list_all (page_test t r) (range_with_len i k)) (let none : n - i ≡ 0 = omega arith in none))

-- ---- the kinds of counters, one after the other

abbrev pub kind_test : Frame → ℕ → Bool
kind_test f k = nat_le (kind_at f k) 2

-- those from the i-th on of n
unfoldable pub kinds_from : Frame → ℕ → ℕ → Bool
kinds_from f i n = list_all (kind_test f) (range_with_len i (n - i))

pub kinds_first : (f : Frame) (n : ℕ) → n ≡ f.counters → has_kinds f ≡ kinds_from f 0 n
unfolding has_kinds kinds_from
kinds_first f n e = ap (λ k. list_all (kind_test f) (range_with_len 0 k)) (let all : f.counters ≡ n - 0 = omega arith in all)

kinds_next : (f : Frame) (i n : ℕ) → i < n → kinds_from f i n ≡ (kind_test f i && kinds_from f (i + 1) n)
unfolding kinds_from
kinds_next f i n lt = ap (λ k. list_all (kind_test f) (range_with_len i k)) (let more : n - i ≡ suc (n - (i + 1)) = omega arith in more)

pub kind_fails : (f : Frame) (all : Bool) (i n : ℕ) → i < n → all ≡ kinds_from f i n → kind_test f i ≡ false → false ≡ all
kind_fails f all i n lt same fails = sym (same ∙ (kinds_next f i n lt ∙ ap (λ s. s && kinds_from f (i + 1) n) fails))

pub kind_holds : (f : Frame) (all : Bool) (i n : ℕ) → i < n → all ≡ kinds_from f i n → kind_test f i ≡ true → all ≡ kinds_from f (i + 1) n
kind_holds f all i n lt same holds = same ∙ (kinds_next f i n lt ∙ ap (λ s. s && kinds_from f (i + 1) n) holds)

pub kinds_end : (f : Frame) (all : Bool) (i n : ℕ) → n ≤ i → all ≡ kinds_from f i n → true ≡ all
unfolding kinds_from
kinds_end f all i n le same = sym (same ∙ ap (λ k. list_all (kind_test f) (range_with_len i k)) (let none : n - i ≡ 0 = omega arith in none))

kind_all : (f : Frame) (n i k : ℕ) → list_all (kind_test f) (range_with_len i n) ≡ true → i ≤ k → k < i + n → kind_at f k ≤ 2
kind_all f zero i k h le lt = absurd (omega arith)
kind_all f (suc n) i k h le lt =
    let p = and_parts (kind_test f i) (list_all (kind_test f) (range_with_len (i + 1) n)) h in
    elim (cases_lt i k) [
      | inl below ↦ kind_all f n (i + 1) k p.1 (omega (arith, below)) (omega (arith, lt))
      | inr same ↦ let e : i ≡ k = omega (arith, same, le) in leb-true _ _ (subst (λ m. kind_test f m ≡ true) e p.0)
    ]

pub kind_low : (f : Frame) (k : ℕ) → has_kinds f ≡ true → k < f.counters → kind_at f k ≤ 2
unfolding has_kinds
kind_low f k h lt = kind_all f f.counters 0 k h (omega arith) (omega (arith, lt))

-- ---- what a look-up reads, in each form

pub record ReadsFlat (f : Frame) (t : TableAt) (a : ℕ) (r : RunPlace) : Type 0 where
  pub from : r.lo ≤ a
  pub low : t.lo ≤ r.dir
  pub high : r.dir + 4 * (a - r.lo) + 4 ≤ t.list
  pub entry : frame_entry f a ≡ word_at t.bytes (r.dir - t.lo + 4 * (a - r.lo))

pub reads_flat : (f : Frame) (t : TableAt) (a : ℕ) (r : RunPlace) → IsFound f a r → t ≡ table_at f → t.form ≡ 1 → ReadsFlat f t a r
reads_flat f t a r found is one =
    let form : f.form ≡ 1 = ap (λ (u : TableAt). u.form) (sym is) ∙ one in
    let part = flat_part (table_at f) r form found.placed.part in
    subst (λ (u : TableAt). ReadsFlat f u a r) (sym is) (record {
      from = found.placed.from;
      low = part.low;
      high = omega (arith, part.high, found.placed.from, found.placed.below);
      entry = entry_flat f a r form found.run;
    })

pub record ReadsPage (f : Frame) (t : TableAt) (a : ℕ) (r : RunPlace) : Type 0 where
  pub from : r.lo ≤ a
  pub below : a < r.lo + r.len
  pub low : t.lo ≤ r.dir
  pub high : r.dir + 4 * group_count r.len ≤ t.list
  pub page_low : t.lo ≤ page_at t.bytes t.lo r.dir (a - r.lo)
  pub page_high : page_at t.bytes t.lo r.dir (a - r.lo) + 4096 ≤ t.list
  pub entry : frame_entry f a ≡ word_at t.bytes (page_at t.bytes t.lo r.dir (a - r.lo) - t.lo + 4 * ((a - r.lo) % 1024))

pub reads_page : (f : Frame) (t : TableAt) (a : ℕ) (r : RunPlace) → IsFound f a r → t ≡ table_at f → t.form ≢ 1 → ReadsPage f t a r
reads_page f t a r found is other =
    let form : f.form ≢ 1 = λ e. other (ap (λ (u : TableAt). u.form) is ∙ e) in
    let part = paged_part (table_at f) r form found.placed.part in
    let group : (a - r.lo) / 1024 < group_count r.len = omega (arith, found.placed.from, found.placed.below) in
    let page = part.pages ((a - r.lo) / 1024) group in
    subst (λ (u : TableAt). ReadsPage f u a r) (sym is) (record {
      from = found.placed.from;
      below = found.placed.below;
      low = part.low;
      high = part.high;
      page_low = page.0;
      page_high = page.1;
      entry = entry_paged f a r form found.run;
    })
