-- What is read from the file of a plan is the plan.
use Rattle.std.proofs.Common.{lit<, nat_le, ◌≡◌, ℕ, ◌+◌, ◌-◌, ◌*◌, ◌%◌, ◌^◌, ◌<◌, ◌≤◌, Bool, true, false, cond, eqb, leb, ltb, ◌&&◌, ◌||◌, List, [], ◌∷◌, ◌++◌, length, get_or, take, drop, map, Some, None, refl, ap, ◌∙◌, subst, arith}
use mathlib.Core.Path.{fun_ext}
use Rattle.std.specs.List.{flat_map, range_with_len, list_all, AllByRecursion}
use Rattle.std.proofs.lemmas.List.{length-append, length-take, length-drop, get_or-take, get_or-drop, ext_get_or}
use Rattle.std.proofs.lemmas.Bool.{eq-eqb, le-leb, and_from, and_parts, leb-true}
use Rattle.std.proofs.Math.Seq.{take-append_seam}
use Rattle.mv_base.specs.Bytes.{word_at, words}
use Rattle.mv_base.specs.Words.{length-words, words-append}
use Rattle.mv_base.specs.Table.{group_count}
use Rattle.mv_base.specs.declared.range.RunPlace.{RunPlace}
use Rattle.elf32_write.specs.declared.plan.Plan.{Plan}
use Rattle.elf32_write.specs.Format.{up, private_len}
use Rattle.elf32_write.specs.File.{head_len, code_place, frame_version, paged_form, table_of, table_lo, private_lo, list_lo, added_len, record_words, pair_words, place_words, frame_magic, file_of}
use Rattle.elf32_write.specs.Frame.{Frame, TableAt, table_at, field, fixed_words, run_place_from, run_place_at, has_version, most_input, frame_at, rule_in, edge_rule_in, has_record, has_places, has_block, has_kinds, has_rules, has_size, has_pages, has_part, has_runs, is_in_table, is_run, keeps_rules, counted, frame, frame_table}
use Rattle.elf32_write.specs.Writing.{record_front, EndsLow}
use Rattle.elf32_write.specs.Plans.{frame_of, plan_table, IsPair, KeepsRules, ReadsBack}
use Rattle.elf32_write.specs.Rules.{edge_low}
use Rattle.elf32_write.specs.Parts.{Stands, stands_first, stands_second, stands_whole, word_in}
use Rattle.elf32_write.specs.Written.{HasRoom, IsStored, stored, table_length}

-- the part that stands at a place is what is taken from there
pub taken : (x part : List ℕ) (p n : ℕ) → length part ≡ n → Stands x p part → take n (drop p x) ≡ part
taken x part p n len s =
    ext_get_or 0 (take n (drop p x)) part (omega (arith, length-take n (drop p x), length-drop p x, s.room, len))
    (λ i lt.
    let below : i < n = omega (arith, lt, length-take n (drop p x)) in
    get_or-take n (drop p x) i 0 below ∙ (get_or-drop p x i 0 ∙ s.byte i (omega (arith, below, len))))

-- ---- runs in a record

abbrev IsPlace : RunPlace → Type 0
IsPlace r = (r.lo < 2 ^ 32) × (r.len < 2 ^ 32) × (r.dir < 2 ^ 32)

abbrev place_in : List ℕ → ℕ → RunPlace
place_in x p = record { lo = word_at x p; len = word_at x (p + 4); dir = word_at x (p + 8) }

place_read : (x : List ℕ) (r : RunPlace) (p : ℕ) → Stands x p (words (place_words r)) → IsPlace r → place_in x p ≡ r
place_read x r p s is =
    let e0 : word_at x p ≡ r.lo = ap (word_at x) (let e : p ≡ p + 4 * 0 = omega arith in e) ∙ word_in x (place_words r) p 0 s (omega arith) is.0 in
    let e1 = word_in x (place_words r) p 1 s (omega arith) is.1 in
    let e2 = word_in x (place_words r) p 2 s (omega arith) is.2 in
    λ i. record { lo = e0 i; len = e1 i; dir = e2 i }

places_read : (x : List ℕ) (rs : List RunPlace) (p j : ℕ) → Stands x (p + 12 * j) (words (flat_map place_words rs)) → AllByRecursion IsPlace rs → map (λ i. place_in x (p + 12 * i)) (range_with_len j (length rs)) ≡ rs
places_read x [] p j s are = refl
places_read x (r ∷ rs) p j s are =
    let ws = place_words r in
    let s' = subst (Stands x (p + 12 * j)) (words-append ws (flat_map place_words rs)) s in
    let one = place_read x r (p + 12 * j) (stands_first x (words ws) (words (flat_map place_words rs)) (p + 12 * j) s') are.0 in
    let next : p + 12 * j + 12 ≡ p + 12 * (j + 1) = omega arith in
    let rest = places_read x rs p (j + 1) (subst (λ n. Stands x n (words (flat_map place_words rs))) next (stands_second x (words ws) (words (flat_map place_words rs)) (p + 12 * j) 12 (length-words ws) s')) are.1 in
    λ i. one i ∷ rest i

-- ---- counters in a list

abbrev pair_in : List ℕ → ℕ → ℕ → ℕ × ℕ
pair_in x p i = (word_at x (p + 8 * i), word_at x (p + (8 * i + 4)))

record IsRead (x : List ℕ) (q : ℕ × ℕ) (p i : ℕ) : Type 0 where
  address : word_at x (p + 8 * i) ≡ q.0
  kind : word_at x (p + (8 * i + 4)) ≡ q.1

pair_read : (x : List ℕ) (q : ℕ × ℕ) (p i : ℕ) → Stands x (p + 8 * i) (words (pair_words q)) → IsPair q → IsRead x q p i
pair_read x q p i s is = record {
  address = ap (word_at x) (let e : p + 8 * i ≡ p + 8 * i + 4 * 0 = omega arith in e) ∙ word_in x (pair_words q) (p + 8 * i) 0 s (omega arith) is.0;
  kind = ap (word_at x) (let e : p + (8 * i + 4) ≡ p + 8 * i + 4 * 1 = omega arith in e) ∙ word_in x (pair_words q) (p + 8 * i) 1 s (omega arith) (omega (arith, is.1));
}

record AreRead (x : List ℕ) (qs : List (ℕ × ℕ)) (p j : ℕ) : Type 0 where
  same : map (pair_in x p) (range_with_len j (length qs)) ≡ qs
  kinds : list_all (λ k. nat_le (word_at x (p + (8 * k + 4))) 2) (range_with_len j (length qs)) ≡ true

pairs_read : (x : List ℕ) (qs : List (ℕ × ℕ)) (p j : ℕ) → Stands x (p + 8 * j) (words (flat_map pair_words qs)) → AllByRecursion IsPair qs → AreRead x qs p j
pairs_read x [] p j s are = record { same = refl; kinds = refl }
pairs_read x (q ∷ qs) p j s are =
    let ws = pair_words q in
    let s' = subst (Stands x (p + 8 * j)) (words-append ws (flat_map pair_words qs)) s in
    let one = pair_read x q p j (stands_first x (words ws) (words (flat_map pair_words qs)) (p + 8 * j) s') are.0 in
    let next : p + 8 * j + 8 ≡ p + 8 * (j + 1) = omega arith in
    let rest = pairs_read x qs p (j + 1) (subst (λ n. Stands x n (words (flat_map pair_words qs))) next (stands_second x (words ws) (words (flat_map pair_words qs)) (p + 8 * j) 8 (length-words ws) s')) are.1 in
    record {
      same = λ i. (one.address i, one.kind i) ∷ rest.same i;
      kinds = and_from _ _ (le-leb _ 2 (omega (arith, one.kind, are.0.1))) rest.kinds;
    }

-- the directories of runs that keep the rules lie below the list
dir_by : (b : Bool) (t : TableAt) (r : RunPlace) → cond b (is_in_table t r.dir (4 * r.len)) (is_in_table t r.dir (4 * group_count r.len) && has_pages t r) ≡ true → r.dir ≤ t.list
dir_by true t r h =
    let end : r.dir + 4 * r.len ≤ t.list = leb-true (r.dir + 4 * r.len) t.list (and_parts (leb t.lo r.dir) (leb (r.dir + 4 * r.len) t.list) h).1 in
    omega (arith, end)
dir_by false t r h =
    let part = (and_parts (is_in_table t r.dir (4 * group_count r.len)) (has_pages t r) h).0 in
    let end : r.dir + 4 * group_count r.len ≤ t.list =
    leb-true (r.dir + 4 * group_count r.len) t.list (and_parts (leb t.lo r.dir) (leb (r.dir + 4 * group_count r.len) t.list) part).1 in
    omega (arith, end)

dir_low : (t : TableAt) (r : RunPlace) → has_part t r ≡ true → r.dir ≤ t.list
unfolding has_part
dir_low t r h = dir_by (eqb t.form 1) t r h

places_fit : (t : TableAt) (from : ℕ) (rs : List RunPlace) → has_runs t from rs ≡ true → t.list < 2 ^ 32 → AllByRecursion IsPlace rs
unfolding has_runs
places_fit t from [] keeps low = tt
places_fit t from (r ∷ rs) keeps low =
    let k3 = and_parts (is_run from r && has_part t r) (has_runs t (r.lo + r.len + 1) rs) keeps in
    let k2 = and_parts (is_run from r) (has_part t r) k3.0 in
    let k1 = and_parts (leb from r.lo && ltb 0 r.len) (leb (r.lo + r.len) 0xFFFFF000) k2.0 in
    let end : r.lo + r.len ≤ 0xFFFFF000 = leb-true (r.lo + r.len) 0xFFFFF000 k1.1 in
    let dir : r.dir ≤ t.list = dir_low t r k2.1 in
    ((omega (arith, end), omega (arith, end), omega (arith, dir, low)), places_fit t (r.lo + r.len + 1) rs k3.1 low)

-- ---- the frame

module _ (b : List ℕ) (p : Plan) (room : HasRoom b p) (small : length b ≤ 268435456) (low : EndsLow p) (keeps : KeepsRules p) where
  abbrev x : List ℕ
  x = file_of b p

  there : IsStored b p (file_of b p)
  there = stored b p room

  halves : Stands x 0x900 (words (record_front (length b) p) ++ words (flat_map place_words p.runs))
  unfolding record_words
  halves = subst (Stands x 0x900) (words-append (record_front (length b) p) (flat_map place_words p.runs)) there.record_stands

  fixed_stands : Stands x 0x900 (words (record_front (length b) p))
  fixed_stands = stands_first x (words (record_front (length b) p)) (words (flat_map place_words p.runs)) 0x900 halves

  places_stand : Stands x (0x900 + 72) (words (flat_map place_words p.runs))
  places_stand = stands_second x (words (record_front (length b) p)) (words (flat_map place_words p.runs)) 0x900 72 (length-words (record_front (length b) p)) halves

  field_is : (k : ℕ) → k < 18 → get_or (record_front (length b) p) k 0 < 2 ^ 32 → field x k ≡ get_or (record_front (length b) p) k 0
  field_is k lt fits = word_in x (record_front (length b) p) 0x900 k fixed_stands (omega (arith, lt)) fits

  below : p.base + up (length p.code) + up (length (table_of p)) + up (private_len (length p.counted)) < 2 ^ 32
  below = omega (arith, low)

  table_len_is : length (table_of p) ≡ length p.table + 8 * length p.counted
  table_len_is = table_length p

  rules : (p.rule ≤ 6) × (p.edge_rule ≤ 6)
  rules = let h = and_parts _ _ keeps.rules in (leb-true _ _ h.0, edge_low p.edge_rule h.1)

  f0 : field x 0 ≡ frame_magic
  f0 = field_is 0 (omega arith) (lit< tt)

  f1 : field x 1 ≡ 2
  f1 = field_is 1 (omega arith) (lit< tt)

  f2 : field x 2 ≡ 2
  f2 = field_is 2 (omega arith) (lit< tt)

  f3 : field x 3 ≡ length b
  f3 = field_is 3 (omega arith) (omega (arith, small))

  f15 : field x 15 ≡ length p.runs
  f15 = field_is 15 (omega arith) (omega (arith, room.few_runs))

  run_place_is : (i : ℕ) → run_place_at x i ≡ place_in x (0x900 + 72 + 12 * i)
  run_place_is i =
      let e0 : 0x900 + 4 * (18 + 3 * i) ≡ 0x900 + 72 + 12 * i = omega arith in
      let e1 : 0x900 + 4 * (18 + 3 * i + 1) ≡ 0x900 + 72 + 12 * i + 4 = omega arith in
      let e2 : 0x900 + 4 * (18 + 3 * i + 2) ≡ 0x900 + 72 + 12 * i + 8 = omega arith in
      ap (λ v. run_place_from x (fixed_words v + 3 * i)) f1
      ∙ (λ j. record { lo = word_at x (e0 j); len = word_at x (e1 j); dir = word_at x (e2 j) })

  rule_is : rule_in x ≡ p.rule
  rule_is = ap (λ v. cond (eqb v 1) 6 (field x 16)) f1 ∙ field_is 16 (omega arith) (omega (arith, rules.0))

  edge_rule_is : edge_rule_in x ≡ p.edge_rule
  edge_rule_is = ap (λ v. cond (eqb v 1) 0 (field x 17)) f1 ∙ field_is 17 (omega arith) (omega (arith, rules.1))

  list_fits : list_lo p < 2 ^ 32
  list_fits = omega (arith, below, table_len_is)

  runs_read : map (run_place_at x) (range_with_len 0 (field x 15)) ≡ p.runs
  runs_read =
      ap (λ n. map (run_place_at x) (range_with_len 0 n)) f15
      ∙ (ap (λ g. map g (range_with_len 0 (length p.runs))) (fun_ext run_place_is)
      ∙ places_read x p.runs (0x900 + 72) 0 places_stand (places_fit (plan_table p) 0 p.runs keeps.runs list_fits))

  frame_read : frame_at x ≡ frame_of b p
  unfolding frame_at frame_of
  frame_read =
      let f4 = field_is 4 (omega arith) (omega (arith, below)) in
      let f5 = field_is 5 (omega arith) (omega (arith, below)) in
      let f6 = field_is 6 (omega arith) (omega (arith, below)) in
      let f7 = field_is 7 (omega arith) (omega (arith, below)) in
      let f8 = field_is 8 (omega arith) (omega (arith, below)) in
      let f9 = field_is 9 (omega arith) (omega (arith, below)) in
      let f10 = field_is 10 (omega arith) (omega (arith, below)) in
      let f11 = field_is 11 (omega arith) (lit< tt) in
      let f12 = field_is 12 (omega arith) (omega (arith, below)) in
      let f13 = field_is 13 (omega arith) (omega (arith, below)) in
      let f14 = field_is 14 (omega arith) list_fits in
      λ i. record {
        version = f1 i;
        form = f2 i;
        input_len = f3 i;
        added = record { lo = f4 i; len = f5 i };
        code = record { lo = f6 i; len = f7 i };
        table = record { lo = f8 i; len = f9 i };
        private = f10 i;
        private_size = f11 i;
        first_counter = f12 i;
        counters = f13 i;
        list = f14 i;
        rule = rule_is i;
        edge_rule = edge_rule_is i;
        runs = runs_read i;
        file = file_of b p;
      }

  record_there : has_record x ≡ true
  unfolding has_record
  record_there =
      let long : leb head_len (length x) ≡ true = le-leb head_len (length x) (omega (arith, there.length_is)) in
      let e0 = eq-eqb (field x 0) frame_magic f0 in
      let e1 : has_version (field x 1) (field x 2) ≡ true = ap (λ n. has_version n (field x 2)) f1 ∙ ap (has_version 2) f2 in
      let e15 : leb (field x 15) 64 ≡ true = le-leb (field x 15) 64 (omega (arith, f15, room.few_runs)) in
      let e3 : leb (field x 3) (most_input (field x 1)) ≡ true =
      ap (λ v. leb (field x 3) (most_input v)) f1 ∙ le-leb (field x 3) 268435456 (omega (arith, f3, small)) in
      and_from _ _ (and_from _ _ (and_from _ _ (and_from _ _ long e0) e1) e15) e3

  places_there : has_places (frame_of b p) ≡ true
  unfolding has_places frame_of
  places_there =
      let c0 : eqb p.base p.base ≡ true = eq-eqb p.base p.base refl in
      let c1 : eqb (table_lo p) (table_lo p) ≡ true = eq-eqb _ _ refl in
      let c2 : eqb (private_lo p) (private_lo p) ≡ true = eq-eqb _ _ refl in
      let c4 : eqb (private_lo p + 64) (private_lo p + 64) ≡ true = eq-eqb _ _ refl in
      let c5 : leb (8 * length p.counted) (length (table_of p)) ≡ true = le-leb _ _ (omega (arith, table_len_is)) in
      let c6 : eqb (list_lo p) (table_lo p + (length (table_of p) - 8 * length p.counted)) ≡ true = eq-eqb _ _ (omega (arith, table_len_is)) in
      let c7 : eqb (added_len p) (added_len p) ≡ true = eq-eqb _ _ refl in
      and_from _ _ (and_from _ _ (and_from _ _ (and_from _ _ (and_from _ _ (and_from _ _ (and_from _ _ c0 c1) c2) refl) c4) c5) c6) c7

  block_there : has_block (frame_of b p) ≡ true
  unfolding has_block frame_of
  block_there =
      let c0 : eqb (length x) (code_place (length b) + up (length p.code) + up (length (table_of p))) ≡ true = eq-eqb _ _ there.length_is in
      let c1 : eqb (p.base % 4096) 0 ≡ true = eq-eqb _ _ keeps.at in
      let c2 : leb (p.base + added_len p) 0xB0000000 ≡ true = le-leb _ _ low in
      and_from _ _ (and_from _ _ c0 c1) c2

  pub table_there : frame_table (frame_of b p) ≡ table_of p
  unfolding frame_table frame_of
  table_there = taken x (table_of p) (code_place (length b) + up (length p.code)) (length (table_of p)) refl there.table_stands

  words_stand : Stands (table_of p) (length p.table) (words (flat_map pair_words p.counted))
  words_stand =
      subst (λ n. Stands (table_of p) n (words (flat_map pair_words p.counted))) (let e : 0 + length p.table ≡ length p.table = omega arith in e)
      (stands_second (table_of p) p.table (words (flat_map pair_words p.counted)) 0 (length p.table) refl (stands_whole (table_of p)))

  list_read : AreRead (table_of p) p.counted (length p.table) 0
  list_read =
      pairs_read (table_of p) p.counted (length p.table) 0
      (subst (λ n. Stands (table_of p) n (words (flat_map pair_words p.counted))) (let e : length p.table ≡ length p.table + 8 * 0 = omega arith in e) words_stand) keeps.counted

  -- where the list begins in the table
  behind : table_lo p + length p.table - table_lo p ≡ length p.table
  behind = omega arith

  counted_there : counted (frame_of b p) ≡ p.counted
  unfolding frame_of
  counted_there =
      ap (λ (t : List ℕ). map (pair_in t (table_lo p + length p.table - table_lo p)) (range_with_len 0 (length p.counted))) table_there
      ∙ (ap (λ n. map (pair_in (table_of p) n) (range_with_len 0 (length p.counted))) behind ∙ list_read.same)

  kinds_there : has_kinds (frame_of b p) ≡ true
  unfolding has_kinds frame_of
  kinds_there =
      ap (λ (t : List ℕ). list_all (λ k. nat_le (word_at t (table_lo p + length p.table - table_lo p + (8 * k + 4))) 2) (range_with_len 0 (length p.counted))) table_there
      ∙ (ap (λ n. list_all (λ k. nat_le (word_at (table_of p) (n + (8 * k + 4))) 2) (range_with_len 0 (length p.counted))) behind ∙ list_read.kinds)

  runs_there : has_runs (table_at (frame_of b p)) 0 p.runs ≡ true
  unfolding frame_of
  runs_there =
      ap (λ (t : List ℕ). has_runs (record { form = paged_form; bytes = t; lo = table_lo p; list = list_lo p }) 0 p.runs) table_there ∙ keeps.runs

  rules_kept : keeps_rules x ≡ true
  unfolding frame_of
  rules_kept =
      let read : (P : Frame → Bool) → P (frame_of b p) ≡ true → P (frame_at x) ≡ true = λ P h. ap P frame_read ∙ h in
      let rules : has_rules (rule_in x) (edge_rule_in x) ≡ true = ap (λ n. has_rules n (edge_rule_in x)) rule_is ∙ (ap (has_rules p.rule) edge_rule_is ∙ keeps.rules) in
      let size : has_size (field x 1) (frame_at x).runs ≡ true = ap (λ v. has_size v (frame_at x).runs) f1 ∙ read (λ f. has_size 2 f.runs) keeps.size in
      let numbers = and_from _ _ (and_from _ _ (and_from _ _ (read has_places places_there) (read has_block block_there)) rules) size in
      and_from _ _ (and_from _ _ numbers (read has_kinds kinds_there)) (read (λ f. has_runs (table_at f) 0 f.runs) runs_there)

  framed : frame x ≡ Some (frame_of b p)
  unfolding frame
  framed =
      ap (λ f. cond (has_record x && keeps_rules x) (Some f) None) frame_read
      ∙ ap (λ t. cond t (Some (frame_of b p)) None) (and_from (has_record x) (keeps_rules x) record_there rules_kept)

  pub reads_back : ReadsBack b p (file_of b p)
  unfolding frame_of
  reads_back = record {
    frame_is = framed;
    input_is = taken x b 0x1000 (length b) refl there.input_stands;
    code_is = taken x p.code (code_place (length b)) (length p.code) refl there.code_stands;
    table_is = table_there;
    words_are = ap (λ (t : List ℕ). take (table_lo p + length p.table - table_lo p) t) table_there
        ∙ (ap (λ n. take n (table_of p)) behind ∙ take-append_seam p.table (words (flat_map pair_words p.counted)));
    counted_are = counted_there;
  }
