-- The frame of an output.
use Rattle.std.proofs.Common.{◌≡◌, ℕ, zero, suc, ◌+◌, ◌*◌, ◌^◌, ◌<◌, ◌≤◌, Bool, true, false, cond, eqb, leb, ltb, ◌&&◌, List, [], ◌∷◌, ◌++◌, length, map, take, ◌-◌, slice_index, Some, refl, sym, ap, ◌∙◌, subst, arith}
use Rattle.std.specs.Prelude.{nat_le, slice_get}
use Rattle.std.specs.List.{flat_map, sum_by, list_all, range_with_len, AllByRecursion}
use Rattle.std.proofs.lemmas.List.Sums.{sum_by-cons}
use Rattle.std.proofs.lemmas.Bool.{le-leb, lt-ltb, and_from}
use Rattle.mv_base.specs.Bytes.{words}
use Rattle.mv_base.specs.Table.{group_count, page_named}
use Rattle.mv_base.specs.declared.range.RunPlace.{RunPlace}
use Rattle.elf32_read.specs.declared.run.Run.{Run}
use Rattle.elf32_read.specs.Runs.{runs_of, AreApart}
use Rattle.elf32_write.specs.declared.plan.Plan.{Plan}
use Rattle.elf32_write.specs.Format.{up, private_len}
use Rattle.elf32_write.specs.File.{pair_words, table_of, file_of}
use Rattle.elf32_write.specs.Frame.{Frame, TableAt, is_in_table, has_pages, has_part, has_rules, has_runs, frame, frame_input, frame_table, counted}
use Rattle.elf32_write.specs.Writing.{EndsLow}
use Rattle.elf32_write.specs.Plans.{frame_of, plan_table, IsPair, KeepsRules, ReadsBack}
use Rattle.elf32_write.specs.ReadBack.{reads_back}
use Rattle.image_layout.specs.Rules.{Rules}
use Rattle.counter_hooks.specs.declared.rules.Rule.TheVariants as rule
use Rattle.counter_hooks.specs.declared.rules.Rule.{Rule}
use Rattle.counter_hooks.specs.Rules.{number_of, picked}
use Rattle.edge_hooks.specs.declared.rules.EdgeRule.{EdgeRule}
use Rattle.edge_hooks.specs.declared.rules.EdgeRule.TheVariants as edges
use Rattle.edge_hooks.specs.Rules as edge
use Rattle.edge_hooks.specs.Rules.{edge_picked}
use Rattle.superset.specs.declared.site.Site.{Site}
use Rattle.map_table.specs.Paged.{places_from, IsPaged}
use Rattle.map_table.specs.laws.Reading.{Laws, made_laws}
use Rattle.image_layout.specs.Layout.{plan}
use Rattle.image_layout.specs.laws.SiteFacts.{run_len}
use Rattle.image_layout.specs.laws.LayFacts.{AreLaid}
use Rattle.image_layout.specs.Pieces.{kinds_at, listed}
use Rattle.mv_rewrite.proofs.LayoutFacts.{site_low}
use Rattle.mv_rewrite.specs.Sites.{sites}
use Rattle.mv_rewrite.specs.Layout.{chains, listed_at, code_len, table_len, table_from, private_from, pairs_at, runs_at, plan_at}
use Rattle.mv_rewrite.proofs.Planned.{count, private_size, words_len, length-code, length-table, length-table_of, length-counted, size_is, IsInput, room, made_at, fits}
use Rattle.image_layout.specs.laws.Fitting.{writable}
use Rattle.mv_rewrite.proofs.Longer.{page_front}

-- ---- the frame that the record spells

abbrev pub frame_is : List ℕ → Rules → ℕ → Frame
frame_is b rules base = record {
  version = 2;
  form = 2;
  input_len = length b;
  added = record { lo = base; len = up (code_len b rules) + up (table_len b rules) + up (private_size b rules) };
  code = record { lo = base; len = code_len b rules };
  table = record { lo = base + up (code_len b rules); len = table_len b rules };
  private = private_from b rules base;
  private_size = 64;
  first_counter = base + up (code_len b rules) + up (table_len b rules) + 64;
  counters = count b rules;
  list = base + up (code_len b rules) + words_len b;
  rule = number_of rules.all;
  edge_rule = edge.number_of rules.ways;
  runs = runs_at b rules base;
  file = file_of b (plan_at b rules base);
}

-- a test passes all numbers of a range
all_in : (test : ℕ → Bool) (from n : ℕ) → ((g : ℕ) → from ≤ g → g < from + n → test g ≡ true) → list_all test (range_with_len from n) ≡ true
all_in test from zero passes = refl
all_in test from (suc n) passes =
    and_from (test from) (list_all test (range_with_len (from + 1) n)) (passes from (omega arith) (omega arith)) (all_in test (from + 1) n (λ g low high. passes g (omega arith) (omega arith)))

runs_keep : (t : TableAt) (xs ys : List ℕ) (from dir : ℕ) (rs : List Run) → t.form ≡ 2 → t.bytes ≡ xs ++ ys → AreApart from rs → t.lo + length xs ≤ t.list → AllByRecursion (IsPaged xs t.lo) (places_from dir rs) → has_runs t from (places_from dir rs) ≡ true
unfolding has_runs has_part has_pages places_from
runs_keep t xs ys from dir [] paged split apart end all = refl
runs_keep t xs ys from dir (r ∷ rs) paged split apart end all =
    let place : RunPlace = record { lo = r.lo; len = length r.bytes; dir = dir } in
    let count = group_count (length r.bytes) in
    let one = all.0 in
    let c0 : leb from r.lo ≡ true = le-leb from r.lo apart.0 in
    let c1 : ltb 0 (length r.bytes) ≡ true = lt-ltb 0 (length r.bytes) apart.1 in
    let c2 : leb (r.lo + length r.bytes) 0xFFFFF000 ≡ true = le-leb (r.lo + length r.bytes) 0xFFFFF000 apart.2 in
    let directory : is_in_table t dir (4 * count) ≡ true =
    and_from _ _ (le-leb t.lo dir one.low) (le-leb (dir + 4 * count) t.list (omega (arith, one.high, end))) in
    let page : (g : ℕ) → 0 ≤ g → g < 0 + count → is_in_table t (page_named t.bytes t.lo dir g) 4096 ≡ true =
    λ g low lt.
    let below : g < count = omega arith in
    let named : page_named t.bytes t.lo dir g ≡ page_named xs t.lo dir g = ap (λ (l : List ℕ). page_named l t.lo dir g) split ∙ page_front xs ys t.lo place one g below in
    and_from _ _ (le-leb t.lo (page_named t.bytes t.lo dir g) (omega (arith, named, one.page_low g below)))
    (le-leb (page_named t.bytes t.lo dir g + 4096) t.list (omega (arith, named, one.page_high g below, end))) in
    let pages : has_pages t place ≡ true = all_in (λ g. is_in_table t (page_named t.bytes t.lo dir g) 4096) 0 count page in
    let part : has_part t place ≡ true =
    ap (λ n. cond (eqb n 1) (is_in_table t dir (4 * length r.bytes)) (is_in_table t dir (4 * count) && has_pages t place)) paged ∙ and_from _ _ directory pages in
    and_from _ _ (and_from _ _ (and_from _ _ (and_from _ _ c0 c1) c2) part)
    (runs_keep t xs ys (r.lo + length r.bytes + 1) (dir + 4 * count) rs paged split apart.3 end all.1)

abbrev place_len : RunPlace → ℕ
place_len r = r.len

places_sum : (dir : ℕ) (rs : List Run) → sum_by place_len (places_from dir rs) ≡ sum_by run_len rs
unfolding places_from
places_sum dir [] = refl
places_sum dir (r ∷ rs) =
    let place : RunPlace = record { lo = r.lo; len = length r.bytes; dir = dir } in
    let next = dir + 4 * group_count (length r.bytes) in
    sum_by-cons place_len place (places_from next rs) ∙ (ap (λ n. length r.bytes + n) (places_sum next rs) ∙ sym (sum_by-cons run_len r rs))

abbrev frame_by : List ℕ → Rules → ℕ → ℕ → ℕ → ℕ → ℕ → Frame
frame_by b rules base n c t u = record {
  version = 2;
  form = 2;
  input_len = length b;
  added = record { lo = base; len = up c + up t + up (private_len n) };
  code = record { lo = base; len = c };
  table = record { lo = base + up c; len = t };
  private = base + up c + up t;
  private_size = 64;
  first_counter = base + up c + up t + 64;
  counters = n;
  list = base + up c + u;
  rule = number_of rules.all;
  edge_rule = edge.number_of rules.ways;
  runs = runs_at b rules base;
  file = file_of b (plan_at b rules base);
}

same_frame : (b : List ℕ) (rules : Rules) (base : ℕ) → AreLaid (runs_of b) (sites b) (chains b) → frame_of b (plan_at b rules base) ≡ frame_is b rules base
unfolding frame_of plan
same_frame b rules base laid =
    let p = plan_at b rules base in
    ap (λ n. frame_by b rules base n (length p.code) (length (table_of p)) (length p.table)) (length-counted b rules base)
    ∙ (ap (λ c. frame_by b rules base (count b rules) c (length (table_of p)) (length p.table)) (length-code b rules base laid)
    ∙ (ap (λ t. frame_by b rules base (count b rules) (code_len b rules) t (length p.table)) (length-table_of b rules base)
    ∙ ap (λ u. frame_by b rules base (count b rules) (code_len b rules) (table_len b rules) u) (length-table b rules base)))

-- the counters of sites are pairs of a list
kinds_fit : (a : ℕ) (all ways : Bool) (qs : List (ℕ × ℕ)) → a < 2 ^ 32 → AllByRecursion IsPair qs → AllByRecursion IsPair (kinds_at a all ways ++ qs)
kinds_fit a true true qs lt rest = ((lt, omega arith), ((lt, omega arith), ((lt, omega arith), rest)))
kinds_fit a true false qs lt rest = ((lt, omega arith), rest)
kinds_fit a false true qs lt rest = ((lt, omega arith), ((lt, omega arith), rest))
kinds_fit a false false qs lt rest = rest

listed_fit : (rules : Rules) (ss : List Site) → ((k : ℕ) (s : Site) → slice_get ss k ≡ Some s → s.at < 2 ^ 32) → AllByRecursion IsPair (listed rules ss)
listed_fit rules [] low = tt
listed_fit rules (s ∷ ss) low =
    kinds_fit s.at (picked rules.all s) (edge_picked rules.ways s) (listed rules ss) (low 0 s refl) (listed_fit rules ss (λ k q e. low (suc k) q e))

-- the numbers of rules are those of a record
rule_fits : (r : Rule) → nat_le (number_of r) 6 ≡ true
rule_fits rule.None = refl
rule_fits rule.All = refl
rule_fits rule.Calls = refl
rule_fits rule.Returns = refl
rule_fits rule.Branches = refl
rule_fits rule.System = refl
rule_fits (rule.At xs) = refl

edges_fit : (r : Rule) (q : EdgeRule) → has_rules (number_of r) (edge.number_of q) ≡ true
edges_fit r edges.None = and_from (nat_le (number_of r) 6) true (rule_fits r) refl
edges_fit r edges.All = and_from (nat_le (number_of r) 6) true (rule_fits r) refl
edges_fit r (edges.At xs) = and_from (nat_le (number_of r) 6) true (rule_fits r) refl

module _ (b : List ℕ) (rules : Rules) (base : ℕ) (is : IsInput b rules base) where
  abbrev p : Plan
  p = plan_at b rules base

  lengths : (up (length p.code) ≡ up (code_len b rules)) × (length (table_of p) ≡ table_len b rules) × (length p.table ≡ words_len b)
  lengths = (ap up (length-code b rules base is.laid), length-table_of b rules base, length-table b rules base)

  -- what the table reads as
  laws : Laws (record { runs = runs_of b; pairs = pairs_at b rules base; lo = table_from b rules base }) (plan_at b rules base).table
  unfolding plan
  laws = made_laws (record { runs = runs_of b; pairs = pairs_at b rules base; lo = table_from b rules base }) (made_at b rules base is)

  low_there : table_from b rules base ≡ (plan_table (plan_at b rules base)).lo
  unfolding plan
  low_there = ap (λ n. base + n) (sym lengths.0)

  paged : AllByRecursion (IsPaged (plan_at b rules base).table (plan_table (plan_at b rules base)).lo) (runs_at b rules base)
  paged = subst (λ (n : ℕ). AllByRecursion (IsPaged (plan_at b rules base).table n) (runs_at b rules base)) low_there laws.inside_are

  keeps : KeepsRules (plan_at b rules base)
  unfolding plan
  keeps =
      let t : TableAt = plan_table (plan_at b rules base) in
      let end : t.lo + length p.table ≤ t.list = omega (arith, lengths.0, lengths.2) in
      record {
        at = omega (arith, (room b rules base is).at);
        size = le-leb (sum_by place_len (runs_at b rules base)) 16777216 (omega (arith, places_sum (table_from b rules base + 4096) (runs_of b), is.laid.runs.small));
        counted = listed_fit rules (sites b) (site_low b is.laid);
        rules = edges_fit rules.all rules.ways;
        runs = runs_keep t p.table (words (flat_map pair_words p.counted)) 0 (table_from b rules base + 4096) (runs_of b) refl refl is.laid.runs.apart end paged;
      }

  ends : EndsLow (plan_at b rules base)
  unfolding plan
  ends = omega (arith, (room b rules base is).low, size_is b rules base, lengths.0, lengths.1, length-counted b rules base)

  read : ReadsBack b (plan_at b rules base) (file_of b (plan_at b rules base))
  read =
      let can = writable b (plan_at b rules base) (fits b rules base is) in
      reads_back b (plan_at b rules base) (record { ident = can.ident; few_headers = can.few_headers; few_runs = can.few_runs }) is.small ends keeps

  pub framed : frame (file_of b (plan_at b rules base)) ≡ Some (frame_is b rules base)
  framed = read.frame_is ∙ ap Some (same_frame b rules base is.laid)

  pub table_there : frame_table (frame_is b rules base) ≡ table_of (plan_at b rules base)
  table_there = ap frame_table (sym (same_frame b rules base is.laid)) ∙ read.table_is

  -- the table without the list is the plan's
  pub words_there : take ((frame_is b rules base).list - (frame_is b rules base).table.lo) (frame_table (frame_is b rules base)) ≡ (plan_at b rules base).table
  words_there = ap (λ f. take (f.list - f.table.lo) (frame_table f)) (sym (same_frame b rules base is.laid)) ∙ read.words_are

  -- the counters are the plan's
  pub counted_there : counted (frame_is b rules base) ≡ listed_at b rules
  unfolding plan
  counted_there = ap counted (sym (same_frame b rules base is.laid)) ∙ read.counted_are

  -- and the input is the file's
  pub input_there : frame_input (frame_is b rules base) ≡ b
  input_there = ap frame_input (sym (same_frame b rules base is.laid)) ∙ read.input_is
