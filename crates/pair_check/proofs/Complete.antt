-- In the output of an input by rules nothing differs.
use Rattle.std.proofs.Common.{◌≡◌, ℕ, zero, suc, ◌+◌, ◌-◌, ◌*◌, ◌/◌, ◌<◌, ◌≤◌, inl, inr, Bool, true, false, ◌==◌, ◌&&◌, max, List, [], ◌∷◌, ◌++◌, length, drop, Option, Some, None, nat_le, nat_lt, if◌then◌else◌, refl, sym, ap, ◌∙◌, subst, arith, length-append, ◌⊎◌, get_or}
use Rattle.std.specs.Prelude.{slice_index, slice_get, is_some, not}
use Rattle.std.specs.List.{list_all, filter_map, cons_option}
use Rattle.std.specs.Option.{option_or, option_map}
use Rattle.std.proofs.lemmas.Bool.{and_parts, and_from, leb-true, ltb-true, le-leb, le-ltb, eq-eqb, ne_eqb, true≢false, cases_lt}
use Rattle.std.proofs.lemmas.List.{length-drop, get_or-drop, get_or_append_left, get_or-append-add}
use Rattle.std.proofs.lemmas.Option.{none-some, same_Some}
use Rattle.mv_base.specs.Memory.{within, exec_byte, exec_byte_of, exec_bytes, is_writable}
use Rattle.mv_base.specs.Table.{group_count}
use Rattle.x86_insn.specs.Flow.{flow_of, falls}
use Rattle.step_laws.specs.Jumps.{jump_bytes}
use Rattle.elf32_read.specs.declared.image.Segment.{Segment}
use Rattle.elf32_read.specs.declared.run.Run.{Run}
use Rattle.elf32_read.specs.Fields.{entry_at, segments}
use Rattle.elf32_read.specs.Faults.{load_refusal}
use Rattle.elf32_read.specs.Load.{load}
use Rattle.elf32_read.specs.Runs.{runs_of, code_of, AreSpread}
use Rattle.elf32_read.specs.Segments.{code_of-runs_of, AreApart-runs_of, AreSpread-apart}
use Rattle.elf32_write.specs.File.{file_of}
use Rattle.elf32_write.specs.Plans.{plan_of}
use Rattle.elf32_write.specs.Frame.{Frame, AscendPairs, frame_code, frame_entry, frame_map, counted, pair_at, is_added, is_private}
use Rattle.map_table.specs.Paged.{places, places_from}
use Rattle.lookup_stub.specs.Stub.{stub, stub_size}
use Rattle.counter_hooks.specs.declared.rules.Rule.TheVariants as rule
use Rattle.counter_hooks.specs.Rules.{picked, is_branch}
use Rattle.counter_hooks.specs.Counter.{counter}
use Rattle.edge_hooks.specs.Rules.{edge_picked}
use Rattle.counter_hooks.specs.laws.Counted.{counter_length}
use Rattle.edge_hooks.specs.laws.Lengths.{edge_long}
use Rattle.image_layout.specs.Sites.{IsWhole}
use Rattle.image_layout.specs.Rules.{Rules, alone}
use Rattle.superset.specs.declared.site.Site.{Site}
use Rattle.superset.specs.Sites.{addresses, sites_in}
use Rattle.superset.specs.RunBytes.{exec_none, exec_some, byte_cases}
use Rattle.superset.specs.Targets.{successor, target}
use Rattle.simulation_laws.specs.declared.front.Difference.{Difference}
use Rattle.simulation_laws.specs.Code.{site_at, code_in}
use Rattle.simulation_laws.specs.Front.{difference}
use Rattle.simulation_laws.specs.Relocated.{StandAt, PieceAt, anchors_of, counter_there, fits_ways, kind_of, piece_place, piece_there, ways_fit, ways_of}
use Rattle.simulation_laws.specs.declared.anchors.Ways.{Ways}
use Rattle.simulation_laws.specs.Pieces.{piece_with}
use Rattle.simulation_laws.specs.laws.Counters.{length-counted, counted_is, no_counter}
use Rattle.simulation_laws.specs.Standing.{code_from, is_entry, way_there, site_code, piece_difference}
use Rattle.simulation_laws.specs.laws.Fronts.{same_none}
use Rattle.image_layout.specs.Fit.{is_apart}
use Rattle.image_layout.specs.Layout as layout
use Rattle.image_layout.specs.Pieces as pieces
use Rattle.image_layout.specs.laws.Blocks.{room_at, length-run_places}
use Rattle.image_layout.specs.laws.Sizes.{piece_sized, site_some_by}
use Rattle.image_layout.specs.laws.SiteFacts.{is_site_at}
use Rattle.mv_rewrite.specs.Layout.{base_of, size, chains}
use Rattle.mv_rewrite.specs.OutputFile.{IsWrittenFor}
use Rattle.mv_rewrite.specs.Sites.{sites}
use Rattle.pair_check.specs.declared.differs.Differs.{Differs}
use Rattle.pair_check.specs.declared.differs.Part.TheVariants.{Room, Runs, File, Counted, Stub, Entry, Piece}
use Rattle.pair_check.specs.Parts.{differs_at, placed_at, first_page, end_page, room_differs, run_numbers, place_numbers, runs_differ, file_differs, is_behind, is_way, other_way, has_other, counts_site, is_counting, last_address, pairs_differ, stub_differs, site_differs, address_differs, first_among, sites_differ, differs}
use Rattle.pair_check.proofs.Framed.{exact, length-code}
use Rattle.pair_check.proofs.Marks.{by_before, one_way}
use Rattle.pair_check.proofs.Numbers.{run_words, place_words}

-- ---- room

room_fits : (f : Frame) (ss : List Segment) → 0x100000 ≤ f.added.lo → list_all (is_apart (first_page f) (end_page f)) ss ≡ true → room_differs f ss ≡ None
room_fits f [] low apart = ap (λ v. if v then differs_at Room f.added.lo f.added.lo 0x100000 else None) (le-ltb f.added.lo 0x100000 low)
room_fits f (s ∷ ss) low apart =
    let q = and_parts (is_apart (first_page f) (end_page f) s) (list_all (is_apart (first_page f) (end_page f)) ss) apart in
    ap (λ v. if v then room_differs f ss else differs_at Room (4096 * max (first_page f) (s.range.lo / 4096)) f.added.lo s.range.lo) q.0 ∙ room_fits f ss low q.1

-- ---- lists that are alike

self_none : (k : ℕ) (xs : List ℕ) → difference k xs xs ≡ None
self_none k xs = same_none k xs xs (omega arith) (λ j lt. refl)

places_words : (dir : ℕ) (rs : List Run) → place_words (places_from dir rs) ≡ run_words rs
unfolding places_from
places_words dir [] = refl
places_words dir (r ∷ rs) = ap (λ (ws : List ℕ). r.lo ∷ length r.bytes ∷ ws) (places_words (dir + 4 * group_count (length r.bytes)) rs)

runs_same : (rs : List Run) (f : Frame) (lo : ℕ) → f.runs ≡ places rs lo → runs_differ rs f ≡ None
runs_same rs f lo e =
    let numbers : place_numbers f.runs ≡ run_numbers rs = ap place_numbers e ∙ (λ i. length-run_places (lo + 4096) rs i ∷ places_words (lo + 4096) rs i) in
    ap (λ ns. placed_at Runs (difference 0 (run_numbers rs) ns)) numbers ∙ ap (placed_at Runs) (self_none 0 (run_numbers rs))

-- ---- counters

-- each pair is at a site
abbrev AreAtSites : (ℕ → Option ℕ) → List (ℕ × ℕ) → Type 0
AreAtSites code [] = Unit {0}
AreAtSites code (q ∷ qs) = ((s : Site) × (site_at code q.0 ≡ Some s)) × AreAtSites code qs

both_at : (code : ℕ → Option ℕ) (ps qs : List (ℕ × ℕ)) → AreAtSites code ps → AreAtSites code qs → AreAtSites code (ps ++ qs)
both_at code [] qs front rest = rest
both_at code (p ∷ ps) qs front rest = (front.0, both_at code ps qs front.1 rest)

kinds_there : (code : ℕ → Option ℕ) (a : ℕ) (s : Site) (all ways : Bool) → site_at code a ≡ Some s → AreAtSites code (pieces.kinds_at a all ways)
kinds_there code a s true true e = ((s, e), ((s, e), ((s, e), tt)))
kinds_there code a s true false e = ((s, e), tt)
kinds_there code a s false true e = ((s, e), ((s, e), tt))
kinds_there code a s false false e = tt

sites_at : (code : ℕ → Option ℕ) (rules : Rules) (xs : List ℕ) → AreAtSites code (pieces.listed rules (filter_map (site_at code) xs))
sites_at code rules [] = tt
sites_at code rules (a ∷ xs) = go (site_at code a) refl (sites_at code rules xs)
  where
    go : (o : Option Site) → site_at code a ≡ o → AreAtSites code (pieces.listed rules (filter_map (site_at code) xs)) → AreAtSites code (pieces.listed rules (cons_option o (filter_map (site_at code) xs)))
    go None e rest = rest
    go (Some s) e rest =
        let there : site_at code s.at ≡ Some s = ap (site_at code) (is_site_at code a s e).here ∙ e in
        both_at code (pieces.kinds_of rules s) (pieces.listed rules (filter_map (site_at code) xs)) (kinds_there code s.at s (picked rules.all s) (edge_picked rules.ways s) there) rest

site_of : (code : ℕ → Option ℕ) (qs : List (ℕ × ℕ)) (j : ℕ) → AreAtSites code qs → j < length qs → (s : Site) × (site_at code (get_or qs j (0, 0)).0 ≡ Some s)
site_of code [] j are lt = absurd (omega (arith, lt))
site_of code (q ∷ qs) zero are lt = are.0
site_of code (q ∷ qs) (suc j) are lt = site_of code qs j are.1 (omega (arith, lt))

-- where one way is counted, both are, and they are those of a branch or a loop
whole_ways : (o p : Option ℕ) (b : Bool) → ways_fit o p b ≡ true → (is_some o ≡ true) ⊎ (is_some p ≡ true) → (b ≡ true) × (is_some o ≡ true) × (is_some p ≡ true)
whole_ways None None b fits (inl h) = absurd (true≢false (sym h))
whole_ways None None b fits (inr h) = absurd (true≢false (sym h))
whole_ways (Some o) (Some p) b fits h = (fits, refl, refl)
whole_ways (Some o) None b fits h = absurd (true≢false (sym fits))
whole_ways None (Some p) b fits h = absurd (true≢false (sym fits))

-- so each pair at a site whose ways fit counts it
ways_count : (f : Frame) (s : Site) (j : ℕ) → j < f.counters → (pair_at f j).0 ≡ s.at → fits_ways f s ≡ true → counts_site f (pair_at f j) (Some s) ≡ true
ways_count f s j lt at fits = by_way (is_way (pair_at f j).1) refl
  where
    branches : Bool
    branches = is_branch (flow_of s.insn)

    has_kind : (kind : ℕ) → (pair_at f j).1 ≡ kind → is_some (kind_of f kind s.at) ≡ true
    has_kind kind k = go (kind_of f kind s.at) refl
      where
        go : (o : Option ℕ) → kind_of f kind s.at ≡ o → is_some o ≡ true
        go None e = absurd (no_counter f kind s.at j e lt (at, k))
        go (Some p) e = refl

    counts : (kind : ℕ) → is_way (pair_at f j).1 ≡ true → other_way (pair_at f j).1 ≡ kind → branches ≡ true → is_some (kind_of f kind s.at) ≡ true → counts_site f (pair_at f j) (Some s) ≡ true
    counts kind way other b has =
        ap (λ v. if v then branches && has_other f (pair_at f j) else true) way
        ∙ and_from branches (has_other f (pair_at f j)) b ((λ i. is_some (kind_of f (other i) (at i))) ∙ has)

    by_way : (v : Bool) → is_way (pair_at f j).1 ≡ v → counts_site f (pair_at f j) (Some s) ≡ true
    by_way false way = ap (λ v. if v then branches && has_other f (pair_at f j) else true) way
    by_way true way = elim (one_way (pair_at f j).1 way) [
      | inl k ↦
          let w = whole_ways (kind_of f 1 s.at) (kind_of f 2 s.at) branches fits (inl (has_kind 1 k)) in
          counts 2 way (omega (arith, k)) w.0 w.2
      | inr k ↦
          let w = whole_ways (kind_of f 1 s.at) (kind_of f 2 s.at) branches fits (inr (has_kind 2 k)) in
          counts 1 way (omega (arith, k)) w.0 w.1
    ]

-- the first of a list is behind a pair
abbrev IsNext : Option (ℕ × ℕ) → List (ℕ × ℕ) → Type 0
IsNext last [] = Unit {0}
IsNext last (q ∷ qs) = is_behind last q ≡ true

next_is : (q : ℕ × ℕ) (qs : List (ℕ × ℕ)) → AscendPairs (q ∷ qs) → IsNext (Some q) qs
next_is q [] up = tt
next_is q (r ∷ qs) up = by_before q r (up 0 1 (omega arith) (omega arith))

pairs_pass : (f : Frame) (code : ℕ → Option ℕ) (k : ℕ) (last : Option (ℕ × ℕ)) (qs : List (ℕ × ℕ)) → IsNext last qs → AscendPairs qs
    → ((j : ℕ) → j < length qs → counts_site f (get_or qs j (0, 0)) (site_at code (get_or qs j (0, 0)).0) ≡ true) → pairs_differ f code k last qs ≡ None
pairs_pass f code k last [] next up count = refl
pairs_pass f code k last (q ∷ qs) next up count =
    let counts : is_counting f code last q ≡ true = and_from (is_behind last q) (counts_site f q (site_at code q.0)) next (count 0 (omega arith)) in
    ap (λ v. if v then pairs_differ f code (k + 1) (Some q) qs else differs_at Counted k (last_address last) q.0) counts
    ∙ pairs_pass f code (k + 1) (Some q) qs (next_is q qs up) (λ i j l lt. up (suc i) (suc j) (omega (arith, l)) (omega (arith, lt))) (λ j lt. count (suc j) (omega (arith, lt)))

first_next : (qs : List (ℕ × ℕ)) → IsNext None qs
first_next [] = tt
first_next (q ∷ qs) = refl

-- ---- addresses

among_none : (test : ℕ → Option Differs) (xs : List ℕ) → ((a : ℕ) → test a ≡ None) → first_among test xs ≡ None
among_none test [] none = refl
among_none test (a ∷ xs) none = (λ i. option_or (none a i) (first_among test xs)) ∙ among_none test xs none

-- the last byte of an instruction is there
last_there : (code : ℕ → Option ℕ) (a n : ℕ) → length (exec_bytes code a (suc n)) ≡ suc n → (y : ℕ) × (code (a + n) ≡ Some y)
last_there code a zero h = elim (byte_cases (code a)) [
  | inl none ↦ absurd (omega (arith, h, ap length (exec_none code a 1 none)))
  | inr w ↦ (w.0, ap code (let e : a + 0 ≡ a = omega arith in e) ∙ w.1)
]
last_there code a (suc n) h = elim (byte_cases (code a)) [
  | inl none ↦ absurd (omega (arith, h, ap length (exec_none code a (suc (suc n)) none)))
  | inr w ↦
      let more = ap length (exec_some code a (suc n) w.0 w.1) in
      let rest = last_there code (a + 1) n (omega (arith, h, more)) in
      (rest.0, ap code (let e : a + suc n ≡ a + 1 + n = omega arith in e) ∙ rest.1)
]

-- and lies below the highest page
code_low : (from : ℕ) (rs : List Run) (a y : ℕ) → AreSpread from rs → code_of rs a ≡ Some y → a < 0xFFFFF000
code_low from [] a y spread h = absurd (none-some y h)
code_low from (r ∷ rs) a y spread h = go (within r.lo (length r.bytes) a) refl h (code_low (r.lo + length r.bytes + 1) rs a y spread.2)
  where
    go : (v : Bool) → within r.lo (length r.bytes) a ≡ v → (if v then slice_get r.bytes (a - r.lo) else code_of rs a) ≡ Some y → (code_of rs a ≡ Some y → a < 0xFFFFF000) → a < 0xFFFFF000
    go true e g rest =
        let q = and_parts (nat_le r.lo a) (nat_lt a (r.lo + length r.bytes)) e in
        omega (arith, ltb-true a (r.lo + length r.bytes) q.1, spread.1)
    go false e g rest = rest g

-- parts that stand one behind the other stand together
joined : (x : List ℕ) (f : Frame) (at : ℕ) (xs ys : List ℕ) → StandAt x f at xs → StandAt x f (at + length xs) ys → StandAt x f at (xs ++ ys)
joined x f at xs ys front back = record {
  byte = λ k lt. elim (cases_lt k (length xs)) [
    | inl l ↦ front.byte k l ∙ ap Some (sym (get_or_append_left xs ys 0 k l))
    | inr l ↦
        let n = k - length xs in
        let place : at + k ≡ at + length xs + n = omega (arith, l) in
        let index : length xs + n ≡ k = omega (arith, l) in
        ap (exec_byte (load x)) place ∙ (back.byte n (omega (arith, lt, l, length-append xs ys)) ∙ ap Some (sym (get_or-append-add xs ys n 0) ∙ ap (slice_index (xs ++ ys)) index))
  ];
  fixed = λ k lt. elim (cases_lt k (length xs)) [
    | inl l ↦ front.fixed k l
    | inr l ↦ subst (λ a. is_writable (load x) a ≡ false) (let e : at + length xs + (k - length xs) ≡ at + k = omega (arith, l) in e) (back.fixed (k - length xs) (omega (arith, lt, l, length-append xs ys)))
  ];
  added = λ k lt. elim (cases_lt k (length xs)) [
    | inl l ↦ front.added k l
    | inr l ↦ subst (λ a. is_added f a ≡ true) (let e : at + length xs + (k - length xs) ≡ at + k = omega (arith, l) in e) (back.added (k - length xs) (omega (arith, lt, l, length-append xs ys)))
  ];
  public = λ k lt. elim (cases_lt k (length xs)) [
    | inl l ↦ front.public k l
    | inr l ↦ subst (λ a. is_private f a ≡ false) (let e : at + length xs + (k - length xs) ≡ at + k = omega (arith, l) in e) (back.public (k - length xs) (omega (arith, lt, l, length-append xs ys)))
  ];
}

nothing_stands : (x : List ℕ) (f : Frame) (at : ℕ) → StandAt x f at []
nothing_stands x f at = record { byte = λ k lt. absurd (omega (arith, lt)); fixed = λ k lt. absurd (omega (arith, lt)); added = λ k lt. absurd (omega (arith, lt)); public = λ k lt. absurd (omega (arith, lt)) }

-- a byte of the code
record InCode (f : Frame) (a n : ℕ) : Type 0 where
  pub low : f.code.lo ≤ a
  pub below : a < f.code.lo + length (frame_code f)
  pub byte : slice_index (frame_code f) (a - f.code.lo) ≡ n

-- where each number below one is below another, it is no more
fits_by : (n m : ℕ) → ((k : ℕ) → k < n → k < m) → n ≤ m
fits_by zero m h = omega arith
fits_by (suc n) m h = omega (arith, h n (omega arith))

begins_none : (front rest : List ℕ) → difference 0 front (front ++ rest) ≡ None
begins_none front rest = same_none 0 front (front ++ rest) (omega (arith, length-append front rest)) (λ k lt. get_or_append_left front rest 0 k lt)

-- ---- the output

module _ (b x : List ℕ) (rules : Rules) (f : Frame) (whole : load_refusal b ≡ None) (w : IsWrittenFor b rules x f) where
  room : room_differs f (segments b) ≡ None
  unfolding base_of
  room =
      let r = room_at (segments b) (size b rules) f.added.lo w.base in
      let first : r.page ≡ first_page f = omega (arith, r.at) in
      let end : r.page + size b rules / 4096 ≡ end_page f = omega (arith, r.at, w.size_is) in
      room_fits f (segments b) (omega (arith, r.at, r.from)) (sym (λ i. list_all (is_apart (first i) (end i)) (segments b)) ∙ r.apart)

  file : x ≡ file_of b (plan_of (entry_at b) f) → file_differs b x f ≡ None
  file same =
      ap (λ v. if v then differs_at File 0x904 2 1 else placed_at File (difference 0 (file_of b (plan_of (entry_at b) f)) x)) (ne_eqb f.version 1 (λ e. omega (arith, e, w.version)))
      ∙ (ap (λ y. placed_at File (difference 0 (file_of b (plan_of (entry_at b) f)) y)) same ∙ ap (placed_at File) (self_none 0 (file_of b (plan_of (entry_at b) f))))

  counted_whole : (j : ℕ) → j < length (counted f) → counts_site f (get_or (counted f) j (0, 0)) (site_at (code_in b) (get_or (counted f) j (0, 0)).0) ≡ true
  unfolding sites sites_in
  counted_whole j lt =
      let below : j < f.counters = omega (arith, lt, length-counted f) in
      let there = site_of (code_in b) (counted f) j (subst (AreAtSites (code_in b)) (sym w.counted_are) (sites_at (code_in b) rules (addresses (runs_of b)))) lt in
      let same = counted_is f j below in
      let s = there.0 in
      let e : site_at (code_in b) (pair_at f j).0 ≡ Some s = ap (λ (q : ℕ × ℕ). site_at (code_in b) q.0) (sym same) ∙ there.1 in
      let here = (is_site_at (code_in b) (pair_at f j).0 s e).here in
      ap (λ (q : ℕ × ℕ). counts_site f q (site_at (code_in b) q.0)) same
      ∙ (ap (counts_site f (pair_at f j)) e ∙ ways_count f s j below (sym here) (w.pieces (pair_at f j).0 s e).ways)

  pairs : pairs_differ f (code_in b) 0 None (counted f) ≡ None
  pairs = pairs_pass f (code_in b) 0 None (counted f) (first_next (counted f)) w.ascends counted_whole

  stub_first : stub_differs f ≡ None
  unfolding layout.code
  stub_first =
      let front = stub 2 f.runs f.private in
      let form : stub f.form f.runs f.private ≡ front = ap (λ n. stub n f.runs f.private) w.form in
      ap (option_map (λ (d : Difference). record { part = Stub; at = f.code.lo + d.place; kept = d.kept; found = d.found }))
      ((λ i. difference 0 (form i) (w.code_is i)) ∙ begins_none front (pieces.chain_code rules (anchors_of f) (frame_map f) (code_in b) (sites b) (f.code.lo + stub_size 2 (length f.runs)) (chains b)))

  -- ---- what may be executed in the block is the code

  length-code_is : length (frame_code f) ≡ f.code.len
  length-code_is = length-code (entry_at b) x f (exact x f w.framed)

  in_code : (a n : ℕ) → exec_byte (load x) a ≡ Some n → is_added f a ≡ true → is_private f a ≡ false → InCode f a n
  in_code a n there added public = go (within f.code.lo f.code.len a) (within f.table.lo f.table.len a) refl refl
    where
      go : (c t : Bool) → within f.code.lo f.code.len a ≡ c → within f.table.lo f.table.len a ≡ t → InCode f a n
      go true t e g =
          let q = and_parts (nat_le f.code.lo a) (nat_lt a (f.code.lo + f.code.len)) e in
          let low = leb-true f.code.lo a q.0 in
          let high = ltb-true a (f.code.lo + f.code.len) q.1 in
          let back : f.code.lo + (a - f.code.lo) ≡ a = omega (arith, low) in
          record {
            low = low;
            below = omega (arith, high, length-code_is);
            byte = same_Some _ n (sym (ap exec_byte_of (w.code (a - f.code.lo) (omega (arith, low, high)))) ∙ (ap (exec_byte (load x)) back ∙ there));
          }
      go false true e g =
          let q = and_parts (nat_le f.table.lo a) (nat_lt a (f.table.lo + f.table.len)) g in
          let low = leb-true f.table.lo a q.0 in
          let high = ltb-true a (f.table.lo + f.table.len) q.1 in
          let back : f.table.lo + (a - f.table.lo) ≡ a = omega (arith, low) in
          absurd (none-some n (sym (ap exec_byte_of (w.table (a - f.table.lo) (omega (arith, low, high)))) ∙ (ap (exec_byte (load x)) back ∙ there)))
      go false false e g = absurd (none-some n (sym (ap exec_byte_of (w.nothing a added e g public)) ∙ there))

  -- so what stands there from an address of the code on is a front of the code from there on
  front_none : (at : ℕ) (bytes : List ℕ) → f.code.lo ≤ at → StandAt x f at bytes → difference 0 bytes (code_from f at) ≡ None
  front_none at bytes low st =
      let from : code_from f at ≡ drop (at - f.code.lo) (frame_code f) = ap (λ v. if v then drop (at - f.code.lo) (frame_code f) else []) (le-leb f.code.lo at low) in
      let there : (k : ℕ) → k < length bytes → InCode f (at + k) (slice_index bytes k) = λ k lt. in_code (at + k) (slice_index bytes k) (st.byte k lt) (st.added k lt) (st.public k lt) in
      ap (difference 0 bytes) from
      ∙ same_none 0 bytes (drop (at - f.code.lo) (frame_code f))
      (fits_by (length bytes) (length (drop (at - f.code.lo) (frame_code f))) (λ k lt. omega (arith, (there k lt).below, low, length-drop (at - f.code.lo) (frame_code f))))
      (λ k lt. get_or-drop (at - f.code.lo) (frame_code f) k 0 ∙ (ap (slice_index (frame_code f)) (let e : at - f.code.lo + k ≡ at + k - f.code.lo = omega (arith, low) in e) ∙ (there k lt).byte))

  -- ---- what leads on

  no_wrap : (s : Site) → site_at (code_in b) s.at ≡ Some s → (y : ℕ) × (code_in b (s.at + (s.len - 1)) ≡ Some y) × (successor s ≡ s.at + s.len)
  no_wrap s e =
      let is = (is_site_at (code_in b) s.at s e).whole in
      let len : suc (s.len - 1) ≡ s.len = omega (arith, is.some) in
      let last = last_there (code_in b) s.at (s.len - 1) (ap (λ n. length (exec_bytes (code_in b) s.at n)) len ∙ (is.whole ∙ sym len)) in
      let low = code_low 0 (runs_of b) (s.at + (s.len - 1)) last.0 (AreSpread-apart 0 (runs_of b) (AreApart-runs_of b whole)) (sym (code_of-runs_of b whole (s.at + (s.len - 1))) ∙ last.1) in
      (last.0, last.1, omega (arith, low, is.some))

  way_stands : (s : Site) → site_at (code_in b) s.at ≡ Some s → PieceAt b x f s → StandAt x f (piece_place f s + length (piece_there b f s)) (way_there f (piece_place f s + length (piece_there b f s)) s)
  way_stands s e p = go (falls (flow_of s.insn)) (is_entry f (successor s) here) refl refl
    where
      here : ℕ
      here = piece_place f s + length (piece_there b f s)

      next : ℕ
      next = frame_map f (successor s)

      long : 0 < length (piece_there b f s)
      long = by_ways (ways_of f s.at)
        where
          is : IsWhole (code_in b) s
          is = (is_site_at (code_in b) s.at s e).whole

          by_ways : (o : Option Ways) → 0 < length (piece_with (anchors_of f) (frame_map f) (code_in b) o (piece_place f s) s)
          by_ways None = omega (arith, piece_sized (anchors_of f) (frame_map f) (code_in b) (piece_place f s) s is, site_some_by (alone rule.None) s is.some)
          by_ways (Some ways) =
              omega (arith, edge_long s.insn (piece_place f s) (frame_map f (target s)) (counter f.private ways.passed) (counter f.private ways.taken) (counter_length f.private ways.passed) (counter_length f.private ways.taken))

      -- the last byte of the piece is added, and that of the instruction is mapped by the input
      never : successor s ≡ here → ⊥
      never same =
          let wrap = no_wrap s e in
          let k = length (piece_there b f s) - 1 in
          let place : piece_place f s + k ≡ s.at + (s.len - 1) = omega (arith, same, wrap.2, long, (is_site_at (code_in b) s.at s e).whole.some) in
          let free : load b (s.at + (s.len - 1)) ≡ None = ap (load b) (sym place) ∙ w.free (piece_place f s + k) (p.stands.added k (omega (arith, long))) in
          none-some wrap.0 (sym (ap exec_byte_of free) ∙ wrap.1)

      -- where the successor goes to this place, that is its entry
      entry_there : is_entry f (successor s) here ≡ false → next ≡ here → ⊥
      entry_there other same = by (frame_entry f (successor s) == 0) refl same other
        where
          by : (v : Bool) → (frame_entry f (successor s) == 0) ≡ v → (if v then successor s else frame_entry f (successor s)) ≡ here → (not v && frame_entry f (successor s) == here) ≡ false → ⊥
          by true t m o = never m
          by false t m o = true≢false (sym (eq-eqb (frame_entry f (successor s)) here m) ∙ o)

      go : (v t : Bool) → falls (flow_of s.insn) ≡ v → is_entry f (successor s) here ≡ t → StandAt x f here (if v && not t then jump_bytes here next else [])
      go false t a c = nothing_stands x f here
      go true true a c = nothing_stands x f here
      go true false a c = elim (p.leads a) [
        | inl same ↦ absurd (entry_there c same)
        | inr st ↦ st
      ]

  -- ---- addresses

  piece_none : (a : ℕ) (s : Site) → site_at (code_in b) a ≡ Some s → piece_difference f (code_in b) s ≡ None
  piece_none a s e =
      let here = (is_site_at (code_in b) a s e).here in
      let at_own : site_at (code_in b) s.at ≡ Some s = ap (site_at (code_in b)) here ∙ e in
      let p = w.pieces a s e in
      let inside = w.inside a s e in
      let piece = piece_there b f s in
      let way = way_there f (piece_place f s + length piece) s in
      let all = joined x f (frame_map f s.at) (counter_there f s) (piece ++ way) p.counts (joined x f (piece_place f s) piece way p.stands (way_stands s at_own p)) in
      let q = and_parts (nat_le f.code.lo (frame_entry f a)) (nat_lt (frame_entry f a) (f.code.lo + f.code.len)) inside.1 in
      let mapped : frame_map f s.at ≡ frame_entry f a = ap (frame_map f) here ∙ ap (λ v. if v then a else frame_entry f a) (ne_eqb (frame_entry f a) 0 (λ z. omega (arith, z, inside.0))) in
      front_none (frame_map f s.at) (site_code f (code_in b) s) (omega (arith, mapped, leb-true f.code.lo (frame_entry f a) q.0)) all

  address_none : (a : ℕ) → address_differs f (code_in b) a ≡ None
  address_none a = go (site_at (code_in b) a) refl
    where
      go : (o : Option Site) → site_at (code_in b) a ≡ o → site_differs f (code_in b) a o ≡ None
      go None e = ap (λ v. if v then None else differs_at Entry a 0 (frame_entry f a)) (eq-eqb (frame_entry f a) 0 (w.none a e))
      go (Some s) e =
          ap (λ v. if v then option_map (λ (d : Difference). record { part = Piece; at = a; kept = d.kept; found = d.found }) (piece_difference f (code_in b) s) else differs_at Entry a f.code.lo (frame_entry f a)) (w.inside a s e).1
          ∙ ap (option_map (λ (d : Difference). record { part = Piece; at = a; kept = d.kept; found = d.found })) (piece_none a s e)

  pub no_difference : x ≡ file_of b (plan_of (entry_at b) f) → differs b x f ≡ None
  no_difference same =
      (λ i. option_or (option_or (room i) (option_or (runs_same (runs_of b) f f.table.lo w.runs i) (option_or (file same i) (option_or (pairs i) (stub_first i))))) (sites_differ (code_in b) (runs_of b) f))
      ∙ among_none (address_differs f (code_in b)) (addresses (runs_of b)) address_none
