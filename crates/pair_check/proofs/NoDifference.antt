-- What it says that nothing differs, part by part.
use Rattle.std.proofs.Common.{◌≡◌, ℕ, zero, suc, ◌+◌, ◌-◌, ◌*◌, ◌/◌, ◌<◌, ◌≤◌, Bool, true, false, ◌==◌, max, [], ◌∷◌, List, length, get_or, Option, Some, None, nat_lt, if◌then◌else◌, refl, sym, ap, ◌∙◌, subst, arith}
use Rattle.std.specs.Prelude.{slice_get, is_some}
use Rattle.std.specs.List.{list_all}
use Rattle.std.specs.Option.{option_or, option_map}
use Rattle.std.proofs.lemmas.Bool.{and_parts, and_from, eqb-true, ltb-true, ltb-false, leb-true}
use Rattle.std.proofs.lemmas.Option.{none-some, slice_get-get_or}
use Rattle.mv_base.specs.Memory.{within}
use Rattle.mv_base.specs.Table.{run_of}
use Rattle.mv_base.specs.declared.range.RunPlace.{RunPlace}
use Rattle.elf32_read.specs.declared.image.Segment.{Segment}
use Rattle.elf32_read.specs.declared.run.Run.{Run}
use Rattle.elf32_read.specs.Runs.{code_of}
use Rattle.x86_insn.specs.Flow.{flow_of}
use Rattle.counter_hooks.specs.Rules.{is_branch}
use Rattle.elf32_write.specs.Frame.{Frame, IsBefore, AscendPairs, counted, pair_at}
use Rattle.superset.specs.declared.site.Site.{Site}
use Rattle.superset.specs.RunAddresses.{IsAmong}
use Rattle.simulation_laws.specs.declared.front.Difference.{Difference}
use Rattle.simulation_laws.specs.Code.{site_at}
use Rattle.simulation_laws.specs.Front.{difference}
use Rattle.simulation_laws.specs.Relocated.{kind_of, ways_fit, fits_ways}
use Rattle.simulation_laws.specs.laws.Counters.{length-counted, counted_is, is_counter}
use Rattle.image_layout.specs.Fit.{is_apart}
use Rattle.image_layout.specs.laws.SiteFacts.{is_site_at}
use Rattle.pair_check.specs.declared.differs.Differs.{Differs}
use Rattle.pair_check.specs.declared.differs.Part.TheVariants.{Room, Counted}
use Rattle.pair_check.specs.Parts.{differs_at, first_page, end_page, room_differs, run_numbers, place_numbers, runs_differ, is_behind, has_other, counts_site, is_counting, last_address, pairs_differ, first_among}
use Rattle.pair_check.specs.Walking.{FitWays}
use Rattle.pair_check.proofs.Marks.{before_by, before_trans}
use Rattle.pair_check.proofs.Numbers.{run_words, place_words}

-- ---- joined

pub neither : (o p : Option Differs) → option_or o p ≡ None → (o ≡ None) × (p ≡ None)
neither None p h = (refl, h)
neither (Some d) p h = absurd (cc h)

pub map_none : (g : Difference → Differs) (o : Option Difference) → option_map g o ≡ None → o ≡ None
map_none g None h = refl
map_none g (Some d) h = absurd (cc h)

-- ---- room

pub record HasRoom (f : Frame) (ss : List Segment) : Type 0 where
  pub from : 0x100000 ≤ f.added.lo
  pub apart : list_all (is_apart (first_page f) (end_page f)) ss ≡ true

pub room_none : (f : Frame) (ss : List Segment) → room_differs f ss ≡ None → HasRoom f ss
room_none f [] h = go (nat_lt f.added.lo 0x100000) refl h
  where
    go : (v : Bool) → nat_lt f.added.lo 0x100000 ≡ v → (if v then differs_at Room f.added.lo f.added.lo 0x100000 else None) ≡ None → HasRoom f []
    go true e g = absurd (cc g)
    go false e g = record { from = ltb-false f.added.lo 0x100000 e; apart = refl }
room_none f (s ∷ ss) h = go (is_apart (first_page f) (end_page f) s) refl h (room_none f ss)
  where
    go : (v : Bool) → is_apart (first_page f) (end_page f) s ≡ v → (if v then room_differs f ss else differs_at Room (4096 * max (first_page f) (s.range.lo / 4096)) f.added.lo s.range.lo) ≡ None → (room_differs f ss ≡ None → HasRoom f ss) → HasRoom f (s ∷ ss)
    go true e g rest =
        let r = rest g in
        record { from = r.from; apart = and_from (is_apart (first_page f) (end_page f) s) (list_all (is_apart (first_page f) (end_page f)) ss) e r.apart }
    go false e g rest = absurd (cc g)

-- ---- runs

abbrev pub RunsAlike : List Run → List RunPlace → Type 0
RunsAlike [] [] = Unit {0}
RunsAlike [] (p ∷ ps) = ⊥
RunsAlike (r ∷ rs) [] = ⊥
RunsAlike (r ∷ rs) (p ∷ ps) = (r.lo ≡ p.lo) × (length r.bytes ≡ p.len) × RunsAlike rs ps

-- the numbers at the front are the same, and so are the rest
same_front : (k b c : ℕ) (bs cs : List ℕ) → difference k (b ∷ bs) (c ∷ cs) ≡ None → (b ≡ c) × (difference (k + 1) bs cs ≡ None)
same_front k b c bs cs h = go (b == c) refl h
  where
    go : (v : Bool) → (b == c) ≡ v → (if v then difference (k + 1) bs cs else Some (record { place = k; kept = b; found = c })) ≡ None → (b ≡ c) × (difference (k + 1) bs cs ≡ None)
    go true e g = (eqb-true b c e, g)
    go false e g = absurd (cc g)

alike_by : (k : ℕ) (rs : List Run) (ps : List RunPlace) → length rs ≡ length ps → difference k (run_words rs) (place_words ps) ≡ None → RunsAlike rs ps
alike_by k [] [] e h = tt
alike_by k [] (p ∷ ps) e h = absurd (omega (arith, e))
alike_by k (r ∷ rs) [] e h = absurd (omega (arith, e))
alike_by k (r ∷ rs) (p ∷ ps) e h =
    let lo = same_front k r.lo p.lo (length r.bytes ∷ run_words rs) (p.len ∷ place_words ps) h in
    let len = same_front (k + 1) (length r.bytes) p.len (run_words rs) (place_words ps) lo.1 in
    (lo.0, len.0, alike_by (k + 1 + 1) rs ps (omega (arith, e)) len.1)

pub runs_none : (rs : List Run) (f : Frame) → runs_differ rs f ≡ None → RunsAlike rs f.runs
runs_none rs f h =
    let none = map_none _ (difference 0 (run_numbers rs) (place_numbers f.runs)) h in
    let counts = same_front 0 (length rs) (length f.runs) (run_words rs) (place_words f.runs) none in
    alike_by (0 + 1) rs f.runs counts.0 counts.1

-- an address without a byte is in none of the frame's runs
pub outside_runs : (rs : List Run) (ps : List RunPlace) (a : ℕ) → RunsAlike rs ps → code_of rs a ≡ None → run_of ps a ≡ None
outside_runs [] [] a alike h = refl
outside_runs [] (p ∷ ps) a alike h = absurd alike
outside_runs (r ∷ rs) [] a alike h = absurd alike
outside_runs (r ∷ rs) (p ∷ ps) a alike h = go (within r.lo (length r.bytes) a) refl h (outside_runs rs ps a alike.2)
  where
    same : within r.lo (length r.bytes) a ≡ within p.lo p.len a
    same = λ i. within (alike.0 i) (alike.1 i) a

    go : (v : Bool) → within r.lo (length r.bytes) a ≡ v → (if v then slice_get r.bytes (a - r.lo) else code_of rs a) ≡ None → (code_of rs a ≡ None → run_of ps a ≡ None) → (if within p.lo p.len a then Some p else run_of ps a) ≡ None
    go true e g rest =
        let q = and_parts _ _ e in
        let low = leb-true r.lo a q.0 in
        let high = ltb-true a (r.lo + length r.bytes) q.1 in
        absurd (none-some _ (sym g ∙ slice_get-get_or r.bytes (a - r.lo) 0 (omega (arith, low, high))))
    go false e g rest = ap (λ v. if v then Some p else run_of ps a) (sym same ∙ e) ∙ rest g

-- ---- counters

-- each pair is behind the one before it, and counts a site or one of the two ways of a branch or a loop
abbrev pub Rises : Frame → (ℕ → Option ℕ) → Option (ℕ × ℕ) → List (ℕ × ℕ) → Type 0
Rises f code last [] = Unit {0}
Rises f code last (q ∷ qs) = (is_counting f code last q ≡ true) × Rises f code (Some q) qs

pub pairs_rise : (f : Frame) (code : ℕ → Option ℕ) (k : ℕ) (last : Option (ℕ × ℕ)) (qs : List (ℕ × ℕ)) → pairs_differ f code k last qs ≡ None → Rises f code last qs
pairs_rise f code k last [] h = tt
pairs_rise f code k last (q ∷ qs) h = go (is_counting f code last q) refl h (pairs_rise f code (k + 1) (Some q) qs)
  where
    go : (v : Bool) → is_counting f code last q ≡ v → (if v then pairs_differ f code (k + 1) (Some q) qs else differs_at Counted k (last_address last) q.0) ≡ None → (pairs_differ f code (k + 1) (Some q) qs ≡ None → Rises f code (Some q) qs) → Rises f code last (q ∷ qs)
    go true e g rest = (e, rest g)
    go false e g rest = absurd (cc g)

counting_parts : (f : Frame) (code : ℕ → Option ℕ) (last : Option (ℕ × ℕ)) (q : ℕ × ℕ) → is_counting f code last q ≡ true → (is_behind last q ≡ true) × (counts_site f q (site_at code q.0) ≡ true)
counting_parts f code last q h = and_parts (is_behind last q) (counts_site f q (site_at code q.0)) h

-- each pair behind one is after it
all_behind : (f : Frame) (code : ℕ → Option ℕ) (p : ℕ × ℕ) (qs : List (ℕ × ℕ)) → Rises f code (Some p) qs → (j : ℕ) → j < length qs → IsBefore p (get_or qs j (0, 0))
all_behind f code p [] rise j lt = absurd (omega (arith, lt))
all_behind f code p (q ∷ qs) rise zero lt = before_by p q (counting_parts f code (Some p) q rise.0).0
all_behind f code p (q ∷ qs) rise (suc j) lt = before_trans p q (get_or qs j (0, 0)) (before_by p q (counting_parts f code (Some p) q rise.0).0) (all_behind f code q qs rise.1 j (omega (arith, lt)))

pub rises_ascend : (f : Frame) (code : ℕ → Option ℕ) (last : Option (ℕ × ℕ)) (qs : List (ℕ × ℕ)) → Rises f code last qs → AscendPairs qs
rises_ascend f code last [] rise i j l lt = absurd (omega (arith, lt))
rises_ascend f code last (q ∷ qs) rise zero zero l lt = absurd (omega (arith, l))
rises_ascend f code last (q ∷ qs) rise zero (suc j) l lt = all_behind f code q qs rise.1 j (omega (arith, lt))
rises_ascend f code last (q ∷ qs) rise (suc i) zero l lt = absurd (omega (arith, l))
rises_ascend f code last (q ∷ qs) rise (suc i) (suc j) l lt = rises_ascend f code (Some q) qs rise.1 i j (omega (arith, l)) (omega (arith, lt))

rises_count : (f : Frame) (code : ℕ → Option ℕ) (last : Option (ℕ × ℕ)) (qs : List (ℕ × ℕ)) → Rises f code last qs → (j : ℕ) → j < length qs → counts_site f (get_or qs j (0, 0)) (site_at code (get_or qs j (0, 0)).0) ≡ true
rises_count f code last [] rise j lt = absurd (omega (arith, lt))
rises_count f code last (q ∷ qs) rise zero lt = (counting_parts f code last q rise.0).1
rises_count f code last (q ∷ qs) rise (suc j) lt = rises_count f code (Some q) qs rise.1 j (omega (arith, lt))

module _ (f : Frame) (code : ℕ → Option ℕ) (rise : Rises f code None (counted f)) (s : Site) (at : site_at code s.at ≡ Some s) where
  -- a counter of a kind at the site counts it
  kind_counts : (kind p : ℕ) → kind_of f kind s.at ≡ Some p → counts_site f (s.at, kind) (Some s) ≡ true
  kind_counts kind p e =
      let is = is_counter f kind s.at p e in
      let q : pair_at f is.number ≡ (s.at, kind) = λ i. (is.is.0 i, is.is.1 i) in
      let there = rises_count f code None (counted f) rise is.number (omega (arith, is.below, length-counted f)) in
      sym (ap (counts_site f (s.at, kind)) at) ∙ subst (λ (r : ℕ × ℕ). counts_site f r (site_at code r.0) ≡ true) (counted_is f is.number is.below ∙ q) there

  pub site_fits : fits_ways f s ≡ true
  site_fits = go (kind_of f 1 s.at) (kind_of f 2 s.at) refl refl
    where
      branches : Bool
      branches = is_branch (flow_of s.insn)

      go : (o p : Option ℕ) → kind_of f 1 s.at ≡ o → kind_of f 2 s.at ≡ p → ways_fit o p branches ≡ true
      go None None d e = refl
      go (Some t) (Some u) d e = (and_parts branches (has_other f (s.at, 1)) (kind_counts 1 t d)).0
      go (Some t) None d e = absurd (cc (sym (and_parts branches (has_other f (s.at, 1)) (kind_counts 1 t d)).1 ∙ ap is_some e))
      go None (Some u) d e = absurd (cc (sym (and_parts branches (has_other f (s.at, 2)) (kind_counts 2 u e)).1 ∙ ap is_some d))

pub rises_fit : (f : Frame) (code : ℕ → Option ℕ) → Rises f code None (counted f) → FitWays f code
rises_fit f code rise a s e =
    let here = (is_site_at code a s e).here in
    site_fits f code rise s (ap (site_at code) here ∙ e)

-- ---- addresses

pub at_each : (test : ℕ → Option Differs) (xs : List ℕ) (k : ℕ) → first_among test xs ≡ None → k < length xs → test (get_or xs k 0) ≡ None
at_each test [] k h lt = absurd (omega (arith, lt))
at_each test (x ∷ xs) zero h lt = (neither (test x) (first_among test xs) h).0
at_each test (x ∷ xs) (suc k) h lt = at_each test xs k (neither (test x) (first_among test xs) h).1 (omega (arith, lt))

pub at_among : (test : ℕ → Option Differs) (xs : List ℕ) (a : ℕ) → first_among test xs ≡ None → IsAmong xs a → test a ≡ None
at_among test xs a h is = ap test (sym is.at) ∙ at_each test xs is.place h is.below
