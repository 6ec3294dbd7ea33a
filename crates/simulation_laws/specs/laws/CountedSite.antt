-- A site with its counters, where it has some: the counter of all executions counts, and from there the piece comes to what
-- the instruction comes to, and counts the way that a branch or a loop goes.
use Rattle.std.proofs.Common.{◌≡◌, ℕ, inl, ◌+◌, ◌<◌, ◌≤◌, Bool, List, true, false, ◌&&◌, ◌||◌, ◌==◌, length, Option, Some, None, refl, sym, ap, ◌∙◌, subst, arith}
use Rattle.std.proofs.lemmas.Bool.{and_parts, and_right, eqb-true, false_from_ne_true, true≢false}
use Rattle.mv_base.specs.Memory.{IsMemory}
use Rattle.x86_insn.specs.declared.insn.Insn.{Insn}
use Rattle.x86_insn.specs.declared.insn.Insn.TheVariants as insn
use Rattle.x86_insn.specs.declared.registers.Core.{Core}
use Rattle.x86_insn.specs.Conditions.{holds}
use Rattle.x86_insn.specs.Flow.{flow_of, falls}
use Rattle.x86_insn.specs.Transfers.{loop_core, loop_jumps}
use Rattle.x86_insn.specs.State.{State, Outcome, Next, Stopped}
use Rattle.x86_insn.specs.Step.{Found, fetch, step}
use Rattle.step_laws.specs.Beside.{ShowsSame}
use Rattle.step_laws.specs.Meeting.{Keeps, AllKeep, Reaches, Breaks, Moves}
use Rattle.step_laws.specs.laws.Alongside.{keeps_on}
use Rattle.step_laws.specs.laws.Composing.{all_keep_then}
use Rattle.step_laws.specs.laws.Passing.{passes_then, passes_weaker}
use Rattle.counter_hooks.specs.Rules.{is_branch}
use Rattle.edge_hooks.specs.Jumping.{insn_jumps}
use Rattle.elf32_write.specs.Frame.{Frame, frame_map, is_added, counted_at, kind_at, counted, AscendPairs}
use Rattle.superset.specs.declared.site.Site.{Site}
use Rattle.simulation_laws.specs.Code.{code_in}
use Rattle.simulation_laws.specs.Pieces.{counter_code, piece_with, ways_by}
use Rattle.simulation_laws.specs.Relocated.{StandAt, LeadsOn, PieceAt, IsOutput, anchors_of, counter_of, kind_of, ways_fit}
use Rattle.simulation_laws.specs.Simulation.{IsClearStep, is_of_edge, jumps, adds, step_bound}
use Rattle.simulation_laws.specs.Stopping.{counts_all}
use Rattle.simulation_laws.specs.Stepping.{area_of, counting_area, IsSound, Alike, MeetsWithin, SiteLaw}
use Rattle.simulation_laws.specs.laws.Sound.{keeps_more}
use Rattle.simulation_laws.specs.laws.AtSite.{site_of, counter_most, PieceMeets, piece_meets}
use Rattle.simulation_laws.specs.laws.Counters.{no_counter}
use Rattle.simulation_laws.specs.laws.EdgeSite.{edge_adds, edge_meets}
use Rattle.simulation_laws.specs.laws.Told.{Adds, one_of, none_of, adds_if, adds_then, counts_by, IsTold, same_numbers, told_by}

-- ---- what a piece comes to, with its way counted

abbrev WayComes : Frame → ℕ → State → State → Outcome → Type 0
WayComes f k o t (Next o') = (r : Reaches (counting_area f) k (Moves (frame_map f)) o o' t) × Adds f (edge_adds o) t.memory r.last.memory
WayComes f k o t (Stopped why o') = (r : Breaks (counting_area f) k o o' t why) × Adds f none_of t.memory r.stopped.memory

record WayMeets (f : Frame) (o t : State) (X : Outcome) : Type 0 where
  count : ℕ
  some : 0 < count
  most : counter_most + count ≤ step_bound f
  comes : WayComes f count o t X

-- an address has no counter of a way
record HasNoWays (f : Frame) (a : ℕ) : Type 0 where
  taken : kind_of f 1 a ≡ None
  passed : kind_of f 2 a ≡ None

-- so no counter of a way counts a step from there
no_way : (f : Frame) (o : State) → HasNoWays f o.eip → (k : ℕ) → k < f.counters → edge_adds o (counted_at f k) (kind_at f k) ≡ false
no_way f o none k lt = false_from_ne_true (edge_adds o (counted_at f k) (kind_at f k)) (λ h.
    let p = and_parts (counted_at f k == o.eip) (is_of_edge (kind_at f k) (jumps o)) h in
    by_way (jumps o) (eqb-true (counted_at f k) o.eip p.0) p.1)
  where
    by_way : (j : Option Bool) → counted_at f k ≡ o.eip → is_of_edge (kind_at f k) j ≡ true → ⊥
    by_way None at h = true≢false (sym h)
    by_way (Some true) at h = no_counter f 1 o.eip k none.taken lt (at, eqb-true (kind_at f k) 1 h)
    by_way (Some false) at h = no_counter f 2 o.eip k none.passed lt (at, eqb-true (kind_at f k) 2 h)

-- a branch or a loop goes one of its ways, and may go on
branch_jumps : (i : Insn) (c : Core) → is_branch (flow_of i) ≡ true → (jumped : Bool) × (insn_jumps i c ≡ Some jumped)
branch_jumps (insn.Branch cond rel) c is = (holds cond c.flags, refl)
branch_jumps (insn.Loop kind rel) c is = (loop_jumps kind (loop_core kind c), refl)
branch_jumps i c is = absurd (true≢false (sym is))

branch_falls : (i : Insn) → is_branch (flow_of i) ≡ true → falls (flow_of i) ≡ true
branch_falls (insn.Branch cond rel) is = refl
branch_falls (insn.Loop kind rel) is = refl
branch_falls i is = absurd (true≢false (sym is))

-- what leaves the counters too leaves what counters may write
more_keep : (f : Frame) (t : State) (n : ℕ) (last : State) → AllKeep (area_of f) t.memory n t last → AllKeep (counting_area f) t.memory n t last
more_keep f t n last p = passes_weaker (λ v. Keeps (area_of f) t.memory v.memory) (λ v. Keeps (counting_area f) t.memory v.memory) (λ v k. keeps_more f t.memory v.memory k) n t last p

module _ (b x : List ℕ) (f : Frame) (rel : IsOutput b x f) where
  -- a piece without counters
  plain_way : (o t : State) (X : Outcome) → HasNoWays f o.eip → PieceMeets f o t X → WayMeets f o t X
  plain_way o t (Next o') none m =
      let r = m.meets in
      record {
        count = m.count;
        some = m.some;
        most = m.most;
        comes = (
          record { last = r.last; passes = r.passes; way = more_keep f t m.count r.last r.way; alike = r.alike; keeps = keeps_more f t.memory r.last.memory r.keeps; arrives = r.arrives },
          adds_if f none_of (edge_adds o) t.memory r.last.memory (λ k lt. sym (no_way f o none k lt)) (same_numbers b x f rel t.memory r.last.memory r.keeps),
        );
      }
  plain_way o t (Stopped why o') none m =
      let r = m.meets in
      record {
        count = m.count;
        some = m.some;
        most = m.most;
        comes = (
          record { count = r.count; fewer = r.fewer; last = r.last; stopped = r.stopped; passes = r.passes; way = more_keep f t r.count r.last r.way; shows = r.shows; kept = keeps_more f t.memory r.last.memory r.kept; stops = r.stops; alike = r.alike; keeps = keeps_more f t.memory r.stopped.memory r.keeps },
          same_numbers b x f rel t.memory r.stopped.memory r.keeps,
        );
      }

  -- ---- a counter, and then a piece

  told_meets : (o t : State) (behind : ℕ) (X : Outcome) → IsMemory t.memory → (h : IsTold x f o t (one_of 0 o.eip) behind) → WayMeets f o h.told X → MeetsWithin f o.eip o t X
  told_meets o t behind (Next o') cells h m =
      let r = m.comes.0 in
      record {
        count = h.steps + m.count;
        some = omega (arith, m.some);
        most = omega (arith, m.most, h.few);
        comes = (
          record {
            last = r.last;
            passes = passes_then _ h.steps m.count t h.told r.last (passes_weaker (ShowsSame (is_added f) o) _ (λ v s. inl s) h.steps t h.told h.passes) r.passes;
            way = all_keep_then (counting_area f) h.steps m.count t h.told r.last h.way h.keeps r.way;
            alike = r.alike;
            keeps = keeps_on (counting_area f) t.memory h.told.memory r.last.memory h.keeps r.keeps;
            arrives = r.arrives;
          },
          counts_by f (adds o) t.memory r.last.memory cells
              (adds_if f (λ a k. one_of 0 o.eip a k || edge_adds o a k) (adds o) t.memory r.last.memory (λ k lt. all_or_way (counted_at f k == o.eip) (kind_at f k == 0) (is_of_edge (kind_at f k) (jumps o)))
              (adds_then f (one_of 0 o.eip) (edge_adds o) t.memory h.told.memory r.last.memory (apart_kinds o) h.adds m.comes.1)),
        );
      }
    where
      all_or_way : (p q r : Bool) → (p && q || p && r) ≡ (p && (q || r))
      all_or_way true q r = refl
      all_or_way false q r = refl

      no_edge : (k : ℕ) (j : Option Bool) → k ≡ 0 → is_of_edge k j ≡ false
      no_edge k None e = refl
      no_edge k (Some true) e = ap (λ (n : ℕ). n == 1) e
      no_edge k (Some false) e = ap (λ (n : ℕ). n == 2) e

      apart_kinds : (o : State) (a k : ℕ) → one_of 0 o.eip a k ≡ true → edge_adds o a k ≡ false
      apart_kinds o a k h =
          let p = and_parts (a == o.eip) (k == 0) h in
          and_right (a == o.eip) (is_of_edge k (jumps o)) (no_edge k (jumps o) (eqb-true k 0 p.1))
  told_meets o t behind (Stopped why o') cells h m =
      let r = m.comes.0 in
      record {
        count = h.steps + m.count;
        some = omega (arith, m.some);
        most = omega (arith, m.most, h.few);
        comes = (
          record {
            count = h.steps + r.count;
            fewer = omega (arith, r.fewer);
            last = r.last;
            stopped = r.stopped;
            passes = passes_then (ShowsSame (is_added f) o) h.steps r.count t h.told r.last h.passes r.passes;
            way = all_keep_then (counting_area f) h.steps r.count t h.told r.last h.way h.keeps r.way;
            shows = r.shows;
            kept = keeps_on (counting_area f) t.memory h.told.memory r.last.memory h.keeps r.kept;
            stops = r.stops;
            alike = r.alike;
            keeps = keeps_on (counting_area f) t.memory h.told.memory r.stopped.memory h.keeps r.keeps;
          },
          counts_by f (counts_all o.eip) t.memory r.stopped.memory cells (λ k lt. m.comes.1 k lt ∙ h.adds k lt),
        );
      }

  -- ---- the site

  module _ (ascends : AscendPairs (counted f)) (o : State) (i : Insn) (n : ℕ) (sound : IsSound b o) (found : fetch o.memory o.eip ≡ Found i n) (clear : IsClearStep b f o) where
    abbrev site : Site
    site = site_of o i n

    -- the piece, with what counters its ways have
    way_meets : (t : State) (here : ℕ) (taken passed : Option ℕ) → Alike x f o t → IsMemory t.memory → t.eip ≡ here → kind_of f 1 o.eip ≡ taken → kind_of f 2 o.eip ≡ passed → ways_fit taken passed (is_branch (flow_of i)) ≡ true
        → StandAt x f here (piece_with (anchors_of f) (frame_map f) (code_in b) (ways_by taken passed) here site)
        → LeadsOn x f (here + length (piece_with (anchors_of f) (frame_map f) (code_in b) (ways_by taken passed) here site)) site → WayMeets f o t (step o)
    way_meets t here None None alike cells place t_none p_none fit stand leads =
        plain_way o t (step o) (record { taken = t_none; passed = p_none }) (piece_meets b x f rel o t i n sound alike here place found (record { stands = stand; leads = leads }) clear)
    way_meets t here (Some k) (Some j) alike cells place t_is p_is branches stand leads =
        let jumped = branch_jumps i o.core branches in
        let m = edge_meets b x f rel ascends o t i n sound alike cells here place found (record { taken = k; passed = j }) t_is p_is jumped.0 jumped.1 stand (leads (branch_falls i branches)) in
        subst (WayMeets f o t) (sym m.0) (record { count = m.1.count; some = m.1.some; most = m.1.most; comes = (m.1.meets, m.1.adds) })
    way_meets t here (Some k) None alike cells place t_is p_is fit stand leads = absurd (true≢false (sym fit))
    way_meets t here None (Some j) alike cells place t_is p_is fit stand leads = absurd (true≢false (sym fit))

    site_meets : (t : State) → Alike x f o t → IsMemory t.memory → t.eip ≡ frame_map f o.eip → PieceAt b x f site → MeetsWithin f o.eip o t (step o)
    site_meets t alike cells place at =
        let first = told_by b x f rel o t sound alike cells (frame_map f o.eip) place 0 o.eip (counter_of f o.eip) refl ascends at.counts in
        let behind = frame_map f o.eip + length (counter_code (anchors_of f) (counter_of f o.eip)) in
        told_meets o t behind (step o) cells first
        (way_meets first.told behind (kind_of f 1 o.eip) (kind_of f 2 o.eip) first.alike first.cells first.place refl refl at.ways at.stands at.leads)

-- where a site's counters and piece stand and lead on, the site's law holds
pub site_law : (b x : List ℕ) (f : Frame) (s : Site) → IsOutput b x f → AscendPairs (counted f) → PieceAt b x f s → SiteLaw b x f s
site_law b x f s rel ascends at o t h clear =
    let same : s ≡ site_of o s.insn s.len = λ i. record { at = sym h.at i; len = s.len; insn = s.insn } in
    subst (λ (a : ℕ). MeetsWithin f a o t (step o)) h.at
    (site_meets b x f rel ascends o s.insn s.len h.sound h.found clear t h.alike h.cells h.place (subst (PieceAt b x f) same at))
