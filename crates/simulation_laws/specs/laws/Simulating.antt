-- The output of a relocated file stops where its input stops, and shows nothing else on the way.
use Rattle.std.proofs.Common.{◌≡◌, ℕ, inl, inr, ◌+◌, ◌-◌, ◌≤◌, List, Option, Some, None, is_some, refl, sym, ap, ◌∙◌, subst, arith}
use Rattle.std.specs.List.{AllByRecursion}
use Rattle.std.proofs.lemmas.Option.{same_Some}
use Rattle.mv_base.specs.Memory.{IsMemory}
use Rattle.mv_base.specs.Effects.{Answer, IsAnswer}
use Rattle.x86_insn.specs.State.{State, Outcome, Next, Stopped}
use Rattle.x86_insn.specs.declared.stop.Stop.{Stop}
use Rattle.x86_insn.specs.declared.stop.Kind.TheVariants.{FetchFault}
use Rattle.x86_insn.specs.declared.stop.Stop.TheVariants.{Trap, Outside}
use Rattle.x86_insn.specs.Step.{Fetched, Absent, Found, Unknown, fetch, stepped, step}
use Rattle.step_laws.specs.Passes.{Passes}
use Rattle.step_laws.specs.Beside.{ShowsSame, StatesBeside}
use Rattle.step_laws.specs.laws.Passing.{passes_none, passes_arrives}
use Rattle.step_laws.specs.laws.States.{state_later, passes_each}
use Rattle.step_laws.specs.laws.Copying.{shows_of}
use Rattle.elf32_write.specs.Frame.{Frame, frame, is_added}
use Rattle.superset.specs.declared.site.Site.{Site}
use Rattle.superset.specs.Sites.{site_found}
use Rattle.simulation_laws.specs.Code.{site_at, code_in}
use Rattle.simulation_laws.specs.Followed.{IsCarried}
use Rattle.simulation_laws.specs.Relocated.{IsRelocated}
use Rattle.simulation_laws.specs.laws.CountedSite.{site_law}
use Rattle.simulation_laws.specs.Stepping.{IsSound, MeetsWithin}
use Rattle.simulation_laws.specs.Simulation.{Start, IsStart, begin, run_state, IsClear, IsClearStep, Agree, newest, step_bound}
use Rattle.simulation_laws.specs.Stopping.{QuietIn, counts_all, StopsAs, StopsIn, Simulates}
use Rattle.simulation_laws.specs.laws.Sound.{HasCounts, counts_on, alike_of, code_same}
use Rattle.simulation_laws.specs.laws.OneStep.{Goes, step_goes}
use Rattle.simulation_laws.specs.laws.Paces.{both_from, sound, fits, agreeing, followed, follows}

-- ---- one stop

-- the name of a stop
abbrev why_of : Outcome → Stop
why_of (Next s) = Outside
why_of (Stopped why s) = why

-- within its bound the output stops, until then shows what the input shows, and the stop is to the input's what stands
-- there asks for
record StopsSoon (site : Option Site) (f : Frame) (o t : State) (why : Stop) (last : State) (c : ℕ → ℕ → ℕ) : Type 0 where
  more : ℕ
  bounded : more ≤ step_bound f
  state : State
  passes : Passes (ShowsSame (is_added f) o) more t state
  shows : ShowsSame (is_added f) o state
  why_there : Stop
  last_there : State
  stops : step state ≡ Stopped why_there last_there
  alike : StopsAs site f more o.eip why last why_there last_there c

module _ (b x : List ℕ) (f : Frame) (rel : IsCarried b x f) where
  -- at a site
  site_stops : (site : Site) (o t last : State) (why : Stop) (c : ℕ → ℕ → ℕ) → HasCounts f t.memory c → MeetsWithin f o.eip o t (Stopped why last) → StopsSoon (Some site) f o t why last c
  site_stops site o t last why c has m =
      let h = m.comes.0 in
      record {
        more = h.count;
        bounded = omega (arith, h.fewer, m.most);
        state = h.last;
        passes = h.passes;
        shows = h.shows;
        why_there = why;
        last_there = h.stopped;
        stops = h.stops;
        alike = (refl, record { core = h.alike.core; descs = h.alike.descs; same = shows_of (is_added f) last h.stopped h.alike; counts = counts_on f (counts_all o.eip) t.memory h.stopped.memory c has m.comes.1 });
      }

  -- where there is none
  miss_stops : (o t last : State) (why : Stop) (c : ℕ → ℕ → ℕ) → StatesBeside (is_added f) o t → step t ≡ Stopped (Trap FetchFault o.eip) t → StopsAs None f 0 o.eip why last (Trap FetchFault o.eip) t c → StopsSoon None f o t why last c
  miss_stops o t last why c s st alike = record {
    more = 0;
    bounded = omega arith;
    state = t;
    passes = passes_none _ t;
    shows = shows_of (is_added f) o t s;
    why_there = Trap FetchFault o.eip;
    last_there = t;
    stops = st;
    alike = alike;
  }

  -- and by what the input fetches
  fetched_stops : (o t last : State) (why : Stop) (c : ℕ → ℕ → ℕ) (r : Fetched) → HasCounts f t.memory c → StatesBeside (is_added f) o t → stepped o r ≡ Stopped why last → Goes f o t (Stopped why last) r → StopsSoon (site_found o.eip r) f o t why last c
  fetched_stops o t last why c Absent has s st h = miss_stops o t last why c s h (refl, refl, inl (ap why_of (sym st)))
  fetched_stops o t last why c (Found i n) has s st h = site_stops (record { at = o.eip; len = n; insn = i }) o t last why c has h
  fetched_stops o t last why c Unknown has s st h = miss_stops o t last why c s h (refl, refl, inr (ap why_of (sym st)))

  -- from agreeing states and a step of the input that is a stop and clear, the output stops so
  step_stops : (o t last : State) (why : Stop) (c : ℕ → ℕ → ℕ) → IsSound b o → Agree b x f o t c → IsMemory t.memory → IsClearStep b f o → step o ≡ Stopped why last → StopsSoon (site_at (code_in b) o.eip) f o t why last c
  unfolding step
  step_stops o t last why c own a cells clear st =
      let s = alike_of b x f o t c a in
      let goes = subst (λ X. Goes f o t X (fetch o.memory o.eip)) st (step_goes b x f rel o t own s cells a.place clear) in
      subst (λ (code : ℕ → Option ℕ). StopsSoon (site_at code o.eip) f o t why last c) (code_same b o own) (fetched_stops o t last why c (fetch o.memory o.eip) a.counts s.beside st goes)

  -- ---- whole runs

  module _ (s : Start) (answers : List Answer) (start : IsStart b s) (good : AllByRecursion IsAnswer answers) where
    quiet_in : (n : ℕ) → QuietIn b x f s answers n
    quiet_in n there clear = followed b x f rel s answers start good n there clear

    clear_until : (n : ℕ) → IsClear b f s answers (n + 1) → IsClear b f s answers n
    clear_until n clear = record { start = clear.start; steps = λ j h o e. clear.steps j (omega arith) o e }

    stops_in : (n : ℕ) → StopsIn b x f s answers n
    stops_in n o why last here st clear =
        let way = followed b x f rel s answers start good n (ap is_some here) (clear_until n clear) in
        let m = newest way.pace in
        let other = agreeing b x f rel s answers start good n o way here in
        let soon = step_stops o other.0 last why _ (sound b x f rel s answers start good n o here) other.2 (fits b x f rel s answers start good m other.0 other.1).memory (clear.steps n (omega arith) o here) st in
        record {
          way = way;
          more = soon.more;
          bounded = soon.bounded;
          state = soon.state;
          reached = state_later soon.more m (begin x s answers) other.0 soon.state other.1 (passes_arrives _ soon.more other.0 soon.state soon.passes);
          why_there = soon.why_there;
          last_there = soon.last_there;
          stops = soon.stops;
          alike = soon.alike;
          still = λ k low high.
              let u = passes_each _ soon.more other.0 soon.state soon.passes soon.shows (k - m) (omega (arith, low, high)) in
              let back : m + (k - m) ≡ k = omega (arith, low) in
              both_from (ShowsSame (is_added f)) _ _ o u.0 here (ap (run_state x s answers) (sym back) ∙ state_later (k - m) m (begin x s answers) other.0 u.0 other.1 u.1) u.2;
        }

-- a relocated output follows its input, shows nothing else on the way, and stops where its input stops
pub simulates : (b x : List ℕ) (f : Frame) → IsCarried b x f → Simulates b x
simulates b x f rel = record {
  follows = follows b x f rel;
  quiet = λ g e s answers n start good. subst (λ g. QuietIn b x g s answers n) (same g e) (quiet_in b x f rel s answers start good n);
  stops = λ g e s answers n start good. subst (λ g. StopsIn b x g s answers n) (same g e) (stops_in b x f rel s answers start good n);
}
  where
    same : (g : Frame) → frame x ≡ Some g → f ≡ g
    same g e = same_Some f g (sym rel.output.framed ∙ e)

-- an output that has each site's piece is followed by the pieces' laws
pub relocated_simulates : (b x : List ℕ) (f : Frame) → IsRelocated b x f → Simulates b x
relocated_simulates b x f rel =
    simulates b x f (record { output = rel.output; entry = rel.entry; laws = λ a s e. site_law b x f s rel.output rel.ascends (rel.pieces a s e); others = rel.others })
