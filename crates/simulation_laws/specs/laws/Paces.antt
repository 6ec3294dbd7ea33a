-- The run of a relocated output follows the run of its input.
use Rattle.std.proofs.Common.{◌≡◌, ℕ, zero, suc, ◌⊎◌, inl, inr, ◌+◌, ◌-◌, ◌%◌, ◌^◌, ◌<◌, ◌≤◌, if◌then◌else◌, Bool, true, false, List, [], ◌∷◌, Option, Some, None, is_some, refl, sym, ap, ◌∙◌, subst, ⊎_elim, arith}
use Rattle.std.specs.List.{AllByRecursion}
use Rattle.std.proofs.lemmas.Bool.{both_ways}
use Rattle.std.proofs.lemmas.Option.{none-some, same_Some}
use Rattle.mv_base.specs.Memory.{Cell, IsMemory, byte_of, first_of, joined}
use Rattle.mv_base.specs.Bytes.{AreBytes}
use Rattle.mv_base.specs.Effects.{Answer, IsAnswer}
use Rattle.x86_insn.specs.State.{State}
use Rattle.step_laws.specs.Bounds.{IsState}
use Rattle.step_laws.specs.Keeping.{marks}
use Rattle.step_laws.specs.Beside.{shown, exec_cell, ShowsSame}
use Rattle.step_laws.specs.Meeting.{Reaches, Moves}
use Rattle.step_laws.specs.laws.Passing.{passes_arrives}
use Rattle.step_laws.specs.laws.States.{state_now, state_next, state_later, LastStep, last_step, passes_each}
use Rattle.step_laws.specs.laws.Cells.{may_execute, exec_cell_none}
use Rattle.step_laws.specs.laws.Copying.{shows_of}
use Rattle.step_laws.specs.laws.Lasting.{run_fits}
use Rattle.elf32_read.specs.Load.{load}
use Rattle.elf32_write.specs.Frame.{Frame, frame_map, is_added, counted_at, kind_at, counter_place}
use Rattle.simulation_laws.specs.Relocated.{without_exec}
use Rattle.simulation_laws.specs.Followed.{IsCarried}
use Rattle.simulation_laws.specs.Stepping.{counting_area, IsSound}
use Rattle.simulation_laws.specs.Simulation.{Start, IsStart, begin, run_state, IsClear, Agree, adds, adds_there, executions, BothAre, AgreeAt, newest, IsPace, step_bound, FollowsIn, Follows}
use Rattle.simulation_laws.specs.Stopping.{ShowsAt, QuietPace}
use Rattle.simulation_laws.specs.laws.Bounded.{load_low, load_bytes, word_at-lt}
use Rattle.simulation_laws.specs.laws.Sound.{HasCounts, counts_on, alike_of, agree_of, alike_beyond, sound_after}
use Rattle.simulation_laws.specs.laws.Numbers.{zeros_spell}
use Rattle.simulation_laws.specs.laws.Told.{place_is, private_end, counter_byte, at_byte}
use Rattle.simulation_laws.specs.laws.OneStep.{step_meets}

-- ---- two states that are there

pub both_from : (R : State → State → Type 0) (p q : Option State) (o t : State) → p ≡ Some o → q ≡ Some t → R o t → BothAre R p q
both_from R p q o t e h r = subst (λ p. BothAre R p q) (sym e) (subst (λ q. BothAre R (Some o) q) (sym h) r)

pub both_other : (R : State → State → Type 0) (p q : Option State) (o : State) → p ≡ Some o → BothAre R p q → (t : State) × (q ≡ Some t) × R o t
both_other R None q o e h = absurd (none-some o e)
both_other R (Some u) None o e h = absurd h
both_other R (Some u) (Some t) o e h = (t, refl, subst (λ v. R v t) (same_Some u o e) h)

-- a pace has what is asked of it at its newest number
pub pace_at : (At : ℕ → ℕ → Type 0) (bound n : ℕ) (ms : List ℕ) → IsPace At bound n ms → At n (newest ms)
pace_at At bound zero [] h = absurd h
pace_at At bound zero (m ∷ []) h = h.1
pace_at At bound zero (m ∷ k ∷ ms) h = absurd h
pace_at At bound (suc n) [] h = absurd h
pace_at At bound (suc n) (m ∷ ms) h = h.2

none_yet : (run : ℕ → Option State) (a kind : ℕ) → executions run 0 a kind ≡ 0
unfolding executions
none_yet run a kind = refl

-- ---- the first states

joined_shown : (c d : Option Cell) → shown (first_of (without_exec c) d) ≡ shown (first_of c d)
joined_shown None d = refl
joined_shown (Some c) d = refl

joined_idle : (c d : Option Cell) → may_execute d ≡ false → may_execute (first_of (without_exec c) d) ≡ false
joined_idle None d h = h
joined_idle (Some c) d h = refl

joined_code : (c d : Option Cell) → may_execute d ≡ false → exec_cell (first_of c d) ≡ exec_cell c
joined_code None d h = exec_cell_none d h
joined_code (Some c) d h = refl

joined_alone : (c d : Option Cell) → d ≡ None → first_of c d ≡ c
joined_alone None d e = e
joined_alone (Some c) d e = refl

joined_mapped : (P : Type 0) (c d : Option Cell) → is_some (first_of c d) ≡ true → (is_some c ≡ true → P) → (is_some d ≡ true → P) → P
joined_mapped P None d h left right = right h
joined_mapped P (Some c) d h left right = left refl

module _ (b x : List ℕ) (f : Frame) (rel : IsCarried b x f) where
  -- the cells of the input lie below 0xFFFFF000
  file_low : (a : ℕ) → is_some (load b a) ≡ true → a < 0xFFFFF000
  file_low a h = go (is_added f a) refl
    where
      kept : (c : Option Cell) → is_some (without_exec c) ≡ is_some c
      kept None = refl
      kept (Some c) = refl

      go : (v : Bool) → is_added f a ≡ v → a < 0xFFFFF000
      go true e = absurd (both_ways (is_some (load b a)) (ap is_some (rel.output.free a e)) h)
      go false e = load_low x rel.output.admitted a (ap is_some (rel.output.outside a e) ∙ kept (load b a) ∙ h)

  begin_memory : (file : List ℕ) → AreBytes file → ((a : ℕ) → is_some (load file a) ≡ true → a < 0xFFFFF000) → (s : Start) → IsStart b s → IsMemory (joined (load file) s.cells)
  begin_memory file bytes file_low s start = record { low = λ a c e. low a (load file a) refl c e; bytes = λ a c e. byte a (load file a) refl c e }
    where
      low : (a : ℕ) (d : Option Cell) → load file a ≡ d → (c : Cell) → first_of d (s.cells a) ≡ Some c → a < 0xFFFFF000
      low a None p c e = start.cells.low a c e
      low a (Some d) p c e = file_low a (ap is_some p)

      byte : (a : ℕ) (d : Option Cell) → load file a ≡ d → (c : Cell) → first_of d (s.cells a) ≡ Some c → c.byte < 256
      byte a None p c e = start.cells.bytes a c e
      byte a (Some d) p c e = load_bytes file bytes a c (p ∙ e)

  begin_sound : (s : Start) (answers : List Answer) → IsStart b s → AllByRecursion IsAnswer answers → IsSound b (begin b s answers)
  begin_sound s answers start good = record {
    bounds = record { core = start.core; descs = tt; place = word_at-lt b 24 rel.output.bytes; memory = begin_memory b rel.output.bytes file_low s start; answers = good };
    code = λ a. joined_code (load b a) (s.cells a) (start.idle a);
  }

  begin_fits : (s : Start) (answers : List Answer) → IsStart b s → AllByRecursion IsAnswer answers → IsState (begin x s answers)
  begin_fits s answers start good = record {
    core = start.core;
    descs = tt;
    place = word_at-lt x 24 rel.output.bytes_there;
    memory = begin_memory x rel.output.bytes_there (load_low x rel.output.admitted) s start;
    answers = good;
  }

  -- each counter begins at 0
  begin_counts : (s : Start) (c : ℕ → ℕ → ℕ) → ((a kind : ℕ) → c a kind ≡ 0) → ((a : ℕ) → is_added f a ≡ true → s.cells a ≡ None) → HasCounts f (joined (load x) s.cells) c
  begin_counts s c none clear k lt =
      let place = counter_place f k in
      zeros_spell (joined (load x) s.cells) place (omega (arith, place_is b x f rel.output k, lt, private_end b x f rel.output)) (λ j l.
      let private = counter_byte b x f rel.output k j lt l in
      ap (λ a. byte_of (joined (load x) s.cells a)) (at_byte b x f rel.output k j lt l)
      ∙ (ap byte_of (joined_alone (load x (place + j)) (s.cells (place + j)) (clear (place + j) (rel.output.scratch (place + j) private).0)) ∙ rel.output.zeros (place + j) private))
      ∙ ap (λ (n : ℕ). n % 2 ^ 64) (sym (none (counted_at f k) (kind_at f k)))

  begin_agree : (s : Start) (answers : List Answer) (c : ℕ → ℕ → ℕ) → ((a kind : ℕ) → c a kind ≡ 0) → IsStart b s → ((a : ℕ) → is_added f a ≡ true → s.cells a ≡ None) → Agree b x f (begin b s answers) (begin x s answers) c
  begin_agree s answers c none start clear = record {
    core = refl;
    descs = refl;
    calls = refl;
    answers = refl;
    place = rel.entry;
    outside = λ a i. ap (λ d. shown (first_of d (s.cells a))) (rel.output.outside a i) ∙ joined_shown (load b a) (s.cells a);
    idle = λ a i. ap (λ d. may_execute (first_of d (s.cells a))) (rel.output.outside a i) ∙ joined_idle (load b a) (s.cells a) (start.idle a);
    free = λ a i. joined_alone (load b a) (s.cells a) (clear a i) ∙ rel.output.free a i;
    code = λ a. joined_code (load b a) (s.cells a) (start.idle a);
    block = λ a i. ap marks (joined_alone (load x a) (s.cells a) (clear a i));
    kept = λ a i j. joined_alone (load x a) (s.cells a) (clear a i);
    counts = begin_counts s c none clear;
  }

  -- ---- the pace

  module _ (s : Start) (answers : List Answer) (start : IsStart b s) (good : AllByRecursion IsAnswer answers) where
    -- the input's n-th state keeps the bounds of states, and its code is its file's
    pub sound : (n : ℕ) (o : State) → run_state b s answers n ≡ Some o → IsSound b o
    sound n o e = sound_after b x f rel.output n (begin b s answers) o (begin_sound s answers start good) e

    -- and the output's m-th
    pub fits : (m : ℕ) (t : State) → run_state x s answers m ≡ Some t → IsState t
    fits m t e = run_fits m (begin x s answers) t (begin_fits s answers start good) e

    begins : IsClear b f s answers 0 → QuietPace b x f s answers 0
    begins clear =
        record { pace = 0 ∷ []; paced = (refl, both_from (λ o t. Agree b x f o t (executions (run_state b s answers) 0)) _ _ (begin b s answers) (begin x s answers) (start_of b) (start_of x) (begin_agree s answers _ (none_yet (run_state b s answers)) start clear.start)); quiet = tt }
      where
        start_of : (file : List ℕ) → run_state file s answers 0 ≡ Some (begin file s answers)
        start_of file = state_now (begin file s answers)

    -- the state of the output that agrees with the input's n-th
    pub agreeing : (n : ℕ) (o : State) (way : QuietPace b x f s answers n) → run_state b s answers n ≡ Some o → (t : State) × (run_state x s answers (newest way.pace) ≡ Some t) × Agree b x f o t (executions (run_state b s answers) n)
    agreeing n o way here =
        both_other (λ o t. Agree b x f o t (executions (run_state b s answers) n)) _ (run_state x s answers (newest way.pace)) o here (pace_at (AgreeAt b x f s answers) (step_bound f) n way.pace way.paced)

    -- one execution more of what the input's n-th state begins
    executions_on : (n : ℕ) (o : State) (a kind : ℕ) → run_state b s answers n ≡ Some o → executions (run_state b s answers) (suc n) a kind ≡ executions (run_state b s answers) n a kind + (if adds o a kind then 1 else 0)
    unfolding executions
    executions_on n o a kind here = ap (λ (r : Option State). executions (run_state b s answers) n a kind + (if adds_there r a kind then 1 else 0)) here

    -- from one agreeing state to the next, the output shows what the input shows before the step or after it
    goes_quietly : (n m : ℕ) (o o' t : State) → run_state b s answers n ≡ Some o → run_state b s answers (suc n) ≡ Some o' → run_state x s answers m ≡ Some t → (count : ℕ) (h : Reaches (counting_area f) count (Moves (frame_map f)) o o' t) → (k : ℕ) → m ≤ k → k ≤ m + count → ShowsAt b x f s answers n k ⊎ ShowsAt b x f s answers (suc n) k
    goes_quietly n m o o' t here next there count h k low high =
        let u = passes_each _ count t h.last h.passes (inr (shows_of (is_added f) o' h.last h.alike)) (k - m) (omega (arith, low, high)) in
        let back : m + (k - m) ≡ k = omega (arith, low) in
        let at : run_state x s answers k ≡ Some u.0 = ap (run_state x s answers) (sym back) ∙ state_later (k - m) m (begin x s answers) t u.0 there u.1 in
        ⊎_elim (λ p. inl (both_from (ShowsSame (is_added f)) _ _ o u.0 here at p)) (λ p. inr (both_from (ShowsSame (is_added f)) _ _ o' u.0 next at p)) u.2

    goes_on : (n : ℕ) → is_some (run_state b s answers (suc n)) ≡ true → IsClear b f s answers (suc n) → QuietPace b x f s answers n → QuietPace b x f s answers (suc n)
    goes_on n there clear way = from (last_step n (begin b s answers) there)
      where
        from : LastStep n (begin b s answers) → QuietPace b x f s answers (suc n)
        from l =
            let m = newest way.pace in
            let other = agreeing n l.before way l.there in
            let first = state_next n (begin b s answers) l.before l.after l.there l.steps in
            let alike = alike_of b x f l.before other.0 _ other.2 in
            let comes = step_meets b x f rel l.before other.0 (sound n l.before l.there) alike (fits m other.0 other.1).memory other.2.place l.after (clear.steps n (omega arith) l.before l.there) l.steps in
            let r = comes.comes.0 in
            let counts = counts_on f (adds l.before) other.0.memory r.last.memory (executions (run_state b s answers) n) other.2.counts comes.comes.1 in
            let more : HasCounts f r.last.memory (executions (run_state b s answers) (suc n)) =
            λ k lt. counts k lt ∙ ap (λ (c : ℕ). c % 2 ^ 64) (sym (executions_on n l.before (counted_at f k) (kind_at f k) l.there)) in
            let agree = agree_of b x f l.after r.last (executions (run_state b s answers) (suc n)) (sound (suc n) l.after first) (alike_beyond x f l.before l.after other.0 r.last alike r.alike r.keeps) r.arrives more in
            let second = state_later comes.count m (begin x s answers) other.0 r.last other.1 (passes_arrives _ comes.count other.0 r.last r.passes) in
            record {
              pace = (m + comes.count) ∷ way.pace;
              paced = (omega (arith, comes.some), omega (arith, comes.most), both_from (λ o t. Agree b x f o t (executions (run_state b s answers) (suc n))) _ _ l.after r.last first second agree, way.paced);
              quiet = (goes_quietly n m l.before l.after other.0 l.there first other.1 comes.count r, way.quiet);
            }

    earlier : (n : ℕ) → is_some (run_state b s answers (suc n)) ≡ true → is_some (run_state b s answers n) ≡ true
    earlier n there = ap is_some (last_step n (begin b s answers) there).there

    clear_before : (n : ℕ) → IsClear b f s answers (suc n) → IsClear b f s answers n
    clear_before n clear = record { start = clear.start; steps = λ j h o e. clear.steps j (omega arith) o e }

    -- as long as its steps complete and are clear, the input is followed
    pub followed : (n : ℕ) → is_some (run_state b s answers n) ≡ true → IsClear b f s answers n → QuietPace b x f s answers n
    followed zero there clear = begins clear
    followed (suc n) there clear = goes_on n there clear (followed n (earlier n there) (clear_before n clear))

    follows_in : (n : ℕ) → FollowsIn b x f s answers n
    follows_in n there clear = let way = followed n there clear in (way.pace, way.paced)

-- the run of a relocated output follows the run of its input
pub follows : (b x : List ℕ) (f : Frame) → IsCarried b x f → Follows b x
follows b x f rel = record {
  admitted = rel.output.admitted;
  framed = (f, rel.output.framed);
  runs = λ g e s answers n start good. subst (λ g. FollowsIn b x g s answers n) (same_Some f g (sym rel.output.framed ∙ e)) (follows_in b x f rel s answers start good n);
}
