-- What it means that an output stops where its input stops, and shows nothing else on the way. This project's own.
use Rattle.std.specs.Prelude.{◌≡◌, ℕ, zero, suc, ◌+◌, ◌%◌, ◌^◌, ◌<◌, ◌≤◌, ◌⊎◌, Bool, true, List, [], ◌∷◌, Option, Some, None, is_some, ◌==◌, ◌&&◌, if◌then◌else◌}
use Rattle.std.specs.List.{AllByRecursion}
use Rattle.mv_base.specs.Bytes.{number}
use Rattle.mv_base.specs.Memory.{bytes_at}
use Rattle.mv_base.specs.Effects.{Answer, IsAnswer}
use Rattle.x86_insn.specs.State.{State, Stopped}
use Rattle.x86_insn.specs.declared.stop.Kind.TheVariants.{FetchFault}
use Rattle.x86_insn.specs.declared.stop.Stop.{Stop}
use Rattle.x86_insn.specs.declared.stop.Stop.TheVariants.{Trap, Outside}
use Rattle.x86_insn.specs.Step.{step}
use Rattle.step_laws.specs.Beside.{ShowsSame}
use Rattle.elf32_write.specs.Frame.{Frame, frame, is_added, counted_at, kind_at, counter_place}
use Rattle.superset.specs.declared.site.Site.{Site}
use Rattle.simulation_laws.specs.Code.{site_at, code_in}
use Rattle.simulation_laws.specs.Simulation.{Start, IsStart, run_state, IsClear, executions, BothAre, AgreeAt, newest, IsPace, step_bound, Follows}

-- ---- what is shown

-- the output's m-th state shows what the input's i-th does
abbrev pub ShowsAt : List ℕ → List ℕ → Frame → Start → List Answer → ℕ → ℕ → Type 0
ShowsAt b x f s answers i m = BothAre (ShowsSame (is_added f)) (run_state b s answers i) (run_state x s answers m)

-- from each number of a pace to the next, each state of the output shows what the input shows before that step or after it
abbrev pub IsQuiet : (ℕ → ℕ → Type 0) → ℕ → List ℕ → Type 0
IsQuiet Shows zero ms = Unit {0}
IsQuiet Shows (suc n) [] = ⊥
IsQuiet Shows (suc n) (m ∷ ms) = ((k : ℕ) → newest ms ≤ k → k ≤ m → Shows n k ⊎ Shows (suc n) k) × IsQuiet Shows n ms

-- a pace of n whose way is quiet
pub record QuietPace (b x : List ℕ) (f : Frame) (s : Start) (answers : List Answer) (n : ℕ) : Type 0 where
  pub pace : List ℕ
  pub paced : IsPace (AgreeAt b x f s answers) (step_bound f) n pace
  pub quiet : IsQuiet (ShowsAt b x f s answers) n pace

abbrev pub QuietIn : List ℕ → List ℕ → Frame → Start → List Answer → ℕ → Type 0
QuietIn b x f s answers n = is_some (run_state b s answers n) ≡ true → IsClear b f s answers n → QuietPace b x f s answers n

-- ---- stops

-- a counter of all executions of the site at an address
abbrev pub counts_all : ℕ → ℕ → ℕ → Bool
counts_all at a kind = a == at && kind == 0

-- at a stop at a site: the same core, descriptors, calls and answers, the same memory outside the added
-- range, and each counter as before, but for that of all executions of the site, which has one more
pub record StopsSame (f : Frame) (at : ℕ) (o t : State) (c : ℕ → ℕ → ℕ) : Type 0 where
  pub core : t.core ≡ o.core
  pub descs : t.descs ≡ o.descs
  pub same : ShowsSame (is_added f) o t
  pub counts : (k : ℕ) → k < f.counters → number (bytes_at t.memory (counter_place f k) 8) ≡ (c (counted_at f k) (kind_at f k) + (if counts_all at (counted_at f k) (kind_at f k) then 1 else 0)) % 2 ^ 64

-- how the output's stop is that of the input at an address, after k steps from the agreeing state: at a site the same
-- stop; elsewhere at once, as a fetch fault at the same address, where the input's is that too or the
-- bytes are no instruction
abbrev pub StopsAs : Option Site → Frame → ℕ → ℕ → Stop → State → Stop → State → (ℕ → ℕ → ℕ) → Type 0
StopsAs (Some site) f k at why o why' t c = (why' ≡ why) × StopsSame f at o t c
StopsAs None f k at why o why' t c = (k ≡ 0) × (why' ≡ Trap FetchFault at) × ((why ≡ Trap FetchFault at) ⊎ (why ≡ Outside))

-- the output stops too, a bounded number of steps after the agreeing state, and until then shows what the input shows
pub record StopsAfter (b x : List ℕ) (f : Frame) (s : Start) (answers : List Answer) (n : ℕ) (o : State) (why : Stop) (last : State) : Type 0 where
  pub way : QuietPace b x f s answers n
  pub more : ℕ
  pub bounded : more ≤ step_bound f
  pub state : State
  pub reached : run_state x s answers (newest way.pace + more) ≡ Some state
  pub why_there : Stop
  pub last_there : State
  pub stops : step state ≡ Stopped why_there last_there
  pub alike : StopsAs (site_at (code_in b) o.eip) f more o.eip why last why_there last_there (executions (run_state b s answers) n)
  pub still : (m : ℕ) → newest way.pace ≤ m → m ≤ newest way.pace + more → ShowsAt b x f s answers n m

abbrev pub StopsIn : List ℕ → List ℕ → Frame → Start → List Answer → ℕ → Type 0
StopsIn b x f s answers n =
    (o : State) (why : Stop) (last : State) → run_state b s answers n ≡ Some o → step o ≡ Stopped why last → IsClear b f s answers (n + 1)
    → StopsAfter b x f s answers n o why last

-- for every start, every list of answers and every number of clear steps: the output follows the input, shows nothing
-- else on the way, and stops where the input stops: at a site by the same stop, and elsewhere by a fetch fault at the
-- same address, where the input has that fault or meets bytes that are no instruction
pub record Simulates (b x : List ℕ) : Type 0 where
  pub follows : Follows b x
  pub quiet : (f : Frame) → frame x ≡ Some f → (s : Start) (answers : List Answer) (n : ℕ) → IsStart b s → AllByRecursion IsAnswer answers → QuietIn b x f s answers n
  pub stops : (f : Frame) → frame x ≡ Some f → (s : Start) (answers : List Answer) (n : ℕ) → IsStart b s → AllByRecursion IsAnswer answers → StopsIn b x f s answers n
