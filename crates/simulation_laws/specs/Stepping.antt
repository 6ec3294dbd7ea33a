-- What holds between an input's state and its output's along both runs, and what a step of the input comes to there. This
-- project's own.
use Rattle.std.specs.Prelude.{◌≡◌, ℕ, ◌+◌, ◌%◌, ◌^◌, ◌<◌, ◌≤◌, Bool, true, false, List, if◌then◌else◌}
use Rattle.mv_base.specs.Bytes.{number}
use Rattle.mv_base.specs.Memory.{Memory, IsMemory, is_executable, within, bytes_at}
use Rattle.x86_insn.specs.State.{State, Outcome, Next, Stopped}
use Rattle.x86_insn.specs.Step.{Found, fetch, step}
use Rattle.step_laws.specs.Bounds.{IsState}
use Rattle.step_laws.specs.Keeping.{marks}
use Rattle.step_laws.specs.Beside.{SameCode, StatesBeside}
use Rattle.step_laws.specs.Meeting.{Area, private_len, Reaches, Breaks, Moves}
use Rattle.elf32_read.specs.Load.{load}
use Rattle.elf32_write.specs.Frame.{Frame, frame_map, is_added, is_private, counted_at, kind_at, counter_place}
use Rattle.superset.specs.declared.site.Site.{Site}
use Rattle.simulation_laws.specs.Simulation.{IsClearStep, adds, step_bound}
use Rattle.simulation_laws.specs.Stopping.{counts_all}

-- what is added, and the 64 private bytes, which pieces may write
abbrev pub area_of : Frame → Area
area_of f = record { added = is_added f; scratch = λ a. within f.private private_len a; private = f.private }

-- what is added, and the private bytes and the counters, which counters and pieces may write
abbrev pub counting_area : Frame → Area
counting_area f = record { added = is_added f; scratch = is_private f; private = f.private }

-- the input's state keeps the bounds of states, and its code is its file's
pub record IsSound (b : List ℕ) (o : State) : Type 0 where
  pub bounds : IsState o
  pub code : SameCode (load b) o.memory

-- the output's state is the input's but for the block, outside it nothing is executable, and in it is the file's but for
-- the private bytes and the counters
pub record Alike (x : List ℕ) (f : Frame) (o t : State) : Type 0 where
  pub beside : StatesBeside (is_added f) o t
  pub idle : (a : ℕ) → is_added f a ≡ false → is_executable t.memory a ≡ false
  pub block : (a : ℕ) → is_added f a ≡ true → marks (t.memory a) ≡ marks (load x a)
  pub kept : (a : ℕ) → is_added f a ≡ true → is_private f a ≡ false → t.memory a ≡ load x a

-- ---- counters

-- the number that a counter has in a memory
abbrev pub counter_number : Frame → Memory → ℕ → ℕ
counter_number f m k = number (bytes_at m (counter_place f k) 8)

-- each counter that one is added to, by its address and kind, has one more, modulo 2^64, and each other has what it had
abbrev pub CountsOne : Frame → (ℕ → ℕ → Bool) → Memory → Memory → Type 0
CountsOne f adds m u =
    (k : ℕ) → k < f.counters → counter_number f u k ≡ (counter_number f m k + (if adds (counted_at f k) (kind_at f k) then 1 else 0)) % 2 ^ 64

-- ---- one step

-- what the input's step at an address comes to, the output comes to in k steps, and has counted the step once more by
-- then: where the step completes, at the place where the address that it goes to is mapped, in each kind that it is of;
-- where it stops, at the same stop, among all executions
abbrev pub ComesTo : Frame → ℕ → ℕ → State → State → Outcome → Type 0
ComesTo f at k o t (Next o') = (r : Reaches (counting_area f) k (Moves (frame_map f)) o o' t) × CountsOne f (adds o) t.memory r.last.memory
ComesTo f at k o t (Stopped why o') = (r : Breaks (counting_area f) k o o' t why) × CountsOne f (counts_all at) t.memory r.stopped.memory

-- and within the bound of a step
pub record MeetsWithin (f : Frame) (at : ℕ) (o t : State) (X : Outcome) : Type 0 where
  pub count : ℕ
  pub some : 0 < count
  pub most : count ≤ step_bound f
  pub comes : ComesTo f at count o t X

-- the input stands at a site, and the output, in a like state, where that is mapped; its cells are bytes
pub record AtSite (b x : List ℕ) (f : Frame) (s : Site) (o t : State) : Type 0 where
  pub sound : IsSound b o
  pub alike : Alike x f o t
  pub cells : IsMemory t.memory
  pub at : o.eip ≡ s.at
  pub place : t.eip ≡ frame_map f o.eip
  pub found : fetch o.memory o.eip ≡ Found s.insn s.len

-- the law of a site: from like states there, the output comes to what a clear step of the input comes to, completed or
-- stopped, with the site counted once more; and each state on the way shows what the input shows before that step or after it
abbrev pub SiteLaw : List ℕ → List ℕ → Frame → Site → Type 0
SiteLaw b x f s = (o t : State) → AtSite b x f s o t → IsClearStep b f o → MeetsWithin f s.at o t (step o)
