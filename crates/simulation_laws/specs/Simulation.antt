-- What it means that the run of an output follows the run of its input. This project's own.
use Rattle.std.specs.Prelude.{◌≡◌, ℕ, zero, suc, ◌+◌, ◌*◌, ◌%◌, ◌^◌, ◌<◌, ◌≤◌, Bool, true, false, List, [], ◌∷◌, length, Option, Some, None, is_some, ◌==◌, ◌&&◌, ◌||◌, if◌then◌else◌}
use Rattle.std.specs.List.{AllByRecursion}
use Rattle.mv_base.specs.Bytes.{number}
use Rattle.mv_base.specs.Memory.{Memory, IsMemory, is_mapped, is_executable, bytes_at, joined}
use Rattle.mv_base.specs.Effects.{Effect, Answer, IsAnswer, touches}
use Rattle.x86_insn.specs.State.{IsCore, State}
use Rattle.x86_insn.specs.declared.registers.Core.{Core}
use Rattle.x86_insn.specs.TakenUp.{taken_up}
use Rattle.x86_insn.specs.Step.{Fetched, Found, fetch, step}
use Rattle.x86_insn.specs.Run.{state_after}
use Rattle.step_laws.specs.Keeping.{marks}
use Rattle.step_laws.specs.Beside.{shown, exec_cell, IsClearOutcome}
use Rattle.edge_hooks.specs.Jumping.{insn_jumps}
use Rattle.elf32_read.specs.Fields.{entry_at}
use Rattle.elf32_read.specs.Faults.{load_refusal}
use Rattle.elf32_read.specs.Load.{load}
use Rattle.elf32_write.specs.Frame.{Frame, frame, frame_map, is_added, is_private, counted_at, kind_at, counter_place}

-- ---- starts and runs

-- registers, flags, GS and further cells, with which a file's run begins
pub record Start : Type 0 where
  pub core : Core
  pub cells : Memory

-- a start for a file: its cells are not executable, and none of them has an address of the file's memory
pub record IsStart (b : List ℕ) (s : Start) : Type 0 where
  pub core : IsCore s.core
  pub cells : IsMemory s.cells
  pub idle : (a : ℕ) → is_executable s.cells a ≡ false
  pub apart : (a : ℕ) → is_mapped (load b) a ≡ true → s.cells a ≡ None

-- the first state of a file's run; there are no descriptors
abbrev pub begin : List ℕ → Start → List Answer → State
begin b s answers = record { core = s.core; descs = []; eip = entry_at b; memory = joined (load b) s.cells; answers = answers; calls = [] }

-- the n-th state of a file's run, where n steps complete
abbrev pub run_state : List ℕ → Start → List Answer → ℕ → Option State
run_state b s answers n = state_after n (begin b s answers)

-- ---- clear steps

-- an effect touches no added address, and no executable one of the input
abbrev pub IsClearEffect : List ℕ → Frame → Effect → Type 0
IsClearEffect b f e = (a : ℕ) → touches e a ≡ true → (is_added f a ≡ false) × (is_executable (load b) a ≡ false)

pub record IsClearStep (b : List ℕ) (f : Frame) (s : State) : Type 0 where
  pub effects_clear : AllByRecursion (IsClearEffect b f) (taken_up s)
  -- a stop is no trap at an added address
  pub stop_clear : IsClearOutcome (is_added f) (step s)

-- the start maps no added address, and the first k steps of the input are clear; the last of them may be a stop
pub record IsClear (b : List ℕ) (f : Frame) (s : Start) (answers : List Answer) (k : ℕ) : Type 0 where
  pub start : (a : ℕ) → is_added f a ≡ true → s.cells a ≡ None
  pub steps : (j : ℕ) → j < k → (o : State) → run_state b s answers j ≡ Some o → IsClearStep b f o

-- ---- agreeing states

-- a state o of the input b and a state t of the output x agree, where c has a number for each counted address and kind
pub record Agree (b x : List ℕ) (f : Frame) (o t : State) (c : ℕ → ℕ → ℕ) : Type 0 where
  pub core : t.core ≡ o.core
  pub descs : t.descs ≡ o.descs
  pub calls : t.calls ≡ o.calls
  pub answers : t.answers ≡ o.answers
  pub place : t.eip ≡ frame_map f o.eip
  -- outside the added range: the same addresses, bytes and write marks, and nothing executable in the output
  pub outside : (a : ℕ) → is_added f a ≡ false → shown (t.memory a) ≡ shown (o.memory a)
  pub idle : (a : ℕ) → is_added f a ≡ false → is_executable t.memory a ≡ false
  -- the input maps no added address, and its executable cells are those of its file
  pub free : (a : ℕ) → is_added f a ≡ true → o.memory a ≡ None
  pub code : (a : ℕ) → exec_cell (o.memory a) ≡ exec_cell (load b a)
  -- in the added range: the output's file, but for the bytes of the private area and of the counters
  pub block : (a : ℕ) → is_added f a ≡ true → marks (t.memory a) ≡ marks (load x a)
  pub kept : (a : ℕ) → is_added f a ≡ true → is_private f a ≡ false → t.memory a ≡ load x a
  pub counts : (k : ℕ) → k < f.counters → number (bytes_at t.memory (counter_place f k) 8) ≡ c (counted_at f k) (kind_at f k) % 2 ^ 64

-- ---- following

-- whether what is fetched jumps, where it is a branch or a loop
abbrev pub fetched_jumps : Fetched → Core → Option Bool
fetched_jumps (Found i len) c = insn_jumps i c
fetched_jumps _ c = None

-- whether the instruction that a state stands at does
abbrev pub jumps : State → Option Bool
jumps s = fetched_jumps (fetch s.memory s.eip) s.core

-- whether a counter of a kind counts what a state begins: kind 1 a branch or loop that jumps, kind 2 another branch or
-- loop, and kind 0 each instruction
abbrev pub is_of_edge : ℕ → Option Bool → Bool
is_of_edge kind None = false
is_of_edge kind (Some true) = kind == 1
is_of_edge kind (Some false) = kind == 2

abbrev pub is_of_kind : ℕ → Option Bool → Bool
is_of_kind kind jumped = kind == 0 || is_of_edge kind jumped

-- whether the counter of an address and kind has one more for the step from a state
abbrev pub adds : State → ℕ → ℕ → Bool
adds s a kind = a == s.eip && is_of_kind kind (jumps s)

abbrev pub adds_there : Option State → ℕ → ℕ → Bool
adds_there None a kind = false
adds_there (Some s) a kind = adds s a kind

-- how many of the first i steps of a run began at an address and are of a kind
unfoldable pub executions : (ℕ → Option State) → ℕ → ℕ → ℕ → ℕ
executions run zero a kind = 0
executions run (suc i) a kind = executions run i a kind + (if adds_there (run i) a kind then 1 else 0)

-- two states are there, and stand in a relation
abbrev pub BothAre : (State → State → Type 0) → Option State → Option State → Type 0
BothAre R None t = ⊥
BothAre R (Some o) None = ⊥
BothAre R (Some o) (Some t) = R o t

-- the input's i-th state and the output's m-th agree
abbrev pub AgreeAt : List ℕ → List ℕ → Frame → Start → List Answer → ℕ → ℕ → Type 0
AgreeAt b x f s answers i m =
    BothAre (λ o t. Agree b x f o t (executions (run_state b s answers) i)) (run_state b s answers i) (run_state x s answers m)

-- the newest number of a pace
abbrev pub newest : List ℕ → ℕ
newest [] = 0
newest (m ∷ ms) = m

-- a pace of n: numbers m_n, .., m_1, 0, the newest first, of which each is above the one before it by at most a bound,
-- and has what is asked at it
abbrev pub IsPace : (ℕ → ℕ → Type 0) → ℕ → ℕ → List ℕ → Type 0
IsPace At bound zero [] = ⊥
IsPace At bound zero (m ∷ []) = (m ≡ 0) × At 0 m
IsPace At bound zero (m ∷ k ∷ ms) = ⊥
IsPace At bound (suc n) [] = ⊥
IsPace At bound (suc n) (m ∷ ms) = (newest ms < m) × (m ≤ newest ms + bound) × At (suc n) m × IsPace At bound n ms

-- how many steps of the output one step of the input takes at most
abbrev pub step_bound : Frame → ℕ
step_bound f = 64 + 8 * length f.runs

-- from this start with these answers, the output passes in order through a state that agrees after each of the first n
-- steps of the input, if those complete and are clear
abbrev pub FollowsIn : List ℕ → List ℕ → Frame → Start → List Answer → ℕ → Type 0
FollowsIn b x f s answers n =
    is_some (run_state b s answers n) ≡ true → IsClear b f s answers n → (pace : List ℕ) × IsPace (AgreeAt b x f s answers) (step_bound f) n pace

-- the output is an image with a frame, and follows the input for every start, every list of answers and every number of
-- steps that complete and are clear
pub record Follows (b x : List ℕ) : Type 0 where
  pub admitted : load_refusal x ≡ None
  pub framed : (f : Frame) × (frame x ≡ Some f)
  pub runs : (f : Frame) → frame x ≡ Some f → (s : Start) (answers : List Answer) (n : ℕ) → IsStart b s → AllByRecursion IsAnswer answers → FollowsIn b x f s answers n
