-- What it means that a piece of code, which stands in an added area, comes to what an instruction comes to. This
-- project's own. Of the two states, o is that of the instruction and t that of the piece.
use Rattle.std.specs.Prelude.{◌≡◌, ℕ, ◌+◌, ◌^◌, ◌<◌, ◌≤◌, ◌⊎◌, Bool, true, false, List, length}
use Rattle.std.specs.List.{AllByRecursion}
use Rattle.mv_base.specs.Bytes.{word}
use Rattle.mv_base.specs.Memory.{Memory, is_writable, is_executable, bytes_at}
use Rattle.x86_insn.specs.State.{State, Outcome, Next, Stopped}
use Rattle.x86_insn.specs.declared.stop.Stop.{Stop}
use Rattle.x86_insn.specs.declared.insn.Flow.{Flow}
use Rattle.x86_insn.specs.declared.insn.Flow.TheVariants as flow
use Rattle.x86_insn.specs.Step.{step}
use Rattle.x86_insn.specs.TakenUp.{first_effects}
use Rattle.step_laws.specs.Bounds.{IsState}
use Rattle.step_laws.specs.Beside.{ShowsSame, StatesBeside, IsClearEffect}
use Rattle.step_laws.specs.Passes.{Passes}
use Rattle.step_laws.specs.Standing.{Stands}
use Rattle.step_laws.specs.Keeping.{marks}

-- ---- the area

-- addresses that are added, those of them that pieces may write, and where the 64 private bytes begin
pub record Area : Type 0 where
  pub added : ℕ → Bool
  pub scratch : ℕ → Bool
  pub private : ℕ

-- how many private bytes there are
abbrev pub private_len : ℕ
private_len = 64

-- added addresses are addresses, the private bytes may be written by pieces, and what pieces may write is added and
-- writable
pub record HasArea (area : Area) (t : Memory) : Type 0 where
  pub low : (a : ℕ) → area.added a ≡ true → a < 2 ^ 32
  pub fits : area.private + private_len ≤ 2 ^ 32
  pub private : (k : ℕ) → k < private_len → area.scratch (area.private + k) ≡ true
  pub added : (a : ℕ) → area.scratch a ≡ true → area.added a ≡ true
  pub writable : (a : ℕ) → area.scratch a ≡ true → is_writable t a ≡ true

-- these bytes stand from an address on in the area, and no piece may write them
pub record StandsIn (area : Area) (t : Memory) (at : ℕ) (bytes : List ℕ) : Type 0 where
  pub stands : Stands t at bytes
  pub added : (k : ℕ) → k < length bytes → area.added (at + k) ≡ true
  pub fixed : (k : ℕ) → k < length bytes → area.scratch (at + k) ≡ false

-- what a piece leaves of the second memory: outside the area nothing becomes executable, in the area marks stay, and
-- bytes too but where pieces may write
pub record Keeps (area : Area) (t u : Memory) : Type 0 where
  pub idle : (a : ℕ) → area.added a ≡ false → is_executable t a ≡ false → is_executable u a ≡ false
  pub marks : (a : ℕ) → area.added a ≡ true → marks (u a) ≡ marks (t a)
  pub kept : (a : ℕ) → area.added a ≡ true → area.scratch a ≡ false → u a ≡ t a

-- ---- where a piece begins

-- o stands anywhere, and t, which is o but for the area, where these bytes stand in it
pub record AtPiece (area : Area) (here : ℕ) (bytes : List ℕ) (o t : State) : Type 0 where
  pub area_there : HasArea area t.memory
  pub bounds : IsState o
  pub beside : StatesBeside area.added o t
  pub place : t.eip ≡ here
  pub stands : StandsIn area t.memory here bytes

-- each state before the last leaves of a memory what pieces leave
abbrev pub AllKeep : Area → Memory → ℕ → State → State → Type 0
AllKeep area m n s u = Passes (λ v. Keeps area m v.memory) n s u

-- ---- what a piece comes to

-- t comes in k steps to a state that is o' but for the area; each state before it shows what o shows or what o' shows, and leaves
-- in the area all but what pieces may write
pub record Reaches (area : Area) (k : ℕ) (Arrives : ℕ → State → Type 0) (o o' t : State) : Type 0 where
  pub last : State
  pub passes : Passes (λ u. ShowsSame area.added o u ⊎ ShowsSame area.added o' u) k t last
  pub way : AllKeep area t.memory k t last
  pub alike : StatesBeside area.added o' last
  pub keeps : Keeps area t.memory last.memory
  pub arrives : Arrives o'.eip last

-- t stops for the same cause within k steps, and until then shows what o shows, and leaves in the area all but what pieces may
-- write; what it stops with is o' but for the area, completed iterations included
pub record Breaks (area : Area) (k : ℕ) (o o' t : State) (why : Stop) : Type 0 where
  pub count : ℕ
  pub fewer : count < k
  pub last : State
  pub stopped : State
  pub passes : Passes (ShowsSame area.added o) count t last
  pub way : AllKeep area t.memory count t last
  pub shows : ShowsSame area.added o last
  pub kept : Keeps area t.memory last.memory
  pub stops : step last ≡ Stopped why stopped
  pub alike : StatesBeside area.added o' stopped
  pub keeps : Keeps area t.memory stopped.memory

-- what o's step comes to, t's piece comes to in k steps
abbrev pub Meets : Area → ℕ → (ℕ → State → Type 0) → State → State → Outcome → Type 0
Meets area k Arrives o t (Next o') = Reaches area k Arrives o o' t
Meets area k Arrives o t (Stopped why o') = Breaks area k o o' t why

-- ---- where it arrives, by the address a that the instruction goes to

-- the instruction goes to one address and the piece to another
abbrev pub GoesTo : ℕ → ℕ → ℕ → State → Type 0
GoesTo target to a t = (a ≡ target) × (t.eip ≡ to)

-- both jump, or both go on behind
abbrev pub GoesEither : ℕ → ℕ → ℕ → ℕ → ℕ → State → Type 0
GoesEither target to next behind a t = GoesTo target to a t ⊎ GoesTo next behind a t

-- the piece goes to the stub, with the address in the second private word
abbrev pub GoesVia : Area → ℕ → ℕ → State → Type 0
GoesVia area stub a t = (t.eip ≡ stub) × (bytes_at t.memory (area.private + 4) 4 ≡ word a)

-- the piece goes where a map of addresses has it
abbrev pub Moves : (ℕ → ℕ) → ℕ → State → Type 0
Moves move a t = t.eip ≡ move a

-- ---- copied bytes

-- an instruction whose copy needs nothing but its own rounds, or the answer that it takes
abbrev pub IsOwn : Flow → Type 0
IsOwn flow.Plain = Unit {0}
IsOwn flow.Trap = Unit {0}
IsOwn flow.System = ⊥
IsOwn flow.Jump = ⊥
IsOwn flow.Branch = ⊥
IsOwn flow.Count = ⊥
IsOwn flow.Call = ⊥
IsOwn flow.JumpVia = ⊥
IsOwn flow.CallVia = ⊥
IsOwn flow.Return = ⊥

-- the effects of the answer that a system call takes up are clear
abbrev pub AreClear : Area → State → State → Type 0
AreClear area o t = AllByRecursion (IsClearEffect area.added o.memory t.memory) (first_effects o.answers)
