-- Every step keeps the bounds of states, whatever it comes to.
use Rattle.std.specs.Prelude.{◌≡◌, ℕ, zero, suc, ◌+◌, ◌-◌, ◌^◌, ◌<◌, Bool, true, false, List, [], ◌∷◌, ◌++◌, length, Option, Some, None, nat_lt, nat_le, slice_index, ◌==◌, if◌then◌else◌}
use Rattle.std.specs.List.{AllByRecursion}
use Rattle.std.specs.Option.{option_map}
use Rattle.std.proofs.Common.{refl, subst, arith}
use Rattle.std.proofs.lemmas.Bool.{and_parts, ltb-true}
use Rattle.mv_base.specs.Bytes.{AreBytes}
use Rattle.mv_base.specs.Memory.{Cell, Memory, IsMemory, with_byte, distance, within, byte_of, bytes_at, put, address_after, read_fault, write_fault}
use Rattle.mv_base.specs.Effects.{Mode, Effect, WriteAt, MapAt, UnmapAt, DescAt, Answer, Ret, IsEffect, IsAnswer, is_write_mode, is_exec_mode, applied, Refusal, Applied, AllApplied, RefusedAt, refusal_of, apply_next, apply_all, Descs, with_base, described, describe_next, describe_all}
use Rattle.mv_base.specs.Effects as effects
use Rattle.x86_insn.specs.declared.insn.Insn.{Insn}
use Rattle.x86_insn.specs.declared.insn.Flow.{Flow}
use Rattle.x86_insn.specs.declared.insn.Flow.TheVariants as flow
use Rattle.x86_insn.specs.declared.insn.Reg.TheVariants.{Eax, Ecx, Edx, Ebx}
use Rattle.x86_insn.specs.declared.insn.Width.TheVariants.{D}
use Rattle.x86_insn.specs.declared.registers.Core.{Core}
use Rattle.x86_insn.specs.declared.stop.Kind.{Kind}
use Rattle.x86_insn.specs.declared.stop.Stop.TheVariants.{Outside}
use Rattle.x86_insn.specs.declared.ask.Ask.{Ask}
use Rattle.x86_insn.specs.declared.ask.Ask.TheVariants.{Reads, Halts, Ends}
use Rattle.x86_insn.specs.Flow.{flow_of}
use Rattle.x86_insn.specs.State.{IsCore, State}
use Rattle.x86_insn.specs.Round.{round, hop, limit}
use Rattle.x86_insn.specs.Step.{Fetched, Absent, Found, Unknown, fetch, Turn, Ended, Halted, unless_fault, answered, asks, turn, Rounds, Completed, Broken, after_turn, rounds, after_rounds, after_hop, after_effects, system, with_words, identified, is_cpuid, plainly, executed, stepped, step}
use Rattle.step_laws.specs.Bounds.{IsState, IsOutcome}
use Rattle.step_laws.specs.laws.Ends.{EndsWell, AreRead, no_bytes, one_more_byte, set_core}
use Rattle.step_laws.specs.laws.Rounds.{AreDescs, round_ends, hop_ends}

-- ---- memory

-- a cell of a memory, or none
abbrev CellFits : ℕ → Option Cell → Type 0
CellFits a None = Unit {0}
CellFits a (Some c) = (a < 0xFFFFF000) × (c.byte < 256)

cell_fits : (m : Memory) → IsMemory m → (a : ℕ) → CellFits a (m a)
cell_fits m h a = go (m a) refl
  where
    go : (c : Option Cell) → m a ≡ c → CellFits a c
    go None e = tt
    go (Some c) e = (h.low a c e, h.bytes a c e)

from_cells : (m : Memory) → ((a : ℕ) → CellFits a (m a)) → IsMemory m
from_cells m h = record { low = λ a c e. (subst (CellFits a) e (h a)).0; bytes = λ a c e. (subst (CellFits a) e (h a)).1 }

byte_fits : (m : Memory) → IsMemory m → (a : ℕ) → byte_of (m a) < 256
byte_fits m h a = go (m a) (cell_fits m h a)
  where
    go : (c : Option Cell) → CellFits a c → byte_of c < 256
    go None f = omega arith
    go (Some c) f = f.1

pub bytes_fit : (m : Memory) → IsMemory m → (n a : ℕ) → AreBytes (bytes_at m a n)
unfolding bytes_at
bytes_fit m h zero a = no_bytes
bytes_fit m h (suc n) a = one_more_byte (byte_of (m a)) (bytes_at m (address_after a 1) n) (byte_fits m h a) (bytes_fit m h n (address_after a 1))

pub put_memory : (m : Memory) (at : ℕ) (bytes : List ℕ) → AreBytes bytes → IsMemory m → IsMemory (put m at bytes)
unfolding put
put_memory m at bytes b h = from_cells (put m at bytes) (λ a. go a (nat_lt (distance at a) (length bytes)) (m a) (cell_fits m h a))
  where
    go : (a : ℕ) (t : Bool) (c : Option Cell) → CellFits a c → CellFits a (if t then option_map (with_byte (slice_index bytes (distance at a))) c else c)
    go a true None f = tt
    go a true (Some c) f = (f.0, b (distance at a))
    go a false c f = f

-- ---- a turn, and rounds

abbrev TurnFits : {E : Type 0} → (E → Type 0) → Turn E → Type 0
TurnFits Good (Ended c m e) = IsCore c × IsMemory m × Good e
TurnFits Good (Halted why) = Unit {0}

unless_fits : {E : Type 0} (Good : E → Type 0) (kind : Kind) (r : Option ℕ) (t : Turn E) → TurnFits Good t → TurnFits Good (unless_fault kind r t)
unless_fits Good kind None t h = h
unless_fits Good kind (Some a) t h = tt

answered_fits : {E : Type 0} (Good : E → Type 0) (m : Memory) (go : List ℕ → Turn E) (ask : Ask E) → IsMemory m → ((bytes : List ℕ) → AreBytes bytes → TurnFits Good (go bytes)) → EndsWell Good ask → TurnFits Good (answered m go ask)
answered_fits Good m go (Reads at len) h k w = unless_fits Good _ (read_fault m at len) (go (bytes_at m at len)) (k (bytes_at m at len) (bytes_fit m h len at))
answered_fits Good m go (Halts why) h k w = tt
answered_fits Good m go (Ends c None e) h k w = (w.0, h, w.2)
answered_fits Good m go (Ends c (Some p) e) h k w = unless_fits Good _ (write_fault m p.0 (length p.1)) _ (w.0, put_memory m p.0 p.1 w.1 h, w.2)

-- byte lists read, and one more
read_more : (got : List (List ℕ)) (bytes : List ℕ) → AreRead got → AreBytes bytes → AreRead (got ++ bytes ∷ [])
read_more [] bytes h b = (b, tt)
read_more (first ∷ got) bytes h b = (h.0, read_more got bytes h.1 b)

asks_fit : {E : Type 0} (Good : E → Type 0) (n : ℕ) (m : Memory) (ask : List (List ℕ) → Ask E) (got : List (List ℕ)) → IsMemory m → ((got : List (List ℕ)) → AreRead got → EndsWell Good (ask got)) → AreRead got → TurnFits Good (asks n m ask got)
unfolding asks
asks_fit Good zero m ask got h w r = answered_fits Good m (λ bytes. Halted Outside) (ask got) h (λ bytes b. tt) (w got r)
asks_fit Good (suc n) m ask got h w r = answered_fits Good m (λ bytes. asks n m ask (got ++ bytes ∷ [])) (ask got) h (λ bytes b. asks_fit Good n m ask (got ++ bytes ∷ []) h w (read_more got bytes r b)) (w got r)

abbrev RoundsFit : Rounds → Type 0
RoundsFit (Completed c m) = IsCore c × IsMemory m
RoundsFit (Broken why c m) = IsCore c × IsMemory m

rounds_fit : (n : ℕ) (i : Insn) (ds : Descs) (c : Core) (m : Memory) → AreDescs ds → IsCore c → IsMemory m → RoundsFit (rounds n i ds c m)
unfolding rounds
rounds_fit zero i ds c m d core h = (core, h)
rounds_fit (suc n) i ds c m d core h = go (λ e u. rounds_fit n i ds e u d) (turn m (round i ds c)) (asks_fit (λ e. Unit {0}) 2 m (round i ds c) [] h (λ got r. round_ends i ds c got d core r) tt)
  where
    go : ((e : Core) (u : Memory) → IsCore e → IsMemory u → RoundsFit (rounds n i ds e u)) → (p : Turn Bool) → TurnFits (λ e. Unit {0}) p → RoundsFit (after_turn p c m (rounds n i ds))
    go rec (Ended e u true) f = rec e u f.0 f.1
    go rec (Ended e u false) f = (f.0, f.1)
    go rec (Halted why) f = (core, h)

-- ---- effects

within_end : (lo len a : ℕ) → within lo len a ≡ true → a < lo + len
within_end lo len a h = ltb-true a (lo + len) (and_parts (nat_le lo a) (nat_lt a (lo + len)) h).1

pub applied_memory : (m : Memory) (e : Effect) → IsEffect e → IsMemory m → IsMemory (applied m e)
unfolding applied
applied_memory m (WriteAt lo bytes) i h = put_memory m lo bytes i.bytes h
applied_memory m (MapAt lo len mode bytes) i h = from_cells (applied m (MapAt lo len mode bytes)) (λ a. go a (within lo len a) refl (m a) (cell_fits m h a))
  where
    go : (a : ℕ) (t : Bool) → within lo len a ≡ t → (c : Option Cell) → CellFits a c → CellFits a (if t then Some (record { byte = slice_index bytes (a - lo); write = is_write_mode mode; exec = is_exec_mode mode }) else c)
    go a true e c f = (omega (arith, within_end lo len a e, i.end), i.bytes (a - lo))
    go a false e c f = f
applied_memory m (UnmapAt lo len) i h = from_cells (applied m (UnmapAt lo len)) (λ a. go a (within lo len a) (m a) (cell_fits m h a))
  where
    go : (a : ℕ) (t : Bool) (c : Option Cell) → CellFits a c → CellFits a (if t then None else c)
    go a true c f = tt
    go a false c f = f
applied_memory m (DescAt index base) i h = from_cells (applied m (DescAt index base)) (λ a. cell_fits m h a)

abbrev AppliedFits : Applied → Type 0
AppliedFits (AllApplied m) = IsMemory m
AppliedFits (RefusedAt why m) = IsMemory m

applied_fits : (es : List Effect) (m : Memory) → AllByRecursion IsEffect es → IsMemory m → AppliedFits (apply_all m es)
applied_fits [] m i h = h
applied_fits (e ∷ es) m i h = go (refusal_of m e) (applied_fits es (applied m e) i.1 (applied_memory m e i.0 h))
  where
    go : (r : Option Refusal) → AppliedFits (apply_all (applied m e) es) → AppliedFits (apply_next r m (apply_all (applied m e) es))
    go None f = f
    go (Some why) f = h

-- ---- descriptors

base_set : (ds : Descs) (index base : ℕ) → AreDescs ds → base < 2 ^ 32 → AreDescs (with_base ds index base)
base_set [] index base h k = (k, tt)
base_set (d ∷ ds) index base h k = go (d.0 == index) (base_set ds index base h.1 k)
  where
    go : (t : Bool) → AreDescs (with_base ds index base) → AreDescs (if t then (index, base) ∷ ds else d ∷ with_base ds index base)
    go true rest = (k, h.1)
    go false rest = (h.0, rest)

described_fit : (ds : Descs) (e : Effect) → AreDescs ds → IsEffect e → AreDescs (described ds e)
described_fit ds (WriteAt lo bytes) h i = h
described_fit ds (MapAt lo len mode bytes) h i = h
described_fit ds (UnmapAt lo len) h i = h
described_fit ds (DescAt index base) h i = base_set ds index base h i.some.fits

describe_fit : (es : List Effect) (m : Memory) (ds : Descs) → AllByRecursion IsEffect es → AreDescs ds → AreDescs (describe_all m es ds)
describe_fit [] m ds i h = h
describe_fit (e ∷ es) m ds i h = go (refusal_of m e) (describe_fit es (applied m e) (described ds e) i.1 (described_fit ds e h i.0))
  where
    go : (r : Option Refusal) → AreDescs (describe_all (applied m e) es (described ds e)) → AreDescs (describe_next r ds (describe_all (applied m e) es (described ds e)))
    go None rest = rest
    go (Some why) rest = h

-- ---- outcomes

module _ (s : State) (h : IsState s) where
  after_rounds_fit : (next : ℕ) (r : Rounds) → next < 2 ^ 32 → RoundsFit r → IsOutcome (after_rounds s next r)
  after_rounds_fit next (Completed c m) low f = record { core = f.0; descs = h.descs; place = low; memory = f.1; answers = h.answers }
  after_rounds_fit next (Broken why c m) low f = record { core = f.0; descs = h.descs; place = h.place; memory = f.1; answers = h.answers }

  own_fits : (i : Insn) (next : ℕ) → next < 2 ^ 32 → IsOutcome (after_rounds s next (rounds (limit i s.core) i s.descs s.core s.memory))
  own_fits i next low = after_rounds_fit next _ low (rounds_fit (limit i s.core) i s.descs s.core s.memory h.descs h.core h.memory)

  after_hop_fits : (p : Turn ℕ) → TurnFits (λ to. to < 2 ^ 32) p → IsOutcome (after_hop s p)
  after_hop_fits (Ended c m to) f = record { core = f.0; descs = h.descs; place = f.2; memory = f.1; answers = h.answers }
  after_hop_fits (Halted why) f = h

  goes_fit : (i : Insn) (next : ℕ) → next < 2 ^ 32 → IsOutcome (after_hop s (turn s.memory (hop next i s.core)))
  goes_fit i next low = after_hop_fits _ (asks_fit (λ to. to < 2 ^ 32) 2 s.memory (hop next i s.core) [] h.memory (λ got r. hop_ends next i s.core got low h.core r) tt)

  after_effects_fit : (next eax : ℕ) (rest : List Answer) (ds : Descs) (p : Applied) → next < 2 ^ 32 → eax < 2 ^ 32 → AllByRecursion IsAnswer rest → AreDescs ds → AppliedFits p → IsOutcome (after_effects s next eax rest ds p)
  after_effects_fit next eax rest ds (AllApplied m) low fits r d f = record { core = set_core D Eax eax s.core h.core fits; descs = d; place = low; memory = f; answers = r }
  after_effects_fit next eax rest ds (RefusedAt why m) low fits r d f = record { core = h.core; descs = d; place = h.place; memory = f; answers = h.answers }

  system_fits : (next : ℕ) (answers : List Answer) → next < 2 ^ 32 → AllByRecursion IsAnswer answers → IsOutcome (system s next answers)
  system_fits next [] low r = h
  system_fits next (effects.Gone ∷ rest) low r = record { core = h.core; descs = h.descs; place = h.place; memory = h.memory; answers = r.1 }
  system_fits next (Ret eax es ∷ rest) low r =
      after_effects_fit next eax rest _ _ low r.0.0 r.1 (describe_fit es s.memory s.descs r.0.1 h.descs) (applied_fits es s.memory r.0.1 h.memory)
  system_fits next (effects.Cpuid eax ebx ecx edx ∷ rest) low r = h

  words_fit : (eax ebx ecx edx : ℕ) → eax < 2 ^ 32 → ebx < 2 ^ 32 → ecx < 2 ^ 32 → edx < 2 ^ 32 → IsCore (with_words s.core eax ebx ecx edx)
  words_fit eax ebx ecx edx a b c d = set_core D Edx edx _ (set_core D Ecx ecx _ (set_core D Ebx ebx _ (set_core D Eax eax s.core h.core a) b) c) d

  identified_fits : (next : ℕ) (answers : List Answer) → next < 2 ^ 32 → AllByRecursion IsAnswer answers → IsOutcome (identified s next answers)
  identified_fits next [] low r = h
  identified_fits next (effects.Gone ∷ rest) low r = h
  identified_fits next (Ret eax es ∷ rest) low r = h
  identified_fits next (effects.Cpuid eax ebx ecx edx ∷ rest) low r =
      record { core = words_fit eax ebx ecx edx r.0.0 r.0.1 r.0.2 r.0.3; descs = h.descs; place = low; memory = h.memory; answers = r.1 }

  plainly_fits : (t : Bool) (i : Insn) (next : ℕ) → next < 2 ^ 32 → IsOutcome (plainly t s i next)
  plainly_fits true i next low = identified_fits next s.answers low h.answers
  plainly_fits false i next low = own_fits i next low

  executed_fits : (i : Insn) (next : ℕ) (fl : Flow) → next < 2 ^ 32 → IsOutcome (executed s i next fl)
  executed_fits i next flow.Plain low = plainly_fits (is_cpuid i) i next low
  executed_fits i next flow.Trap low = own_fits i next low
  executed_fits i next flow.System low = system_fits next s.answers low h.answers
  executed_fits i next flow.Jump low = goes_fit i next low
  executed_fits i next flow.Branch low = goes_fit i next low
  executed_fits i next flow.Count low = goes_fit i next low
  executed_fits i next flow.Call low = goes_fit i next low
  executed_fits i next flow.JumpVia low = goes_fit i next low
  executed_fits i next flow.CallVia low = goes_fit i next low
  executed_fits i next flow.Return low = goes_fit i next low

  stepped_fits : (r : Fetched) → IsOutcome (stepped s r)
  stepped_fits Absent = h
  stepped_fits (Found i n) = executed_fits i (address_after s.eip n) (flow_of i) (omega arith)
  stepped_fits Unknown = h

-- a step keeps the bounds, at every outcome
pub step_fits : (s : State) → IsState s → IsOutcome (step s)
unfolding step
step_fits s h = stepped_fits s h (fetch s.memory s.eip)
