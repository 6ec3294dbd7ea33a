-- One step, from what stands at EIP and what the asks of its instruction come to.
use Rattle.std.proofs.Common.{◌≡◌, ℕ, Bool, true, false, List, [], ◌∷◌, length, Some, None, refl, sym, ap, ◌∙◌}
use Rattle.std.proofs.lemmas.Bool.{true≢false}
use Rattle.mv_base.specs.Memory.{Memory, read_fault, write_fault, bytes_at, put, address_after}
use Rattle.mv_base.specs.Effects.{Descs}
use Rattle.x86_insn.specs.declared.insn.Insn.{Insn}
use Rattle.x86_insn.specs.declared.insn.Flow.{Flow}
use Rattle.x86_insn.specs.declared.insn.Flow.TheVariants as flow
use Rattle.x86_insn.specs.Flow.{flow_of}
use Rattle.x86_insn.specs.declared.registers.Core.{Core}
use Rattle.x86_insn.specs.declared.stop.Kind.TheVariants.{ReadFault, WriteFault}
use Rattle.x86_insn.specs.declared.stop.Stop.{Stop}
use Rattle.x86_insn.specs.declared.stop.Stop.TheVariants.{Trap}
use Rattle.x86_insn.specs.declared.ask.Ask.{Ask}
use Rattle.x86_insn.specs.declared.ask.Ask.TheVariants.{Reads, Halts, Ends}
use Rattle.x86_insn.specs.State.{State, Next, Stopped}
use Rattle.x86_insn.specs.Round.{round, limit, hop}
use Rattle.x86_insn.specs.Step.{Found, fetch, Ended, Halted, unless_fault, answered, asks, turn, after_turn, rounds, after_rounds, after_hop, is_cpuid, plainly, executed, stepped, step}

-- a state with another core, instruction pointer and memory
abbrev pub moved : State → Core → ℕ → Memory → State
moved s c e m = record s { core = c; eip = e; memory = m }

-- the flows of transfers, which have a hop and no round
abbrev pub is_transfer : Flow → Bool
is_transfer flow.Plain = false
is_transfer flow.Trap = false
is_transfer flow.System = false
is_transfer flow.Jump = true
is_transfer flow.Branch = true
is_transfer flow.Count = true
is_transfer flow.Call = true
is_transfer flow.JumpVia = true
is_transfer flow.CallVia = true
is_transfer flow.Return = true

-- ---- what asks come to

module _ {E : Type 0} (m : Memory) (ask : List (List ℕ) → Ask E) where
  -- they end at once, without a write
  pub turn_ends : (c : Core) (e : E) → ask [] ≡ Ends c None e → turn m ask ≡ Ended c m e
  unfolding asks
  turn_ends c e h = ap (answered m (λ bytes. asks 1 m ask (bytes ∷ []))) h

  -- they end at once, and write
  pub turn_writes : (c : Core) (a : ℕ) (bytes : List ℕ) (e : E) → ask [] ≡ Ends c (Some (a, bytes)) e → write_fault m a (length bytes) ≡ None → turn m ask ≡ Ended c (put m a bytes) e
  unfolding asks
  turn_writes c a bytes e h fault = ap (answered m (λ bytes. asks 1 m ask (bytes ∷ []))) h ∙ ap (λ f. unless_fault WriteFault f (Ended c (put m a bytes) e)) fault

  -- they read once and then end
  turn_asks : (a len : ℕ) → ask [] ≡ Reads a len → read_fault m a len ≡ None → turn m ask ≡ asks 1 m ask (bytes_at m a len ∷ [])
  unfolding asks
  turn_asks a len h fault = ap (answered m (λ bytes. asks 1 m ask (bytes ∷ []))) h ∙ ap (λ f. unless_fault ReadFault f (asks 1 m ask (bytes_at m a len ∷ []))) fault

  pub turn_reads : (a len : ℕ) (c : Core) (e : E) → ask [] ≡ Reads a len → read_fault m a len ≡ None → ask (bytes_at m a len ∷ []) ≡ Ends c None e → turn m ask ≡ Ended c m e
  unfolding asks
  turn_reads a len c e h fault then =
      turn_asks a len h fault ∙ ap (answered m (λ bytes. asks 0 m ask (bytes_at m a len ∷ bytes ∷ []))) then

  -- they read once and then write
  pub turn_moves : (a len : ℕ) (c : Core) (b : ℕ) (bytes : List ℕ) (e : E) → ask [] ≡ Reads a len → read_fault m a len ≡ None → ask (bytes_at m a len ∷ []) ≡ Ends c (Some (b, bytes)) e → write_fault m b (length bytes) ≡ None → turn m ask ≡ Ended c (put m b bytes) e
  unfolding asks
  turn_moves a len c b bytes e h fault then free =
      turn_asks a len h fault ∙ ap (answered m (λ bytes. asks 0 m ask (bytes_at m a len ∷ bytes ∷ []))) then ∙ ap (λ f. unless_fault WriteFault f (Ended c (put m b bytes) e)) free

  -- they stop: at once, at the read, and at the write
  pub turn_halts : (why : Stop) → ask [] ≡ Halts why → turn m ask ≡ Halted why
  unfolding asks
  turn_halts why h = ap (answered m (λ bytes. asks 1 m ask (bytes ∷ []))) h

  pub turn_read_faults : (a len at : ℕ) → ask [] ≡ Reads a len → read_fault m a len ≡ Some at → turn m ask ≡ Halted (Trap ReadFault at)
  unfolding asks
  turn_read_faults a len at h fault = ap (answered m (λ bytes. asks 1 m ask (bytes ∷ []))) h ∙ ap (λ f. unless_fault ReadFault f (asks 1 m ask (bytes_at m a len ∷ []))) fault

  pub turn_write_faults : (c : Core) (a : ℕ) (bytes : List ℕ) (e : E) (at : ℕ) → ask [] ≡ Ends c (Some (a, bytes)) e → write_fault m a (length bytes) ≡ Some at → turn m ask ≡ Halted (Trap WriteFault at)
  unfolding asks
  turn_write_faults c a bytes e at h fault = ap (answered m (λ bytes. asks 1 m ask (bytes ∷ []))) h ∙ ap (λ f. unless_fault WriteFault f (Ended c (put m a bytes) e)) fault

-- ---- one step

pub fetched_step : (s : State) (i : Insn) (n : ℕ) → fetch s.memory s.eip ≡ Found i n → step s ≡ stepped s (Found i n)
unfolding step
fetched_step s i n e = ap (stepped s) e

pub one_round : (i : Insn) (ds : Descs) (c : Core) (m : Memory) → rounds 1 i ds c m ≡ after_turn (turn m (round i ds c)) c m (rounds 0 i ds)
unfolding rounds
one_round i ds c m = refl

module _ (s : State) (c : Core) (e : ℕ) (m : Memory) (i : Insn) (n : ℕ) (there : fetch m e ≡ Found i n) where
  by_flow : (f : Flow) → flow_of i ≡ f → step (moved s c e m) ≡ executed (moved s c e m) i (address_after e n) f
  by_flow f h = fetched_step (moved s c e m) i n there ∙ ap (executed (moved s c e m) i (address_after e n)) h

  by_rounds : is_cpuid i ≡ false → executed (moved s c e m) i (address_after e n) flow.Plain ≡ after_rounds (moved s c e m) (address_after e n) (rounds (limit i c) i s.descs c m)
  by_rounds h = ap (λ t. plainly t (moved s c e m) i (address_after e n)) h

  once : limit i c ≡ 1 → after_rounds (moved s c e m) (address_after e n) (rounds (limit i c) i s.descs c m) ≡ after_rounds (moved s c e m) (address_after e n) (after_turn (turn m (round i s.descs c)) c m (rounds 0 i s.descs))
  once h = ap (λ k. after_rounds (moved s c e m) (address_after e n) (rounds k i s.descs c m)) h ∙ ap (after_rounds (moved s c e m) (address_after e n)) (one_round i s.descs c m)

  -- an instruction that is no transfer, of one round: it completes, or stops
  pub runs : flow_of i ≡ flow.Plain → is_cpuid i ≡ false → limit i c ≡ 1 → (c' : Core) (m' : Memory) → turn m (round i s.descs c) ≡ Ended c' m' false → step (moved s c e m) ≡ Next (moved s c' (address_after e n) m')
  runs f k l c' m' h = by_flow flow.Plain f ∙ by_rounds k ∙ once l ∙ ap (λ t. after_rounds (moved s c e m) (address_after e n) (after_turn t c m (rounds 0 i s.descs))) h

  pub halts : flow_of i ≡ flow.Plain → is_cpuid i ≡ false → limit i c ≡ 1 → (why : Stop) → turn m (round i s.descs c) ≡ Halted why → step (moved s c e m) ≡ Stopped why (moved s c e m)
  halts f k l why h = by_flow flow.Plain f ∙ by_rounds k ∙ once l ∙ ap (λ t. after_rounds (moved s c e m) (address_after e n) (after_turn t c m (rounds 0 i s.descs))) h

  by_hop : (f : Flow) → is_transfer f ≡ true → executed (moved s c e m) i (address_after e n) f ≡ after_hop (moved s c e m) (turn m (hop (address_after e n) i c))
  by_hop flow.Plain h = absurd (true≢false (sym h))
  by_hop flow.Trap h = absurd (true≢false (sym h))
  by_hop flow.System h = absurd (true≢false (sym h))
  by_hop flow.Jump h = refl
  by_hop flow.Branch h = refl
  by_hop flow.Count h = refl
  by_hop flow.Call h = refl
  by_hop flow.JumpVia h = refl
  by_hop flow.CallVia h = refl
  by_hop flow.Return h = refl

  -- a transfer: it goes to a place, or stops
  pub goes : is_transfer (flow_of i) ≡ true → (c' : Core) (m' : Memory) (to : ℕ) → turn m (hop (address_after e n) i c) ≡ Ended c' m' to → step (moved s c e m) ≡ Next (moved s c' to m')
  goes f c' m' to h = by_flow (flow_of i) refl ∙ by_hop (flow_of i) f ∙ ap (after_hop (moved s c e m)) h

  pub goes_nowhere : is_transfer (flow_of i) ≡ true → (why : Stop) → turn m (hop (address_after e n) i c) ≡ Halted why → step (moved s c e m) ≡ Stopped why (moved s c e m)
  goes_nowhere f why h = by_flow (flow_of i) refl ∙ by_hop (flow_of i) f ∙ ap (after_hop (moved s c e m)) h
