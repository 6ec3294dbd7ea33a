-- The law of copied bytes: an instruction whose bytes stand in the area comes there to the same outcome, completed or
-- stopped. It is stated once over what an instruction asks of memory, and knows no instruction.
use Rattle.std.specs.Prelude.{◌≡◌, ℕ, zero, suc, ◌+◌, ◌^◌, ◌<◌, Bool, true, false, List, [], ◌∷◌, ◌++◌, length, Option, Some, None, slice_set}
use Rattle.std.specs.List.{AllByRecursion}
use Rattle.std.proofs.Common.{refl, sym, ap, ap₂, ◌∙◌, subst, subst₂, inl, arith}
use Rattle.std.proofs.lemmas.Bool.{true≢false}
use Rattle.mv_base.specs.Memory.{Memory, read_fault, write_fault, bytes_at, put, address_after}
use Rattle.mv_base.specs.Effects.{Effect, Answer, Ret, IsAnswer, Applied, AllApplied, RefusedAt, apply_all, Descs, describe_all}
use Rattle.mv_base.specs.Effects as effects
use Rattle.x86_insn.specs.declared.insn.Insn.{Insn}
use Rattle.x86_insn.specs.declared.insn.Flow.{Flow}
use Rattle.x86_insn.specs.declared.insn.Flow.TheVariants as flow
use Rattle.x86_insn.specs.declared.registers.Core.{Core}
use Rattle.x86_insn.specs.declared.ask.Ask.{Ask}
use Rattle.x86_insn.specs.declared.ask.Ask.TheVariants.{Reads, Halts, Ends}
use Rattle.x86_insn.specs.declared.stop.Kind.{Kind}
use Rattle.x86_insn.specs.declared.stop.Kind.TheVariants.{ReadFault, WriteFault}
use Rattle.x86_insn.specs.declared.stop.Stop.TheVariants.{Trap, Outside}
use Rattle.x86_insn.specs.Flow.{flow_of}
use Rattle.x86_insn.specs.Spelling.{spelled}
use Rattle.x86_insn.specs.State.{State, Outcome, Next, Stopped}
use Rattle.x86_insn.specs.Round.{round, limit}
use Rattle.x86_insn.specs.Step.{fetch, Turn, Ended, Halted, unless_fault, answered, asks, turn, Rounds, Completed, Broken, after_turn, rounds, after_rounds, call_of, refused, after_effects, system, with_words, identified, is_cpuid, plainly, executed, step}
use Rattle.x86_insn.specs.TakenUp.{first_effects}
use Rattle.step_laws.specs.Beside.{ShowsSame, StatesBeside, IsClearStop, IsClearOutcome, IsClearEffect}
use Rattle.step_laws.specs.Meeting.{Area, AtPiece, Meets, GoesTo, IsOwn, AreClear}
use Rattle.step_laws.specs.laws.Passing.{passes_none, passes_one}
use Rattle.step_laws.specs.laws.Fetching.{standing_fetched}
use Rattle.step_laws.specs.laws.Turns.{fetched_step}
use Rattle.step_laws.specs.laws.Cells.{IsClearFault}
use Rattle.step_laws.specs.laws.Coding.{low_memory}
use Rattle.step_laws.specs.laws.Alongside.{Alongside, keeps_same, AppliedAlong, read_fault_along, write_fault_along, bytes_along, granted_along, effects_along, describes_along}

-- a turn and rounds that do not stop at an added address
abbrev pub IsClearTurn : {E : Type 0} → (ℕ → Bool) → Turn E → Type 0
IsClearTurn added (Ended c m e) = Unit {0}
IsClearTurn added (Halted why) = IsClearStop added why

abbrev pub IsClearRounds : (ℕ → Bool) → Rounds → Type 0
IsClearRounds added (Completed c m) = Unit {0}
IsClearRounds added (Broken why c m) = IsClearStop added why

-- turns, and rounds, that come to the same: the same end with like memories, or the same stop
abbrev pub TurnAlong : {E : Type 0} → (Memory → Memory → Type 0) → Turn E → Turn E → Type 0
TurnAlong R (Ended c m e) (Ended d n g) = (d ≡ c) × R m n × (g ≡ e)
TurnAlong R (Ended c m e) (Halted why) = ⊥
TurnAlong R (Halted why) (Ended d n g) = ⊥
TurnAlong R (Halted why) (Halted other) = other ≡ why

abbrev pub RoundsAlong : (Memory → Memory → Type 0) → Rounds → Rounds → Type 0
RoundsAlong R (Completed c m) (Completed d n) = (d ≡ c) × R m n
RoundsAlong R (Completed c m) (Broken why d n) = ⊥
RoundsAlong R (Broken why c m) (Completed d n) = ⊥
RoundsAlong R (Broken why c m) (Broken other d n) = (other ≡ why) × (d ≡ c) × R m n

-- states that are the same but for their instruction pointers and the area
pub record StatesAlong (R : Memory → Memory → Type 0) (o t : State) : Type 0 where
  pub core : t.core ≡ o.core
  pub descs : t.descs ≡ o.descs
  pub calls : t.calls ≡ o.calls
  pub answers : t.answers ≡ o.answers
  pub memory : R o.memory t.memory

-- outcomes that come to the same: such states at these addresses, or the same stop with such states
abbrev pub OutcomesAlong : (Memory → Memory → Type 0) → ℕ → ℕ → Outcome → Outcome → Type 0
OutcomesAlong R at to (Next o) (Next t) = StatesAlong R o t × (o.eip ≡ at) × (t.eip ≡ to)
OutcomesAlong R at to (Next o) (Stopped why t) = ⊥
OutcomesAlong R at to (Stopped why o) (Next t) = ⊥
OutcomesAlong R at to (Stopped why o) (Stopped other t) = (other ≡ why) × StatesAlong R o t

module _ (area : Area) (added_low : (a : ℕ) → area.added a ≡ true → a < 2 ^ 32) (s : Memory) where
  abbrev R : Memory → Memory → Type 0
  R o t = Alongside area s o t

  -- ---- a turn

  fault_clear : {E : Type 0} (kind : Kind) (r : Option ℕ) (go : Turn E) → IsClearTurn area.added (unless_fault kind r go) → IsClearFault area.added r
  fault_clear kind None go c = tt
  fault_clear kind (Some a) go c = c

  reads_along : {E : Type 0} (o t : Memory) → R o t → (at len : ℕ) (go_o go_t : List ℕ → Turn E) → ((bytes : List ℕ) → IsClearTurn area.added (go_o bytes) → TurnAlong R (go_o bytes) (go_t bytes)) → (r : Option ℕ) → read_fault o at len ≡ r → IsClearTurn area.added (unless_fault ReadFault r (go_o (bytes_at o at len))) → TurnAlong R (unless_fault ReadFault r (go_o (bytes_at o at len))) (unless_fault ReadFault (read_fault t at len) (go_t (bytes_at t at len)))
  reads_along o t w at len go_o go_t same None e c =
      let q = read_fault_along area added_low s o t w at len (subst (IsClearFault area.added) (sym e) tt) ∙ e in
      let bytes = bytes_along area added_low s o t w at len e in
      subst₂ (λ r l. TurnAlong R (go_o (bytes_at o at len)) (unless_fault ReadFault r (go_t l))) (sym q) (sym bytes) (same (bytes_at o at len) c)
  reads_along o t w at len go_o go_t same (Some a) e c =
      let q = read_fault_along area added_low s o t w at len (subst (IsClearFault area.added) (sym e) c) ∙ e in
      subst (λ r. TurnAlong R (Halted (Trap ReadFault a)) (unless_fault ReadFault r (go_t (bytes_at t at len)))) (sym q) refl

  write_along : {E : Type 0} (o t : Memory) → R o t → (c : Core) (p : ℕ × List ℕ) (g : E) (r : Option ℕ) → write_fault o p.0 (length p.1) ≡ r → IsClearTurn area.added (unless_fault WriteFault r (Ended c (put o p.0 p.1) g)) → TurnAlong R (unless_fault WriteFault r (Ended c (put o p.0 p.1) g)) (unless_fault WriteFault (write_fault t p.0 (length p.1)) (Ended c (put t p.0 p.1) g))
  write_along o t w c p g None e clear =
      let q = write_fault_along area added_low s o t w p.0 (length p.1) (subst (IsClearFault area.added) (sym e) tt) ∙ e in
      subst (λ r. TurnAlong R (Ended c (put o p.0 p.1) g) (unless_fault WriteFault r (Ended c (put t p.0 p.1) g))) (sym q) (refl, granted_along area added_low s o t p.0 p.1 e w, refl)
  write_along o t w c p g (Some a) e clear =
      let q = write_fault_along area added_low s o t w p.0 (length p.1) (subst (IsClearFault area.added) (sym e) clear) ∙ e in
      subst (λ r. TurnAlong R (Halted (Trap WriteFault a)) (unless_fault WriteFault r (Ended c (put t p.0 p.1) g))) (sym q) refl

  answered_along : {E : Type 0} (o t : Memory) → R o t → (go_o go_t : List ℕ → Turn E) → ((bytes : List ℕ) → IsClearTurn area.added (go_o bytes) → TurnAlong R (go_o bytes) (go_t bytes)) → (ask : Ask E) → IsClearTurn area.added (answered o go_o ask) → TurnAlong R (answered o go_o ask) (answered t go_t ask)
  answered_along o t w go_o go_t same (Reads at len) c = reads_along o t w at len go_o go_t same (read_fault o at len) refl c
  answered_along o t w go_o go_t same (Halts why) c = refl
  answered_along o t w go_o go_t same (Ends core None g) c = (refl, w, refl)
  answered_along o t w go_o go_t same (Ends core (Some p) g) c = write_along o t w core p g (write_fault o p.0 (length p.1)) refl c

  asks_along : {E : Type 0} (n : ℕ) (o t : Memory) → R o t → (ask : List (List ℕ) → Ask E) (got : List (List ℕ)) → IsClearTurn area.added (asks n o ask got) → TurnAlong R (asks n o ask got) (asks n t ask got)
  unfolding asks
  asks_along zero o t w ask got c = answered_along o t w (λ bytes. Halted Outside) (λ bytes. Halted Outside) (λ bytes d. refl) (ask got) c
  asks_along (suc n) o t w ask got c = answered_along o t w (λ bytes. asks n o ask (got ++ bytes ∷ [])) (λ bytes. asks n t ask (got ++ bytes ∷ [])) (λ bytes d. asks_along n o t w ask (got ++ bytes ∷ []) d) (ask got) c

  -- the same asks of such memories come to the same
  pub turn_along : {E : Type 0} (o t : Memory) → R o t → (ask : List (List ℕ) → Ask E) → IsClearTurn area.added (turn o ask) → TurnAlong R (turn o ask) (turn t ask)
  turn_along o t w ask c = asks_along 2 o t w ask [] c

  -- ---- rounds

  turn_clear : (p : Turn Bool) (c : Core) (m : Memory) (again : Core → Memory → Rounds) → IsClearRounds area.added (after_turn p c m again) → IsClearTurn area.added p
  turn_clear (Ended d n true) c m again h = tt
  turn_clear (Ended d n false) c m again h = tt
  turn_clear (Halted why) c m again h = h

  rounds_along : (n : ℕ) (i : Insn) (ds : Descs) (c : Core) (o t : Memory) → R o t → IsClearRounds area.added (rounds n i ds c o) → RoundsAlong R (rounds n i ds c o) (rounds n i ds c t)
  unfolding rounds
  rounds_along zero i ds c o t w h = (refl, w)
  rounds_along (suc n) i ds c o t w h = go (rounds_along n i ds) (turn o (round i ds c)) (turn t (round i ds c)) (turn_along o t w (round i ds c) (turn_clear (turn o (round i ds c)) c o (rounds n i ds) h)) h
    where
      go : ((d : Core) (u v : Memory) → R u v → IsClearRounds area.added (rounds n i ds d u) → RoundsAlong R (rounds n i ds d u) (rounds n i ds d v)) → (p q : Turn Bool) → TurnAlong R p q → IsClearRounds area.added (after_turn p c o (rounds n i ds)) → RoundsAlong R (after_turn p c o (rounds n i ds)) (after_turn q c t (rounds n i ds))
      go rec (Ended d u true) (Ended e v true) a h = subst (λ k. RoundsAlong R (rounds n i ds d u) (rounds n i ds k v)) (sym a.0) (rec d u v a.1 h)
      go rec (Ended d u true) (Ended e v false) a h = absurd (true≢false (sym a.2))
      go rec (Ended d u false) (Ended e v true) a h = absurd (true≢false a.2)
      go rec (Ended d u false) (Ended e v false) a h = (a.0, a.1)
      go rec (Ended d u true) (Halted why) a h = absurd a
      go rec (Ended d u false) (Halted why) a h = absurd a
      go rec (Halted why) (Ended e v g) a h = absurd a
      go rec (Halted why) (Halted other) a h = (a, refl, w)

  -- ---- outcomes

  rounds_clear : (r : Rounds) (o : State) (next : ℕ) → IsClearOutcome area.added (after_rounds o next r) → IsClearRounds area.added r
  rounds_clear (Completed c m) o next h = tt
  rounds_clear (Broken why c m) o next h = h

  after_rounds_along : (o t : State) (at to : ℕ) → StatesAlong R o t → (p q : Rounds) → RoundsAlong R p q → OutcomesAlong R at to (after_rounds o at p) (after_rounds t to q)
  after_rounds_along o t at to w (Completed c m) (Completed d n) a = (record { core = a.0; descs = w.descs; calls = w.calls; answers = w.answers; memory = a.1 }, refl, refl)
  after_rounds_along o t at to w (Completed c m) (Broken why d n) a = a
  after_rounds_along o t at to w (Broken why c m) (Completed d n) a = a
  after_rounds_along o t at to w (Broken why c m) (Broken other d n) a = (a.0, record { core = a.1; descs = w.descs; calls = w.calls; answers = w.answers; memory = a.2 })

  own_along : (o t : State) (at to : ℕ) (i : Insn) → StatesAlong R o t → IsClearOutcome area.added (after_rounds o at (rounds (limit i o.core) i o.descs o.core o.memory)) → OutcomesAlong R at to (after_rounds o at (rounds (limit i o.core) i o.descs o.core o.memory)) (after_rounds t to (rounds (limit i t.core) i t.descs t.core t.memory))
  own_along o t at to i w h =
      let same = rounds_along (limit i o.core) i o.descs o.core o.memory t.memory w.memory (rounds_clear (rounds (limit i o.core) i o.descs o.core o.memory) o at h) in
      after_rounds_along o t at to w _ _ (subst₂ (λ ds c. RoundsAlong R (rounds (limit i o.core) i o.descs o.core o.memory) (rounds (limit i c) i ds c t.memory)) (sym w.descs) (sym w.core) same)

  after_effects_along : (o t : State) (at to eax : ℕ) (rest : List Answer) → StatesAlong R o t → (ds es : Descs) → es ≡ ds → (p q : Applied) → AppliedAlong R p q → OutcomesAlong R at to (after_effects o at eax rest ds p) (after_effects t to eax rest es q)
  after_effects_along o t at to eax rest w ds es d (AllApplied m) (AllApplied n) a =
      (record { core = ap (λ (c : Core). record c { regs = slice_set c.regs 0 eax }) w.core; descs = d; calls = ap₂ (λ (l : List (List ℕ)) (c : Core). l ++ call_of c ∷ []) w.calls w.core; answers = refl; memory = a }, refl, refl)
  after_effects_along o t at to eax rest w ds es d (AllApplied m) (RefusedAt why n) a = a
  after_effects_along o t at to eax rest w ds es d (RefusedAt why m) (AllApplied n) a = a
  after_effects_along o t at to eax rest w ds es d (RefusedAt why m) (RefusedAt other n) a = (ap refused a.0, record { core = w.core; descs = d; calls = w.calls; answers = w.answers; memory = a.1 })

  system_along : (o t : State) (at to : ℕ) → StatesAlong R o t → (answers : List Answer) → AllByRecursion IsAnswer answers → AllByRecursion (IsClearEffect area.added o.memory t.memory) (first_effects answers) → OutcomesAlong R at to (system o at answers) (system t to answers)
  system_along o t at to w [] i h = (refl, w)
  system_along o t at to w (effects.Gone ∷ rest) i h = (refl, record { core = w.core; descs = w.descs; calls = ap₂ (λ (l : List (List ℕ)) (c : Core). l ++ call_of c ∷ []) w.calls w.core; answers = refl; memory = w.memory })
  system_along o t at to w (Ret eax es ∷ rest) i h =
      let descs = ap (describe_all t.memory es) w.descs ∙ describes_along area added_low s es o.memory t.memory o.descs i.0.1 h w.memory in
      after_effects_along o t at to eax rest w _ _ descs (apply_all o.memory es) (apply_all t.memory es) (effects_along area added_low s es o.memory t.memory i.0.1 h w.memory)
  system_along o t at to w (effects.Cpuid eax ebx ecx edx ∷ rest) i h = (refl, w)

  call_along : (o t : State) (at to : ℕ) → StatesAlong R o t → AllByRecursion IsAnswer o.answers → AllByRecursion (IsClearEffect area.added o.memory t.memory) (first_effects o.answers) → OutcomesAlong R at to (system o at o.answers) (system t to t.answers)
  call_along o t at to w i h = subst (λ l. OutcomesAlong R at to (system o at o.answers) (system t to l)) (sym w.answers) (system_along o t at to w o.answers i h)

  -- CPUID takes the same answer
  identified_along : (o t : State) (at to : ℕ) → StatesAlong R o t → (answers : List Answer) → OutcomesAlong R at to (identified o at answers) (identified t to answers)
  identified_along o t at to w [] = (refl, w)
  identified_along o t at to w (effects.Gone ∷ rest) = (refl, w)
  identified_along o t at to w (Ret eax es ∷ rest) = (refl, w)
  identified_along o t at to w (effects.Cpuid eax ebx ecx edx ∷ rest) =
      (record { core = ap (λ (c : Core). with_words c eax ebx ecx edx) w.core; descs = w.descs; calls = w.calls; answers = refl; memory = w.memory }, refl, refl)

  plainly_along : (c : Bool) (o t : State) (at to : ℕ) (i : Insn) → StatesAlong R o t → IsClearOutcome area.added (plainly c o i at) → OutcomesAlong R at to (plainly c o i at) (plainly c t i to)
  plainly_along true o t at to i w h = subst (λ l. OutcomesAlong R at to (identified o at o.answers) (identified t to l)) (sym w.answers) (identified_along o t at to w o.answers)
  plainly_along false o t at to i w h = own_along o t at to i w h

-- ---- what stands at the piece

-- states that are the same but for the area show the same
pub shows_of : (added : ℕ → Bool) (o t : State) → StatesBeside added o t → ShowsSame added o t
shows_of added o t w = record { calls = w.calls; answers = w.answers; outside = w.memory.outside }

module _ (area : Area) (here : ℕ) (bytes : List ℕ) (o t : State) (at : AtPiece area here bytes o t) where
  abbrev Along : State → State → Type 0
  Along u v = StatesAlong (Alongside area t.memory) u v

  begins : Along o t
  begins = record {
    core = at.beside.core;
    descs = at.beside.descs;
    calls = at.beside.calls;
    answers = at.beside.answers;
    memory = record { low = low_memory o.memory at.bounds.memory; beside = at.beside.memory; keeps = keeps_same area t.memory };
  }

  beside_of : (u v : State) → Along u v → StatesBeside area.added u v
  beside_of u v w = record { core = w.core; descs = w.descs; calls = w.calls; answers = w.answers; memory = w.memory.beside }

  -- an outcome of t's step that is alike is met in one step
  meets_of : (next to : ℕ) (p q : Outcome) → step t ≡ q → OutcomesAlong (Alongside area t.memory) next to p q → Meets area 1 (GoesTo next to) o t p
  meets_of next to (Next o') (Next u) e w = record {
    last = u;
    passes = passes_one _ t u (inl (shows_of area.added o t at.beside)) e;
    way = passes_one _ t u (keeps_same area t.memory) e;
    alike = beside_of o' u w.0;
    keeps = w.0.memory.keeps;
    arrives = (w.1, w.2);
  }
  meets_of next to (Next o') (Stopped why u) e w = absurd w
  meets_of next to (Stopped why o') (Next u) e w = absurd w
  meets_of next to (Stopped why o') (Stopped other u) e w = record {
    count = 0;
    fewer = omega arith;
    last = t;
    stopped = u;
    passes = passes_none _ t;
    way = passes_none _ t;
    shows = shows_of area.added o t at.beside;
    kept = keeps_same area t.memory;
    stops = subst (λ v. step t ≡ Stopped v u) w.0 e;
    alike = beside_of o' u w.1;
    keeps = w.1.memory.keeps;
  }

  -- the instruction that the bytes spell is executed
  pub executes : (i : Insn) → spelled bytes ≡ Some i → step t ≡ executed t i (here + length bytes) (flow_of i)
  executes i e =
      let found = standing_fetched t.memory here bytes i e at.stands.stands in
      let low : address_after here (length bytes) ≡ here + length bytes = omega (arith, at.stands.stands.low) in
      fetched_step t i (length bytes) (ap (fetch t.memory) at.place ∙ found)
      ∙ ap (λ a. executed t i (address_after a (length bytes)) (flow_of i)) at.place
      ∙ ap (λ a. executed t i a (flow_of i)) low

  -- a copy of an instruction that is no transfer and no system call
  pub own_meets : (i : Insn) (next : ℕ) → spelled bytes ≡ Some i → IsOwn (flow_of i) → IsClearOutcome area.added (executed o i next (flow_of i)) → Meets area 1 (GoesTo next (here + length bytes)) o t (executed o i next (flow_of i))
  own_meets i next e own clear = meets_of next (here + length bytes) _ _ (executes i e) (by_flow (flow_of i) own clear)
    where
      by_flow : (fl : Flow) → IsOwn fl → IsClearOutcome area.added (executed o i next fl) → OutcomesAlong (Alongside area t.memory) next (here + length bytes) (executed o i next fl) (executed t i (here + length bytes) fl)
      by_flow flow.Plain own clear = plainly_along area at.area_there.low t.memory (is_cpuid i) o t next (here + length bytes) i begins clear
      by_flow flow.Trap own clear = own_along area at.area_there.low t.memory o t next (here + length bytes) i begins clear
      by_flow flow.System own clear = absurd own
      by_flow flow.Jump own clear = absurd own
      by_flow flow.Branch own clear = absurd own
      by_flow flow.Count own clear = absurd own
      by_flow flow.Call own clear = absurd own
      by_flow flow.JumpVia own clear = absurd own
      by_flow flow.CallVia own clear = absurd own
      by_flow flow.Return own clear = absurd own

  -- a copy of a system call
  pub system_meets : (i : Insn) (next : ℕ) → spelled bytes ≡ Some i → flow_of i ≡ flow.System → AreClear area o t → Meets area 1 (GoesTo next (here + length bytes)) o t (executed o i next flow.System)
  system_meets i next e k clear =
      meets_of next (here + length bytes) _ _ (executes i e ∙ ap (executed t i (here + length bytes)) k)
      (call_along area at.area_there.low t.memory o t next (here + length bytes) begins at.bounds.answers clear)
