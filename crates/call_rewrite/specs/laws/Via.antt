-- What the pieces of jumps and calls through an operand come to.
use Rattle.std.specs.Prelude.{◌≡◌, ℕ, zero, suc, ◌+◌, ◌%◌, ◌^◌, ◌<◌, true, false, List, [], ◌∷◌, ◌++◌, length, Option, Some, None}
use Rattle.std.specs.List.{concat}
use Rattle.std.proofs.Common.{refl, sym, ap, ap₂, ◌∙◌, subst, arith, length-append}
use Rattle.std.proofs.lemmas.List.Folds.{concat-append}
use Rattle.mv_base.specs.Bytes.{word}
use Rattle.mv_base.specs.Memory.{Memory, address_after, bytes_at, byte_of}
use Rattle.x86_insn.specs.declared.insn.Insn.{Insn}
use Rattle.x86_insn.specs.declared.insn.Insn.TheVariants as insn
use Rattle.x86_insn.specs.declared.insn.Flow.TheVariants as flow
use Rattle.x86_insn.specs.declared.insn.Mem.{Mem}
use Rattle.x86_insn.specs.declared.insn.Reg.TheVariants.{Eax}
use Rattle.x86_insn.specs.declared.insn.Rm.{Rm}
use Rattle.x86_insn.specs.declared.insn.Rm.TheVariants as rm
use Rattle.x86_insn.specs.declared.insn.Src.TheVariants as src
use Rattle.x86_insn.specs.declared.insn.Width.TheVariants.{D}
use Rattle.x86_insn.specs.declared.registers.Core.{Core}
use Rattle.x86_insn.specs.declared.ask.Ask.TheVariants.{Ends}
use Rattle.x86_insn.specs.declared.stop.Stop.{Stop}
use Rattle.x86_insn.specs.Ask.{got_src, got_at}
use Rattle.x86_insn.specs.Meaning.{source_of}
use Rattle.x86_insn.specs.Moves.{lowered}
use Rattle.x86_insn.specs.Operands.{reg, set_reg, bytes_of}
use Rattle.x86_insn.specs.Rows.{rows}
use Rattle.x86_insn.specs.Round.{round, limit, hop}
use Rattle.x86_insn.specs.State.{State, Next, Stopped}
use Rattle.x86_insn.specs.Step.{Ended, asks, turn, after_hop, executed, step}
use Rattle.step_laws.specs.Passes.{Passes}
use Rattle.step_laws.specs.Keeping.{KeepsRest}
use Rattle.step_laws.specs.Beside.{ShowsSame, IsClearStop, IsClearOutcome}
use Rattle.step_laws.specs.Meeting.{Area, AtPiece, StandsIn, Reaches, Breaks, Meets, GoesVia}
use Rattle.step_laws.specs.laws.Passing.{passes_weaker}
use Rattle.step_laws.specs.laws.Ends.{reg_fits}
use Rattle.step_laws.specs.laws.Logs.{Log}
use Rattle.step_laws.specs.laws.Spelled.{Spelled, with_number}
use Rattle.step_laws.specs.laws.NearJump.{jump_spelled}
use Rattle.step_laws.specs.laws.Turns.{halts}
use Rattle.step_laws.specs.laws.Alongside.{Alongside}
use Rattle.step_laws.specs.laws.Composing.{stands_back, keeps_stand, keeps_area, meets_after, meets_wider}
use Rattle.step_laws.specs.laws.Symbolic.{Setting, Code, Comes, memory_of, on, code_rest, keeps_rest, fetched_on, absolute, plain, write, read, written as word_written, jump, done}
use Rattle.step_laws.specs.laws.Resting.{rest_shows, rest_keeps, rest_reaches, rest_breaks}
use Rattle.call_rewrite.specs.Far.{LoadsOperand, keep_eax, take_eax, via_parts, via_len, call_parts, jump_via_parts, call_via_parts, jump_bytes}
use Rattle.call_rewrite.specs.laws.Registers.{eax_set, eax_again}
use Rattle.call_rewrite.specs.laws.Operands.{operand_value, operand_stop, IsClearIfSome, operand_low, turn_loads, turn_load_stops, mov_loads, mov_load_stops}
use Rattle.call_rewrite.specs.laws.Private.{own, begins, along, stop_along, value_along, code_of, via_arrives}
use Rattle.call_rewrite.specs.laws.Pushing.{pushing, GoesKeeping, pushes_meet}
use Rattle.call_rewrite.specs.laws.Returns.{jumps_on}

abbrev at_address : ℕ → Mem
at_address n = record { base = None; index = None; disp = n; gs = false }

keep_spelled : (n : ℕ) → n < 2 ^ 32 → Spelled (keep_eax n) (insn.Mov D (rm.M (at_address n)) (src.R Eax))
unfolding rows
keep_spelled n low = with_number (0xA3 ∷ []) (λ k. insn.Mov D (rm.M (at_address k)) (src.R Eax)) (λ a b c d. refl) (omega arith) refl n low

take_spelled : (n : ℕ) → n < 2 ^ 32 → Spelled (take_eax n) (insn.Mov D (rm.R Eax) (src.M (at_address n)))
unfolding rows
take_spelled n low = with_number (0xA1 ∷ []) (λ k. insn.Mov D (rm.R Eax) (src.M (at_address k))) (λ a b c d. refl) (omega arith) refl n low

-- ---- what the instructions come to

module _ (o : State) (next : ℕ) (operand : Rm) where
  jump_via_done : operand_stop o.memory o.core operand ≡ None → executed o (insn.JumpVia operand) next flow.JumpVia ≡ Next (record o { eip = operand_value o.memory o.core operand })
  unfolding hop
  jump_via_done none = ap (after_hop o) (turn_loads o.memory o.core _ operand o.core None (operand_value o.memory o.core operand) none refl)

  jump_via_fails : (why : Stop) → operand_stop o.memory o.core operand ≡ Some why → executed o (insn.JumpVia operand) next flow.JumpVia ≡ Stopped why o
  unfolding hop
  jump_via_fails why some = ap (after_hop o) (turn_load_stops o.memory o.core _ operand why some)

  call_via_done : operand_stop o.memory o.core operand ≡ None → executed o (insn.CallVia operand) next flow.CallVia ≡ pushing o next (operand_value o.memory o.core operand)
  unfolding hop asks
  call_via_done none = ap (after_hop o) (turn_loads o.memory o.core _ operand (lowered 4 o.core) _ (operand_value o.memory o.core operand) none refl)

  call_via_fails : (why : Stop) → operand_stop o.memory o.core operand ≡ Some why → executed o (insn.CallVia operand) next flow.CallVia ≡ Stopped why o
  unfolding hop
  call_via_fails why some = ap (after_hop o) (turn_load_stops o.memory o.core _ operand why some)

-- ---- the part that both pieces have

module _ (area : Area) (here : ℕ) (load : List ℕ) (operand : Rm) (tail : List (List ℕ)) (o t : State) (at : AtPiece area here (concat (via_parts load area.private ++ tail)) o t) (loads : LoadsOperand operand load) where
  abbrev g : Setting
  g = own area o t at.area_there at.beside at.bounds

  abbrev eax : ℕ
  eax = reg o.core Eax

  -- the target
  abbrev to : ℕ
  to = operand_value o.memory o.core operand

  abbrev kept : Log
  kept = (0, eax) ∷ []

  abbrev both : Log
  both = (1, to) ∷ (0, eax) ∷ []

  loading : Insn
  loading = insn.Mov D (rm.R Eax) (source_of operand)

  first_low : area.private < 2 ^ 32
  first_low = omega (arith, at.area_there.fits)

  second_low : area.private + 4 < 2 ^ 32
  second_low = omega (arith, at.area_there.fits)

  code_there : Code g here (via_parts load area.private ++ tail)
  code_there = code_of area o t at.area_there at.beside at.bounds here (via_parts load area.private ++ tail) at.stands

  keeps_first : {n : ℕ} {u : State} → (Code g (here + 5) (load ∷ keep_eax (area.private + 4) ∷ take_eax area.private ∷ tail) → Comes g n o.core (here + 5) kept u) → Comes g (suc n) o.core here [] u
  unfolding word round got_src
  keeps_first rest =
      write g 0 eax (keep_spelled area.private first_low) refl refl (absolute area.private first_low ∙ omega arith) refl refl code_there rest

  abbrev loaded : Core
  loaded = set_reg D Eax to o.core

  load_turns : operand_stop o.memory o.core operand ≡ None → turn (memory_of g kept) (round (insn.Mov D (rm.R Eax) (source_of operand)) t.descs o.core) ≡ Ended loaded (memory_of g kept) false
  load_turns none =
      mov_loads (memory_of g kept) t.descs o.core operand (stop_along area o t at.area_there at.beside at.bounds kept o.core operand refl (subst (IsClearIfSome area.added) (sym none) tt) ∙ none)
      ∙ ap (λ n. Ended (set_reg D Eax n o.core) (memory_of g kept) false) (value_along area o t at.area_there at.beside at.bounds kept o.core operand refl none)

  to_low : to < 2 ^ 32
  to_low = operand_low o.memory o.core operand at.bounds.memory at.bounds.core

  keep_asks : round (insn.Mov D (rm.M (at_address (area.private + 4))) (src.R Eax)) t.descs loaded [] ≡ Ends loaded (Some ((0 + 0 + 0 + (area.private + 4)) % 2 ^ 32, bytes_of D to)) false
  unfolding round got_src
  keep_asks = ap (λ n. Ends loaded (Some ((0 + 0 + 0 + (area.private + 4)) % 2 ^ 32, bytes_of D n)) false) (eax_set o.core to at.bounds.core.eight)

  abbrev behind : ℕ
  behind = here + 5 + length load + 5 + 5

  via_comes : {n : ℕ} {u : State} → operand_stop o.memory o.core operand ≡ None → (Code g behind tail → Comes g n o.core behind both u) → Comes g (suc (suc (suc (suc n)))) o.core here [] u
  unfolding word round got_src got_at
  via_comes {n} {u} none rest =
      keeps_first (λ code.
      plain g (record { spells = loads.spells }) refl (load_turns none) refl code (λ code.
      write g 1 to (keep_spelled (area.private + 4) second_low) refl keep_asks (absolute (area.private + 4) second_low) refl refl code (λ code.
      read g (g.at 0) eax (λ k. set_reg D Eax k loaded) (take_spelled area.private first_low) refl refl (absolute area.private first_low ∙ omega arith) (λ bytes. refl)
      (word_written g 0 eax refl (reg_fits o.core Eax at.bounds.core) refl refl) refl code (λ code.
      subst (λ (c : Core). Comes g n c behind both u) (sym (eax_again o.core to)) (rest code)))))

  -- the load that stops, behind the first instruction
  abbrev stopping : State
  stopping = on g o.core (here + 5) kept

  first_step : Passes (KeepsRest area.scratch t) 1 t stopping
  first_step = subst (λ (s : State). Passes (KeepsRest area.scratch t) 1 s stopping) (begins area o t at.area_there at.beside at.bounds here at.place) (keeps_first (λ code. done g)).passes

  load_there : Code g (here + 5) (load ∷ keep_eax (area.private + 4) ∷ take_eax area.private ∷ tail)
  unfolding word
  load_there = code_rest g code_there

  load_stops : (why : Stop) → operand_stop o.memory o.core operand ≡ Some why → IsClearStop area.added why → step stopping ≡ Stopped why stopping
  unfolding limit
  load_stops why some clear =
      halts t o.core (here + 5) (memory_of g kept) (insn.Mov D (rm.R Eax) (source_of operand)) (length load) (fetched_on g kept (record { spells = loads.spells }) refl load_there) refl refl refl why
      (mov_load_stops (memory_of g kept) t.descs o.core operand why (stop_along area o t at.area_there at.beside at.bounds kept o.core operand refl (subst (IsClearIfSome area.added) (sym some) clear) ∙ some))

  pub via_breaks : (n : ℕ) (why : Stop) → 1 < n → operand_stop o.memory o.core operand ≡ Some why → IsClearStop area.added why → Breaks area n o o t why
  via_breaks n why more some clear =
      rest_breaks area o t at.area_there at.beside 1 n stopping why more first_step (keeps_rest g o.core (here + 5) kept refl) refl (load_stops why some clear)

-- ---- jumps through an operand

module _ (area : Area) (here next stub : ℕ) (load : List ℕ) (operand : Rm) (o t : State) (at : AtPiece area here (concat (jump_via_parts load here stub area.private)) o t) (loads : LoadsOperand operand load) (stub_low : stub < 2 ^ 32) where
  abbrev jump_tail : List (List ℕ)
  jump_tail = jump_bytes (address_after here (via_len load)) stub ∷ []

  abbrev h : Setting
  h = own area o t at.area_there at.beside at.bounds

  abbrev goes : ℕ
  goes = operand_value o.memory o.core operand

  jump_comes : operand_stop o.memory o.core operand ≡ None → Comes h 5 o.core here [] (on h o.core stub ((1, goes) ∷ (0, reg o.core Eax) ∷ []))
  unfolding word
  jump_comes none =
      via_comes area here load operand jump_tail o t at loads none (λ code.
      jump h stub (jump_spelled (address_after here (via_len load)) stub) (jumps_on (here + 5 + length load + 5 + 5) here (via_len load) stub (omega arith) (omega (arith, code.stands.low)) stub_low) refl code (done h))

  jump_via_by : (r : Option Stop) → operand_stop o.memory o.core operand ≡ r → IsClearOutcome area.added (executed o (insn.JumpVia operand) next flow.JumpVia) → Meets area 5 (GoesVia area stub) o t (executed o (insn.JumpVia operand) next flow.JumpVia)
  jump_via_by None e clear =
      let log : Log = (1, goes) ∷ (0, reg o.core Eax) ∷ [] in
      let last : State = on h o.core stub log in
      let there : Reaches area 5 (GoesVia area stub) o (record o { eip = goes }) t =
      rest_reaches area o t at.area_there at.beside 5 (GoesVia area stub) (record o { eip = goes }) last
      (subst (λ (s : State). Passes (KeepsRest area.scratch t) 5 s last) (begins area o t at.area_there at.beside at.bounds here at.place) (jump_comes e).passes)
      (keeps_rest h o.core stub log refl) refl refl refl refl refl
      (via_arrives area o t at.area_there at.beside at.bounds o.core stub goes log refl refl) in
      subst (Meets area 5 (GoesVia area stub) o t) (sym (jump_via_done o next operand e)) there
  jump_via_by (Some why) e clear =
      let stops = jump_via_fails o next operand why e in
      let fine : IsClearStop area.added why = subst (IsClearOutcome area.added) stops clear in
      subst (Meets area 5 (GoesVia area stub) o t) (sym stops) (via_breaks area here load operand jump_tail o t at loads 5 why (omega arith) e fine)

  -- a jump's piece comes to the stub with its target, or stops where the jump does
  pub jump_via_meets : IsClearOutcome area.added (executed o (insn.JumpVia operand) next flow.JumpVia) → Meets area 5 (GoesVia area stub) o t (executed o (insn.JumpVia operand) next flow.JumpVia)
  jump_via_meets clear = jump_via_by (operand_stop o.memory o.core operand) refl clear

-- ---- calls through an operand

bytes_same : (m n : Memory) (len a : ℕ) → ((k : ℕ) → k < len → m (address_after a k) ≡ n (address_after a k)) → a < 2 ^ 32 → bytes_at m a len ≡ bytes_at n a len
unfolding bytes_at
bytes_same m n zero a same low = refl
bytes_same m n (suc len) a same low =
    let first : address_after a 0 ≡ a = omega arith in
    let rest = bytes_same m n len (address_after a 1) (λ k l.
    let place : address_after a (suc k) ≡ address_after (address_after a 1) k = omega arith in
    subst (λ b. m b ≡ n b) place (same (suc k) (omega arith))) (omega arith) in
    ap₂ (λ (x : ℕ) (xs : List ℕ). x ∷ xs) (ap byte_of (subst (λ b. m b ≡ n b) first (same 0 (omega arith)))) rest

module _ (area : Area) (here next stub : ℕ) (load : List ℕ) (operand : Rm) (o t : State) (at : AtPiece area here (concat (call_via_parts load next here stub area.private)) o t) (loads : LoadsOperand operand load) (next_low : next < 2 ^ 32) (stub_low : stub < 2 ^ 32) where
  abbrev call_tail : List (List ℕ)
  call_tail = call_parts next (address_after here (via_len load)) stub

  abbrev j : Setting
  j = own area o t at.area_there at.beside at.bounds

  abbrev calls : ℕ
  calls = operand_value o.memory o.core operand

  abbrev called : Log
  called = (1, calls) ∷ (0, reg o.core Eax) ∷ []

  abbrev place : ℕ
  place = here + 5 + length load + 5 + 5

  -- before the push
  abbrev before : State
  before = on j o.core place called

  before_comes : operand_stop o.memory o.core operand ≡ None → Passes (KeepsRest area.scratch t) 4 t before
  before_comes none = subst (λ (s : State). Passes (KeepsRest area.scratch t) 4 s before) (begins area o t at.area_there at.beside at.bounds here at.place) (via_comes area here load operand call_tail o t at loads none (λ code. done j)).passes

  before_along : Alongside area t.memory o.memory before.memory
  before_along = along area o t at.area_there at.beside at.bounds called refl

  via_size : length (concat (via_parts load area.private)) ≡ 15 + length load
  unfolding word
  via_size = omega (arith, length-append load (keep_eax (area.private + 4) ++ take_eax area.private ++ []))

  parts : StandsIn area t.memory here (concat (via_parts load area.private) ++ concat call_tail)
  parts = subst (λ (l : List ℕ). StandsIn area t.memory here l) (concat-append (via_parts load area.private) call_tail) at.stands

  place_low : place < 2 ^ 32
  place_low = omega (arith, parts.stands.low, via_size, length-append (concat (via_parts load area.private)) (concat call_tail))

  call_there : StandsIn area t.memory place (concat (call_parts next place stub))
  call_there =
      let at_place : here + length (concat (via_parts load area.private)) ≡ place = omega (arith, via_size) in
      let same : address_after here (via_len load) ≡ place = omega (arith, place_low) in
      subst (λ (e : ℕ). StandsIn area t.memory place (concat (call_parts next e stub))) same
      (subst (λ (e : ℕ). StandsIn area t.memory e (concat call_tail)) at_place (stands_back area t.memory here (concat (via_parts load area.private)) (concat call_tail) parts))

  before_at : AtPiece area place (concat (call_parts next place stub)) o before
  before_at = record {
    area_there = keeps_area area t.memory before.memory before_along.keeps at.area_there;
    bounds = at.bounds;
    beside = record { core = refl; descs = at.beside.descs; calls = at.beside.calls; answers = at.beside.answers; memory = before_along.beside };
    place = refl;
    stands = keeps_stand area t.memory before.memory place (concat (call_parts next place stub)) before_along.keeps call_there;
  }

  keeps_target : (o' u : State) → GoesKeeping area before calls stub o'.eip u → GoesVia area stub o'.eip u
  keeps_target o' u k =
      let same = bytes_same u.memory before.memory 4 (area.private + 4) (λ n l.
      let byte : area.private + (4 + n) ≡ address_after (area.private + 4) n = omega (arith, at.area_there.fits) in
      k.2 (address_after (area.private + 4) n) (at.area_there.added (address_after (area.private + 4) n) (subst (λ (b : ℕ). area.scratch b ≡ true) byte (at.area_there.private (4 + n) (omega arith))))) (omega (arith, at.area_there.fits)) in
      (k.1, same ∙ (via_arrives area o t at.area_there at.beside at.bounds o.core place calls called refl refl).1 ∙ ap word (sym k.0))

  call_via_by : (r : Option Stop) → operand_stop o.memory o.core operand ≡ r → IsClearOutcome area.added (executed o (insn.CallVia operand) next flow.CallVia) → Meets area 6 (GoesVia area stub) o t (executed o (insn.CallVia operand) next flow.CallVia)
  call_via_by None e clear =
      let is = call_via_done o next operand e in
      let pushed = pushes_meet area place next stub calls o before before_at next_low stub_low (subst (IsClearOutcome area.added) is clear) in
      let quiet = passes_weaker (KeepsRest area.scratch t) (ShowsSame area.added o) (rest_shows area o t at.area_there at.beside) 4 t before (before_comes e) in
      let kept = rest_keeps area o t at.area_there at.beside 4 before (before_comes e) in
      subst (Meets area 6 (GoesVia area stub) o t) (sym is)
      (meets_after area o t 4 2 (GoesVia area stub) before (pushing o next calls) quiet kept before_along.keeps
      (meets_wider area o before 2 (GoesKeeping area before calls stub) (GoesVia area stub) (pushing o next calls) keeps_target pushed))
  call_via_by (Some why) e clear =
      let stops = call_via_fails o next operand why e in
      let fine : IsClearStop area.added why = subst (IsClearOutcome area.added) stops clear in
      subst (Meets area 6 (GoesVia area stub) o t) (sym stops) (via_breaks area here load operand call_tail o t at loads 6 why (omega arith) e fine)

  -- a call's piece comes to the stub with its target, or stops where the call does
  pub call_via_meets : IsClearOutcome area.added (executed o (insn.CallVia operand) next flow.CallVia) → Meets area 6 (GoesVia area stub) o t (executed o (insn.CallVia operand) next flow.CallVia)
  call_via_meets clear = call_via_by (operand_stop o.memory o.core operand) refl clear
