-- What a push and a jump behind it come to: the second part of each call.
use Rattle.std.specs.Prelude.{◌≡◌, ℕ, ◌+◌, ◌%◌, ◌^◌, ◌<◌, ◌≤◌, ◌⊎◌, true, false, List, [], ◌∷◌, length, Option, Some, None}
use Rattle.std.specs.List.{concat}
use Rattle.std.proofs.Common.{refl, sym, ap, ap₂, ◌∙◌, subst, inl, inr, arith}
use Rattle.std.proofs.lemmas.Bool.{both_ways, cases_lt}
use Rattle.mv_base.specs.Bytes.{word}
use Rattle.mv_base.specs.Memory.{Memory, is_writable, address_after, distance, put, write_fault}
use Rattle.mv_base.specs.Effects.{Descs}
use Rattle.x86_insn.specs.declared.insn.Insn.TheVariants as insn
use Rattle.x86_insn.specs.declared.insn.Reg.TheVariants.{Esp}
use Rattle.x86_insn.specs.declared.insn.Src.TheVariants as src
use Rattle.x86_insn.specs.declared.insn.Width.TheVariants.{D}
use Rattle.x86_insn.specs.declared.registers.Core.{Core}
use Rattle.x86_insn.specs.declared.stop.Kind.TheVariants.{WriteFault}
use Rattle.x86_insn.specs.declared.stop.Stop.TheVariants.{Trap}
use Rattle.x86_insn.specs.Ask.{got_src}
use Rattle.x86_insn.specs.Moves.{lowered, pushes}
use Rattle.x86_insn.specs.Operands.{reg, bytes_of, address_before}
use Rattle.x86_insn.specs.Rows.{rows}
use Rattle.x86_insn.specs.Round.{round, limit}
use Rattle.x86_insn.specs.State.{State, Outcome, Next, Stopped}
use Rattle.x86_insn.specs.Step.{Found, fetch, turn, after_hop, step}
use Rattle.step_laws.specs.Beside.{Beside, ShowsSame, StatesBeside, IsClearOutcome}
use Rattle.step_laws.specs.Meeting.{Area, AtPiece, StandsIn, Keeps, Reaches, Breaks, Meets}
use Rattle.step_laws.specs.laws.Passing.{passes_none, passes_one, passes_first}
use Rattle.step_laws.specs.laws.Putting.{put_far}
use Rattle.step_laws.specs.laws.Coding.{IsLow, low_memory, reached}
use Rattle.step_laws.specs.laws.Cells.{may_write, IsClearFault}
use Rattle.step_laws.specs.laws.Fetching.{standing_fetched}
use Rattle.step_laws.specs.laws.Spelled.{Spelled, with_number}
use Rattle.step_laws.specs.laws.Turns.{moved, turn_writes, turn_write_faults, runs, halts}
use Rattle.step_laws.specs.laws.Alongside.{Alongside, keeps_same, write_fault_along, granted_along}
use Rattle.step_laws.specs.laws.Copying.{shows_of}
use Rattle.step_laws.specs.laws.Composing.{stands_back, front_piece, keeps_stand}
use Rattle.step_laws.specs.laws.Joining.{jump_step}
use Rattle.call_rewrite.specs.Far.{push_bytes, call_parts, jump_bytes}

pub push_spelled : (n : ℕ) → n < 2 ^ 32 → Spelled (push_bytes n) (insn.Push (src.Imm n))
unfolding rows
push_spelled n low = with_number (0x68 ∷ []) (λ k. insn.Push (src.Imm k)) (λ a b c d. refl) (omega arith) refl n low

-- the word below ESP, where a push writes
abbrev pub pushed_at : Core → ℕ
pushed_at c = address_before (reg c Esp) 4

-- what an instruction comes to that pushes a word and goes to an address
abbrev pub pushing : State → ℕ → ℕ → Outcome
pushing o n to = after_hop o (turn o.memory (λ got. pushes to n o.core))

pushing_done : (o : State) (n to : ℕ) → write_fault o.memory (pushed_at o.core) 4 ≡ None → pushing o n to ≡ Next (record o { core = lowered 4 o.core; memory = put o.memory (pushed_at o.core) (bytes_of D n); eip = to })
pushing_done o n to free = ap (after_hop o) (turn_writes o.memory (λ got. pushes to n o.core) (lowered 4 o.core) (pushed_at o.core) (bytes_of D n) to refl free)

pushing_fails : (o : State) (n to at : ℕ) → write_fault o.memory (pushed_at o.core) 4 ≡ Some at → pushing o n to ≡ Stopped (Trap WriteFault at) o
pushing_fails o n to at fault = ap (after_hop o) (turn_write_faults o.memory (λ got. pushes to n o.core) (lowered 4 o.core) (pushed_at o.core) (bytes_of D n) to at refl fault)

-- the piece arrives, and the added cells are as before
abbrev pub GoesKeeping : Area → State → ℕ → ℕ → ℕ → State → Type 0
GoesKeeping area t target to a u = (a ≡ target) × (u.eip ≡ to) × ((x : ℕ) → area.added x ≡ true → u.memory x ≡ t.memory x)

push_asks : (n : ℕ) (ds : Descs) (c : Core) → n < 2 ^ 32 → round (insn.Push (src.Imm n)) ds c [] ≡ pushes false n c
unfolding round got_src
push_asks n ds c low = let whole : n % 2 ^ 32 ≡ n = omega arith in ap (λ (k : ℕ). pushes false k c) whole

push_once : (n : ℕ) (c : Core) → limit (insn.Push (src.Imm n)) c ≡ 1
unfolding limit
push_once n c = refl

-- a write that the first memory grants meets no added address
granted_apart : (area : Area) (o t : Memory) (at : ℕ) (bytes : List ℕ) → ((x : ℕ) → area.added x ≡ true → x < 2 ^ 32) → IsLow o → Beside area.added o t → write_fault o at (length bytes) ≡ None
    → (x : ℕ) → area.added x ≡ true → put t at bytes x ≡ t x
granted_apart area o t at bytes added_low low w free x e = go (cases_lt (distance at x) (length bytes))
  where
    go : (distance at x < length bytes) ⊎ (length bytes ≤ distance at x) → put t at bytes x ≡ t x
    go (inl near) = absurd (both_ways (is_writable o x) (ap may_write (w.free x e)) (reached o low at (length bytes) free x (added_low x e) near))
    go (inr far) = put_far t at bytes x far

module _ (area : Area) (here n to target : ℕ) (o t : State) (at : AtPiece area here (concat (call_parts n here to)) o t) (low : n < 2 ^ 32) (to_low : to < 2 ^ 32) where
  push_front : AtPiece area here (push_bytes n) o t
  unfolding word
  push_front = front_piece area here (push_bytes n) (jump_bytes (address_after here 5) to) o t at

  behind_push : address_after here 5 ≡ here + 5
  unfolding word
  behind_push = omega (arith, at.stands.stands.low)

  jump_there : StandsIn area t.memory (here + 5) (jump_bytes (here + 5) to)
  unfolding word
  jump_there =
      subst (λ (a : ℕ). StandsIn area t.memory (here + 5) (jump_bytes a to)) behind_push (stands_back area t.memory here (push_bytes n) (jump_bytes (address_after here 5) to) at.stands)

  along : Alongside area t.memory o.memory t.memory
  along = record { low = low_memory o.memory at.bounds.memory; beside = at.beside.memory; keeps = keeps_same area t.memory }

  abbrev a : ℕ
  a = pushed_at o.core

  -- after the push
  abbrev pushed : State
  pushed = record t { core = lowered 4 o.core; memory = put t.memory a (bytes_of D n); eip = here + 5 }

  push_found : fetch t.memory here ≡ Found (insn.Push (src.Imm n)) 5
  unfolding word
  push_found = standing_fetched t.memory here (push_bytes n) (insn.Push (src.Imm n)) (push_spelled n low).spells push_front.stands.stands

  starts_there : step t ≡ step (moved t o.core here t.memory)
  starts_there = ap₂ (λ (c : Core) (e : ℕ). step (moved t c e t.memory)) at.beside.core at.place

  push_steps : write_fault t.memory a 4 ≡ None → step t ≡ Next pushed
  push_steps free =
      starts_there
      ∙ runs t o.core here t.memory (insn.Push (src.Imm n)) 5 push_found refl refl (push_once n o.core) (lowered 4 o.core) (put t.memory a (bytes_of D n))
      (turn_writes t.memory (round (insn.Push (src.Imm n)) t.descs o.core) (lowered 4 o.core) a (bytes_of D n) false (push_asks n t.descs o.core low) free)
      ∙ ap (λ (e : ℕ). Next (record pushed { eip = e })) behind_push

  push_stops : (f : ℕ) → write_fault t.memory a 4 ≡ Some f → step t ≡ Stopped (Trap WriteFault f) (moved t o.core here t.memory)
  push_stops f fault =
      starts_there
      ∙ halts t o.core here t.memory (insn.Push (src.Imm n)) 5 push_found refl refl (push_once n o.core) (Trap WriteFault f)
      (turn_write_faults t.memory (round (insn.Push (src.Imm n)) t.descs o.core) (lowered 4 o.core) a (bytes_of D n) false f (push_asks n t.descs o.core low) fault)

  pushes_by : (r : Option ℕ) → write_fault o.memory a 4 ≡ r → IsClearOutcome area.added (pushing o n target) → Meets area 2 (GoesKeeping area t target to) o t (pushing o n target)
  pushes_by None e clear =
      let free : write_fault t.memory a 4 ≡ None = write_fault_along area at.area_there.low t.memory o.memory t.memory along a 4 (subst (IsClearFault area.added) (sym e) tt) ∙ e in
      let both = granted_along area at.area_there.low t.memory o.memory t.memory a (bytes_of D n) e along in
      let o' : State = record o { core = lowered 4 o.core; memory = put o.memory a (bytes_of D n); eip = target } in
      let last : State = record pushed { eip = to } in
      let alike : StatesBeside area.added o' pushed = record { core = refl; descs = at.beside.descs; calls = at.beside.calls; answers = at.beside.answers; memory = both.beside } in
      let jumps : step pushed ≡ Next last = jump_step area pushed (here + 5) to (keeps_stand area t.memory pushed.memory (here + 5) (jump_bytes (here + 5) to) both.keeps jump_there) refl to_low in
      let quiet : State → Type 0 = λ u. ShowsSame area.added o u ⊎ ShowsSame area.added o' u in
      let leaves : State → Type 0 = λ u. Keeps area t.memory u.memory in
      let there : Reaches area 2 (GoesKeeping area t target to) o o' t = record {
        last = last;
        passes = passes_first quiet 1 t pushed last (inl (shows_of area.added o t at.beside)) (push_steps free) (passes_one quiet pushed last (inr (shows_of area.added o' pushed alike)) jumps);
        way = passes_first leaves 1 t pushed last (keeps_same area t.memory) (push_steps free) (passes_one leaves pushed last both.keeps jumps);
        alike = record { core = refl; descs = at.beside.descs; calls = at.beside.calls; answers = at.beside.answers; memory = both.beside };
        keeps = both.keeps;
        arrives = (refl, refl, granted_apart area o.memory t.memory a (bytes_of D n) at.area_there.low along.low at.beside.memory e);
      } in
      subst (Meets area 2 (GoesKeeping area t target to) o t) (sym (pushing_done o n target e)) there
  pushes_by (Some f) e clear =
      let stops = pushing_fails o n target f e in
      let added : area.added f ≡ false = subst (IsClearOutcome area.added) stops clear in
      let fault : write_fault t.memory a 4 ≡ Some f = write_fault_along area at.area_there.low t.memory o.memory t.memory along a 4 (subst (IsClearFault area.added) (sym e) added) ∙ e in
      let leaves : State → Type 0 = λ u. Keeps area t.memory u.memory in
      let there : Breaks area 2 o o t (Trap WriteFault f) = record {
        count = 0;
        fewer = omega arith;
        last = t;
        stopped = moved t o.core here t.memory;
        passes = passes_none (ShowsSame area.added o) t;
        way = passes_none leaves t;
        shows = shows_of area.added o t at.beside;
        kept = keeps_same area t.memory;
        stops = push_stops f fault;
        alike = record { core = refl; descs = at.beside.descs; calls = at.beside.calls; answers = at.beside.answers; memory = at.beside.memory };
        keeps = keeps_same area t.memory;
      } in
      subst (Meets area 2 (GoesKeeping area t target to) o t) (sym stops) there

  -- a push and a jump behind it come in two steps to what a push and a transfer come to
  pub pushes_meet : IsClearOutcome area.added (pushing o n target) → Meets area 2 (GoesKeeping area t target to) o t (pushing o n target)
  pushes_meet clear = pushes_by (write_fault o.memory a 4) refl clear
