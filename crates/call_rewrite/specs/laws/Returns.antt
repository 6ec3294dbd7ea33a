-- What a return's piece comes to.
use Rattle.std.specs.Prelude.{◌≡◌, ℕ, zero, suc, ◌+◌, ◌/◌, ◌%◌, ◌^◌, ◌<◌, false, List, [], ◌∷◌, length, Option, Some, None}
use Rattle.std.specs.List.{concat}
use Rattle.std.proofs.Common.{refl, sym, ap, ap₂, ◌∙◌, subst, arith}
use Rattle.byteorder.specs.Endian.{little_number}
use Rattle.mv_base.specs.Bytes.{word}
use Rattle.mv_base.specs.Memory.{address_after, read_fault, bytes_at}
use Rattle.mv_base.specs.Effects.{Descs}
use Rattle.x86_insn.specs.declared.ask.Ask.TheVariants.{Ends}
use Rattle.x86_insn.specs.declared.insn.Insn.{Insn}
use Rattle.x86_insn.specs.declared.insn.Insn.TheVariants as insn
use Rattle.x86_insn.specs.declared.insn.Flow.TheVariants as flow
use Rattle.x86_insn.specs.declared.insn.Reg.TheVariants.{Esp}
use Rattle.x86_insn.specs.declared.insn.Rm.TheVariants as rm
use Rattle.x86_insn.specs.declared.insn.Width.TheVariants.{D}
use Rattle.x86_insn.specs.declared.registers.Core.{Core}
use Rattle.x86_insn.specs.declared.stop.Kind.TheVariants.{ReadFault}
use Rattle.x86_insn.specs.declared.stop.Stop.TheVariants.{Trap}
use Rattle.x86_insn.specs.Ask.{got_at}
use Rattle.x86_insn.specs.Moves.{risen}
use Rattle.x86_insn.specs.Operands.{reg}
use Rattle.x86_insn.specs.Rows.{rows}
use Rattle.x86_insn.specs.Round.{round, limit, hop}
use Rattle.x86_insn.specs.State.{State, Next, Stopped}
use Rattle.x86_insn.specs.Step.{after_hop, executed, step}
use Rattle.step_laws.specs.Passes.{Passes}
use Rattle.step_laws.specs.Keeping.{KeepsRest}
use Rattle.step_laws.specs.Beside.{IsClearOutcome}
use Rattle.step_laws.specs.Meeting.{Area, AtPiece, StandsIn, Reaches, Breaks, Meets, GoesVia}
use Rattle.step_laws.specs.Standing.{Stands}
use Rattle.step_laws.specs.laws.Passing.{passes_none}
use Rattle.step_laws.specs.laws.Fetching.{standing_fetched}
use Rattle.step_laws.specs.laws.Alongside.{read_fault_along}
use Rattle.step_laws.specs.laws.Putting.{keeps_self}
use Rattle.step_laws.specs.laws.Cells.{IsClearFault}
use Rattle.step_laws.specs.laws.Spelled.{Spelled, with_number}
use Rattle.step_laws.specs.laws.NearJump.{reach, jump_spelled, jump_goes}
use Rattle.step_laws.specs.laws.Turns.{turn_reads, turn_read_faults, halts}
use Rattle.step_laws.specs.laws.Symbolic.{stands_front, Setting, Comes, on, keeps_rest, absolute, pop_to, quiet, jump, done}
use Rattle.step_laws.specs.laws.Resting.{rest_reaches, rest_breaks}
use Rattle.call_rewrite.specs.Far.{return_steps, pop_bytes, drop_bytes, return_parts}
use Rattle.call_rewrite.specs.laws.Registers.{drops}
use Rattle.call_rewrite.specs.laws.Private.{own, settled, begins, alongside, code_of, word_along, via_arrives}

pop_spelled : (n : ℕ) → n < 2 ^ 32 → Spelled (pop_bytes n) (insn.Pop (rm.M (record { base = None; index = None; disp = n; gs = false })))
unfolding rows
pop_spelled n low = with_number (0x8F ∷ 0x05 ∷ []) (λ k. insn.Pop (rm.M (record { base = None; index = None; disp = k; gs = false }))) (λ a b c d. refl) (omega arith) refl n low

-- four bytes hold a number modulo 2^32
word_wraps : (n : ℕ) → word (n % 2 ^ 32) ≡ word n
unfolding word
word_wraps n =
    let first : n % 2 ^ 32 % 256 ≡ n % 256 = omega arith in
    let second : n % 2 ^ 32 / 256 % 256 ≡ n / 256 % 256 = omega arith in
    let third : n % 2 ^ 32 / 65536 % 256 ≡ n / 65536 % 256 = omega arith in
    let fourth : n % 2 ^ 32 / 16777216 % 256 ≡ n / 16777216 % 256 = omega arith in
    ap₂ (λ (a : ℕ) (l : List ℕ). a ∷ l) first (ap₂ (λ (a : ℕ) (l : List ℕ). a ∷ l) second (ap₂ (λ (a : ℕ) (l : List ℕ). a ∷ l) third (ap (λ (a : ℕ). a ∷ []) fourth)))

drop_number : (n : ℕ) → n < 2 ^ 32 → Spelled (drop_bytes n) (insn.Lea D Esp (record { base = Some Esp; index = None; disp = n; gs = false }))
unfolding rows
drop_number n low = with_number (0x8D ∷ 0xA4 ∷ 0x24 ∷ []) (λ k. insn.Lea D Esp (record { base = Some Esp; index = None; disp = k; gs = false })) (λ a b c d. refl) (omega arith) refl n low

drop_spelled : (n : ℕ) → Spelled (drop_bytes n) (insn.Lea D Esp (record { base = Some Esp; index = None; disp = n % 2 ^ 32; gs = false }))
drop_spelled n = subst (λ (l : List ℕ). Spelled (0x8D ∷ 0xA4 ∷ 0x24 ∷ l) (insn.Lea D Esp (record { base = Some Esp; index = None; disp = n % 2 ^ 32; gs = false }))) (word_wraps n) (drop_number (n % 2 ^ 32) (omega arith))

-- where a return goes, or where its read faults
return_done : (o : State) (next drop : ℕ) → read_fault o.memory (reg o.core Esp) 4 ≡ None
    → executed o (insn.Ret drop) next flow.Return ≡ Next (record o { core = risen (4 + drop) o.core; eip = little_number 4 (bytes_at o.memory (reg o.core Esp) 4) })
unfolding hop got_at
return_done o next drop none =
    ap (after_hop o) (turn_reads o.memory (hop next (insn.Ret drop) o.core) (reg o.core Esp) 4 (risen (4 + drop) o.core) (little_number 4 (bytes_at o.memory (reg o.core Esp) 4)) refl none refl)

return_fails : (o : State) (next drop at : ℕ) → read_fault o.memory (reg o.core Esp) 4 ≡ Some at → executed o (insn.Ret drop) next flow.Return ≡ Stopped (Trap ReadFault at) o
unfolding hop got_at
return_fails o next drop at some = ap (after_hop o) (turn_read_faults o.memory (hop next (insn.Ret drop) o.core) (reg o.core Esp) 4 at refl some)

-- a jump behind some bytes
pub jumps_on : (e here n to : ℕ) → e ≡ here + n → e + 5 < 2 ^ 32 → to < 2 ^ 32 → address_after (e + 5) (reach (address_after here n) to) ≡ to
jumps_on e here n to same low h =
    let place : e + 5 ≡ address_after (address_after here n) 5 = omega arith in
    ap (λ (a : ℕ). address_after a (reach (address_after here n) to)) place ∙ jump_goes (address_after here n) to h

lea_asks : (ds : Descs) (c : Core) (n : ℕ) → length c.regs ≡ 8 → round (insn.Lea D Esp (record { base = Some Esp; index = None; disp = n % 2 ^ 32; gs = false })) ds (risen 4 c) [] ≡ Ends (risen (4 + n) c) None false
unfolding round
lea_asks ds c n eight = ap (λ (d : Core). Ends d None false) (drops c n eight)

pub some_steps : (n : ℕ) → 0 < return_steps n
some_steps zero = omega arith
some_steps (suc n) = omega arith

module _ (area : Area) (here drop next stub : ℕ) (o t : State) (at : AtPiece area here (concat (return_parts drop here stub area.private)) o t) (stub_low : stub < 2 ^ 32) where
  abbrev esp : ℕ
  esp = reg o.core Esp

  -- the address to which it returns
  abbrev to : ℕ
  to = little_number 4 (bytes_at o.memory esp 4)

  abbrev g : Setting
  g = own area o t at.area_there at.beside at.bounds

  private_low : area.private + 4 < 2 ^ 32
  private_low = omega (arith, at.area_there.fits)

  -- the run that completes
  returns_by : (n : ℕ) → drop ≡ n → read_fault o.memory esp 4 ≡ None → Comes g (return_steps n) o.core here [] (on g (risen (4 + n) o.core) stub ((1, to) ∷ []))
  unfolding word
  returns_by zero e none =
      let code = code_of area o t at.area_there at.beside at.bounds here (return_parts 0 here stub area.private) (subst (λ (n : ℕ). StandsIn area t.memory here (concat (return_parts n here stub area.private))) e at.stands) in
      pop_to g 1 to (pop_spelled (area.private + 4) private_low) (absolute (area.private + 4) private_low) (word_along area o t at.area_there at.beside at.bounds [] esp refl none) refl refl code (λ code.
      jump g stub (jump_spelled (address_after here 6) stub) (jumps_on (here + 6) here 6 stub refl (omega (arith, code.stands.low)) stub_low) refl code (done g))
  returns_by (suc n) e none =
      let code = code_of area o t at.area_there at.beside at.bounds here (return_parts (suc n) here stub area.private) (subst (λ (n : ℕ). StandsIn area t.memory here (concat (return_parts n here stub area.private))) e at.stands) in
      pop_to g 1 to (pop_spelled (area.private + 4) private_low) (absolute (area.private + 4) private_low) (word_along area o t at.area_there at.beside at.bounds [] esp refl none) refl refl code (λ code.
      quiet g (drop_spelled (suc n)) refl (lea_asks t.descs o.core (suc n) at.bounds.core.eight) refl code (λ code.
      jump g stub (jump_spelled (address_after here 13) stub) (jumps_on (here + 6 + 7) here 13 stub (omega arith) (omega (arith, code.stands.low)) stub_low) refl code (done g)))

  returns_via : Comes g (return_steps drop) o.core here [] (on g (risen (4 + drop) o.core) stub ((1, to) ∷ [])) → Reaches area (return_steps drop) (GoesVia area stub) o (record o { core = risen (4 + drop) o.core; eip = to }) t
  returns_via comes =
      let last : State = on g (risen (4 + drop) o.core) stub ((1, to) ∷ []) in
      rest_reaches area o t at.area_there at.beside (return_steps drop) (GoesVia area stub) (record o { core = risen (4 + drop) o.core; eip = to }) last
      (subst (λ (s : State). Passes (KeepsRest area.scratch t) (return_steps drop) s last) (begins area o t at.area_there at.beside at.bounds here at.place) comes.passes)
      (keeps_rest g (risen (4 + drop) o.core) stub ((1, to) ∷ []) refl) refl refl refl refl refl
      (via_arrives area o t at.area_there at.beside at.bounds (risen (4 + drop) o.core) stub to ((1, to) ∷ []) refl refl)

  -- the pop that faults
  pop_there : (n : ℕ) → drop ≡ n → Stands t.memory here (pop_bytes (area.private + 4))
  pop_there zero e = stands_front t.memory here (pop_bytes (area.private + 4)) _ (subst (λ (n : ℕ). StandsIn area t.memory here (concat (return_parts n here stub area.private))) e at.stands).stands
  pop_there (suc n) e = stands_front t.memory here (pop_bytes (area.private + 4)) _ (subst (λ (n : ℕ). StandsIn area t.memory here (concat (return_parts n here stub area.private))) e at.stands).stands

  abbrev pops : Insn
  pops = insn.Pop (rm.M (record { base = None; index = None; disp = area.private + 4; gs = false }))

  pop_stops : (f : ℕ) → read_fault t.memory esp 4 ≡ Some f → step t ≡ Stopped (Trap ReadFault f) t
  unfolding round got_at limit
  pop_stops f fault =
      let found = standing_fetched t.memory here (pop_bytes (area.private + 4)) pops (pop_spelled (area.private + 4) private_low).spells (pop_there drop refl) in
      subst (λ (s : State). step s ≡ Stopped (Trap ReadFault f) s) (settled area o t at.area_there at.beside at.bounds here at.place)
      (halts t o.core here t.memory pops (length (pop_bytes (area.private + 4))) found refl refl refl (Trap ReadFault f) (turn_read_faults t.memory (round pops t.descs o.core) esp 4 f refl fault))

  return_by : (r : Option ℕ) → read_fault o.memory esp 4 ≡ r → IsClearOutcome area.added (executed o (insn.Ret drop) next flow.Return) → Meets area (return_steps drop) (GoesVia area stub) o t (executed o (insn.Ret drop) next flow.Return)
  return_by None e clear = subst (Meets area (return_steps drop) (GoesVia area stub) o t) (sym (return_done o next drop e)) (returns_via (returns_by drop refl e))
  return_by (Some f) e clear =
      let stops = return_fails o next drop f e in
      let added : area.added f ≡ false = subst (IsClearOutcome area.added) stops clear in
      let fault : read_fault t.memory esp 4 ≡ Some f =
      read_fault_along area at.area_there.low t.memory o.memory t.memory (alongside area o t at.area_there at.beside at.bounds) esp 4 (subst (IsClearFault area.added) (sym e) added) ∙ e in
      let there : Breaks area (return_steps drop) o o t (Trap ReadFault f) =
      rest_breaks area o t at.area_there at.beside 0 (return_steps drop) t (Trap ReadFault f) (some_steps drop) (passes_none (KeepsRest area.scratch t) t)
      (record { descs = refl; calls = refl; answers = refl; memory = keeps_self area.scratch t.memory }) at.beside.core (pop_stops f fault) in
      subst (Meets area (return_steps drop) (GoesVia area stub) o t) (sym stops) there

  -- a return's piece comes to the stub with its target, or stops where the return does
  pub return_meets : IsClearOutcome area.added (executed o (insn.Ret drop) next flow.Return) → Meets area (return_steps drop) (GoesVia area stub) o t (executed o (insn.Ret drop) next flow.Return)
  return_meets clear = return_by (read_fault o.memory esp 4) refl clear
