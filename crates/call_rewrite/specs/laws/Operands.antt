-- What the operand of a jump or call gives, or why it can't be read; and what MOV to EAX makes of it.
use Rattle.std.specs.Prelude.{◌≡◌, ℕ, ◌^◌, ◌<◌, Bool, true, false, List, [], ◌∷◌, Option, Some, None}
use Rattle.std.proofs.Common.{refl, sym, ap, ◌∙◌}
use Rattle.std.proofs.lemmas.Option.{none-some, same_Some}
use Rattle.byteorder.specs.Endian.{little_number}
use Rattle.mv_base.specs.Memory.{Memory, IsMemory, read_fault, bytes_at}
use Rattle.mv_base.specs.Effects.{Descs}
use Rattle.x86_insn.specs.declared.ask.Ask.{Ask}
use Rattle.x86_insn.specs.declared.ask.Ask.TheVariants.{Ends}
use Rattle.x86_insn.specs.declared.insn.Insn.TheVariants as insn
use Rattle.x86_insn.specs.declared.insn.Reg.TheVariants.{Eax}
use Rattle.x86_insn.specs.declared.insn.Rm.{Rm}
use Rattle.x86_insn.specs.declared.insn.Rm.TheVariants as rm
use Rattle.x86_insn.specs.declared.insn.Width.TheVariants.{D}
use Rattle.x86_insn.specs.declared.registers.Core.{Core}
use Rattle.x86_insn.specs.declared.stop.Kind.TheVariants.{ReadFault, Protection}
use Rattle.x86_insn.specs.declared.stop.Stop.{Stop}
use Rattle.x86_insn.specs.declared.stop.Stop.TheVariants.{Trap}
use Rattle.x86_insn.specs.Ask.{with_rm, got_rm, got_src, got_at, ends}
use Rattle.x86_insn.specs.Meaning.{source_of}
use Rattle.x86_insn.specs.Operands.{reg_value, set_reg, effective_address}
use Rattle.x86_insn.specs.State.{IsCore}
use Rattle.x86_insn.specs.Round.{rm_beyond, unless_beyond, round}
use Rattle.x86_insn.specs.Step.{Ended, Halted, unless_fault, written, answered, asks, turn}
use Rattle.step_laws.specs.Beside.{IsClearStop}
use Rattle.step_laws.specs.laws.Ends.{reg_fits, word_below}
use Rattle.step_laws.specs.laws.Bounding.{bytes_fit}
use Rattle.step_laws.specs.laws.Cells.{IsClearFault}
use Rattle.step_laws.specs.laws.Turns.{turn_halts}

-- the value of an operand, and the address at which its read faults
abbrev pub operand_value : Memory → Core → Rm → ℕ
operand_value m c (rm.R r) = reg_value D c r
operand_value m c (rm.M a) = little_number 4 (bytes_at m (effective_address c a) 4)

abbrev pub operand_fault : Memory → Core → Rm → Option ℕ
operand_fault m c (rm.R r) = None
operand_fault m c (rm.M a) = read_fault m (effective_address c a) 4

-- why it can't be read: GS has no base, or a byte is not mapped
abbrev pub stop_by : Bool → Option ℕ → Option Stop
stop_by true f = Some (Trap Protection 0)
stop_by false None = None
stop_by false (Some a) = Some (Trap ReadFault a)

abbrev pub operand_stop : Memory → Core → Rm → Option Stop
operand_stop m c src = stop_by (rm_beyond c src) (operand_fault m c src)

-- it is no trap at an added address
abbrev pub IsClearIfSome : (ℕ → Bool) → Option Stop → Type 0
IsClearIfSome added None = Unit {0}
IsClearIfSome added (Some why) = IsClearStop added why

-- where it can be read, it can be reached and its read doesn't fault
pub reached : (b : Bool) (f : Option ℕ) → stop_by b f ≡ None → (b ≡ false) × (f ≡ None)
reached true f e = absurd (none-some (Trap Protection 0) (sym e))
reached false None e = (refl, refl)
reached false (Some a) e = absurd (none-some (Trap ReadFault a) (sym e))

pub clear_fault : (added : ℕ → Bool) (f : Option ℕ) → IsClearIfSome added (stop_by false f) → IsClearFault added f
clear_fault added None h = tt
clear_fault added (Some a) h = h

pub operand_low : (m : Memory) (c : Core) (src : Rm) → IsMemory m → IsCore c → operand_value m c src < 2 ^ 32
operand_low m c (rm.R r) h k = reg_fits c r k
operand_low m c (rm.M a) h k = word_below 0 _ (bytes_fit m h 4 (effective_address c a))

module _ {E : Type 0} (m : Memory) (c : Core) (go : ℕ → List (List ℕ) → Ask E) where
  -- an ask that reads the operand and ends
  loads_there : (src : Rm) (d : Core) (w : Option (ℕ × List ℕ)) (e : E) → operand_fault m c src ≡ None → go (operand_value m c src) [] ≡ Ends d w e → turn m (λ got. with_rm D c src got go) ≡ written m d w e
  unfolding asks got_rm got_at
  loads_there (rm.R r) d w e none ends = ap (answered m (λ bytes. asks 1 m (λ got. with_rm D c (rm.R r) got go) (bytes ∷ []))) ends
  loads_there (rm.M a) d w e none ends =
      ap (λ f. unless_fault ReadFault f (asks 1 m (λ got. with_rm D c (rm.M a) got go) (bytes_at m (effective_address c a) 4 ∷ []))) none
      ∙ ap (answered m (λ bytes. asks 0 m (λ got. with_rm D c (rm.M a) got go) (bytes_at m (effective_address c a) 4 ∷ bytes ∷ []))) ends

  -- one whose read faults
  load_faults : (src : Rm) (at : ℕ) → operand_fault m c src ≡ Some at → turn m (λ got. with_rm D c src got go) ≡ Halted (Trap ReadFault at)
  unfolding asks got_rm got_at
  load_faults (rm.R r) at some = absurd (none-some at some)
  load_faults (rm.M a) at some = ap (λ f. unless_fault ReadFault f (asks 1 m (λ got. with_rm D c (rm.M a) got go) (bytes_at m (effective_address c a) 4 ∷ []))) some

  -- such an ask of an instruction that stops where it can't reach its operand
  abbrev pub asked : Rm → List (List ℕ) → Ask E
  asked src got = unless_beyond (rm_beyond c src) (with_rm D c src got go)

  pub turn_loads : (src : Rm) (d : Core) (w : Option (ℕ × List ℕ)) (e : E) → operand_stop m c src ≡ None → go (operand_value m c src) [] ≡ Ends d w e → turn m (asked src) ≡ written m d w e
  turn_loads src d w e none ends =
      let there = reached (rm_beyond c src) (operand_fault m c src) none in
      ap (λ b. turn m (λ got. unless_beyond b (with_rm D c src got go))) there.0 ∙ loads_there src d w e there.1 ends

  pub turn_load_stops : (src : Rm) (why : Stop) → operand_stop m c src ≡ Some why → turn m (asked src) ≡ Halted why
  turn_load_stops src why some = by (rm_beyond c src) (operand_fault m c src) refl refl some
    where
      by : (b : Bool) (f : Option ℕ) → rm_beyond c src ≡ b → operand_fault m c src ≡ f → stop_by b f ≡ Some why → turn m (asked src) ≡ Halted why
      by true f p q some =
          ap (λ b. turn m (λ got. unless_beyond b (with_rm D c src got go))) p
          ∙ turn_halts m (λ got. unless_beyond true (with_rm D c src got go)) (Trap Protection 0) refl ∙ ap Halted (same_Some (Trap Protection 0) why some)
      by false None p q some = absurd (none-some why some)
      by false (Some a) p q some = ap (λ b. turn m (λ got. unless_beyond b (with_rm D c src got go))) p ∙ load_faults src a q ∙ ap Halted (same_Some (Trap ReadFault a) why some)

-- MOV takes the operand's value to EAX, or stops where it can't be read
module _ (m : Memory) (ds : Descs) (c : Core) where
  abbrev to_eax : ℕ → List (List ℕ) → Ask Bool
  to_eax n rest = ends false (set_reg D Eax n c)

  mov_asks : (src : Rm) → round (insn.Mov D (rm.R Eax) (source_of src)) ds c ≡ asked m c to_eax src
  unfolding round got_src got_rm
  mov_asks (rm.R r) = refl
  mov_asks (rm.M a) = refl

  pub mov_loads : (src : Rm) → operand_stop m c src ≡ None → turn m (round (insn.Mov D (rm.R Eax) (source_of src)) ds c) ≡ Ended (set_reg D Eax (operand_value m c src) c) m false
  mov_loads src none = ap (turn m) (mov_asks src) ∙ turn_loads m c to_eax src (set_reg D Eax (operand_value m c src) c) None false none refl

  pub mov_load_stops : (src : Rm) (why : Stop) → operand_stop m c src ≡ Some why → turn m (round (insn.Mov D (rm.R Eax) (source_of src)) ds c) ≡ Halted why
  mov_load_stops src why some = ap (turn m) (mov_asks src) ∙ turn_load_stops m c to_eax src why some
