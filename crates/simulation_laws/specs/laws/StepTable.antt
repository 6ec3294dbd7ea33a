-- What the step's table says of two flows: a trap never completes, and a jump is a direct one.
use Rattle.std.proofs.Common.{◌≡◌, ℕ, Bool, true, false, [], refl, sym, ap, ◌∙◌, subst}
use Rattle.std.proofs.lemmas.Bool.{true≢false}
use Rattle.std.specs.Prelude.{List}
use Rattle.std.specs.List.{AllByRecursion}
use Rattle.mv_base.specs.Effects.{Descs, Effect, Answer}
use Rattle.x86_insn.specs.TakenUp.{effects_by_flow, taken_by}
use Rattle.x86_insn.specs.declared.insn.Cond.{Cond}
use Rattle.x86_insn.specs.declared.insn.LoopKind.{LoopKind}
use Rattle.x86_insn.specs.declared.insn.Rm.{Rm}
use Rattle.x86_insn.specs.declared.insn.Insn.{Insn}
use Rattle.x86_insn.specs.declared.insn.Insn.TheVariants as insn
use Rattle.x86_insn.specs.declared.insn.Flow.{Flow}
use Rattle.x86_insn.specs.declared.insn.Flow.TheVariants as flow
use Rattle.x86_insn.specs.Flow.{flow_of}
use Rattle.x86_insn.specs.State.{State, Outcome, Next, Stopped}
use Rattle.x86_insn.specs.declared.registers.Core.{Core}
use Rattle.x86_insn.specs.declared.stop.Stop.{Stop}
use Rattle.x86_insn.specs.Round.{round, limit}
use Rattle.x86_insn.specs.declared.ask.Ask.TheVariants.{Halts}
use Rattle.x86_insn.specs.Step.{after_turn, rounds, after_rounds, executed}
use Rattle.step_laws.specs.laws.Turns.{turn_halts, one_round}

abbrev is_trap : Flow → Bool
is_trap flow.Trap = true
is_trap _ = false

abbrev is_jump : Flow → Bool
is_jump flow.Jump = true
is_jump _ = false

-- what is taken up holds of what is applied: CPUID applies nothing
pub taken_clear : (P : Effect → Type 0) (i : Insn) (answers : List Answer) → AllByRecursion P (taken_by i answers) → AllByRecursion P (effects_by_flow (flow_of i) answers)
taken_clear P insn.Cpuid answers h = tt
taken_clear P _ answers h = h

-- an instruction of flow Trap stops in its first round
trap_halts : (i : Insn) (ds : Descs) (c : Core) → flow_of i ≡ flow.Trap → (why : Stop) × (round i ds c [] ≡ Halts why)
unfolding round
trap_halts insn.Int3 ds c e = (_, refl)
trap_halts insn.Hlt ds c e = (_, refl)
trap_halts insn.Ud2 ds c e = (_, refl)
trap_halts _ ds c e = absurd (true≢false (sym (ap is_trap e)))

trap_limit : (i : Insn) (c : Core) → flow_of i ≡ flow.Trap → limit i c ≡ 1
unfolding limit
trap_limit insn.Int3 c e = refl
trap_limit insn.Hlt c e = refl
trap_limit insn.Ud2 c e = refl
trap_limit _ c e = absurd (true≢false (sym (ap is_trap e)))

trap_stops : (s : State) (i : Insn) (next : ℕ) → flow_of i ≡ flow.Trap → (why : Stop) × (after_rounds s next (rounds (limit i s.core) i s.descs s.core s.memory) ≡ Stopped why s)
trap_stops s i next e =
    let h = trap_halts i s.descs s.core e in
    let one = ap (λ n. rounds n i s.descs s.core s.memory) (trap_limit i s.core e) ∙ one_round i s.descs s.core s.memory in
    let halted = ap (λ p. after_turn p s.core s.memory (rounds 0 i s.descs)) (turn_halts s.memory (round i s.descs s.core) h.0 h.1) in
    (h.0, ap (after_rounds s next) (one ∙ halted))

-- an instruction of flow Jump is a direct jump
pub is_direct : (i : Insn) → flow_of i ≡ flow.Jump → (rel : ℕ) × (i ≡ insn.Jump rel)
is_direct (insn.Jump rel) e = (rel, refl)
is_direct _ e = absurd (true≢false (sym (ap is_jump e)))

-- and so for the other transfers
abbrev is_branch : Flow → Bool
is_branch flow.Branch = true
is_branch _ = false

abbrev is_count : Flow → Bool
is_count flow.Count = true
is_count _ = false

abbrev is_call : Flow → Bool
is_call flow.Call = true
is_call _ = false

abbrev is_jump_via : Flow → Bool
is_jump_via flow.JumpVia = true
is_jump_via _ = false

abbrev is_call_via : Flow → Bool
is_call_via flow.CallVia = true
is_call_via _ = false

abbrev is_return : Flow → Bool
is_return flow.Return = true
is_return _ = false

pub branch_is : (i : Insn) → flow_of i ≡ flow.Branch → (cond : Cond) × (rel : ℕ) × (i ≡ insn.Branch cond rel)
branch_is (insn.Branch cond rel) e = (cond, rel, refl)
branch_is _ e = absurd (true≢false (sym (ap is_branch e)))

pub count_is : (i : Insn) → flow_of i ≡ flow.Count → (kind : LoopKind) × (rel : ℕ) × (i ≡ insn.Loop kind rel)
count_is (insn.Loop kind rel) e = (kind, rel, refl)
count_is _ e = absurd (true≢false (sym (ap is_count e)))

pub call_is : (i : Insn) → flow_of i ≡ flow.Call → (rel : ℕ) × (i ≡ insn.Call rel)
call_is (insn.Call rel) e = (rel, refl)
call_is _ e = absurd (true≢false (sym (ap is_call e)))

pub jump_via_is : (i : Insn) → flow_of i ≡ flow.JumpVia → (src : Rm) × (i ≡ insn.JumpVia src)
jump_via_is (insn.JumpVia src) e = (src, refl)
jump_via_is _ e = absurd (true≢false (sym (ap is_jump_via e)))

pub call_via_is : (i : Insn) → flow_of i ≡ flow.CallVia → (src : Rm) × (i ≡ insn.CallVia src)
call_via_is (insn.CallVia src) e = (src, refl)
call_via_is _ e = absurd (true≢false (sym (ap is_call_via e)))

pub return_is : (i : Insn) → flow_of i ≡ flow.Return → (drop : ℕ) × (i ≡ insn.Ret drop)
return_is (insn.Ret drop) e = (drop, refl)
return_is _ e = absurd (true≢false (sym (ap is_return e)))

-- a trap completes no step
pub trap_never : (s : State) (i : Insn) (next : ℕ) → flow_of i ≡ flow.Trap → (u : State) → executed s i next flow.Trap ≡ Next u → ⊥
trap_never s i next e u h = subst Stops (sym (trap_stops s i next e).1 ∙ h) tt
  where
    Stops : Outcome → Type 0
    Stops (Next s) = ⊥
    Stops (Stopped why s) = Unit {0}
