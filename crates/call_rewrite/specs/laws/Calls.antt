-- What a direct call's piece comes to.
use Rattle.std.specs.Prelude.{◌≡◌, ℕ, ◌^◌, ◌<◌}
use Rattle.std.specs.List.{concat}
use Rattle.std.proofs.Common.{refl, sym, subst}
use Rattle.x86_insn.specs.declared.insn.Insn.TheVariants as insn
use Rattle.x86_insn.specs.declared.insn.Flow.TheVariants as flow
use Rattle.x86_insn.specs.Transfers.{target_of}
use Rattle.x86_insn.specs.Round.{hop}
use Rattle.x86_insn.specs.State.{State}
use Rattle.x86_insn.specs.Step.{executed}
use Rattle.step_laws.specs.Beside.{IsClearOutcome}
use Rattle.step_laws.specs.Meeting.{Area, AtPiece, Meets, GoesTo}
use Rattle.step_laws.specs.laws.Composing.{meets_wider}
use Rattle.call_rewrite.specs.Far.{call_parts}
use Rattle.call_rewrite.specs.laws.Pushing.{pushing, GoesKeeping, pushes_meet}

call_executed : (o : State) (next rel : ℕ) → executed o (insn.Call rel) next flow.Call ≡ pushing o next (target_of next rel)
unfolding hop
call_executed o next rel = refl

-- a call's piece pushes the old address behind the call and goes to the new target, or stops where the call does
pub call_meets : (area : Area) (here next rel to : ℕ) (o t : State) → AtPiece area here (concat (call_parts next here to)) o t → next < 2 ^ 32 → to < 2 ^ 32
    → IsClearOutcome area.added (executed o (insn.Call rel) next flow.Call) → Meets area 2 (GoesTo (target_of next rel) to) o t (executed o (insn.Call rel) next flow.Call)
call_meets area here next rel to o t at low to_low clear =
    let is = call_executed o next rel in
    subst (Meets area 2 (GoesTo (target_of next rel) to) o t) (sym is)
    (meets_wider area o t 2 (GoesKeeping area t (target_of next rel) to) (GoesTo (target_of next rel) to) (pushing o next (target_of next rel)) (λ o' u k. (k.0, k.1))
    (pushes_meet area here next to (target_of next rel) o t at low to_low (subst (IsClearOutcome area.added) is clear)))
