-- A near jump in the area: it meets a direct jump, and it joins a piece with what stands elsewhere.
use Rattle.std.specs.Prelude.{◌≡◌, ℕ, ◌+◌, ◌%◌, ◌^◌, ◌<◌, length}
use Rattle.std.proofs.Common.{refl, sym, ap, ◌∙◌, subst, inl}
use Rattle.mv_base.specs.Memory.{address_after}
use Rattle.x86_insn.specs.declared.insn.Insn.TheVariants as insn
use Rattle.x86_insn.specs.declared.insn.Flow.TheVariants as flow
use Rattle.x86_insn.specs.State.{State, Next}
use Rattle.x86_insn.specs.Round.{hop}
use Rattle.x86_insn.specs.Step.{fetch, after_hop, executed, step}
use Rattle.step_laws.specs.Jumps.{jump_bytes}
use Rattle.step_laws.specs.Beside.{StatesBeside}
use Rattle.step_laws.specs.Meeting.{Area, StandsIn, AtPiece, Reaches, Meets, GoesTo}
use Rattle.step_laws.specs.laws.Passing.{passes_one}
use Rattle.step_laws.specs.laws.Fetching.{standing_fetched}
use Rattle.step_laws.specs.laws.Turns.{turn_ends, fetched_step}
use Rattle.step_laws.specs.laws.NearJump.{reach, jump_len, jump_spelled, jump_goes}
use Rattle.step_laws.specs.laws.Alongside.{keeps_same}
use Rattle.step_laws.specs.laws.Copying.{shows_of}

-- where a direct jump goes
pub jump_executed : (s : State) (next rel : ℕ) → executed s (insn.Jump rel) next flow.Jump ≡ Next (record s { eip = (next + rel) % 2 ^ 32 })
unfolding hop
jump_executed s next rel = ap (after_hop s) (turn_ends s.memory (hop next (insn.Jump rel) s.core) s.core ((next + rel) % 2 ^ 32) refl)

-- a near jump that stands in the area goes where it says
pub jump_step : (area : Area) (t : State) (here to : ℕ) → StandsIn area t.memory here (jump_bytes here to) → t.eip ≡ here → to < 2 ^ 32 → step t ≡ Next (record t { eip = to })
jump_step area t here to s at low =
    let found = standing_fetched t.memory here (jump_bytes here to) _ (jump_spelled here to).spells s.stands in
    fetched_step t (insn.Jump (reach here to)) (length (jump_bytes here to)) (ap (fetch t.memory) at ∙ found)
    ∙ jump_executed t (address_after t.eip (length (jump_bytes here to))) (reach here to)
    ∙ ap (λ a. Next (record t { eip = (address_after a (length (jump_bytes here to)) + reach here to) % 2 ^ 32 })) at
    ∙ ap (λ n. Next (record t { eip = (address_after here n + reach here to) % 2 ^ 32 })) (jump_len here to)
    ∙ ap (λ a. Next (record t { eip = a })) (jump_goes here to low)

-- so it leads on from where a piece arrives
pub joins : (area : Area) (o t : State) (here to : ℕ) → StandsIn area t.memory here (jump_bytes here to) → t.eip ≡ here → to < 2 ^ 32 → StatesBeside area.added o t → Reaches area 1 (λ a u. u.eip ≡ to) o o t
joins area o t here to s at low w = record {
  last = record t { eip = to };
  passes = passes_one _ t (record t { eip = to }) (inl (shows_of area.added o t w)) (jump_step area t here to s at low);
  way = passes_one _ t (record t { eip = to }) (keeps_same area t.memory) (jump_step area t here to s at low);
  alike = record { core = w.core; descs = w.descs; calls = w.calls; answers = w.answers; memory = w.memory };
  keeps = keeps_same area t.memory;
  arrives = refl;
}

-- and it meets a direct jump, wherever that goes
pub jump_meets : (area : Area) (here to next rel : ℕ) (o t : State) → AtPiece area here (jump_bytes here to) o t → to < 2 ^ 32 → Meets area 1 (GoesTo ((next + rel) % 2 ^ 32) to) o t (executed o (insn.Jump rel) next flow.Jump)
jump_meets area here to next rel o t at low =
    let w = at.beside in
    let there : Reaches area 1 (GoesTo ((next + rel) % 2 ^ 32) to) o (record o { eip = (next + rel) % 2 ^ 32 }) t = record {
      last = record t { eip = to };
      passes = passes_one _ t (record t { eip = to }) (inl (shows_of area.added o t w)) (jump_step area t here to at.stands at.place low);
      way = passes_one _ t (record t { eip = to }) (keeps_same area t.memory) (jump_step area t here to at.stands at.place low);
      alike = record { core = w.core; descs = w.descs; calls = w.calls; answers = w.answers; memory = w.memory };
      keeps = keeps_same area t.memory;
      arrives = (refl, refl);
    } in
    subst (Meets area 1 (GoesTo ((next + rel) % 2 ^ 32) to) o t) (sym (jump_executed o next rel)) there
