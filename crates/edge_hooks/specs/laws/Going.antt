-- What the steps of a piece with two counters come to.
use Rattle.std.proofs.Common.{◌≡◌, ℕ, ◌+◌, ◌%◌, ◌^◌, ◌<◌, Bool, true, false, List, [], ◌∷◌, ◌++◌, length, Some, if◌then◌else◌, refl, ap, ◌∙◌, subst, arith}
use Rattle.std.proofs.lemmas.Option.{none-some, same_Some}
use Rattle.mv_base.specs.Bytes.{word}
use Rattle.mv_base.specs.Memory.{address_after}
use Rattle.x86_insn.specs.declared.insn.Insn.{Insn}
use Rattle.x86_insn.specs.declared.insn.Insn.TheVariants as insn
use Rattle.x86_insn.specs.declared.insn.LoopKind.{LoopKind}
use Rattle.x86_insn.specs.declared.insn.LoopKind.TheVariants as loop
use Rattle.x86_insn.specs.Conditions.{holds}
use Rattle.x86_insn.specs.Flow.{flow_of}
use Rattle.x86_insn.specs.Rows.{rows}
use Rattle.x86_insn.specs.Spelling.{spelled}
use Rattle.x86_insn.specs.State.{State, Next}
use Rattle.x86_insn.specs.Step.{fetch, executed, step}
use Rattle.x86_insn.specs.Transfers.{target_of, loop_core, loop_jumps}
use Rattle.step_laws.specs.Jumps.{jump_bytes}
use Rattle.step_laws.specs.Standing.{Stands}
use Rattle.step_laws.specs.laws.Fetching.{standing_fetched, stands_front, stands_back}
use Rattle.step_laws.specs.laws.Joining.{jump_executed}
use Rattle.step_laws.specs.laws.NearJump.{reach, jump_len, jump_spelled, jump_goes}
use Rattle.step_laws.specs.laws.Spelled.{Spelled}
use Rattle.step_laws.specs.laws.Turns.{fetched_step}
use Rattle.superset.specs.Targets.{target_after}
use Rattle.branch_lengthen.specs.Near.{loop_opcode}
use Rattle.branch_lengthen.specs.laws.Branches.{branch_executed, branch_spelled, loop_executed}
use Rattle.edge_hooks.specs.Jumping.{insn_jumps, gone}
use Rattle.edge_hooks.specs.Edges.{counter_size, front_bytes, passed_from, taken_from, jump_from, edge_bytes, IsEdge}
use Rattle.edge_hooks.specs.laws.Lengths.{edge_long}

-- ---- what the instruction does

branch_goes : (s : State) (i : Insn) (to next : ℕ) (c b : Bool) → Some c ≡ Some b → Next (record s { eip = if c then to else next }) ≡ Next (record s { eip = if b then to else next })
branch_goes s i to next c b e = ap (λ (v : Bool). Next (record s { eip = if v then to else next })) (same_Some c b e)

pub own : (i : Insn) (next : ℕ) (s : State) (b : Bool) → insn_jumps i s.core ≡ Some b → executed s i next (flow_of i) ≡ Next (gone s i (if b then target_after next i else next))
own (insn.Branch c rel) next s b e =
    branch_executed s next c rel ∙ ap (λ (v : Bool). Next (record s { eip = if v then target_of next rel else next })) (same_Some (holds c s.core.flags) b e)
own (insn.Loop k rel) next s b e =
    loop_executed s next k rel
    ∙ ap (λ (v : Bool). Next (record s { core = loop_core k s.core; eip = if v then target_of next rel else next })) (same_Some (loop_jumps k (loop_core k s.core)) b e)
own i next s b e = absurd (none-some b e)

-- ---- one instruction of the piece

executes_at : (s : State) (at : ℕ) (x : List ℕ) (i : Insn) → Spelled x i → Stands s.memory at x → s.eip ≡ at → step s ≡ executed s i (address_after at (length x)) (flow_of i)
executes_at s at x i spells stands here =
    fetched_step s i (length x) (ap (fetch s.memory) here ∙ standing_fetched s.memory at x i spells.spells stands)
    ∙ ap (λ (a : ℕ). executed s i (address_after a (length x)) (flow_of i)) here

jumps_at : (s : State) (at rel to : ℕ) (x : List ℕ) → Spelled x (insn.Jump rel) → Stands s.memory at x → s.eip ≡ at → (address_after at (length x) + rel) % 2 ^ 32 ≡ to → step s ≡ Next (record s { eip = to })
jumps_at s at rel to x spells stands here goes =
    executes_at s at x (insn.Jump rel) spells stands here
    ∙ jump_executed s (address_after at (length x)) rel
    ∙ ap (λ (a : ℕ). Next (record s { eip = a })) goes

-- LOOP and its kin over 48 bytes, and a short jump over 51
loop_spelled : (k : LoopKind) → Spelled (loop_opcode k ∷ 0x30 ∷ []) (insn.Loop k 48)
unfolding spelled rows
loop_spelled loop.Ne = record { spells = refl }
loop_spelled loop.E = record { spells = refl }
loop_spelled loop.Plain = record { spells = refl }
loop_spelled loop.Ecxz = record { spells = refl }

over_spelled : Spelled (0xEB ∷ 0x33 ∷ []) (insn.Jump 51)
unfolding spelled rows
over_spelled = record { spells = refl }

-- ---- the piece

module _ (here to : ℕ) (passed taken : List ℕ) (s : State) where
  -- the way that is chosen, by the address that the instruction would go to
  chosen : (len : ℕ) (b : Bool) → here + len + 48 < 2 ^ 32 → (if b then target_of (address_after here len) 48 else address_after here len) ≡ here + (if b then len + 48 else len)
  chosen len true low = omega arith
  chosen len false low = omega arith

  pub chooses : (i : Insn) (b : Bool) → IsEdge i here to passed taken s.memory → s.eip ≡ here → insn_jumps i s.core ≡ Some b → step s ≡ Next (gone s i (here + (if b then taken_from i else passed_from i)))
  unfolding word
  chooses (insn.Branch c rel) b edge at e =
      let i = insn.Branch c rel in
      let long = edge_long i here to passed taken edge.passed_len edge.taken_len in
      let low = edge.stands.low in
      executes_at s here (front_bytes i) (insn.Branch c 48) (branch_spelled c 48 (omega arith)) (stands_front s.memory here (front_bytes i) _ edge.stands) at
      ∙ own (insn.Branch c 48) (address_after here 6) s b e
      ∙ ap (λ (a : ℕ). Next (gone s i a)) (chosen 6 b (omega arith))
  chooses (insn.Loop k rel) b edge at e =
      let i = insn.Loop k rel in
      let long = edge_long i here to passed taken edge.passed_len edge.taken_len in
      let low = edge.stands.low in
      executes_at s here (front_bytes i) (insn.Loop k 48) (loop_spelled k) (stands_front s.memory here (front_bytes i) _ edge.stands) at
      ∙ own (insn.Loop k 48) (address_after here 2) s b e
      ∙ ap (λ (a : ℕ). Next (gone s i a)) (chosen 2 b (omega arith))
  chooses i b edge at e = absurd (none-some b e)

  module _ (i : Insn) (edge : IsEdge i here to passed taken s.memory) where
    abbrev jump_at : ℕ
    jump_at = address_after here (jump_from i)

    long : length (edge_bytes i here to passed taken) ≡ passed_from i + 99
    long = edge_long i here to passed taken edge.passed_len edge.taken_len

    behind_front : Stands s.memory (here + passed_from i) (passed ++ (0xEB ∷ 0x33 ∷ (taken ++ (jump_bytes jump_at to ++ []))))
    behind_front = stands_back s.memory here (front_bytes i) _ edge.stands

    behind_passed : Stands s.memory (here + passed_from i + length passed) ((0xEB ∷ 0x33 ∷ []) ++ (taken ++ (jump_bytes jump_at to ++ [])))
    behind_passed = stands_back s.memory (here + passed_from i) passed _ behind_front

    behind_over : Stands s.memory (here + passed_from i + length passed + 2) (taken ++ (jump_bytes jump_at to ++ []))
    behind_over = stands_back s.memory (here + passed_from i + length passed) (0xEB ∷ 0x33 ∷ []) _ behind_passed

    behind_taken : Stands s.memory (here + passed_from i + length passed + 2 + length taken) (jump_bytes jump_at to ++ [])
    behind_taken = stands_back s.memory (here + passed_from i + length passed + 2) taken _ behind_over

    pub passes : s.eip ≡ here + passed_from i + counter_size → step s ≡ Next (record s { eip = here + length (edge_bytes i here to passed taken) })
    passes at =
        let low = edge.stands.low in
        jumps_at s (here + passed_from i + length passed) 51 (here + length (edge_bytes i here to passed taken)) (0xEB ∷ 0x33 ∷ []) over_spelled
        (stands_front s.memory _ (0xEB ∷ 0x33 ∷ []) _ behind_passed) (omega (arith, at, edge.passed_len)) (omega (arith, long, edge.passed_len))

    pub takes : s.eip ≡ here + taken_from i + counter_size → to < 2 ^ 32 → step s ≡ Next (record s { eip = to })
    takes at fits =
        let low = edge.stands.low in
        let place : here + passed_from i + length passed + 2 + length taken ≡ jump_at = omega (arith, long, edge.passed_len, edge.taken_len) in
        jumps_at s jump_at (reach jump_at to) to (jump_bytes jump_at to) (jump_spelled jump_at to)
        (subst (λ (a : ℕ). Stands s.memory a (jump_bytes jump_at to)) place (stands_front s.memory _ (jump_bytes jump_at to) [] behind_taken))
        (omega (arith, at, place, edge.passed_len, edge.taken_len)) (ap (λ (n : ℕ). (address_after jump_at n + reach jump_at to) % 2 ^ 32) (jump_len jump_at to) ∙ jump_goes jump_at to fits)
