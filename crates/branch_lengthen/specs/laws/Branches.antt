-- What the pieces of branches and of counted loops come to.
use Rattle.std.specs.Prelude.{◌≡◌, ℕ, ◌+◌, ◌^◌, ◌<◌, Bool, true, false, [], ◌∷◌, length, if◌then◌else◌}
use Rattle.std.proofs.Common.{refl, sym, ap, ◌∙◌, subst, inl, inr, arith}
use Rattle.std.proofs.lemmas.Bool.{true≢false}
use Rattle.mv_base.specs.Bytes.{word}
use Rattle.mv_base.specs.Memory.{address_after, distance}
use Rattle.x86_insn.specs.declared.insn.Cond.{Cond}
use Rattle.x86_insn.specs.declared.insn.Cond.TheVariants as cond
use Rattle.x86_insn.specs.declared.insn.Insn.TheVariants as insn
use Rattle.x86_insn.specs.declared.insn.Flow.TheVariants as flow
use Rattle.x86_insn.specs.declared.insn.LoopKind.{LoopKind}
use Rattle.x86_insn.specs.declared.insn.LoopKind.TheVariants as loop
use Rattle.x86_insn.specs.declared.registers.Core.{Core}
use Rattle.x86_insn.specs.Conditions.{holds}
use Rattle.x86_insn.specs.Meaning.{cond_number}
use Rattle.x86_insn.specs.Rows.{rows}
use Rattle.x86_insn.specs.Spelling.{spelled}
use Rattle.x86_insn.specs.State.{State, Next}
use Rattle.x86_insn.specs.Transfers.{target_of, loop_core, loop_jumps}
use Rattle.x86_insn.specs.Round.{hop}
use Rattle.x86_insn.specs.Step.{after_hop, executed, step}
use Rattle.step_laws.specs.Passes.{Passes}
use Rattle.step_laws.specs.Keeping.{KeepsRest}
use Rattle.step_laws.specs.Meeting.{Area, AtPiece, Reaches, Meets, GoesEither}
use Rattle.step_laws.specs.laws.Passing.{passes_one}
use Rattle.step_laws.specs.laws.Putting.{keeps_self}
use Rattle.step_laws.specs.laws.Turns.{turn_ends}
use Rattle.step_laws.specs.laws.Spelled.{Spelled, with_number}
use Rattle.step_laws.specs.laws.NearJump.{reach, jump_spelled, jump_goes}
use Rattle.step_laws.specs.laws.Logs.{stored}
use Rattle.step_laws.specs.laws.Symbolic.{Setting, Code, Comes, on, keeps_rest, code_rest, looped, left, jump, done}
use Rattle.step_laws.specs.laws.Copying.{executes}
use Rattle.branch_lengthen.specs.Near.{branch_bytes, loop_opcode, count_parts, count_bytes}
use Rattle.step_laws.specs.laws.Resting.{rest_reaches, rest_top}

-- ---- branches

-- where a branch goes
pub branch_executed : (s : State) (next : ℕ) (cond : Cond) (rel : ℕ) → executed s (insn.Branch cond rel) next flow.Branch ≡ Next (record s { eip = if holds cond s.core.flags then target_of next rel else next })
unfolding hop
branch_executed s next cond rel =
    ap (after_hop s) (turn_ends s.memory (hop next (insn.Branch cond rel) s.core) s.core (if holds cond s.core.flags then target_of next rel else next) refl)

abbrev pub branch_spells : Cond → ℕ → Type 0
branch_spells c n = Spelled (0x0F ∷ (0x80 + cond_number c) ∷ word n) (insn.Branch c n)

pub branch_spelled : (c : Cond) (n : ℕ) → n < 2 ^ 32 → branch_spells c n
unfolding rows
branch_spelled cond.O n low = with_number (0x0F ∷ 0x80 ∷ []) (λ k. insn.Branch cond.O k) (λ a b c d. refl) (omega arith) refl n low
branch_spelled cond.No n low = with_number (0x0F ∷ 0x81 ∷ []) (λ k. insn.Branch cond.No k) (λ a b c d. refl) (omega arith) refl n low
branch_spelled cond.B n low = with_number (0x0F ∷ 0x82 ∷ []) (λ k. insn.Branch cond.B k) (λ a b c d. refl) (omega arith) refl n low
branch_spelled cond.Ae n low = with_number (0x0F ∷ 0x83 ∷ []) (λ k. insn.Branch cond.Ae k) (λ a b c d. refl) (omega arith) refl n low
branch_spelled cond.E n low = with_number (0x0F ∷ 0x84 ∷ []) (λ k. insn.Branch cond.E k) (λ a b c d. refl) (omega arith) refl n low
branch_spelled cond.Ne n low = with_number (0x0F ∷ 0x85 ∷ []) (λ k. insn.Branch cond.Ne k) (λ a b c d. refl) (omega arith) refl n low
branch_spelled cond.Be n low = with_number (0x0F ∷ 0x86 ∷ []) (λ k. insn.Branch cond.Be k) (λ a b c d. refl) (omega arith) refl n low
branch_spelled cond.A n low = with_number (0x0F ∷ 0x87 ∷ []) (λ k. insn.Branch cond.A k) (λ a b c d. refl) (omega arith) refl n low
branch_spelled cond.S n low = with_number (0x0F ∷ 0x88 ∷ []) (λ k. insn.Branch cond.S k) (λ a b c d. refl) (omega arith) refl n low
branch_spelled cond.Ns n low = with_number (0x0F ∷ 0x89 ∷ []) (λ k. insn.Branch cond.Ns k) (λ a b c d. refl) (omega arith) refl n low
branch_spelled cond.P n low = with_number (0x0F ∷ 0x8A ∷ []) (λ k. insn.Branch cond.P k) (λ a b c d. refl) (omega arith) refl n low
branch_spelled cond.Np n low = with_number (0x0F ∷ 0x8B ∷ []) (λ k. insn.Branch cond.Np k) (λ a b c d. refl) (omega arith) refl n low
branch_spelled cond.L n low = with_number (0x0F ∷ 0x8C ∷ []) (λ k. insn.Branch cond.L k) (λ a b c d. refl) (omega arith) refl n low
branch_spelled cond.Ge n low = with_number (0x0F ∷ 0x8D ∷ []) (λ k. insn.Branch cond.Ge k) (λ a b c d. refl) (omega arith) refl n low
branch_spelled cond.Le n low = with_number (0x0F ∷ 0x8E ∷ []) (λ k. insn.Branch cond.Le k) (λ a b c d. refl) (omega arith) refl n low
branch_spelled cond.G n low = with_number (0x0F ∷ 0x8F ∷ []) (λ k. insn.Branch cond.G k) (λ a b c d. refl) (omega arith) refl n low

pub branch_len : (c : Cond) (here to : ℕ) → length (branch_bytes c here to) ≡ 6
unfolding word
branch_len c here to = refl

-- the displacement of a branch
branch_reach : ℕ → ℕ → ℕ
branch_reach here to = distance (address_after here 6) to

reach_spelled : (c : Cond) (here to : ℕ) → Spelled (branch_bytes c here to) (insn.Branch c (branch_reach here to))
unfolding branch_reach
reach_spelled c here to = branch_spelled c (distance (address_after here 6) to) (omega arith)

reach_goes : (here to : ℕ) → here + 6 < 2 ^ 32 → to < 2 ^ 32 → target_of (here + 6) (branch_reach here to) ≡ to
unfolding branch_reach
reach_goes here to low h = omega arith

module _ (area : Area) (c : Cond) (here to next rel : ℕ) (o t : State) (at : AtPiece area here (branch_bytes c here to) o t) (low : to < 2 ^ 32) where
  abbrev Branches : ℕ → State → Type 0
  Branches = GoesEither (target_of next rel) to next (here + 6)

  branch_room : here + 6 < 2 ^ 32
  branch_room = omega (arith, at.stands.stands.low, branch_len c here to)

  branch_steps : (b : Bool) → holds c o.core.flags ≡ b → step t ≡ Next (record t { eip = if b then to else here + 6 })
  branch_steps b e =
      executes area here (branch_bytes c here to) o t at (insn.Branch c (branch_reach here to)) (reach_spelled c here to).spells
      ∙ ap (λ n. executed t (insn.Branch c (branch_reach here to)) (here + n) flow.Branch) (branch_len c here to)
      ∙ branch_executed t (here + 6) c (branch_reach here to)
      ∙ ap (λ b. Next (record t { eip = if b then target_of (here + 6) (branch_reach here to) else here + 6 })) (ap (λ (d : Core). holds c d.flags) at.beside.core ∙ e)
      ∙ ap (λ a. Next (record t { eip = if b then a else here + 6 })) (reach_goes here to branch_room low)

  branch_reaches : (b : Bool) → holds c o.core.flags ≡ b → Branches (if b then target_of next rel else next) (record t { eip = if b then to else here + 6 })
      → Reaches area 1 Branches o (record o { eip = if b then target_of next rel else next }) t
  branch_reaches b e arrives =
      let same : KeepsRest area.scratch t t = record { descs = refl; calls = refl; answers = refl; memory = keeps_self area.scratch t.memory } in
      rest_reaches area o t at.area_there at.beside 1 Branches _ (record t { eip = if b then to else here + 6 })
      (passes_one (KeepsRest area.scratch t) t _ same (branch_steps b e)) (record { descs = refl; calls = refl; answers = refl; memory = keeps_self area.scratch t.memory })
      at.beside.core refl refl refl refl arrives

  branch_goes : (b : Bool) → holds c o.core.flags ≡ b → Reaches area 1 Branches o (record o { eip = if b then target_of next rel else next }) t
  branch_goes true e = branch_reaches true e (inl (refl, refl))
  branch_goes false e = branch_reaches false e (inr (refl, refl))

  -- a branch's piece goes where the branch goes, in one step
  pub branch_meets : Meets area 1 Branches o t (executed o (insn.Branch c rel) next flow.Branch)
  branch_meets = subst (Meets area 1 Branches o t) (sym (branch_executed o next c rel)) (branch_goes (holds c o.core.flags) refl)

-- ---- counted loops

-- where LOOP and its kin go
pub loop_executed : (s : State) (next : ℕ) (kind : LoopKind) (rel : ℕ) → executed s (insn.Loop kind rel) next flow.Count ≡ Next (record s { core = loop_core kind s.core; eip = if loop_jumps kind (loop_core kind s.core) then target_of next rel else next })
unfolding hop
loop_executed s next kind rel =
    ap (after_hop s) (turn_ends s.memory (hop next (insn.Loop kind rel) s.core) (loop_core kind s.core) (if loop_jumps kind (loop_core kind s.core) then target_of next rel else next) refl)

loop_spelled : (k : LoopKind) → Spelled (loop_opcode k ∷ 2 ∷ []) (insn.Loop k 2)
unfolding spelled rows
loop_spelled loop.Ne = record { spells = refl }
loop_spelled loop.E = record { spells = refl }
loop_spelled loop.Plain = record { spells = refl }
loop_spelled loop.Ecxz = record { spells = refl }

short_spelled : Spelled (0xEB ∷ 5 ∷ []) (insn.Jump 5)
unfolding spelled rows
short_spelled = record { spells = refl }

pub count_len : (k : LoopKind) (here to : ℕ) → length (count_bytes k here to) ≡ 9
unfolding word
count_len k here to = refl

far_goes : (here to : ℕ) → here + 9 < 2 ^ 32 → to < 2 ^ 32 → address_after (here + 2 + 2 + 5) (reach (address_after here 4) to) ≡ to
far_goes here to low h =
    let place : here + 2 + 2 + 5 ≡ address_after (address_after here 4) 5 = omega arith in
    ap (λ (a : ℕ). address_after a (reach (address_after here 4) to)) place ∙ jump_goes (address_after here 4) to h

module _ (area : Area) (k : LoopKind) (here to next rel : ℕ) (o t : State) (at : AtPiece area here (count_bytes k here to) o t) (low : to < 2 ^ 32) where
  abbrev Counts : ℕ → State → Type 0
  Counts = GoesEither (target_of next rel) to next (here + 9)

  count_room : here + 9 < 2 ^ 32
  count_room = omega (arith, at.stands.stands.low, count_len k here to)

  -- the code writes nothing
  abbrev g : Setting
  g = record {
    start = t;
    at = λ j. 0;
    may = λ j. false;
    scratch = area.scratch;
    places = record { low = λ j h. absurd (true≢false (sym h)); apart = λ j l h. absurd (true≢false (sym h)); inside = λ j b h. absurd (true≢false (sym h)); writable = λ j b h. absurd (true≢false (sym h)); top = rest_top area o t at.area_there at.beside at.bounds.memory };
  }

  code : Code g here (count_parts k here to)
  code = record { stands = at.stands.stands; apart = at.stands.fixed }

  begins : on g t.core here [] ≡ t
  unfolding stored
  begins = ap (λ (a : ℕ). record t { eip = a }) (sym at.place)

  jumps : loop_jumps k (loop_core k t.core) ≡ true → Comes g 2 t.core here [] (on g (loop_core k t.core) to [])
  unfolding word
  jumps e =
      looped g (here + 2 + 2) (loop_spelled k) e (omega (arith, count_room)) refl code
      (jump g to (jump_spelled (address_after here 4) to) (far_goes here to count_room low) refl (code_rest g (code_rest g code)) (done g))

  falls : loop_jumps k (loop_core k t.core) ≡ false → Comes g 2 t.core here [] (on g (loop_core k t.core) (here + 9) [])
  falls e = left g (loop_spelled k) e refl code (λ code. jump g (here + 9) short_spelled (omega (arith, count_room)) refl code (done g))

  count_reaches : (b : Bool) (e : ℕ) → Comes g 2 t.core here [] (on g (loop_core k t.core) e []) → Counts (if b then target_of next rel else next) (on g (loop_core k t.core) e [])
      → Reaches area 2 Counts o (record o { core = loop_core k o.core; eip = if b then target_of next rel else next }) t
  count_reaches b e comes arrives =
      rest_reaches area o t at.area_there at.beside 2 Counts _ (on g (loop_core k t.core) e [])
      (subst (λ (s : State). Passes (KeepsRest area.scratch t) 2 s (on g (loop_core k t.core) e [])) begins comes.passes)
      (keeps_rest g (loop_core k t.core) e [] refl)
      (ap (loop_core k) at.beside.core) refl refl refl refl arrives

  count_goes : (b : Bool) → loop_jumps k (loop_core k o.core) ≡ b → Reaches area 2 Counts o (record o { core = loop_core k o.core; eip = if b then target_of next rel else next }) t
  count_goes true e = count_reaches true to (jumps (ap (λ (d : Core). loop_jumps k (loop_core k d)) at.beside.core ∙ e)) (inl (refl, refl))
  count_goes false e = count_reaches false (here + 9) (falls (ap (λ (d : Core). loop_jumps k (loop_core k d)) at.beside.core ∙ e)) (inr (refl, refl))

  -- a counted loop's piece goes where the loop goes, in two steps
  pub count_meets : Meets area 2 Counts o t (executed o (insn.Loop k rel) next flow.Count)
  count_meets = subst (Meets area 2 Counts o t) (sym (loop_executed o next k rel)) (count_goes (loop_jumps k (loop_core k o.core)) refl)
