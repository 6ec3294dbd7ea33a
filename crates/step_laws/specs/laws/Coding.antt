-- Where no executable cell can be written, no step changes an executable cell, and none makes one.
use Rattle.std.specs.Prelude.{◌≡◌, ℕ, zero, suc, ◌+◌, ◌-◌, ◌^◌, ◌<◌, ◌≤◌, Bool, true, false, not, ◌||◌, List, [], ◌∷◌, ◌++◌, length, Option, Some, None, is_some, nat_le, nat_lt, slice_index, if◌then◌else◌}
use Rattle.std.specs.List.{AllByRecursion}
use Rattle.std.proofs.Common.{refl, sym, ap, ◌∙◌, subst, inl, inr, ⊎_elim, arith}
use Rattle.std.proofs.lemmas.Bool.{both_ways, cases_Bool, cases_lt, true≢false, and_parts, leb-true, ltb-true}
use Rattle.std.proofs.lemmas.Option.{none-some}
use Rattle.mv_base.specs.Memory.{Cell, Memory, IsMemory, is_mapped, is_writable, is_executable, within, distance, address_after, read_fault, write_fault, bytes_at, put}
use Rattle.mv_base.specs.Effects.{Mode, Read, Write, Exec, Effect, WriteAt, MapAt, UnmapAt, DescAt, effect_lo, effect_len, touches, Answer, Ret, IsEffect, IsAnswer, is_write_mode, is_exec_mode, makes_code, applied, Refusal, Executable, first_touched, unmapped, unwritable, refused_access, refusal_of, Applied, AllApplied, RefusedAt, apply_next, apply_all, Descs}
use Rattle.mv_base.specs.Effects as effects
use Rattle.x86_insn.specs.declared.insn.Insn.{Insn}
use Rattle.x86_insn.specs.declared.insn.Flow.{Flow}
use Rattle.x86_insn.specs.declared.insn.Flow.TheVariants as flow
use Rattle.x86_insn.specs.declared.registers.Core.{Core}
use Rattle.x86_insn.specs.declared.stop.Kind.{Kind}
use Rattle.x86_insn.specs.declared.stop.Stop.TheVariants.{Outside}
use Rattle.x86_insn.specs.declared.ask.Ask.{Ask}
use Rattle.x86_insn.specs.declared.ask.Ask.TheVariants.{Reads, Halts, Ends}
use Rattle.x86_insn.specs.Flow.{flow_of}
use Rattle.x86_insn.specs.State.{State}
use Rattle.x86_insn.specs.Round.{round, hop, limit}
use Rattle.x86_insn.specs.Step.{Fetched, Absent, Found, Unknown, fetch, Turn, Ended, Halted, unless_fault, answered, asks, turn, Rounds, Completed, Broken, after_turn, rounds, after_rounds, after_hop, after_effects, system, identified, is_cpuid, plainly, executed, stepped, step}
use Rattle.step_laws.specs.Bounds.{IsState}
use Rattle.step_laws.specs.Beside.{exec_cell, IsFixed, SameCode, KeepsCode}
use Rattle.step_laws.specs.laws.Putting.{put_far, put_none, put_marks, marks_mapped, marks_executable}
use Rattle.step_laws.specs.laws.Cells.{may_write, may_execute, exec_cell_none, exec_alike, exec_same, write_mapped, first_passes, first_begins}

-- ---- memories

-- cells lie below 2^32
abbrev pub IsLow : Memory → Type 0
IsLow m = (a : ℕ) → is_mapped m a ≡ true → a < 2 ^ 32

pub low_memory : (m : Memory) → IsMemory m → IsLow m
low_memory m h a e = go (m a) refl e
  where
    go : (c : Option Cell) → m a ≡ c → is_some c ≡ true → a < 2 ^ 32
    go None p e = absurd (true≢false (sym e))
    go (Some c) p e = omega (arith, h.low a c p)

pub same_then : (m n p : Memory) → SameCode m n → SameCode n p → SameCode m p
same_then m n p h k a = k a ∙ h a

-- what cannot be executed is no code
pub no_code : (c d : Option Cell) → may_execute c ≡ false → may_execute d ≡ false → exec_cell c ≡ exec_cell d
no_code c d h k = exec_cell_none c h ∙ sym (exec_cell_none d k)

-- the same code is fixed in both
pub fixed_same : (m n : Memory) → SameCode m n → IsFixed m → IsFixed n
fixed_same m n h f a e = ap may_write (exec_same (n a) (m a) (h a) e) ∙ f a (sym (exec_alike (n a) (m a) (h a)) ∙ e)

-- nothing at or above 2^32
pub none_above : (m : Memory) → IsLow m → (a : ℕ) → 2 ^ 32 ≤ a → m a ≡ None
none_above m h a l = go (m a) refl
  where
    go : (c : Option Cell) → m a ≡ c → m a ≡ None
    go None p = p
    go (Some c) p = absurd (omega (arith, l, h a (ap is_some p)))

-- ---- a write

-- the addresses that an access reaches
pub reached : (m : Memory) → IsLow m → (at len : ℕ) → write_fault m at len ≡ None → (a : ℕ) → a < 2 ^ 32 → distance at a < len → is_writable m a ≡ true
reached m h at len n a low d =
    let first = first_begins (is_writable m) len at (omega (arith, d)) n in
    let at_low = h at (write_mapped (m at) first) in
    let back : address_after at (distance at a) ≡ a = omega arith in
    subst (λ c. is_writable m c ≡ true) back (first_passes (is_writable m) len at n (distance at a) d at_low)

-- a write that reaches no code changes none
put_code : (m : Memory) (at : ℕ) (bytes : List ℕ) → IsLow m → ((a : ℕ) → a < 2 ^ 32 → distance at a < length bytes → is_executable m a ≡ false) → SameCode m (put m at bytes)
put_code m at bytes h idle a =
    elim (cases_lt a (2 ^ 32)) [
      | inr p ↦ ap exec_cell (put_none m at bytes a (none_above m h a p) ∙ sym (none_above m h a p))
      | inl p ↦
          elim (cases_lt (distance at a) (length bytes)) [
            | inr q ↦ ap exec_cell (put_far m at bytes a q)
            | inl q ↦ no_code (put m at bytes a) (m a) (marks_executable (put m at bytes a) (m a) (put_marks m at bytes a) ∙ idle a p q) (idle a p q)
          ]
    ]

pub put_low : (m : Memory) (at : ℕ) (bytes : List ℕ) → IsLow m → IsLow (put m at bytes)
put_low m at bytes h a e = h a (sym (marks_mapped (put m at bytes a) (m a) (put_marks m at bytes a)) ∙ e)

-- what is written there is no code
write_idle : (m : Memory) → IsLow m → IsFixed m → (at len : ℕ) → write_fault m at len ≡ None → (a : ℕ) → a < 2 ^ 32 → distance at a < len → is_executable m a ≡ false
write_idle m h f at len n a low d = ⊎_elim (λ e. absurd (both_ways (is_writable m a) (f a e) (reached m h at len n a low d))) (λ e. e) (cases_Bool (is_executable m a))

-- the parts of the test of a range
pub within_parts : (lo len a : ℕ) → within lo len a ≡ true → (lo ≤ a) × (a < lo + len)
within_parts lo len a h = let p = and_parts (nat_le lo a) (nat_lt a (lo + len)) h in (leb-true lo a p.0, ltb-true a (lo + len) p.1)

-- ---- a turn, and rounds

abbrev TurnLeaves : {E : Type 0} → Memory → Turn E → Type 0
TurnLeaves m (Ended c n e) = SameCode m n × IsLow n
TurnLeaves m (Halted why) = Unit {0}

module _ (m : Memory) (h : IsLow m) (f : IsFixed m) where
  written_leaves : {E : Type 0} (kind : Kind) (c : Core) (at : ℕ) (bytes : List ℕ) (e : E) (r : Option ℕ) → write_fault m at (length bytes) ≡ r → TurnLeaves m (unless_fault kind r (Ended c (put m at bytes) e))
  written_leaves kind c at bytes e None p = (put_code m at bytes h (write_idle m h f at (length bytes) p), put_low m at bytes h)
  written_leaves kind c at bytes e (Some a) p = tt

  read_leaves : {E : Type 0} (kind : Kind) (r : Option ℕ) (t : Turn E) → TurnLeaves m t → TurnLeaves m (unless_fault kind r t)
  read_leaves kind None t k = k
  read_leaves kind (Some a) t k = tt

  answered_leaves : {E : Type 0} (go : List ℕ → Turn E) (ask : Ask E) → ((bytes : List ℕ) → TurnLeaves m (go bytes)) → TurnLeaves m (answered m go ask)
  answered_leaves go (Reads at len) k = read_leaves _ (read_fault m at len) (go (bytes_at m at len)) (k (bytes_at m at len))
  answered_leaves go (Halts why) k = tt
  answered_leaves go (Ends c None e) k = (λ a. refl, h)
  answered_leaves go (Ends c (Some w) e) k = written_leaves _ c w.0 w.1 e (write_fault m w.0 (length w.1)) refl

  asks_leave : {E : Type 0} (n : ℕ) (ask : List (List ℕ) → Ask E) (got : List (List ℕ)) → TurnLeaves m (asks n m ask got)
  unfolding asks
  asks_leave zero ask got = answered_leaves (λ bytes. Halted Outside) (ask got) (λ bytes. tt)
  asks_leave (suc n) ask got = answered_leaves (λ bytes. asks n m ask (got ++ bytes ∷ [])) (ask got) (λ bytes. asks_leave n ask (got ++ bytes ∷ []))

abbrev RoundsLeave : Memory → Rounds → Type 0
RoundsLeave m (Completed c n) = SameCode m n
RoundsLeave m (Broken why c n) = SameCode m n

rounds_then : (m n : Memory) (r : Rounds) → SameCode m n → RoundsLeave n r → RoundsLeave m r
rounds_then m n (Completed c p) h k = same_then m n p h k
rounds_then m n (Broken why c p) h k = same_then m n p h k

rounds_leave : (k : ℕ) (i : Insn) (ds : Descs) (c : Core) (m : Memory) → IsLow m → IsFixed m → RoundsLeave m (rounds k i ds c m)
unfolding rounds
rounds_leave zero i ds c m h f = λ a. refl
rounds_leave (suc k) i ds c m h f = go (rounds_leave k i ds) (turn m (round i ds c)) (asks_leave m h f 2 (round i ds c) [])
  where
    go : ((d : Core) (n : Memory) → IsLow n → IsFixed n → RoundsLeave n (rounds k i ds d n)) → (p : Turn Bool) → TurnLeaves m p → RoundsLeave m (after_turn p c m (rounds k i ds))
    go rec (Ended d n true) t = rounds_then m n _ t.0 (rec d n t.1 (fixed_same m n t.0 f))
    go rec (Ended d n false) t = t.0
    go rec (Halted why) t = λ a. refl

-- ---- effects

-- an effect that is not refused makes no code
pub granted_idle : (e : Effect) (m : Memory) → refusal_of m e ≡ None → makes_code e ≡ false
granted_idle e m h = ⊎_elim (λ k. absurd (none-some Executable (sym h ∙ ap (λ v. if v || is_some (first_touched (λ a. not (is_executable m a)) e) then Some Executable else refused_access (unmapped m e) (unwritable m e)) k))) (λ k. k) (cases_Bool (makes_code e))

-- and touches none
granted_first : (e : Effect) (m : Memory) → refusal_of m e ≡ None → first_touched (λ a. not (is_executable m a)) e ≡ None
granted_first e m h = go (makes_code e) (first_touched (λ a. not (is_executable m a)) e) refl h
  where
    go : (v : Bool) (r : Option ℕ) → first_touched (λ a. not (is_executable m a)) e ≡ r → (if v || is_some r then Some Executable else refused_access (unmapped m e) (unwritable m e)) ≡ None → first_touched (λ a. not (is_executable m a)) e ≡ None
    go v None p q = p
    go true (Some a) p q = absurd (none-some Executable (sym q))
    go false (Some a) p q = absurd (none-some Executable (sym q))

granted_apart : (e : Effect) (m : Memory) → IsEffect e → refusal_of m e ≡ None → (a : ℕ) → effect_lo e ≤ a → a < effect_lo e + effect_len e → is_executable m a ≡ false
granted_apart e m i h a low high =
    let passes = first_passes (λ a. not (is_executable m a)) (effect_len e) (effect_lo e) (granted_first e m h) (a - effect_lo e) (omega arith) (omega (arith, i.end)) in
    let there : address_after (effect_lo e) (a - effect_lo e) ≡ a = omega (arith, i.end) in
    true_not (is_executable m a) (subst (λ c. not (is_executable m c) ≡ true) there passes)
  where
    true_not : (b : Bool) → not b ≡ true → b ≡ false
    true_not true e = sym e
    true_not false e = refl

-- a new cell of an effect that makes no code
pub made_idle : (mode : Mode) (lo len : ℕ) (bytes : List ℕ) → makes_code (MapAt lo len mode bytes) ≡ false → is_exec_mode mode ≡ false
made_idle Read lo len bytes h = refl
made_idle Write lo len bytes h = refl
made_idle Exec lo len bytes h = h

applied_leaves : (e : Effect) (m : Memory) → IsEffect e → refusal_of m e ≡ None → IsLow m → SameCode m (applied m e) × IsLow (applied m e)
unfolding applied
applied_leaves (WriteAt lo bytes) m i g h = (put_code m lo bytes h (λ a low d. granted_apart (WriteAt lo bytes) m i g a (omega (arith, d, i.end)) (omega (arith, d, i.end))), put_low m lo bytes h)
applied_leaves (MapAt lo len mode bytes) m i g h = (λ a. code a (within lo len a) refl, λ a e. low a (within lo len a) refl e)
  where
    new : ℕ → Cell
    new a = record { byte = slice_index bytes (a - lo); write = is_write_mode mode; exec = is_exec_mode mode }

    code : (a : ℕ) (t : Bool) → within lo len a ≡ t → exec_cell (if t then Some (new a) else m a) ≡ exec_cell (m a)
    code a true e =
        let p = within_parts lo len a e in
        no_code (Some (new a)) (m a) (made_idle mode lo len bytes (granted_idle (MapAt lo len mode bytes) m g)) (granted_apart (MapAt lo len mode bytes) m i g a p.0 p.1)
    code a false e = refl

    low : (a : ℕ) (t : Bool) → within lo len a ≡ t → is_some (if t then Some (new a) else m a) ≡ true → a < 2 ^ 32
    low a true e k = omega (arith, (within_parts lo len a e).1, i.end)
    low a false e k = h a k
applied_leaves (UnmapAt lo len) m i g h = (λ a. code a (within lo len a) refl, λ a e. low a (within lo len a) e)
  where
    code : (a : ℕ) (t : Bool) → within lo len a ≡ t → exec_cell (if t then None else m a) ≡ exec_cell (m a)
    code a true e = let p = within_parts lo len a e in no_code None (m a) refl (granted_apart (UnmapAt lo len) m i g a p.0 p.1)
    code a false e = refl

    low : (a : ℕ) (t : Bool) → is_some {T = Cell} (if t then None else m a) ≡ true → a < 2 ^ 32
    low a true k = absurd (true≢false (sym k))
    low a false k = h a k
applied_leaves (DescAt index base) m i g h = (λ a. refl, h)

abbrev AppliedLeaves : Memory → Applied → Type 0
AppliedLeaves m (AllApplied n) = SameCode m n
AppliedLeaves m (RefusedAt why n) = SameCode m n

applied_then : (m n : Memory) (p : Applied) → SameCode m n → AppliedLeaves n p → AppliedLeaves m p
applied_then m n (AllApplied q) h k = same_then m n q h k
applied_then m n (RefusedAt why q) h k = same_then m n q h k

effects_leave : (es : List Effect) (m : Memory) → AllByRecursion IsEffect es → IsLow m → AppliedLeaves m (apply_all m es)
effects_leave [] m i h = λ a. refl
effects_leave (e ∷ es) m i h = go (refusal_of m e) refl (effects_leave es (applied m e) i.1)
  where
    go : (r : Option Refusal) → refusal_of m e ≡ r → (IsLow (applied m e) → AppliedLeaves (applied m e) (apply_all (applied m e) es)) → AppliedLeaves m (apply_next r m (apply_all (applied m e) es))
    go None g rec = let p = applied_leaves e m i.0 g h in applied_then m (applied m e) _ p.0 (rec p.1)
    go (Some why) g rec = λ a. refl

-- ---- outcomes

module _ (s : State) (h : IsLow s.memory) (f : IsFixed s.memory) where
  after_rounds_leave : (next : ℕ) (r : Rounds) → RoundsLeave s.memory r → KeepsCode s.memory (after_rounds s next r)
  after_rounds_leave next (Completed c m) k = k
  after_rounds_leave next (Broken why c m) k = k

  own_leaves : (i : Insn) (next : ℕ) → KeepsCode s.memory (after_rounds s next (rounds (limit i s.core) i s.descs s.core s.memory))
  own_leaves i next = after_rounds_leave next _ (rounds_leave (limit i s.core) i s.descs s.core s.memory h f)

  after_hop_leaves : (p : Turn ℕ) → TurnLeaves s.memory p → KeepsCode s.memory (after_hop s p)
  after_hop_leaves (Ended c m to) k = k.0
  after_hop_leaves (Halted why) k = λ a. refl

  goes_leaves : (i : Insn) (next : ℕ) → KeepsCode s.memory (after_hop s (turn s.memory (hop next i s.core)))
  goes_leaves i next = after_hop_leaves _ (asks_leave s.memory h f 2 (hop next i s.core) [])

  after_effects_leave : (next eax : ℕ) (rest : List Answer) (ds : Descs) (p : Applied) → AppliedLeaves s.memory p → KeepsCode s.memory (after_effects s next eax rest ds p)
  after_effects_leave next eax rest ds (AllApplied m) k = k
  after_effects_leave next eax rest ds (RefusedAt why m) k = k

  system_leaves : (next : ℕ) (answers : List Answer) → AllByRecursion IsAnswer answers → KeepsCode s.memory (system s next answers)
  system_leaves next [] r = λ a. refl
  system_leaves next (effects.Gone ∷ rest) r = λ a. refl
  system_leaves next (Ret eax es ∷ rest) r = after_effects_leave next eax rest _ _ (effects_leave es s.memory r.0.1 h)
  system_leaves next (effects.Cpuid eax ebx ecx edx ∷ rest) r = λ a. refl

  identified_leaves : (next : ℕ) (answers : List Answer) → KeepsCode s.memory (identified s next answers)
  identified_leaves next [] = λ a. refl
  identified_leaves next (effects.Gone ∷ rest) = λ a. refl
  identified_leaves next (Ret eax es ∷ rest) = λ a. refl
  identified_leaves next (effects.Cpuid eax ebx ecx edx ∷ rest) = λ a. refl

  plainly_leaves : (t : Bool) (i : Insn) (next : ℕ) → KeepsCode s.memory (plainly t s i next)
  plainly_leaves true i next = identified_leaves next s.answers
  plainly_leaves false i next = own_leaves i next

  pub executed_leaves : (i : Insn) (next : ℕ) (fl : Flow) → AllByRecursion IsAnswer s.answers → KeepsCode s.memory (executed s i next fl)
  executed_leaves i next flow.Plain r = plainly_leaves (is_cpuid i) i next
  executed_leaves i next flow.Trap r = own_leaves i next
  executed_leaves i next flow.System r = system_leaves next s.answers r
  executed_leaves i next flow.Jump r = goes_leaves i next
  executed_leaves i next flow.Branch r = goes_leaves i next
  executed_leaves i next flow.Count r = goes_leaves i next
  executed_leaves i next flow.Call r = goes_leaves i next
  executed_leaves i next flow.JumpVia r = goes_leaves i next
  executed_leaves i next flow.CallVia r = goes_leaves i next
  executed_leaves i next flow.Return r = goes_leaves i next

  stepped_leaves : (r : Fetched) → AllByRecursion IsAnswer s.answers → KeepsCode s.memory (stepped s r)
  stepped_leaves Absent r = λ a. refl
  stepped_leaves (Found i n) r = executed_leaves i (address_after s.eip n) (flow_of i) r
  stepped_leaves Unknown r = λ a. refl

-- no step changes code, at any outcome
pub step_leaves : (s : State) → IsState s → IsFixed s.memory → KeepsCode s.memory (step s)
unfolding step
step_leaves s h f = stepped_leaves s (low_memory s.memory h.memory) f (fetch s.memory s.eip) h.answers
