-- From its first byte, a counter counts.
use Rattle.std.proofs.Common.{◌≡◌, ℕ, suc, zero, ◌⊎◌, inl, inr, ◌+◌, ◌/◌, ◌%◌, ◌^◌, ◌<◌, ◌≤◌, Bool, true, false, ◌==◌, [], length, None, if◌then◌else◌, nat_le, nat_lt, slice_index, refl, sym, ap, ◌∙◌, subst, arith}
use Rattle.std.proofs.lemmas.Bool.{eqb-true, eqb-false, le-leb, lt-ltb, ltb-true, and_from, or_left, or_right, true≢false}
use Rattle.mv_base.specs.Bytes.{word}
use Rattle.mv_base.specs.Memory.{Memory, within, is_writable, bytes_at}
use Rattle.x86_insn.specs.State.{State}
use Rattle.step_laws.specs.Passes.{Passes}
use Rattle.step_laws.specs.Keeping.{KeepsRest}
use Rattle.step_laws.specs.Standing.{IsRoom}
use Rattle.step_laws.specs.laws.Logs.{Log, may_all, HasPlaces, stored_word}
use Rattle.step_laws.specs.laws.Symbolic.{Setting, Code, Comes, on, keeps_rest, whole_core, from_start}
use Rattle.counter_hooks.specs.Counter.{counter_parts, counter}
use Rattle.counter_hooks.specs.Counting.{is_scratch, counting_steps, IsCounting, Counts}
use Rattle.counter_hooks.specs.laws.Words.{low_word, high_word, both_words}
use Rattle.counter_hooks.specs.laws.Run.{word_place, may, Kept, core_with, raised, low_log, high_log, g, short_comes, long_comes}

pub counter_length : (p k : ℕ) → length (counter p k) ≡ 46
unfolding counter word
counter_length p k = refl

-- ---- what it writes

in_range : (lo len a : ℕ) → lo ≤ a → a < lo + len → within lo len a ≡ true
in_range lo len a low high = and_from (nat_le lo a) (nat_lt a (lo + len)) (le-leb lo a low) (lt-ltb a (lo + len) high)

-- a number of the three
cases_three : (P : ℕ → Type 0) → P 0 → P 1 → P 2 → (j : ℕ) → may j ≡ true → P j
cases_three P a b c zero h = a
cases_three P a b c (suc zero) h = b
cases_three P a b c (suc (suc zero)) h = c
cases_three P a b c (suc (suc (suc j))) h = absurd (let l = ltb-true (suc (suc (suc j))) 3 h in omega arith)

module _ (p k : ℕ) (m : Memory) (top : (a : ℕ) → 2 ^ 32 ≤ a → m a ≡ None) (private : IsRoom m p 4) (room : IsRoom m k 8) (apart : (p + 4 ≤ k) ⊎ (k + 8 ≤ p)) where
  places_apart : (i j : ℕ) → may i ≡ true → may j ≡ true → (i == j) ≡ false → (word_place p k i + 4 ≤ word_place p k j) ⊎ (word_place p k j + 4 ≤ word_place p k i)
  places_apart i j a b =
      cases_three (λ i. (i == j) ≡ false → (word_place p k i + 4 ≤ word_place p k j) ⊎ (word_place p k j + 4 ≤ word_place p k i))
      (cases_three (λ j. (0 == j) ≡ false → (p + 4 ≤ word_place p k j) ⊎ (word_place p k j + 4 ≤ p)) (λ e. absurd (true≢false e)) (λ e. either apart 0) (λ e. either apart 1) j b)
      (cases_three (λ j. (1 == j) ≡ false → (k + 4 ≤ word_place p k j) ⊎ (word_place p k j + 4 ≤ k)) (λ e. other apart 0) (λ e. absurd (true≢false e)) (λ e. inl (omega arith)) j b)
      (cases_three (λ j. (2 == j) ≡ false → (k + 4 + 4 ≤ word_place p k j) ⊎ (word_place p k j + 4 ≤ k + 4)) (λ e. last apart) (λ e. inr (omega arith)) (λ e. absurd (true≢false e)) j b)
      i a
    where
      either : (p + 4 ≤ k) ⊎ (k + 8 ≤ p) → (j : ℕ) → (p + 4 ≤ word_place p k (suc j)) ⊎ (word_place p k (suc j) + 4 ≤ p)
      either (inl h) zero = inl h
      either (inl h) (suc j) = inl (omega arith)
      either (inr h) zero = inr (omega arith)
      either (inr h) (suc j) = inr (omega arith)

      other : (p + 4 ≤ k) ⊎ (k + 8 ≤ p) → ℕ → (k + 4 ≤ p) ⊎ (p + 4 ≤ k)
      other (inl h) j = inr h
      other (inr h) j = inl (omega arith)

      last : (p + 4 ≤ k) ⊎ (k + 8 ≤ p) → (k + 4 + 4 ≤ p) ⊎ (p + 4 ≤ k + 4)
      last (inl h) = inr (omega arith)
      last (inr h) = inl (omega arith)

  pub places_of : HasPlaces (word_place p k) may (is_scratch p k) m
  places_of = record {
    low = cases_three (λ j. word_place p k j + 4 ≤ 2 ^ 32) (omega (arith, private.low)) (omega (arith, room.low)) (omega (arith, room.low));
    apart = places_apart;
    inside = λ j b h l.
        cases_three (λ j. is_scratch p k (word_place p k j + b) ≡ true)
        (or_left (within p 4 (p + b)) (within k 8 (p + b)) (in_range p 4 (p + b) (omega arith) (omega arith)))
        (or_right (within p 4 (k + b)) (within k 8 (k + b)) (in_range k 8 (k + b) (omega arith) (omega arith)))
        (or_right (within p 4 (k + 4 + b)) (within k 8 (k + 4 + b)) (in_range k 8 (k + 4 + b) (omega arith) (omega arith)))
        j h;
    writable = λ j b h l.
        let above : k + (4 + b) ≡ k + 4 + b = omega arith in
        cases_three (λ j. is_writable m (word_place p k j + b) ≡ true)
        (private.writable b l)
        (room.writable b (omega arith))
        (subst (λ a. is_writable m a ≡ true) above (room.writable (4 + b) (omega arith)))
        j h;
    top = top;
  }

-- ---- the run

module _ (p k at n : ℕ) (s : State) (h : IsCounting p k at n s) where
  abbrev r : Kept
  r = record {
    eax = slice_index s.core.regs 0;
    edx = slice_index s.core.regs 2;
    ebx = slice_index s.core.regs 3;
    esp = slice_index s.core.regs 4;
    ebp = slice_index s.core.regs 5;
    esi = slice_index s.core.regs 6;
    edi = slice_index s.core.regs 7;
    flags = s.core.flags;
    gs = s.core.gs;
    gs_base = s.core.gs_base;
  }

  abbrev ecx : ℕ
  ecx = slice_index s.core.regs 1

  abbrev lo : ℕ
  lo = n % 2 ^ 32

  abbrev hi : ℕ
  hi = n / 2 ^ 32

  places : HasPlaces (word_place p k) may (is_scratch p k) s.memory
  places = places_of p k s.memory h.top h.private h.room h.apart

  abbrev run : Setting
  run = g s p k h.private.low h.room.low places r

  code : Code run at (counter_parts p k)
  unfolding counter
  code = record { stands = h.code; apart = h.code_apart }

  low_there : bytes_at s.memory k 4 ≡ word lo
  low_there = low_word s.memory k n h.room.low h.number

  high_there : bytes_at s.memory (k + 4) 4 ≡ word hi
  high_there = high_word s.memory k n h.room.low h.number

  -- a run that comes to its end
  counts_by : (steps e : ℕ) (log : Log) → steps ≡ counting_steps n → e ≡ at + 46 → may_all may log ≡ true
      → Comes run steps (core_with r ecx) at [] (on run (core_with r ecx) e log)
      → bytes_at (on run (core_with r ecx) e log).memory k 4 ≡ word ((n + 1) % 2 ^ 64 % 2 ^ 32)
      → bytes_at (on run (core_with r ecx) e log).memory (k + 4) 4 ≡ word ((n + 1) % 2 ^ 64 / 2 ^ 32)
      → Counts p k at n s
  counts_by steps e log same there ok comes low high =
      let t = on run (core_with r ecx) e log in
      record {
        last = t;
        passes = subst (λ c. Passes (KeepsRest (is_scratch p k) s) c s t) same (from_start run steps (core_with r ecx) at t (whole_core s.core h.core) h.place comes);
        keeps = keeps_rest run (core_with r ecx) e log ok;
        core = whole_core s.core h.core;
        place = there ∙ ap (λ (c : ℕ). at + c) (sym (counter_length p k));
        number = both_words t.memory k ((n + 1) % 2 ^ 64) _ _ h.room.low low high refl refl;
      }

  pub counts : Counts p k at n s
  counts = go (raised lo == 0) refl
    where
      steps : (b : Bool) → (raised lo == 0) ≡ b → (if b then 9 else 7) ≡ counting_steps n
      steps b e =
          let same : raised lo ≡ (n + 1) % 2 ^ 32 = omega arith in
          ap (λ (b : Bool). if b then 9 else 7) (sym e ∙ ap (λ (c : ℕ). c == 0) same)

      go : (b : Bool) → (raised lo == 0) ≡ b → Counts p k at n s
      go false e =
          let more = eqb-false (raised lo) 0 e in
          let fits = h.fits in
          let low : raised lo ≡ (n + 1) % 2 ^ 64 % 2 ^ 32 = omega arith in
          let high : hi ≡ (n + 1) % 2 ^ 64 / 2 ^ 32 = omega arith in
          counts_by 7 (at + 40 + 6) (low_log ecx lo) (steps false e) (omega arith) refl
          (short_comes s p k h.private.low h.room.low places r ecx lo (h.core.fits 1) (omega arith) low_there e code)
          (stored_word (word_place p k) may (is_scratch p k) s.memory places (low_log ecx lo) 1 refl refl ∙ ap word low)
          (stored_word (word_place p k) may (is_scratch p k) s.memory places (low_log ecx lo) 2 refl refl ∙ high_there ∙ ap word high)
      go true e =
          let none = eqb-true (raised lo) 0 e in
          let fits = h.fits in
          let low : raised lo ≡ (n + 1) % 2 ^ 64 % 2 ^ 32 = omega arith in
          let high : raised hi ≡ (n + 1) % 2 ^ 64 / 2 ^ 32 = omega arith in
          counts_by 9 (at + 25 + 6 + 3 + 6 + 6) (high_log ecx lo hi) (steps true e) (omega arith) refl
          (long_comes s p k h.private.low h.room.low places r ecx lo hi (h.core.fits 1) (omega arith) (omega arith) low_there high_there e code)
          (stored_word (word_place p k) may (is_scratch p k) s.memory places (high_log ecx lo hi) 1 refl refl ∙ ap word low)
          (stored_word (word_place p k) may (is_scratch p k) s.memory places (high_log ecx lo hi) 2 refl refl ∙ ap word high)
