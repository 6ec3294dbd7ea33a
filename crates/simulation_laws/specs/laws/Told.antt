-- A counter, of whatever kind and in front of whatever stands there: it counts, and leaves all else as it was.
use Rattle.std.proofs.Common.{◌≡◌, ℕ, ◌⊎◌, inl, inr, ◌+◌, ◌*◌, ◌%◌, ◌^◌, ◌<◌, ◌≤◌, Bool, true, false, ◌&&◌, ◌||◌, ◌==◌, List, length, Option, Some, None, if◌then◌else◌, nat_le, nat_lt, refl, sym, ap, ◌∙◌, subst, arith, ⊎_elim}
use Rattle.std.specs.List.{AllByRecursion}
use Rattle.std.proofs.lemmas.Bool.{and_parts, and_from, and_left, and_right, le-leb, lt-ltb, lt-leb, le-ltb, leb-true, ltb-true, both_ways, cases_Bool, or_cases, cases_lt}
use Rattle.mv_base.specs.Bytes.{number}
use Rattle.mv_base.specs.Effects.{IsAnswer}
use Rattle.mv_base.specs.Memory.{Memory, IsMemory, address_after, bytes_at, within}
use Rattle.x86_insn.specs.State.{State, IsCore}
use Rattle.step_laws.specs.Bounds.{IsState}
use Rattle.step_laws.specs.Passes.{Passes}
use Rattle.step_laws.specs.Beside.{ShowsSame, StatesBeside}
use Rattle.step_laws.specs.Keeping.{KeepsRest}
use Rattle.step_laws.specs.Meeting.{private_len, HasArea, Keeps, AllKeep}
use Rattle.step_laws.specs.laws.Passing.{passes_none, passes_weaker, passes_arrives}
use Rattle.step_laws.specs.laws.Putting.{keeps_bytes, keeps_wider}
use Rattle.step_laws.specs.laws.Alongside.{keeps_same}
use Rattle.step_laws.specs.laws.Lasting.{run_fits}
use Rattle.step_laws.specs.laws.Resting.{cells_keep, cells_beside, rest_shows, rest_top}
use Rattle.counter_hooks.specs.Counter.{counter}
use Rattle.counter_hooks.specs.Counting.{is_scratch, counting_steps, IsCounting, Counts}
use Rattle.counter_hooks.specs.laws.Counted.{counter_length, counts}
use Rattle.elf32_write.specs.Format as format
use Rattle.elf32_write.specs.Frame.{Frame, is_added, is_private, counted_at, kind_at, pair_at, counted, AscendPairs, counter_place}
use Rattle.simulation_laws.specs.Pieces.{counter_code}
use Rattle.simulation_laws.specs.Relocated.{StandAt, IsOutput, anchors_of, kind_of}
use Rattle.simulation_laws.specs.Stepping.{area_of, counting_area, IsSound, Alike, counter_number, CountsOne}
use Rattle.simulation_laws.specs.laws.AtSite.{counter_most}
use Rattle.simulation_laws.specs.laws.Ruled.{IsRuled, ruled}
use Rattle.simulation_laws.specs.laws.Sound.{alike_beyond, counting_there, stands_in}
use Rattle.simulation_laws.specs.laws.Numbers.{bytes_same, eight_are, eight_low, spell_back}
use Rattle.simulation_laws.specs.laws.Counters.{IsThat, IsCounter, is_that, that_by, not_that, is_counter, no_counter, apart}

-- ---- what is added to

-- each counter of which p holds has one more, modulo 2^64, and each other has what it had
abbrev pub Adds : Frame → (ℕ → ℕ → Bool) → Memory → Memory → Type 0
Adds f p m u =
    (k : ℕ) → k < f.counters → counter_number f u k ≡ (if p (counted_at f k) (kind_at f k) then (counter_number f m k + 1) % 2 ^ 64 else counter_number f m k)

-- the counter of an address and a kind, and no counter
abbrev pub one_of : ℕ → ℕ → ℕ → ℕ → Bool
one_of kind at a k = a == at && k == kind

abbrev pub none_of : ℕ → ℕ → Bool
none_of a k = false

pub adds_if : (f : Frame) (p q : ℕ → ℕ → Bool) (m u : Memory) → ((k : ℕ) → k < f.counters → p (counted_at f k) (kind_at f k) ≡ q (counted_at f k) (kind_at f k)) → Adds f p m u → Adds f q m u
adds_if f p q m u same adds k lt =
    adds k lt ∙ ap (λ (v : Bool). if v then (counter_number f m k + 1) % 2 ^ 64 else counter_number f m k) (same k lt)

-- one after the other
pub adds_then : (f : Frame) (p q : ℕ → ℕ → Bool) (m u v : Memory) → ((a k : ℕ) → p a k ≡ true → q a k ≡ false) → Adds f p m u → Adds f q u v → Adds f (λ a k. p a k || q a k) m v
adds_then f p q m u v other first then_more k lt =
    then_more k lt ∙ go (p (counted_at f k) (kind_at f k)) (q (counted_at f k) (kind_at f k)) (other (counted_at f k) (kind_at f k)) (first k lt)
  where
    go : (s t : Bool) → (s ≡ true → t ≡ false) → counter_number f u k ≡ (if s then (counter_number f m k + 1) % 2 ^ 64 else counter_number f m k)
        → (if t then (counter_number f u k + 1) % 2 ^ 64 else counter_number f u k) ≡ (if s || t then (counter_number f m k + 1) % 2 ^ 64 else counter_number f m k)
    go true true apart e = absurd (both_ways true (apart refl) refl)
    go true false apart e = e
    go false true apart e = ap (λ (n : ℕ). (n + 1) % 2 ^ 64) e
    go false false apart e = e

-- as a sum
pub counts_by : (f : Frame) (p : ℕ → ℕ → Bool) (m u : Memory) → IsMemory m → Adds f p m u → CountsOne f p m u
counts_by f p m u cells adds k lt = adds k lt ∙ go (p (counted_at f k) (kind_at f k))
  where
    go : (v : Bool) → (if v then (counter_number f m k + 1) % 2 ^ 64 else counter_number f m k) ≡ (counter_number f m k + (if v then 1 else 0)) % 2 ^ 64
    go true = refl
    go false = let low = eight_low m cells (counter_place f k) in omega (arith, low)

-- ---- ranges

-- a range within another
within_more : (lo len from room a : ℕ) → from ≤ lo → lo + len ≤ from + room → within lo len a ≡ true → within from room a ≡ true
within_more lo len from room a low high h =
    let p = and_parts (nat_le lo a) (nat_lt a (lo + len)) h in
    and_from _ _ (le-leb from a (omega (arith, leb-true lo a p.0, low))) (lt-ltb a (from + room) (omega (arith, ltb-true a (lo + len) p.1, high)))

-- an address outside a range
within_never : (lo len a : ℕ) → (a < lo) ⊎ (lo + len ≤ a) → within lo len a ≡ false
within_never lo len a (inl h) = and_left _ _ (lt-leb lo a h)
within_never lo len a (inr h) = and_right (nat_le lo a) (nat_lt a (lo + len)) (le-ltb a (lo + len) h)

-- ---- what a counter comes to

-- after so many quiet steps a state behind the counter, alike, in which one is added where p holds
pub record IsTold (x : List ℕ) (f : Frame) (o t : State) (p : ℕ → ℕ → Bool) (behind : ℕ) : Type 0 where
  pub steps : ℕ
  pub few : steps ≤ counter_most
  pub told : State
  pub passes : Passes (ShowsSame (is_added f) o) steps t told
  pub way : AllKeep (counting_area f) t.memory steps t told
  pub keeps : Keeps (counting_area f) t.memory told.memory
  pub adds : Adds f p t.memory told.memory
  pub alike : Alike x f o told
  pub cells : IsMemory told.memory
  pub place : told.eip ≡ behind

module _ (b x : List ℕ) (f : Frame) (rel : IsOutput b x f) where
  -- ---- where counters are

  rules : IsRuled f
  rules = ruled x f rel.framed

  pub place_is : (k : ℕ) → counter_place f k ≡ f.private + 64 + 8 * k
  place_is k = omega (arith, rules.first)

  pub private_end : f.private + format.private_len f.counters ≤ 0xB0000000
  private_end = omega (arith, rules.fits, rel.low)

  -- a counter's bytes may be written, and pieces leave them
  pub counter_byte : (k j : ℕ) → k < f.counters → j < 8 → is_private f (counter_place f k + j) ≡ true
  counter_byte k j lt l =
      and_from _ _ (le-leb f.private (counter_place f k + j) (omega (arith, place_is k)))
      (lt-ltb (counter_place f k + j) (f.private + format.private_len f.counters) (omega (arith, place_is k, lt, l)))

  counter_kept : (k j : ℕ) → within f.private private_len (counter_place f k + j) ≡ false
  counter_kept k j = within_never f.private private_len (counter_place f k + j) (inr (omega (arith, place_is k)))

  pub at_byte : (k j : ℕ) → k < f.counters → j < 8 → address_after (counter_place f k) j ≡ counter_place f k + j
  at_byte k j lt l = omega (arith, place_is k, lt, l, private_end)

  -- so a piece leaves each counter's number
  pub same_numbers : (t u : Memory) → Keeps (area_of f) t u → Adds f none_of t u
  same_numbers t u keeps k lt =
      ap number (bytes_same t u 8 (counter_place f k) (omega (arith, place_is k, lt, private_end)) (λ j l.
      let at = at_byte k j lt l in
      subst (λ a. u a ≡ t a) (sym at) (keeps.kept (counter_place f k + j) (rel.scratch (counter_place f k + j) (counter_byte k j lt l)).0 (counter_kept k j))))

  -- ---- the counter

  module _ (o t : State) (sound : IsSound b o) (alike : Alike x f o t) (cells : IsMemory t.memory) (here : ℕ) (place : t.eip ≡ here) (kind at : ℕ) where
    -- an address that has none
    untold : kind_of f kind at ≡ None → IsTold x f o t (one_of kind at) (here + 0)
    untold none = record {
      steps = 0;
      few = omega arith;
      told = t;
      passes = passes_none _ t;
      way = passes_none _ t;
      keeps = keeps_same (counting_area f) t.memory;
      adds = λ k lt. ap (λ (v : Bool). if v then (counter_number f t.memory k + 1) % 2 ^ 64 else counter_number f t.memory k) (sym (not_that kind at (pair_at f k) (no_counter f kind at k none lt)));
      alike = alike;
      cells = cells;
      place = place ∙ (let same : here ≡ here + 0 = omega arith in same);
    }

    module _ (p : ℕ) (is : IsCounter f kind at p) (ascends : AscendPairs (counted f)) (stand : StandAt x f here (counter f.private p)) where
      there : HasArea (counting_area f) t.memory
      there = counting_there b x f rel o t alike

      now : ℕ
      now = number (bytes_at t.memory p 8)

      p_is : p ≡ f.private + 64 + 8 * is.number
      p_is = is.place ∙ place_is is.number

      -- what the counter writes is private
      scratch_within : (a : ℕ) → is_private f a ≡ false → is_scratch f.private p a ≡ false
      scratch_within a e = ⊎_elim (λ h. absurd (both_ways (is_private f a) e (inside h))) (λ h. h) (cases_Bool (is_scratch f.private p a))
        where
          inside : is_scratch f.private p a ≡ true → is_private f a ≡ true
          inside h = ⊎_elim (within_more f.private 4 f.private (format.private_len f.counters) a (omega arith) (omega arith))
              (within_more p 8 f.private (format.private_len f.counters) a (omega (arith, p_is)) (omega (arith, p_is, is.below)))
              (or_cases (within f.private 4 a) (within p 8 a) h)

      counter_some : 0 < length (counter f.private p)
      counter_some = omega (arith, counter_length f.private p)

      is_counting : IsCounting f.private p here now t
      unfolding now
      is_counting = record {
        core = subst IsCore (sym alike.beside.core) sound.bounds.core;
        top = rest_top (counting_area f) o t there alike.beside sound.bounds.memory;
        place = place;
        code = (stands_in b x f rel o t here (counter f.private p) alike stand counter_some).stands;
        private = record { writable = λ k l. there.writable (f.private + k) (there.private k (omega (arith, l))); low = omega (arith, private_end) };
        room = record {
          writable = λ k l. there.writable (p + k) (subst (λ q. is_private f (q + k) ≡ true) (sym is.place) (counter_byte is.number k is.below l));
          low = omega (arith, p_is, is.below, private_end);
        };
        apart = inl (omega (arith, p_is));
        code_apart = λ i l. scratch_within (here + i) (stand.public i l);
        number = eight_are t.memory cells p;
        fits = eight_low t.memory cells p;
      }

      run : Counts f.private p here now t
      run = counts f.private p here now t is_counting

      kept : KeepsRest (is_private f) t run.last
      kept = record {
        descs = run.keeps.descs;
        calls = run.keeps.calls;
        answers = run.keeps.answers;
        memory = keeps_wider (is_scratch f.private p) (is_private f) t.memory run.last.memory scratch_within run.keeps.memory;
      }

      -- the counter itself
      own_more : counter_number f run.last.memory is.number ≡ (counter_number f t.memory is.number + 1) % 2 ^ 64
      unfolding now
      own_more =
          let low : (now + 1) % 2 ^ 64 < 2 ^ 64 = omega arith in
          ap (λ q. number (bytes_at run.last.memory q 8)) (sym is.place)
          ∙ (ap number run.number ∙ (spell_back ((now + 1) % 2 ^ 64) low
          ∙ ap (λ q. (number (bytes_at t.memory q 8) + 1) % 2 ^ 64) is.place))

      -- any other
      other_same : (k : ℕ) → k < f.counters → (k ≡ is.number → ⊥) → counter_number f run.last.memory k ≡ counter_number f t.memory k
      other_same k lt differs =
          ap number (keeps_bytes (is_scratch f.private p) t.memory run.last.memory run.keeps.memory 8 (counter_place f k) (omega (arith, place_is k, lt, private_end))
          (λ j l. subst (λ a. is_scratch f.private p a ≡ false) (sym (at_byte k j lt l)) (beyond j l)))
        where
          side : (j : ℕ) → j < 8 → (counter_place f k + j < p) ⊎ (p + 8 ≤ counter_place f k + j)
          side j l = elim (cases_lt k is.number) [
            | inl h ↦ inl (omega (arith, place_is k, p_is, h, l))
            | inr h ↦ inr (let more : is.number < k = omega (arith, h, differs) in omega (arith, place_is k, p_is, more))
          ]

          beyond : (j : ℕ) → j < 8 → is_scratch f.private p (counter_place f k + j) ≡ false
          beyond j l =
              ap (λ (v : Bool). v || within p 8 (counter_place f k + j)) (within_never f.private 4 (counter_place f k + j) (inr (omega (arith, place_is k))))
              ∙ within_never p 8 (counter_place f k + j) (side j l)

      adds_one : Adds f (one_of kind at) t.memory run.last.memory
      adds_one k lt = go (one_of kind at (counted_at f k) (kind_at f k)) refl
        where
          go : (v : Bool) → one_of kind at (counted_at f k) (kind_at f k) ≡ v → counter_number f run.last.memory k ≡ (if one_of kind at (counted_at f k) (kind_at f k) then (counter_number f t.memory k + 1) % 2 ^ 64 else counter_number f t.memory k)
          go true e =
              let that = that_by kind at (pair_at f k) e in
              let same : is.number ≡ k = apart f ascends is.number k is.below lt (is.is.0 ∙ sym that.0) (is.is.1 ∙ sym that.1) in
              subst (λ k. counter_number f run.last.memory k ≡ (counter_number f t.memory k + 1) % 2 ^ 64) same own_more
              ∙ ap (λ (v : Bool). if v then (counter_number f t.memory k + 1) % 2 ^ 64 else counter_number f t.memory k) (sym e)
          go false e =
              let other : IsThat kind at (pair_at f k) → ⊥ = λ that. both_ways (one_of kind at (counted_at f k) (kind_at f k)) e (is_that kind at (pair_at f k) that) in
              other_same k lt (λ same. other (subst (λ n. IsThat kind at (pair_at f n)) (sym same) is.is))
              ∙ ap (λ (v : Bool). if v then (counter_number f t.memory k + 1) % 2 ^ 64 else counter_number f t.memory k) (sym e)

      few : counting_steps now ≤ counter_most
      few = either ((now + 1) % 2 ^ 32 == 0)
        where
          either : (v : Bool) → (if v then 9 else 7) ≤ 9
          either true = omega arith
          either false = omega arith

      -- the output's state keeps the bounds of states
      bounds : IsState t
      bounds = record {
        core = subst IsCore (sym alike.beside.core) sound.bounds.core;
        descs = subst (AllByRecursion (λ d. d.1 < 2 ^ 32)) (sym alike.beside.descs) sound.bounds.descs;
        place = let low = (stands_in b x f rel o t here (counter f.private p) alike stand counter_some).stands.low in omega (arith, low, place);
        memory = cells;
        answers = subst (AllByRecursion IsAnswer) (sym alike.beside.answers) sound.bounds.answers;
      }

      -- behind it the states are alike
      beside_after : StatesBeside (is_added f) o run.last
      beside_after = record {
        core = run.core ∙ alike.beside.core;
        descs = kept.descs ∙ alike.beside.descs;
        calls = kept.calls ∙ alike.beside.calls;
        answers = kept.answers ∙ alike.beside.answers;
        memory = cells_beside (counting_area f) t.memory there o.memory run.last.memory alike.beside.memory kept.memory;
      }

      counted_told : IsTold x f o t (one_of kind at) (here + length (counter f.private p))
      counted_told =
          let keeps = cells_keep (counting_area f) t.memory there run.last.memory kept.memory in
          record {
            steps = counting_steps now;
            few = few;
            told = run.last;
            passes = passes_weaker (KeepsRest (is_scratch f.private p) t) (ShowsSame (is_added f) o)
                (λ v k. rest_shows (counting_area f) o t there alike.beside v (record { descs = k.descs; calls = k.calls; answers = k.answers; memory = keeps_wider (is_scratch f.private p) (is_private f) t.memory v.memory scratch_within k.memory }))
                (counting_steps now) t run.last run.passes;
            way = passes_weaker (KeepsRest (is_scratch f.private p) t) (λ v. Keeps (counting_area f) t.memory v.memory)
                (λ v k. cells_keep (counting_area f) t.memory there v.memory (keeps_wider (is_scratch f.private p) (is_private f) t.memory v.memory scratch_within k.memory))
                (counting_steps now) t run.last run.passes;
            keeps = keeps;
            adds = adds_one;
            alike = alike_beyond x f o o t run.last alike beside_after keeps;
            cells = (run_fits (counting_steps now) t run.last bounds (passes_arrives (KeepsRest (is_scratch f.private p) t) (counting_steps now) t run.last run.passes)).memory;
            place = run.place;
          }

    -- whether there is one or not
    pub told_by : (c : Option ℕ) → kind_of f kind at ≡ c → AscendPairs (counted f) → StandAt x f here (counter_code (anchors_of f) c) → IsTold x f o t (one_of kind at) (here + length (counter_code (anchors_of f) c))
    told_by None e ascends stand = untold e
    told_by (Some p) e ascends stand = counted_told p (is_counter f kind at p e) ascends stand
