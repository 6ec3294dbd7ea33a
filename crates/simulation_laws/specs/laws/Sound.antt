-- What holds between the input's state and the output's along both runs, and what keeps it.
use Rattle.std.proofs.Common.{◌≡◌, ℕ, ◌+◌, ◌%◌, ◌^◌, ◌<◌, Bool, true, false, if◌then◌else◌, List, length, Some, nat_le, nat_lt, sym, ap, ◌∙◌, ⊎_elim, pred, arith}
use mathlib.Core.Path.{fun_ext}
use Rattle.std.proofs.lemmas.Bool.{both_ways, cases_Bool, and_parts, and_from, le-leb, lt-ltb, ltb-true}
use Rattle.mv_base.specs.Memory.{Memory, exec_byte, exec_byte_of, within}
use Rattle.x86_insn.specs.State.{State}
use Rattle.x86_insn.specs.Run.{state_after}
use Rattle.step_laws.specs.Beside.{StatesBeside}
use Rattle.step_laws.specs.Meeting.{private_len, HasArea, StandsIn, Keeps, AtPiece}
use Rattle.step_laws.specs.laws.Putting.{marks_writable}
use Rattle.step_laws.specs.laws.Cells.{exec_cell_byte}
use Rattle.step_laws.specs.laws.Coding.{same_then, fixed_same}
use Rattle.step_laws.specs.laws.Lasting.{run_fits, run_leaves}
use Rattle.elf32_read.specs.Load.{load}
use Rattle.elf32_write.specs.Frame.{Frame, frame_map, is_added, is_private, counted_at, kind_at}
use Rattle.simulation_laws.specs.Code.{code_in}
use Rattle.simulation_laws.specs.Relocated.{StandAt, IsOutput}
use Rattle.simulation_laws.specs.Simulation.{Agree}
use Rattle.simulation_laws.specs.Stepping.{area_of, counting_area, IsSound, Alike, CountsOne, counter_number}

-- each counter has its address's and kind's number, modulo 2^64
abbrev pub HasCounts : Frame → Memory → (ℕ → ℕ → ℕ) → Type 0
HasCounts f m c = (k : ℕ) → k < f.counters → counter_number f m k ≡ c (counted_at f k) (kind_at f k) % 2 ^ 64

-- so each has what comes of one more at some of them
pub counts_on : (f : Frame) (more : ℕ → ℕ → Bool) (m u : Memory) (c : ℕ → ℕ → ℕ) → HasCounts f m c → CountsOne f more m u → (k : ℕ) → k < f.counters → counter_number f u k ≡ (c (counted_at f k) (kind_at f k) + (if more (counted_at f k) (kind_at f k) then 1 else 0)) % 2 ^ 64
counts_on f more m u c has one k lt =
    let d = if more (counted_at f k) (kind_at f k) then 1 else 0 in
    one k lt ∙ (ap (λ (n : ℕ). (n + d) % 2 ^ 64) (has k lt) ∙ sum (c (counted_at f k) (kind_at f k)) d)
  where
    sum : (n d : ℕ) → (n % 2 ^ 64 + d) % 2 ^ 64 ≡ (n + d) % 2 ^ 64
    sum n d = omega arith

pub alike_of : (b x : List ℕ) (f : Frame) (o t : State) (c : ℕ → ℕ → ℕ) → Agree b x f o t c → Alike x f o t
alike_of b x f o t c a = record {
  beside = record { core = a.core; descs = a.descs; calls = a.calls; answers = a.answers; memory = record { outside = a.outside; free = a.free } };
  idle = a.idle;
  block = a.block;
  kept = a.kept;
}

-- so states at places that belong together agree, where the counters have these numbers
pub agree_of : (b x : List ℕ) (f : Frame) (o t : State) (c : ℕ → ℕ → ℕ) → IsSound b o → Alike x f o t → t.eip ≡ frame_map f o.eip → HasCounts f t.memory c → Agree b x f o t c
agree_of b x f o t c own s place counts = record {
  core = s.beside.core;
  descs = s.beside.descs;
  calls = s.beside.calls;
  answers = s.beside.answers;
  place = place;
  outside = s.beside.memory.outside;
  idle = s.idle;
  free = s.beside.memory.free;
  code = own.code;
  block = s.block;
  kept = s.kept;
  counts = counts;
}

-- the input's code is what its state has to execute
pub code_same : (b : List ℕ) (o : State) → IsSound b o → exec_byte o.memory ≡ code_in b
code_same b o own = fun_ext (λ a. sym (exec_cell_byte (o.memory a)) ∙ ap exec_byte_of (own.code a) ∙ exec_cell_byte (load b a))

-- a piece's bytes are private
pub scratch_private : (f : Frame) (a : ℕ) → within f.private private_len a ≡ true → is_private f a ≡ true
scratch_private f a h =
    let p = and_parts (nat_le f.private a) (nat_lt a (f.private + private_len)) h in
    and_from _ _ p.0 (lt-ltb _ _ (omega (arith, ltb-true a (f.private + private_len) p.1)))

pub public_fixed : (f : Frame) (a : ℕ) → is_private f a ≡ false → within f.private private_len a ≡ false
public_fixed f a h = ⊎_elim (λ e. absurd (both_ways (is_private f a) h (scratch_private f a e))) (λ e. e) (cases_Bool (within f.private private_len a))

-- what a piece leaves of the output's memory, one with its counter leaves too
pub keeps_more : (f : Frame) (t u : Memory) → Keeps (area_of f) t u → Keeps (counting_area f) t u
keeps_more f t u k = record { idle = k.idle; marks = k.marks; kept = λ a i j. k.kept a i (public_fixed f a j) }

-- and that keeps likeness
pub alike_beyond : (x : List ℕ) (f : Frame) (o o' t u : State) → Alike x f o t → StatesBeside (is_added f) o' u → Keeps (counting_area f) t.memory u.memory → Alike x f o' u
alike_beyond x f o o' t u s w k = record {
  beside = w;
  idle = λ a i. k.idle a i (s.idle a i);
  block = λ a i. k.marks a i ∙ s.block a i;
  kept = λ a i j. k.kept a i j ∙ s.kept a i j;
}

pub alike_after : (x : List ℕ) (f : Frame) (o o' t u : State) → Alike x f o t → StatesBeside (is_added f) o' u → Keeps (area_of f) t.memory u.memory → Alike x f o' u
alike_after x f o o' t u s w k = alike_beyond x f o o' t u s w (keeps_more f t.memory u.memory k)

module _ (b x : List ℕ) (f : Frame) (rel : IsOutput b x f) where
  pub added_low : (a : ℕ) → is_added f a ≡ true → a < 2 ^ 32
  added_low a h = let p = and_parts (nat_le f.added.lo a) (nat_lt a (f.added.lo + f.added.len)) h in omega (arith, ltb-true a (f.added.lo + f.added.len) p.1, rel.low)

  -- the bounds of the input's first state, and its code, stay
  pub sound_after : (n : ℕ) (s o : State) → IsSound b s → state_after n s ≡ Some o → IsSound b o
  sound_after n s o own e = record {
    bounds = run_fits n s o own.bounds e;
    code = same_then (load b) s.memory o.memory own.code (run_leaves n s o own.bounds (fixed_same (load b) s.memory own.code rel.unwritable) e);
  }

  -- the 64 private bytes
  private_at : (k : ℕ) → k < private_len → within f.private private_len (f.private + k) ≡ true
  private_at k h = and_from _ _ (le-leb f.private (f.private + k) (omega arith)) (lt-ltb (f.private + k) (f.private + private_len) (omega (arith, h)))

  pub area_there : (o t : State) → Alike x f o t → HasArea (area_of f) t.memory
  area_there o t s = record {
    low = added_low;
    fits = let last = added_low (f.private + 63) (rel.scratch (f.private + 63) (scratch_private f _ (private_at 63 (omega arith)))).0 in omega (arith, last);
    private = private_at;
    added = λ a e. (rel.scratch a (scratch_private f a e)).0;
    writable = λ a e. let p = rel.scratch a (scratch_private f a e) in marks_writable (t.memory a) (load x a) (s.block a p.0) ∙ p.1;
  }

  -- and the counters
  pub counting_there : (o t : State) → Alike x f o t → HasArea (counting_area f) t.memory
  counting_there o t s = record {
    low = added_low;
    fits = (area_there o t s).fits;
    private = λ k h. scratch_private f (f.private + k) (private_at k h);
    added = λ a e. (rel.scratch a e).0;
    writable = λ a e. let p = rel.scratch a e in marks_writable (t.memory a) (load x a) (s.block a p.0) ∙ p.1;
  }

  pub stands_in : (o t : State) (at : ℕ) (bytes : List ℕ) → Alike x f o t → StandAt x f at bytes → 0 < length bytes → StandsIn (area_of f) t.memory at bytes
  stands_in o t at bytes s stand some = record {
    stands = record {
      byte = λ k h. ap exec_byte_of (s.kept (at + k) (stand.added k h) (stand.public k h)) ∙ stand.byte k h;
      low = let last = stand.added (pred (length bytes)) (omega (arith, some)) in omega (arith, below (at + pred (length bytes)) last, some);
    };
    added = stand.added;
    fixed = λ k h. public_fixed f (at + k) (stand.public k h);
  }
    where
      below : (a : ℕ) → is_added f a ≡ true → a < 0xB0000000
      below a h = let p = and_parts (nat_le f.added.lo a) (nat_lt a (f.added.lo + f.added.len)) h in omega (arith, ltb-true a (f.added.lo + f.added.len) p.1, rel.low)

  -- bytes that stand in the block are a piece
  pub at_piece : (o t : State) (here : ℕ) (bytes : List ℕ) → IsSound b o → Alike x f o t → t.eip ≡ here → StandAt x f here bytes → 0 < length bytes → AtPiece (area_of f) here bytes o t
  at_piece o t here bytes own s place stand some = record {
    area_there = area_there o t s;
    bounds = own.bounds;
    beside = s.beside;
    place = place;
    stands = stands_in o t here bytes s stand some;
  }
