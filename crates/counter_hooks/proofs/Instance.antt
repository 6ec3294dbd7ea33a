-- The counter's law says something: memories and states that meet its premises. The code stands at 0x00100000, ECX is kept
-- at 0x00105000, and the counter lies at 0x00105040. From 5 it comes to 6 in 7 steps, and from 2^64 - 1 to 0 in 9.
use Rattle.std.proofs.Common.{◌≡◌, ℕ, zero, suc, inl, ◌+◌, ◌-◌, ◌^◌, ◌<◌, ◌≤◌, Bool, true, false, ◌||◌, List, [], ◌∷◌, length, Option, Some, None, if◌then◌else◌, nat_le, nat_lt, slice_index, refl, ap, ◌∙◌, arith}
use Rattle.std.proofs.lemmas.Bool.{and_from, and_left, and_right, le-leb, lt-leb, lt-ltb, le-ltb}
use Rattle.byteorder.specs.Endian.{little_bytes}
use Rattle.mv_base.specs.Memory.{Cell, Memory, cell_is, byte_of, within, exec_byte_of, bytes_at, first_of}
use Rattle.step_laws.specs.Passes.{Passes}
use Rattle.step_laws.specs.Keeping.{KeepsRest}
use Rattle.step_laws.specs.laws.Putting.{bytes_are}
use Rattle.x86_insn.specs.State.{State}
use Rattle.counter_hooks.specs.Counter.{counter}
use Rattle.counter_hooks.specs.Counting.{is_scratch, IsCounting, Counts}
use Rattle.counter_hooks.specs.laws.Counted.{counter_length, counts}

code : List ℕ
code = counter 0x00105000 0x00105040

kept : List ℕ
kept = 0 ∷ 0 ∷ 0 ∷ 0 ∷ []

code_len : length code ≡ 46
unfolding code
code_len = counter_length 0x00105000 0x00105040

-- ---- memory

abbrev cell : Bool → Bool → ℕ → Cell
cell write exec b = record { byte = b; write = write; exec = exec }

abbrev region : ℕ → List ℕ → Bool → Bool → Memory
region lo bytes write exec a = if within lo (length bytes) a then Some (cell write exec (slice_index bytes (a - lo))) else None

region_at : (lo : ℕ) (bytes : List ℕ) (write exec : Bool) (k : ℕ) → k < length bytes → region lo bytes write exec (lo + k) ≡ Some (cell write exec (slice_index bytes k))
region_at lo bytes write exec k l =
    let place : lo + k - lo ≡ k = omega arith in
    ap (λ (b : Bool). if b then Some (cell write exec (slice_index bytes (lo + k - lo))) else None) (and_from (nat_le lo (lo + k)) (nat_lt (lo + k) (lo + length bytes)) (le-leb lo (lo + k) (omega arith)) (lt-ltb (lo + k) (lo + length bytes) (omega arith)))
    ∙ ap (λ (i : ℕ). Some (cell write exec (slice_index bytes i))) place

region_past : (lo : ℕ) (bytes : List ℕ) (write exec : Bool) (a : ℕ) → lo + length bytes ≤ a → region lo bytes write exec a ≡ None
region_past lo bytes write exec a h =
    ap (λ (b : Bool). if b then Some (cell write exec (slice_index bytes (a - lo))) else None) (and_right (nat_le lo a) (nat_lt a (lo + length bytes)) (le-ltb a (lo + length bytes) h))

memory : List ℕ → Memory
memory held a = first_of (region 0x00100000 code false true a) (first_of (region 0x00105000 kept true false a) (region 0x00105040 held true false a))

module _ (held : List ℕ) (eight : length held ≡ 8) where
  code_at : (k : ℕ) → k < length code → memory held (0x00100000 + k) ≡ Some (cell false true (slice_index code k))
  unfolding memory
  code_at k l = ap (λ (c : Option Cell). first_of c (first_of (region 0x00105000 kept true false (0x00100000 + k)) (region 0x00105040 held true false (0x00100000 + k)))) (region_at 0x00100000 code false true k l)

  kept_at : (k : ℕ) → k < 4 → memory held (0x00105000 + k) ≡ Some (cell true false (slice_index kept k))
  unfolding memory kept
  kept_at k l =
      ap (λ (c : Option Cell). first_of c (first_of (region 0x00105000 kept true false (0x00105000 + k)) (region 0x00105040 held true false (0x00105000 + k)))) (region_past 0x00100000 code false true (0x00105000 + k) (omega (arith, code_len)))
      ∙ ap (λ (c : Option Cell). first_of c (region 0x00105040 held true false (0x00105000 + k))) (region_at 0x00105000 kept true false k l)

  held_at : (k : ℕ) → k < length held → memory held (0x00105040 + k) ≡ Some (cell true false (slice_index held k))
  unfolding memory kept
  held_at k l =
      ap (λ (c : Option Cell). first_of c (first_of (region 0x00105000 kept true false (0x00105040 + k)) (region 0x00105040 held true false (0x00105040 + k)))) (region_past 0x00100000 code false true (0x00105040 + k) (omega (arith, code_len)))
      ∙ ap (λ (c : Option Cell). first_of c (region 0x00105040 held true false (0x00105040 + k))) (region_past 0x00105000 kept true false (0x00105040 + k) (omega arith))
      ∙ region_at 0x00105040 held true false k l

  top : (a : ℕ) → 2 ^ 32 ≤ a → memory held a ≡ None
  unfolding memory kept
  top a high =
      ap (λ (c : Option Cell). first_of c (first_of (region 0x00105000 kept true false a) (region 0x00105040 held true false a))) (region_past 0x00100000 code false true a (omega (arith, code_len)))
      ∙ ap (λ (c : Option Cell). first_of c (region 0x00105040 held true false a)) (region_past 0x00105000 kept true false a (omega arith))
      ∙ region_past 0x00105040 held true false a (omega (arith, eight))

  there : bytes_at (memory held) 0x00105040 (length held) ≡ held
  there = bytes_are (memory held) held 0x00105040 (omega (arith, eight)) (λ k l. ap byte_of (held_at k l))

-- ---- the state

state : List ℕ → State
state held = record {
  core = record { regs = 0 ∷ 7 ∷ 0 ∷ 0 ∷ 0 ∷ 0 ∷ 0 ∷ 0 ∷ []; flags = record { cf = true; pf = false; af = false; zf = false; sf = false; df = true; of = true; id = false }; gs = 0x33; gs_base = Some 0x08048040 };
  descs = (6, 0x08048040) ∷ [];
  eip = 0x00100000;
  memory = memory held;
  answers = [];
  calls = [];
}

small : (k : ℕ) → slice_index (0 ∷ 7 ∷ 0 ∷ 0 ∷ 0 ∷ 0 ∷ 0 ∷ 0 ∷ []) k < 2 ^ 32
small zero = omega arith
small (suc zero) = omega arith
small (suc (suc zero)) = omega arith
small (suc (suc (suc zero))) = omega arith
small (suc (suc (suc (suc zero)))) = omega arith
small (suc (suc (suc (suc (suc zero))))) = omega arith
small (suc (suc (suc (suc (suc (suc zero)))))) = omega arith
small (suc (suc (suc (suc (suc (suc (suc zero))))))) = omega arith
small (suc (suc (suc (suc (suc (suc (suc (suc k)))))))) = omega arith

code_apart : (i : ℕ) → i < length code → is_scratch 0x00105000 0x00105040 (0x00100000 + i) ≡ false
code_apart i l =
    ap (λ (b : Bool). b || within 0x00105040 8 (0x00100000 + i)) (and_left _ _ (lt-leb 0x00105000 (0x00100000 + i) (omega (arith, code_len))))
    ∙ and_left _ _ (lt-leb 0x00105040 (0x00100000 + i) (omega (arith, code_len)))

is_counting : (n : ℕ) → n < 2 ^ 64 → IsCounting 0x00105000 0x00105040 0x00100000 n (state (little_bytes 8 n))
unfolding state code
is_counting n fits = record {
  core = record { eight = refl; fits = small; selector = omega arith; base = omega arith };
  top = top (little_bytes 8 n) refl;
  place = refl;
  code = record { byte = λ k l. ap exec_byte_of (code_at (little_bytes 8 n) refl k l); low = omega (arith, code_len) };
  private = record { writable = λ k l. ap (cell_is (λ c. c.write)) (kept_at (little_bytes 8 n) refl k l); low = omega arith };
  room = record { writable = λ k l. ap (cell_is (λ c. c.write)) (held_at (little_bytes 8 n) refl k l); low = omega arith };
  apart = inl (omega arith);
  code_apart = code_apart;
  number = there (little_bytes 8 n) refl;
  fits = fits;
}

counted : (n : ℕ) → n < 2 ^ 64 → Counts 0x00105000 0x00105040 0x00100000 n (state (little_bytes 8 n))
counted n fits = counts 0x00105000 0x00105040 0x00100000 n (state (little_bytes 8 n)) (is_counting n fits)

-- one more, in seven steps
after_five : let c = counted 5 (omega arith) in (bytes_at c.last.memory 0x00105040 8 ≡ 6 ∷ 0 ∷ 0 ∷ 0 ∷ 0 ∷ 0 ∷ 0 ∷ 0 ∷ []) × Passes (KeepsRest (is_scratch 0x00105000 0x00105040) (state (little_bytes 8 5))) 7 (state (little_bytes 8 5)) c.last
after_five = let c = counted 5 (omega arith) in (c.number, c.passes)

-- all bytes wrap, in nine
after_all : let c = counted 0xFFFFFFFFFFFFFFFF (omega arith) in (bytes_at c.last.memory 0x00105040 8 ≡ 0 ∷ 0 ∷ 0 ∷ 0 ∷ 0 ∷ 0 ∷ 0 ∷ 0 ∷ []) × Passes (KeepsRest (is_scratch 0x00105000 0x00105040) (state (little_bytes 8 0xFFFFFFFFFFFFFFFF))) 9 (state (little_bytes 8 0xFFFFFFFFFFFFFFFF)) c.last
after_all = let c = counted 0xFFFFFFFFFFFFFFFF (omega arith) in (c.number, c.passes)
