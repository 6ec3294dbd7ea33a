-- The stub's law says something: a memory and a state that meet its premises. The stub stands at 0x00100000, a table of
-- form 2 of three words at 0x00101000, the private area at 0x00102000; one run of two addresses, of which the first goes
-- to 0x0010005B.
use Rattle.std.proofs.Common.{◌≡◌, ℕ, zero, suc, ◌+◌, ◌-◌, ◌^◌, ◌<◌, ◌≤◌, Bool, true, false, List, [], ◌∷◌, length, replicate, Option, Some, None, if◌then◌else◌, nat_le, nat_lt, slice_index, refl, ap, ◌∙◌, arith}
use Rattle.std.specs.Option.{option_map}
use Rattle.std.proofs.lemmas.Bool.{and_from, and_left, and_right, and_parts, le-leb, lt-leb, lt-ltb, le-ltb, ltb-true}
use Rattle.std.proofs.lemmas.Option.{none-some, same_Some}
use Rattle.mv_base.specs.Bytes.{AreBytes, word, words, word_at}
use Rattle.mv_base.specs.Memory.{Cell, Memory, cell_is, byte_of, within, exec_byte_of, bytes_at, first_of}
use Rattle.x86_insn.specs.Spelling.{are_bytes}
use Rattle.step_laws.specs.laws.Putting.{bytes_are}
use Rattle.mv_base.specs.declared.range.RunPlace.{RunPlace}
use Rattle.x86_insn.specs.State.{State}
use Rattle.lookup_stub.specs.Stub.{stub}
use Rattle.lookup_stub.specs.Finding.{AreIn, IsLookup, Finds}
use Rattle.lookup_stub.specs.laws.StubBytes.{stub_length}
use Rattle.lookup_stub.specs.laws.Found.{finds}

runs : List RunPlace
runs = record { lo = 0x08048054; len = 2; dir = 0x00101000 } ∷ []

-- the directory's page, and its two words
table : List ℕ
table = words (0x00101004 ∷ 0x0010005B ∷ 0 ∷ [])

-- the address to look up is in the second word
private : List ℕ
private = 0 ∷ 0 ∷ 0 ∷ 0 ∷ 0x54 ∷ 0x80 ∷ 0x04 ∷ 0x08 ∷ replicate 56 0

code : List ℕ
code = stub 2 runs 0x00102000

-- ---- memory

abbrev cell : Bool → Bool → ℕ → Cell
cell write exec b = record { byte = b; write = write; exec = exec }

abbrev region : ℕ → List ℕ → Bool → Bool → Memory
region lo bytes write exec a = if within lo (length bytes) a then Some (cell write exec (slice_index bytes (a - lo))) else None

memory : Memory
memory a = first_of (region 0x00100000 code false true a) (first_of (region 0x00101000 table false false a) (region 0x00102000 private true false a))

region_at : (lo : ℕ) (bytes : List ℕ) (write exec : Bool) (k : ℕ) → k < length bytes → region lo bytes write exec (lo + k) ≡ Some (cell write exec (slice_index bytes k))
region_at lo bytes write exec k l =
    let place : lo + k - lo ≡ k = omega arith in
    ap (λ (b : Bool). if b then Some (cell write exec (slice_index bytes (lo + k - lo))) else None) (and_from (nat_le lo (lo + k)) (nat_lt (lo + k) (lo + length bytes)) (le-leb lo (lo + k) (omega arith)) (lt-ltb (lo + k) (lo + length bytes) (omega arith)))
    ∙ ap (λ (i : ℕ). Some (cell write exec (slice_index bytes i))) place

region_past : (lo : ℕ) (bytes : List ℕ) (write exec : Bool) (a : ℕ) → lo + length bytes ≤ a → region lo bytes write exec a ≡ None
region_past lo bytes write exec a h =
    ap (λ (b : Bool). if b then Some (cell write exec (slice_index bytes (a - lo))) else None) (and_right (nat_le lo a) (nat_lt a (lo + length bytes)) (le-ltb a (lo + length bytes) h))

record IsByteIn (lo : ℕ) (bytes : List ℕ) (a : ℕ) (c : Cell) : Type 0 where
  below : a < lo + length bytes
  is : slice_index bytes (a - lo) ≡ c.byte

region_has : (lo : ℕ) (bytes : List ℕ) (write exec : Bool) (a : ℕ) (c : Cell) → region lo bytes write exec a ≡ Some c → IsByteIn lo bytes a c
region_has lo bytes write exec a c e = go (within lo (length bytes) a) refl e
  where
    go : (b : Bool) → within lo (length bytes) a ≡ b → (if b then Some (cell write exec (slice_index bytes (a - lo))) else None) ≡ Some c → IsByteIn lo bytes a c
    go true h e = record { below = ltb-true a (lo + length bytes) (and_parts (nat_le lo a) (nat_lt a (lo + length bytes)) h).1; is = ap (λ (d : Cell). d.byte) (same_Some (cell write exec (slice_index bytes (a - lo))) c e) }
    go false h e = absurd (none-some c e)

code_len : length code ≡ 91
unfolding code runs
code_len = stub_length 2 runs 0x00102000

table_len : length table ≡ 12
unfolding table words
table_len = refl

private_len : length private ≡ 64
unfolding private
private_len = refl

-- ---- what stands there

code_at : (k : ℕ) → k < length code → memory (0x00100000 + k) ≡ Some (cell false true (slice_index code k))
unfolding memory
code_at k l = ap (λ (c : Option Cell). first_of c (first_of (region 0x00101000 table false false (0x00100000 + k)) (region 0x00102000 private true false (0x00100000 + k)))) (region_at 0x00100000 code false true k l)

table_at : (k : ℕ) → k < length table → memory (0x00101000 + k) ≡ Some (cell false false (slice_index table k))
unfolding memory
table_at k l =
    ap (λ (c : Option Cell). first_of c (first_of (region 0x00101000 table false false (0x00101000 + k)) (region 0x00102000 private true false (0x00101000 + k)))) (region_past 0x00100000 code false true (0x00101000 + k) (omega (arith, code_len)))
    ∙ ap (λ (c : Option Cell). first_of c (region 0x00102000 private true false (0x00101000 + k))) (region_at 0x00101000 table false false k l)

private_at : (k : ℕ) → k < length private → memory (0x00102000 + k) ≡ Some (cell true false (slice_index private k))
unfolding memory
private_at k l =
    ap (λ (c : Option Cell). first_of c (first_of (region 0x00101000 table false false (0x00102000 + k)) (region 0x00102000 private true false (0x00102000 + k)))) (region_past 0x00100000 code false true (0x00102000 + k) (omega (arith, code_len)))
    ∙ ap (λ (c : Option Cell). first_of c (region 0x00102000 private true false (0x00102000 + k))) (region_past 0x00101000 table false false (0x00102000 + k) (omega (arith, table_len)))
    ∙ region_at 0x00102000 private true false k l

listed : (s : List ℕ) → are_bytes s ≡ true → AreBytes s
listed [] h k = omega arith
listed (b ∷ s) h zero = ltb-true b 256 (and_parts (nat_lt b 256) (are_bytes s) h).0
listed (b ∷ s) h (suc k) = listed s (and_parts (nat_lt b 256) (are_bytes s) h).1 k

code_bytes : AreBytes code
unfolding code runs stub word
code_bytes = listed code refl

table_bytes : AreBytes table
unfolding table words
table_bytes = listed table refl

private_bytes : AreBytes private
unfolding private
private_bytes = listed private refl

record IsFine (a : ℕ) (c : Cell) : Type 0 where
  low : a < 0xFFFFF000
  byte : c.byte < 256

fine_in : (lo : ℕ) (bytes : List ℕ) (write exec : Bool) (a : ℕ) (c : Cell) → AreBytes bytes → lo + length bytes < 0xFFFFF000 → region lo bytes write exec a ≡ Some c → IsFine a c
fine_in lo bytes write exec a c h end e =
    let w = region_has lo bytes write exec a c e in
    let byte = h (a - lo) in
    record { low = omega (arith, w.below); byte = omega (arith, w.is) }

fine : (a : ℕ) (c : Cell) → memory a ≡ Some c → IsFine a c
unfolding memory
fine a c e = go (region 0x00100000 code false true a) (region 0x00101000 table false false a) refl refl e
  where
    go : (x y : Option Cell) → region 0x00100000 code false true a ≡ x → region 0x00101000 table false false a ≡ y → first_of x (first_of y (region 0x00102000 private true false a)) ≡ Some c → IsFine a c
    go (Some d) y p q e = fine_in 0x00100000 code false true a c code_bytes (omega (arith, code_len)) (p ∙ e)
    go None (Some d) p q e = fine_in 0x00101000 table false false a c table_bytes (omega (arith, table_len)) (q ∙ e)
    go None None p q e = fine_in 0x00102000 private true false a c private_bytes (omega (arith, private_len)) e

-- ---- the state

state : State
state = record {
  core = record { regs = 0 ∷ 0 ∷ 0 ∷ 0 ∷ 0 ∷ 0 ∷ 0 ∷ 0 ∷ []; flags = record { cf = false; pf = false; af = false; zf = false; sf = false; df = true; of = true; id = false }; gs = 0x33; gs_base = Some 0x08048040 };
  descs = (6, 0x08048040) ∷ [];
  eip = 0x00100000;
  memory = memory;
  answers = [];
  calls = [];
}

small : (k : ℕ) → slice_index (replicate 8 0) k < 2 ^ 32
small zero = omega arith
small (suc zero) = omega arith
small (suc (suc zero)) = omega arith
small (suc (suc (suc zero))) = omega arith
small (suc (suc (suc (suc zero)))) = omega arith
small (suc (suc (suc (suc (suc zero))))) = omega arith
small (suc (suc (suc (suc (suc (suc zero)))))) = omega arith
small (suc (suc (suc (suc (suc (suc (suc zero))))))) = omega arith
small (suc (suc (suc (suc (suc (suc (suc (suc k)))))))) = omega arith

two : (k : ℕ) → k < 2 → AreIn false table 0x00101000 (record { lo = 0x08048054; len = 2; dir = 0x00101000 }) k
unfolding table words word_at
two zero l = (record { low = omega arith; high = omega arith }, record { low = omega arith; high = omega arith })
two (suc zero) l = (record { low = omega arith; high = omega arith }, record { low = omega arith; high = omega arith })
two (suc (suc k)) l = absurd (omega arith)

-- the word of the private area
there : (k : ℕ) → k < 4 → byte_of (memory (0x00102004 + k)) ≡ slice_index private (4 + k)
there k l =
    let place : 0x00102004 + k ≡ 0x00102000 + (4 + k) = omega arith in
    ap (λ (a : ℕ). byte_of (memory a)) place ∙ ap byte_of (private_at (4 + k) (omega (arith, private_len)))

target : bytes_at memory 0x00102004 4 ≡ word 0x08048054
unfolding word private
target = bytes_are memory (0x54 ∷ 0x80 ∷ 0x04 ∷ 0x08 ∷ []) 0x00102004 (omega arith) each
  where
    each : (k : ℕ) → k < 4 → byte_of (memory (0x00102004 + k)) ≡ slice_index (0x54 ∷ 0x80 ∷ 0x04 ∷ 0x08 ∷ []) k
    each zero l = there 0 l
    each (suc zero) l = there 1 l
    each (suc (suc zero)) l = there 2 l
    each (suc (suc (suc zero))) l = there 3 l
    each (suc (suc (suc (suc k)))) l = absurd (omega arith)

top : (a : ℕ) → 2 ^ 32 ≤ a → memory a ≡ None
top a high = go (memory a) refl
  where
    go : (c : Option Cell) → memory a ≡ c → c ≡ None
    go None e = refl
    go (Some c) e = let low = (fine a c e).low in absurd (omega arith)

is_lookup : IsLookup 2 runs 0x00102000 table 0x00101000 0x00100000 0x08048054 state
unfolding state runs code
is_lookup = record {
  core = record { eight = refl; fits = small; selector = omega arith; base = omega arith };
  top = top;
  place = refl;
  code = record { byte = λ k l. ap exec_byte_of (code_at k l); low = omega (arith, code_len) };
  words = record { byte = λ k l. ap (option_map (λ c. c.byte)) (table_at k l); low = omega (arith, table_len) };
  bytes = table_bytes;
  room = record { writable = λ k l. ap (cell_is (λ c. c.write)) (private_at k (omega (arith, private_len))); low = omega arith };
  code_apart = λ k l. and_left _ _ (lt-leb 0x00102000 (0x00100000 + k) (omega (arith, code_len)));
  table_apart = λ k l. and_left _ _ (lt-leb 0x00102000 (0x00101000 + k) (omega (arith, table_len)));
  placed = (record { low = omega arith; dir = omega arith; words = two }, tt);
  target = target;
  fits = omega arith;
}

found : Finds 0x00102000 28 0x0010005B state
unfolding runs table words word_at
found = finds 2 runs 0x00102000 table 0x00101000 0x00100000 0x08048054 state is_lookup
