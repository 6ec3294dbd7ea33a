-- Laws of the spelling table: a byte list spells one instruction, no spelling is a proper front of another, and what
-- bytes decode to. They speak of no row but that of the near jump.
use Rattle.std.specs.Prelude.{◌≡◌, ℕ, zero, suc, ◌+◌, ◌*◌, ◌/◌, ◌%◌, ◌^◌, ◌<◌, ◌≤◌, Bool, true, false, ◌&&◌, List, [], ◌∷◌, ◌++◌, length, take, Contains, slice_index_or, Option, Some, None, refl, nat_le, nat_lt}
use Rattle.std.proofs.Common.{sym, ◌∙◌, ap, subst, inl, inr, arith, take-take, length-take-le, take_all, append_assoc, append-nil}
use Rattle.std.proofs.lemmas.List.{length-append, length-take, nil_from_length}
use Rattle.std.proofs.lemmas.Option.{same_Some, some_pair_parts}
use Rattle.std.proofs.lemmas.Bool.{leb-true, le-leb, eq-eqb, cases_lt}
use Rattle.mv_base.specs.Bytes.{AreBytes, word}
use Rattle.x86_insn.specs.declared.insn.Insn.{Insn}
use Rattle.x86_insn.specs.declared.insn.Insn.TheVariants.{Jump}
use Rattle.x86_insn.specs.declared.row.Row.{Row}
use Rattle.x86_insn.specs.declared.row.Marks.{Marks}
use Rattle.x86_insn.specs.Addressing.{dword_at}
use Rattle.x86_insn.specs.Prefixes.{may_stand_together, marks_of}
use Rattle.x86_insn.specs.Rows.{rows}
use Rattle.x86_insn.specs.Spelling.{lead_bytes, is_opcode, spelled_operands, spelled_opcode, behind_lead, spelled_row, spelled_rows, front, body, are_bytes, Spells, spelled, or_else, with_len, first_spelled, decoded}
use Rattle.x86_insn.specs.Scanning.{Scan, Found, More, Nothing, scan, Agree, IsScan}
use Rattle.x86_insn.specs.Agreeing.{chosen, both_true, and_true, or_cases, or_left, or_right, agree_self, take_agrees, append_agrees}
use Rattle.x86_insn.specs.OperandScan.{fits_of, spelled_of}
use Rattle.x86_insn.specs.RowScan.{are_apart, apart_from, is_sound, row_parts, exclude_rows, table_is_apart}
use Rattle.x86_insn.specs.PrefixScan.{unlimited, unlimited_parts, unlimited_of, split, front_are_prefixes, scan_right}

-- ---- bytes

pub bytes_listed : (s : List ℕ) → are_bytes s ≡ true → AreBytes s
bytes_listed [] h k = omega arith
bytes_listed (b ∷ s) h zero = leb-true (suc b) 256 (both_true (nat_lt b 256) (are_bytes s) h).0
bytes_listed (b ∷ s) h (suc k) = bytes_listed s (both_true (nat_lt b 256) (are_bytes s) h).1 k

pub bytes_tested : (s : List ℕ) → AreBytes s → are_bytes s ≡ true
bytes_tested [] h = refl
bytes_tested (b ∷ s) h = and_true _ _ (le-leb (suc b) 256 (h 0)) (bytes_tested s (λ k. h (suc k)))

-- ---- what is spelled

-- the parts of the function's test
pub record Limited (s : List ℕ) (i : Insn) : Type 0 where
  pub limit : length s ≤ 15
  pub bytes : are_bytes s ≡ true
  pub spells : unlimited s ≡ Some i

pub limited_of : (s : List ℕ) (i : Insn) → spelled s ≡ Some i → Limited s i
unfolding spelled
limited_of s i e =
    let c = chosen (nat_le (length s) 15 && are_bytes s && may_stand_together (front s)) (spelled_rows rows (marks_of (front s)) (body s)) i e in
    let w = both_true (nat_le (length s) 15 && are_bytes s) _ c.0 in
    let v = both_true (nat_le (length s) 15) _ w.0 in
    record {
      limit = leb-true _ _ v.0;
      bytes = v.1;
      spells = ap (λ (t : Bool). elim t as (λ _. Option Insn) [ true ↦ spelled_rows rows (marks_of (front s)) (body s) | false ↦ None ]) w.1 ∙ c.1;
    }

pub of_limited : (s : List ℕ) (i : Insn) → Limited s i → spelled s ≡ Some i
unfolding spelled
of_limited s i w =
    let v = unlimited_parts s i w.spells in
    let test : (nat_le (length s) 15 && are_bytes s && may_stand_together (front s)) ≡ true = and_true _ _ (and_true _ _ (le-leb _ _ w.limit) w.bytes) v.together in
    ap (λ (t : Bool). elim t as (λ _. Option Insn) [ true ↦ spelled_rows rows (marks_of (front s)) (body s) | false ↦ None ]) test ∙ v.spells

-- a listed row spells it
record ByRow (rs : List Row) (m : Marks) (s : List ℕ) (i : Insn) : Type 0 where
  row : Row
  listed : Contains rs row
  spells : spelled_row row m s ≡ Some i

by_row : (rs : List Row) (m : Marks) (s : List ℕ) (i : Insn) → spelled_rows rs m s ≡ Some i → ByRow rs m s i
by_row [] m s i e = absurd (cc e)
by_row (r ∷ rs) m s i e =
    elim (or_cases _ _ i e) [
      | inl p ↦ record { row = r; listed = (0, omega arith, refl); spells = p }
      | inr p ↦
          let w = by_row rs m s i p in
          record { row = w.row; listed = (suc w.listed.0, omega (arith, w.listed.1), w.listed.2); spells = w.spells }
    ]

from_row : (rs : List Row) (m : Marks) (s : List ℕ) (i : Insn) (r : Row) (k : ℕ) → are_apart rs ≡ true → k < length rs → slice_index_or rs k r ≡ r → spelled_row r m s ≡ Some i → spelled_rows rs m s ≡ Some i
from_row [] m s i r k h l e p = absurd (omega arith)
from_row (q ∷ rs) m s i r zero h l e p = or_left _ _ i (ap (λ (x : Row). spelled_row x m s) e ∙ p)
from_row (q ∷ rs) m s i r (suc k) h l e p =
    let w = both_true (is_sound q && apart_from q rs) (are_apart rs) h in
    let v = both_true (is_sound q) (apart_from q rs) w.0 in
    let rest = from_row rs m s i r k w.1 (omega arith) e p in
    or_right _ _ i (λ j f. exclude_rows q rs m v.1 s s j i f rest (agree_self s)) rest

pub spelled_spells : (s : List ℕ) (i : Insn) → spelled s ≡ Some i → Spells s i
spelled_spells s i e =
    let w = limited_of s i e in
    let v = unlimited_parts s i w.spells in
    let r = by_row rows (marks_of (front s)) (body s) i v.spells in
    let p = row_parts r.row (marks_of (front s)) (body s) i r.spells in
    let f = fits_of r.row.form (marks_of (front s)) p.opcode p.operands i p.spells in
    record {
      prefixes = front s;
      row = r.row;
      opcode = p.opcode;
      operands = p.operands;
      parts = sym (split s) ∙ ap (λ (u : List ℕ). front s ++ u) p.parts ∙ sym (append_assoc (front s) (lead_bytes r.row.lead) (p.opcode ∷ p.operands));
      limit = w.limit;
      bytes = bytes_listed s w.bytes;
      are_prefixes = front_are_prefixes s;
      together = v.together;
      listed = r.listed;
      is_opcode = p.in_span;
      marks = f.marks;
      modrm = f.modrm;
      whole = f.whole;
      means = f.means;
    }

from_opcode : (r : Row) (m : Marks) (o : ℕ) (s : List ℕ) (i : Insn) → is_opcode r o ≡ true → spelled_operands r.form m o s ≡ Some i → spelled_opcode r m (o ∷ s) ≡ Some i
from_opcode r m o s i h e = ap (λ (t : Bool). elim t as (λ _. Option Insn) [ true ↦ spelled_operands r.form m o s | false ↦ None ]) h ∙ e

from_lead : (lead : List ℕ) (f : List ℕ → Option Insn) (s : List ℕ) (i : Insn) → f s ≡ Some i → behind_lead lead f (lead ++ s) ≡ Some i
from_lead [] f s i e = e
from_lead (x ∷ lead) f s i e = ap (λ (t : Bool). elim t as (λ _. Option Insn) [ true ↦ behind_lead lead f (lead ++ s) | false ↦ None ]) (eq-eqb x x refl) ∙ from_lead lead f s i e

pub spells_spelled : (s : List ℕ) (i : Insn) → Spells s i → spelled s ≡ Some i
spells_spelled s i w =
    let m = marks_of w.prefixes in
    let operands = spelled_of w.row.form m w.opcode w.operands i (record { marks = w.marks; modrm = w.modrm; whole = w.whole; means = w.means }) in
    let u : List ℕ = lead_bytes w.row.lead ++ w.opcode ∷ w.operands in
    let row : spelled_row w.row m u ≡ Some i = from_lead (lead_bytes w.row.lead) (spelled_opcode w.row m) (w.opcode ∷ w.operands) i (from_opcode w.row m w.opcode w.operands i w.is_opcode operands) in
    let listed = from_row rows m u i w.row w.listed.0 table_is_apart w.listed.1 w.listed.2 row in
    let whole : s ≡ w.prefixes ++ u = w.parts ∙ append_assoc w.prefixes (lead_bytes w.row.lead) (w.opcode ∷ w.operands) in
    of_limited s i (record { limit = w.limit; bytes = bytes_tested s w.bytes; spells = ap unlimited whole ∙ unlimited_of w.prefixes u i w.are_prefixes w.together listed })

-- ---- no spelling is a proper front of another, and a spelling spells one instruction

one_length : (b s t : List ℕ) (i j : Insn) (r : Scan) → IsScan unlimited b r → unlimited s ≡ Some i → unlimited t ≡ Some j → Agree s b → Agree t b → length s ≤ length b → length s ≡ length t
one_length b s t i j (Found k n) h e f a c l = h.2 s i e a ∙ sym (h.2 t j f c)
one_length b s t i j (More n) h e f a c l = let low = h.2 s i e a in absurd (omega (arith, low, h.0))
one_length b s t i j Nothing h e f a c l = absurd (h s i e a)

pub one_spelling : (s more : List ℕ) (i j : Insn) → Spells s i → Spells (s ++ more) j → (more ≡ []) × (i ≡ j)
one_spelling s more i j v w =
    let p = limited_of s i (spells_spelled s i v) in
    let q = limited_of (s ++ more) j (spells_spelled (s ++ more) j w) in
    let len = one_length s s (s ++ more) i j (scan s) (scan_right s) p.spells q.spells (agree_self s) (append_agrees s more) (omega arith) in
    let nil : more ≡ [] = nil_from_length more (omega (arith, len, length-append s more)) in
    (nil, same_Some i j (sym p.spells ∙ ap unlimited (sym (append-nil s)) ∙ ap (λ (u : List ℕ). unlimited (s ++ u)) (sym nil) ∙ q.spells))

-- ---- what bytes decode to

none_by : (o : Option Insn) → ((i : Insn) → o ≡ Some i → ⊥) → o ≡ None
none_by None h = refl
none_by (Some i) h = absurd (h i refl)

none_further : (s : List ℕ) (k n : ℕ) → ((j : ℕ) → k ≤ j → j < k + n → spelled (take j s) ≡ None) → first_spelled k n s ≡ None
unfolding first_spelled
none_further s k zero h = refl
none_further s k (suc n) h = rw (h k (omega arith) (omega arith)) (none_further s (k + 1) n (λ j l u. h j (omega arith) (omega arith)))

first_is : (s : List ℕ) (k n : ℕ) (i : Insn) (m : ℕ) → k ≤ m → m < k + n → spelled (take m s) ≡ Some i → ((j : ℕ) → k ≤ j → j < m → spelled (take j s) ≡ None) → first_spelled k n s ≡ Some (i, m)
unfolding first_spelled
first_is s k zero i m l u e h = absurd (omega arith)
first_is s k (suc n) i m l u e h =
    elim (cases_lt k m) [
      | inl p ↦ rw (h k (omega arith) p) (first_is s (k + 1) n i m (omega arith) (omega arith) e (λ j a b. h j (omega arith) b))
      | inr p ↦
          let same : k ≡ m = omega arith in
          let here : spelled (take k s) ≡ Some i = ap (λ (x : ℕ). spelled (take x s)) same ∙ e in
          rw here (ap (λ (x : ℕ). Some (i, x)) same)
    ]

pub no_bytes : spelled [] ≡ None
no_bytes = none_by (spelled []) (λ i e. let w = unlimited_parts [] i (limited_of [] i e).spells in absurd (omega (arith, w.size, ap length w.head.parts)))

pub decoded_of : (n : ℕ) (bytes : List ℕ) (i : Insn) → spelled (take n bytes) ≡ Some i → n ≤ length bytes → decoded bytes ≡ Some (i, n)
unfolding decoded
decoded_of n bytes i e l =
    let w = limited_of (take n bytes) i e in
    let len : length (take n bytes) ≡ n = length-take-le n bytes l in
    let v = unlimited_parts (take n bytes) i w.spells in
    first_is bytes 1 15 i n (omega (arith, len, v.size, ap length v.head.parts)) (omega (arith, len, w.limit)) e (λ j a b. none_by (spelled (take j bytes)) (λ k f.
    let q = limited_of (take j bytes) k f in
    let same = one_length bytes (take j bytes) (take n bytes) k i (scan bytes) (scan_right bytes) q.spells w.spells (take_agrees j bytes) (take_agrees n bytes) (omega (arith, length-take-le j bytes (omega arith))) in
    omega (arith, same, len, length-take-le j bytes (omega arith))))

first_found : (s : List ℕ) (k n : ℕ) (i : Insn) (m : ℕ) → first_spelled k n s ≡ Some (i, m) → (k ≤ m) × (m < k + n) × (spelled (take m s) ≡ Some i)
unfolding first_spelled
first_found s k zero i m h = absurd (cc h)
first_found s k (suc n) i m h = by_front (first_found s (k + 1) n i m) (spelled (take k s)) refl h
  where
    by_front : (first_spelled (k + 1) n s ≡ Some (i, m) → (k + 1 ≤ m) × (m < k + 1 + n) × (spelled (take m s) ≡ Some i)) → (o : Option Insn) → spelled (take k s) ≡ o → or_else (with_len k o) (first_spelled (k + 1) n s) ≡ Some (i, m) → (k ≤ m) × (m < k + suc n) × (spelled (take m s) ≡ Some i)
    by_front rec None e f = let w = rec f in (omega (arith, w.0), omega (arith, w.1), w.2)
    by_front rec (Some j) e f =
        let p = some_pair_parts j i k m f in
        (omega (arith, p.1), omega (arith, p.1), ap (λ (x : ℕ). spelled (take x s)) (sym p.1) ∙ e ∙ ap Some p.0)

-- the length of a front that is a spelling
pub decoded_bounds : (bytes : List ℕ) (i : Insn) (n : ℕ) → decoded bytes ≡ Some (i, n) → (0 < n) × (n ≤ 15) × (n ≤ length bytes) × (spelled (take n bytes) ≡ Some i)
unfolding decoded
decoded_bounds bytes i n h =
    let w = first_found bytes 1 15 i n h in
    (omega (arith, w.0), omega (arith, w.1), within w.2, w.2)
  where
    within : spelled (take n bytes) ≡ Some i → n ≤ length bytes
    within e =
        elim (cases_lt (length bytes) n) [
          | inl p ↦
              let whole : spelled (take (length bytes) bytes) ≡ Some i = ap spelled (take_all (length bytes) bytes (omega arith) ∙ sym (take_all n bytes (omega arith))) ∙ e in
              let other = decoded_of (length bytes) bytes i whole (omega arith) in
              let same = some_pair_parts i i n (length bytes) (sym h ∙ unfold decoded in other) in
              omega (arith, same.1)
          | inr p ↦ p
        ]

-- what is decoded depends on the front alone
pub decoded_alike : (s t : List ℕ) (i : Insn) (n : ℕ) → decoded s ≡ Some (i, n) → take n t ≡ take n s → decoded t ≡ Some (i, n)
decoded_alike s t i n h e =
    let w = decoded_bounds s i n h in
    let len : length (take n t) ≡ n = ap length e ∙ length-take-le n s w.2 in
    decoded_of n t i (ap spelled e ∙ w.3) (omega (arith, len, length-take {A = ℕ} n t))

-- bytes after the fifteenth don't matter
first_same : (s t : List ℕ) (k n : ℕ) → ((j : ℕ) → j < k + n → spelled (take j t) ≡ spelled (take j s)) → first_spelled k n t ≡ first_spelled k n s
unfolding first_spelled
first_same s t k zero h = refl
first_same s t k (suc n) h =
    rw (h k (omega arith)) (ap (λ (r : Option (Insn × ℕ)). or_else (with_len k (spelled (take k s))) r) (first_same s t (k + 1) n (λ j l. h j (omega arith))))

pub decoded_take : (s : List ℕ) → decoded (take 15 s) ≡ decoded s
unfolding decoded
decoded_take s = first_same s (take 15 s) 1 15 (λ j l. ap spelled (take-take j 15 s (omega arith)))

-- ---- what a scan says of them

bytes_of_take : (n : ℕ) (s : List ℕ) → are_bytes s ≡ true → are_bytes (take n s) ≡ true
bytes_of_take zero s h = refl
bytes_of_take (suc n) [] h = refl
bytes_of_take (suc n) (b ∷ s) h = let w = both_true (nat_lt b 256) (are_bytes s) h in and_true _ _ w.0 (bytes_of_take n s w.1)

bytes_of_append : (s t : List ℕ) → are_bytes s ≡ true → are_bytes t ≡ true → are_bytes (s ++ t) ≡ true
bytes_of_append [] t h k = k
bytes_of_append (b ∷ s) t h k = let w = both_true (nat_lt b 256) (are_bytes s) h in and_true _ _ w.0 (bytes_of_append s t w.1 k)

pub scan_found : (b : List ℕ) (i : Insn) (n : ℕ) → are_bytes b ≡ true → scan b ≡ Found i n → n ≤ 15 → (decoded b ≡ Some (i, n)) × (n ≤ length b)
scan_found b i n h e l =
    let w = subst (IsScan unlimited b) e (scan_right b) in
    let s = of_limited (take n b) i (record { limit = omega (arith, length-take-le n b w.0); bytes = bytes_of_take n b h; spells = w.1 }) in
    (decoded_of n b i s w.0, w.0)

-- what agrees with the bytes has more than fifteen
pub record IsLong (b : List ℕ) : Type 0 where
  pub each : (s : List ℕ) (j : Insn) → unlimited s ≡ Some j → Agree s b → 15 < length s

pub long_none : (b : List ℕ) → IsLong b → decoded b ≡ None
unfolding decoded
long_none b h = none_further b 1 15 (λ j l u. none_by (spelled (take j b)) (λ i e. let w = limited_of (take j b) i e in let far = h.each (take j b) i w.spells (take_agrees j b) in omega (arith, far, w.limit)))

pub long_ends : (b t : List ℕ) (i : Insn) → IsLong b → spelled (b ++ t) ≡ Some i → ⊥
long_ends b t i h e = let w = limited_of (b ++ t) i e in let far = h.each (b ++ t) i w.spells (append_agrees b t) in omega (arith, far, w.limit)

-- a scan that finds more than fifteen bytes, or nothing
abbrev pub Exceeds : Scan → Type 0
Exceeds (Found i n) = 15 < n
Exceeds (More n) = 15 < n
Exceeds Nothing = Unit {0}

long_by : (b : List ℕ) (r : Scan) → IsScan unlimited b r → Exceeds r → IsLong b
long_by b (Found i n) w h = record { each = λ s j e a. let l = w.2 s j e a in omega (arith, l) }
long_by b (More n) w h = record { each = λ s j e a. let l = w.2 s j e a in omega (arith, l) }
long_by b Nothing w h = record { each = λ s j e a. absurd (w s j e a) }

pub scan_exceeds : (b : List ℕ) (r : Scan) → scan b ≡ r → Exceeds r → IsLong b
scan_exceeds b r e h = long_by b r (subst (IsScan unlimited b) e (scan_right b)) h

-- more bytes, at least one, make the bytes a spelling
pub record Begins (b : List ℕ) : Type 0 where
  pub more : List ℕ
  pub some : 0 < length more
  pub bytes : AreBytes more
  pub insn : Insn
  pub spells : spelled (b ++ more) ≡ Some insn

none_short : (b : List ℕ) (n : ℕ) → IsScan unlimited b (More n) → decoded b ≡ None
unfolding decoded
none_short b n w = none_further b 1 15 (λ j p u. none_by (spelled (take j b)) (λ i f.
    let q = limited_of (take j b) i f in
    let low = w.2 (take j b) i q.spells (take_agrees j b) in
    omega (arith, low, w.0, length-take {A = ℕ} j b)))

pub scan_more : (b : List ℕ) (n : ℕ) → are_bytes b ≡ true → scan b ≡ More n → n ≤ 15 → (decoded b ≡ None) × Begins b × (length b < n)
scan_more b n h e l =
    let w = subst (IsScan unlimited b) e (scan_right b) in
    let v = w.1 in
    let spells = of_limited (b ++ v.0) v.3.0 (record { limit = omega (arith, v.1); bytes = bytes_of_append b v.0 h v.2; spells = v.3.1 }) in
    let begins : Begins b = record { more = v.0; some = omega (arith, v.1, w.0, length-append b v.0); bytes = bytes_listed v.0 v.2; insn = v.3.0; spells = spells } in
    (none_short b n w, begins, w.0)

-- ---- a near jump

jump_by : (a b c d : ℕ) → a < 256 → b < 256 → c < 256 → d < 256 → Limited (0xE9 ∷ a ∷ b ∷ c ∷ d ∷ []) (Jump (dword_at (a ∷ b ∷ c ∷ d ∷ []) 0))
unfolding rows
jump_by a b c d p q r s =
    record {
      limit = omega arith;
      bytes = and_true _ _ (le-leb (suc a) 256 p) (and_true _ _ (le-leb (suc b) 256 q) (and_true _ _ (le-leb (suc c) 256 r) (and_true _ _ (le-leb (suc d) 256 s) refl)));
      spells = refl;
    }

word_bytes : (n : ℕ) → n < 2 ^ 32 → spelled (0xE9 ∷ word n) ≡ Some (Jump n)
unfolding word
word_bytes n h =
    let w = jump_by (n % 256) (n / 256 % 256) (n / 65536 % 256) (n / 16777216 % 256) (omega arith) (omega arith) (omega arith) (omega arith) in
    let whole : n % 256 + 2 ^ 8 * (n / 256 % 256) + 2 ^ 16 * (n / 65536 % 256) + 2 ^ 24 * (n / 16777216 % 256) ≡ n = omega arith in
    of_limited (0xE9 ∷ word n) _ w ∙ ap (λ (k : ℕ). Some (Jump k)) whole

pub near_jump : (n : ℕ) (rest : List ℕ) → n < 2 ^ 32 → decoded (0xE9 ∷ (word n ++ rest)) ≡ Some (Jump n, 5)
unfolding word
near_jump n rest h = decoded_of 5 (0xE9 ∷ (word n ++ rest)) (Jump n) (word_bytes n h) (omega arith)
