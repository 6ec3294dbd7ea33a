-- What a write leaves as it was, and what is read after it.
use Rattle.std.proofs.Common.{◌≡◌, ℕ, zero, suc, ◌+◌, ◌^◌, ◌<◌, ◌≤◌, inl, inr, Bool, true, false, List, [], ◌∷◌, length, Option, Some, None, is_some, if◌then◌else◌, nat_lt, slice_index, refl, sym, ap, ap₂, ◌∙◌, subst, arith}
use Rattle.std.specs.Option.{option_map}
use Rattle.std.proofs.lemmas.Bool.{both_ways, lt-ltb, le-ltb, cases_lt}
use Rattle.mv_base.specs.Memory.{Cell, Memory, cell_is, is_mapped, is_writable, exec_byte_of, byte_of, address_after, distance, with_byte, put, first_failing, read_fault, write_fault, bytes_at}
use Rattle.step_laws.specs.Standing.{Stands}
use Rattle.step_laws.specs.Keeping.{marks, KeepsCells}

-- ---- one cell

abbrev put_cell : Bool → ℕ → Option Cell → Option Cell
put_cell t b c = if t then option_map (with_byte b) c else c

pub put_far : (m : Memory) (a : ℕ) (bytes : List ℕ) (x : ℕ) → length bytes ≤ distance a x → put m a bytes x ≡ m x
unfolding put
put_far m a bytes x h = ap (λ t. put_cell t (slice_index bytes (distance a x)) (m x)) (le-ltb (distance a x) (length bytes) h)

pub put_near : (m : Memory) (a : ℕ) (bytes : List ℕ) (x : ℕ) → distance a x < length bytes → put m a bytes x ≡ option_map (with_byte (slice_index bytes (distance a x))) (m x)
unfolding put
put_near m a bytes x h = ap (λ t. put_cell t (slice_index bytes (distance a x)) (m x)) (lt-ltb (distance a x) (length bytes) h)

-- where nothing is mapped, nothing is after it
pub put_none : (m : Memory) (a : ℕ) (bytes : List ℕ) (x : ℕ) → m x ≡ None → put m a bytes x ≡ None
unfolding put
put_none m a bytes x e = ap (put_cell (nat_lt (distance a x) (length bytes)) (slice_index bytes (distance a x))) e ∙ go (nat_lt (distance a x) (length bytes))
  where
    go : (t : Bool) → put_cell t (slice_index bytes (distance a x)) None ≡ None
    go true = refl
    go false = refl

pub put_marks : (m : Memory) (a : ℕ) (bytes : List ℕ) (x : ℕ) → marks (put m a bytes x) ≡ marks (m x)
unfolding put
put_marks m a bytes x = go (nat_lt (distance a x) (length bytes)) (m x)
  where
    go : (t : Bool) (c : Option Cell) → marks (put_cell t (slice_index bytes (distance a x)) c) ≡ marks c
    go true None = refl
    go true (Some c) = refl
    go false c = refl

-- ---- marks

pub marks_mapped : (c d : Option Cell) → marks c ≡ marks d → is_some c ≡ is_some d
marks_mapped c d e = sym (read c) ∙ ap is_some e ∙ read d
  where
    read : (c : Option Cell) → is_some (marks c) ≡ is_some c
    read None = refl
    read (Some c) = refl

pub marks_writable : (c d : Option Cell) → marks c ≡ marks d → cell_is (λ c. c.write) c ≡ cell_is (λ c. c.write) d
marks_writable c d e = sym (read c) ∙ ap first e ∙ read d
  where
    first : Option (Bool × Bool) → Bool
    first None = false
    first (Some p) = p.0

    read : (c : Option Cell) → first (marks c) ≡ cell_is (λ c. c.write) c
    read None = refl
    read (Some c) = refl

pub marks_executable : (c d : Option Cell) → marks c ≡ marks d → cell_is (λ c. c.exec) c ≡ cell_is (λ c. c.exec) d
marks_executable c d e = sym (read c) ∙ ap second e ∙ read d
  where
    second : Option (Bool × Bool) → Bool
    second None = false
    second (Some p) = p.1

    read : (c : Option Cell) → second (marks c) ≡ cell_is (λ c. c.exec) c
    read None = refl
    read (Some c) = refl

-- ---- ranges of cells

pub failing_same : (f g : ℕ → Bool) → ((a : ℕ) → f a ≡ g a) → (a n : ℕ) → first_failing f a n ≡ first_failing g a n
unfolding first_failing
failing_same f g same a zero = refl
failing_same f g same a (suc n) = ap₂ (λ t r. if t then r else Some a) (same a) (failing_same f g same (address_after a 1) n)

-- no cell of a range fails
pub none_failing : (test : ℕ → Bool) (a n : ℕ) → a + n ≤ 2 ^ 32 → ((k : ℕ) → k < n → test (a + k) ≡ true) → first_failing test a n ≡ None
unfolding first_failing
none_failing test a zero low each = refl
none_failing test a (suc zero) low each =
    let here : a + 0 ≡ a = omega arith in
    ap (λ t. if t then None else Some a) (subst (λ b. test b ≡ true) here (each 0 (omega arith)))
none_failing test a (suc (suc n)) low each =
    let here : a + 0 ≡ a = omega arith in
    let next : a + 1 ≡ address_after a 1 = omega arith in
    let rest = none_failing test (a + 1) (suc n) (omega arith) (λ k l. let e : a + suc k ≡ a + 1 + k = omega arith in subst (λ b. test b ≡ true) e (each (suc k) (omega arith))) in
    ap (λ t. if t then first_failing test (address_after a 1) (suc n) else Some a) (subst (λ b. test b ≡ true) here (each 0 (omega arith)))
    ∙ subst (λ b. first_failing test b (suc n) ≡ None) next rest

-- the bytes of a range are these
pub bytes_are : (m : Memory) (bytes : List ℕ) (a : ℕ) → a + length bytes ≤ 2 ^ 32 → ((k : ℕ) → k < length bytes → byte_of (m (a + k)) ≡ slice_index bytes k) → bytes_at m a (length bytes) ≡ bytes
unfolding bytes_at
bytes_are m [] a low each = refl
bytes_are m (y ∷ []) a low each =
    let here : a + 0 ≡ a = omega arith in
    ap (λ (b : ℕ). b ∷ []) (subst (λ b. byte_of (m b) ≡ y) here (each 0 (omega arith)))
bytes_are m (y ∷ z ∷ zs) a low each =
    let here : a + 0 ≡ a = omega arith in
    let next : a + 1 ≡ address_after a 1 = omega arith in
    let rest = bytes_are m (z ∷ zs) (a + 1) (omega arith) (λ k l. let e : a + suc k ≡ a + 1 + k = omega arith in subst (λ b. byte_of (m b) ≡ slice_index (z ∷ zs) k) e (each (suc k) (omega arith))) in
    ap₂ (λ (b : ℕ) (r : List ℕ). b ∷ r) (subst (λ b. byte_of (m b) ≡ y) here (each 0 (omega arith)))
    (subst (λ b. bytes_at m b (suc (length zs)) ≡ z ∷ zs) next rest)

-- what a write puts is read there
pub put_read : (m : Memory) (a : ℕ) (bytes : List ℕ) → a + length bytes ≤ 2 ^ 32 → ((k : ℕ) → k < length bytes → is_mapped m (a + k) ≡ true) → bytes_at (put m a bytes) a (length bytes) ≡ bytes
put_read m a bytes low mapped = bytes_are (put m a bytes) bytes a low each
  where
    there : (b : ℕ) (c : Option Cell) → is_some c ≡ true → byte_of (option_map (with_byte b) c) ≡ b
    there b None e = absurd (both_ways false refl e)
    there b (Some c) e = refl

    each : (k : ℕ) → k < length bytes → byte_of (put m a bytes (a + k)) ≡ slice_index bytes k
    each k l =
        let d : distance a (a + k) ≡ k = omega arith in
        ap byte_of (put_near m a bytes (a + k) (omega arith)) ∙ there (slice_index bytes (distance a (a + k))) (m (a + k)) (mapped k l) ∙ ap (slice_index bytes) d

-- ---- what is kept

pub keeps_self : (scratch : ℕ → Bool) (m : Memory) → KeepsCells scratch m m
keeps_self scratch m = record { marked = λ a. refl; others = λ a h. refl }

pub keeps_then : (scratch : ℕ → Bool) (m n p : Memory) → KeepsCells scratch m n → KeepsCells scratch n p → KeepsCells scratch m p
keeps_then scratch m n p h k = record { marked = λ a. k.marked a ∙ h.marked a; others = λ a e. k.others a e ∙ h.others a e }

-- the same of more cells that are scratch
pub keeps_wider : (scratch more : ℕ → Bool) (m n : Memory) → ((a : ℕ) → more a ≡ false → scratch a ≡ false) → KeepsCells scratch m n → KeepsCells more m n
keeps_wider scratch more m n wider h = record { marked = h.marked; others = λ a e. h.others a (wider a e) }

-- a write of scratch alone
pub keeps_put : (scratch : ℕ → Bool) (m : Memory) (a : ℕ) (bytes : List ℕ) → ((x : ℕ) → 2 ^ 32 ≤ x → m x ≡ None) → a + length bytes ≤ 2 ^ 32 → ((k : ℕ) → k < length bytes → scratch (a + k) ≡ true) → KeepsCells scratch m (put m a bytes)
keeps_put scratch m a bytes top low inside = record { marked = put_marks m a bytes; others = others }
  where
    others : (x : ℕ) → scratch x ≡ false → put m a bytes x ≡ m x
    others x e =
        elim (cases_lt x (2 ^ 32)) [
          | inr p ↦ put_none m a bytes x (top x p) ∙ sym (top x p)
          | inl p ↦
              elim (cases_lt (distance a x) (length bytes)) [
                | inr q ↦ put_far m a bytes x q
                | inl q ↦
                    let back : a + distance a x ≡ x = omega arith in
                    absurd (both_ways (scratch x) e (subst (λ y. scratch y ≡ true) back (inside (distance a x) q)))
              ]
        ]

module _ (scratch : ℕ → Bool) (m n : Memory) (h : KeepsCells scratch m n) where
  pub keeps_mapped : (a : ℕ) → is_mapped n a ≡ is_mapped m a
  keeps_mapped a = marks_mapped (n a) (m a) (h.marked a)

  pub keeps_writable : (a : ℕ) → is_writable n a ≡ is_writable m a
  keeps_writable a = marks_writable (n a) (m a) (h.marked a)

  -- every access faults as it did
  pub keeps_read_fault : (a len : ℕ) → read_fault n a len ≡ read_fault m a len
  keeps_read_fault a len = failing_same (is_mapped n) (is_mapped m) keeps_mapped a len

  pub keeps_write_fault : (a len : ℕ) → write_fault n a len ≡ write_fault m a len
  keeps_write_fault a len = failing_same (is_writable n) (is_writable m) keeps_writable a len

  -- and reads what it did, where it reads no scratch
  pub keeps_bytes : (len a : ℕ) → a < 2 ^ 32 → ((k : ℕ) → k < len → scratch (address_after a k) ≡ false) → bytes_at n a len ≡ bytes_at m a len
  unfolding bytes_at
  keeps_bytes zero a low apart = refl
  keeps_bytes (suc len) a low apart =
      let here : address_after a 0 ≡ a = omega arith in
      let later : (k : ℕ) → address_after a (suc k) ≡ address_after (address_after a 1) k = λ k. omega arith in
      ap₂ (λ (b : ℕ) (r : List ℕ). b ∷ r)
      (ap byte_of (h.others a (subst (λ x. scratch x ≡ false) here (apart 0 (omega arith)))))
      (keeps_bytes len (address_after a 1) (omega arith) (λ k l. subst (λ x. scratch x ≡ false) (later k) (apart (suc k) (omega arith))))

  -- code that is no scratch stands as it did
  pub keeps_stands : (at : ℕ) (bytes : List ℕ) → ((k : ℕ) → k < length bytes → scratch (at + k) ≡ false) → Stands m at bytes → Stands n at bytes
  keeps_stands at bytes apart s = record { byte = λ k l. ap exec_byte_of (h.others (at + k) (apart k l)) ∙ s.byte k l; low = s.low }
