-- Memory in a symbolic run: words written at numbered places, over any memory. Which word a place has is told by its
-- number; addresses are never compared.
use Rattle.std.proofs.Common.{◌≡◌, ℕ, ◌+◌, ◌^◌, ◌<◌, ◌≤◌, ◌⊎◌, inl, inr, Bool, true, false, ◌&&◌, ◌==◌, List, [], ◌∷◌, length, Option, Some, None, is_some, if◌then◌else◌, nat_lt, refl, sym, ap, ◌∙◌, arith}
use Rattle.std.proofs.lemmas.Bool.{lt-ltb, le-ltb, eqb-true}
use Rattle.mv_base.specs.Bytes.{word}
use Rattle.mv_base.specs.Memory.{Cell, Memory, cell_is, is_mapped, is_writable, address_after, distance, put, read_fault, write_fault, bytes_at}
use Rattle.x86_insn.specs.Agreeing.{both_true}
use Rattle.step_laws.specs.Keeping.{KeepsCells}
use Rattle.step_laws.specs.laws.Putting.{put_none, put_read, none_failing, keeps_self, keeps_then, keeps_put, keeps_mapped, keeps_read_fault, keeps_write_fault, keeps_bytes}

-- words and the places where they were written, the newest first
abbrev pub Log : Type 0
Log = List (ℕ × ℕ)

-- a memory after them
unfoldable pub stored : (ℕ → ℕ) → Memory → Log → Memory
stored at m [] = m
stored at m (e ∷ log) = put (stored at m log) (at e.0) (word e.1)

-- the newest word of a place
abbrev pub newest : Log → ℕ → Option ℕ
newest [] j = None
newest (e ∷ log) j = if e.0 == j then Some e.1 else newest log j

-- only places that may be written were
abbrev pub may_all : (ℕ → Bool) → Log → Bool
may_all may [] = true
may_all may (e ∷ log) = may e.0 && may_all may log

-- the places that may be written lie below 2^32 and apart from each other, are scratch, and are writable in a memory
-- without cells at or above 2^32
pub record HasPlaces (at : ℕ → ℕ) (may scratch : ℕ → Bool) (m : Memory) : Type 0 where
  pub low : (j : ℕ) → may j ≡ true → at j + 4 ≤ 2 ^ 32
  pub apart : (j k : ℕ) → may j ≡ true → may k ≡ true → (j == k) ≡ false → (at j + 4 ≤ at k) ⊎ (at k + 4 ≤ at j)
  pub inside : (j b : ℕ) → may j ≡ true → b < 4 → scratch (at j + b) ≡ true
  pub writable : (j b : ℕ) → may j ≡ true → b < 4 → is_writable m (at j + b) ≡ true
  pub top : (a : ℕ) → 2 ^ 32 ≤ a → m a ≡ None

-- ---- a write apart from what is read

abbrev near : ℕ → List ℕ → ℕ → Bool
near a bytes x = nat_lt (distance a x) (length bytes)

far : (a len b n k : ℕ) → a + len ≤ 2 ^ 32 → b + n ≤ 2 ^ 32 → k < n → (a + len ≤ b) ⊎ (b + n ≤ a) → len ≤ distance a (address_after b k)
far a len b n k low end l (inl p) = omega arith
far a len b n k low end l (inr p) = omega arith

-- a write leaves the bytes of a range apart from it
pub put_apart : (m : Memory) (a : ℕ) (bytes : List ℕ) (b n : ℕ) → ((x : ℕ) → 2 ^ 32 ≤ x → m x ≡ None) → a + length bytes ≤ 2 ^ 32 → b < 2 ^ 32 → b + n ≤ 2 ^ 32 → (a + length bytes ≤ b) ⊎ (b + n ≤ a) → bytes_at (put m a bytes) b n ≡ bytes_at m b n
put_apart m a bytes b n top low start end apart =
    keeps_bytes (near a bytes) m (put m a bytes)
    (keeps_put (near a bytes) m a bytes top low (λ k l. lt-ltb (distance a (a + k)) (length bytes) (omega arith)))
    n b start (λ k l. le-ltb (distance a (address_after b k)) (length bytes) (far a (length bytes) b n k low end l apart))

-- ---- what the log says

writable_mapped : (c : Option Cell) → cell_is (λ c. c.write) c ≡ true → is_some c ≡ true
writable_mapped None p = p
writable_mapped (Some c) p = refl

abbrev pub held : Option ℕ → List ℕ → List ℕ
held None bytes = bytes
held (Some v) bytes = word v

module _ (at : ℕ → ℕ) (may scratch : ℕ → Bool) (m : Memory) (h : HasPlaces at may scratch m) where
  pub stored_top : (log : Log) (x : ℕ) → 2 ^ 32 ≤ x → stored at m log x ≡ None
  unfolding stored
  stored_top [] x p = h.top x p
  stored_top (e ∷ log) x p = put_none (stored at m log) (at e.0) (word e.1) x (stored_top log x p)

  -- nothing but scratch has changed
  pub stored_keeps : (log : Log) → may_all may log ≡ true → KeepsCells scratch m (stored at m log)
  unfolding stored word
  stored_keeps [] ok = keeps_self scratch m
  stored_keeps (e ∷ log) ok =
      let w = both_true (may e.0) (may_all may log) ok in
      keeps_then scratch m (stored at m log) _ (stored_keeps log w.1) (keeps_put scratch (stored at m log) (at e.0) (word e.1) (stored_top log) (h.low e.0 w.0) (λ k l. h.inside e.0 k w.0 l))

  -- a place has its newest word, or the bytes that it had
  pub stored_word : (log : Log) (j : ℕ) → may_all may log ≡ true → may j ≡ true → bytes_at (stored at m log) (at j) 4 ≡ held (newest log j) (bytes_at m (at j) 4)
  unfolding stored word
  stored_word [] j ok free = refl
  stored_word (e ∷ log) j ok free = go (e.0 == j) refl (stored_word log j)
    where
      w : (may e.0 ≡ true) × (may_all may log ≡ true)
      w = both_true (may e.0) (may_all may log) ok

      mapped : (k : ℕ) → k < 4 → is_mapped (stored at m log) (at e.0 + k) ≡ true
      mapped k l = keeps_mapped scratch m (stored at m log) (stored_keeps log w.1) (at e.0 + k) ∙ writable_mapped (m (at e.0 + k)) (h.writable e.0 k w.0 l)

      go : (t : Bool) → (e.0 == j) ≡ t → (may_all may log ≡ true → may j ≡ true → bytes_at (stored at m log) (at j) 4 ≡ held (newest log j) (bytes_at m (at j) 4)) → bytes_at (put (stored at m log) (at e.0) (word e.1)) (at j) 4 ≡ held (if t then Some e.1 else newest log j) (bytes_at m (at j) 4)
      go true p rec =
          ap (λ i. bytes_at (put (stored at m log) (at e.0) (word e.1)) (at i) 4) (sym (eqb-true e.0 j p))
          ∙ put_read (stored at m log) (at e.0) (word e.1) (h.low e.0 w.0) mapped
      go false p rec =
          put_apart (stored at m log) (at e.0) (word e.1) (at j) 4 (stored_top log) (h.low e.0 w.0) (omega (arith, h.low j free)) (h.low j free) (h.apart e.0 j w.0 free p)
          ∙ rec w.1 free

  -- a place may be written
  pub stored_free : (log : Log) (j : ℕ) → may_all may log ≡ true → may j ≡ true → write_fault (stored at m log) (at j) 4 ≡ None
  stored_free log j ok free =
      keeps_write_fault scratch m (stored at m log) (stored_keeps log ok) (at j) 4 ∙ none_failing (is_writable m) (at j) 4 (h.low j free) (λ k l. h.writable j k free l)

  -- and read
  pub stored_mapped : (log : Log) (j : ℕ) → may_all may log ≡ true → may j ≡ true → read_fault (stored at m log) (at j) 4 ≡ None
  stored_mapped log j ok free =
      keeps_read_fault scratch m (stored at m log) (stored_keeps log ok) (at j) 4
      ∙ none_failing (is_mapped m) (at j) 4 (h.low j free) (λ k l. writable_mapped (m (at j + k)) (h.writable j k free l))
