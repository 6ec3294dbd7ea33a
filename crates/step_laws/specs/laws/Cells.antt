-- Cells and their marks, and where an access faults.
use Rattle.std.proofs.Common.{◌≡◌, ℕ, zero, suc, ◌+◌, ◌^◌, ◌<◌, ◌≤◌, Bool, true, false, ◌∷◌, Option, Some, None, is_some, if◌then◌else◌, refl, sym, ap, ap₂, ◌∙◌, subst, arith}
use Rattle.std.proofs.lemmas.Bool.{both_ways, cond-true, cond-false}
use Rattle.std.proofs.lemmas.Option.{none-some}
use Rattle.mv_base.specs.Memory.{Cell, Memory, cell_is, exec_byte_of, is_mapped, byte_of, address_after, first_failing, bytes_at}
use Rattle.step_laws.specs.Beside.{shown, exec_cell}

-- ---- cells

abbrev pub may_write : Option Cell → Bool
may_write c = cell_is (λ c. c.write) c

abbrev pub may_execute : Option Cell → Bool
may_execute c = cell_is (λ c. c.exec) c

pub shown_mapped : (c d : Option Cell) → shown c ≡ shown d → is_some c ≡ is_some d
shown_mapped c d e = sym (read c) ∙ ap is_some e ∙ read d
  where
    read : (c : Option Cell) → is_some (shown c) ≡ is_some c
    read None = refl
    read (Some c) = refl

pub shown_writable : (c d : Option Cell) → shown c ≡ shown d → may_write c ≡ may_write d
shown_writable c d e = sym (read c) ∙ ap mark e ∙ read d
  where
    mark : Option (ℕ × Bool) → Bool
    mark None = false
    mark (Some s) = s.1

    read : (c : Option Cell) → mark (shown c) ≡ may_write c
    read None = refl
    read (Some c) = refl

pub shown_byte : (c d : Option Cell) → shown c ≡ shown d → byte_of c ≡ byte_of d
shown_byte c d e = sym (read c) ∙ ap byte e ∙ read d
  where
    byte : Option (ℕ × Bool) → ℕ
    byte None = 0
    byte (Some s) = s.0

    read : (c : Option Cell) → byte (shown c) ≡ byte_of c
    read None = refl
    read (Some c) = refl

pub exec_cell_same : (c : Option Cell) → may_execute c ≡ true → exec_cell c ≡ c
exec_cell_same None e = refl
exec_cell_same (Some c) e = cond-true c.exec (Some c) None e

pub exec_cell_none : (c : Option Cell) → may_execute c ≡ false → exec_cell c ≡ None
exec_cell_none None e = refl
exec_cell_none (Some c) e = cond-false c.exec (Some c) None e

pub exec_cell_marks : (c : Option Cell) → may_execute (exec_cell c) ≡ may_execute c
exec_cell_marks None = refl
exec_cell_marks (Some c) = go c.exec refl
  where
    go : (e : Bool) → c.exec ≡ e → may_execute (if c.exec then Some c else None) ≡ c.exec
    go true e = ap (λ b. may_execute (if b then Some c else None)) e
    go false e = ap (λ b. may_execute (if b then Some c else None)) e ∙ sym e

pub exec_cell_byte : (c : Option Cell) → exec_byte_of (exec_cell c) ≡ exec_byte_of c
exec_cell_byte None = refl
exec_cell_byte (Some c) = go c.exec refl
  where
    go : (e : Bool) → c.exec ≡ e → exec_byte_of (if c.exec then Some c else None) ≡ (if c.exec then Some c.byte else None)
    go true e = ap (λ b. exec_byte_of (if b then Some c else None)) e
    go false e = ap (λ b. exec_byte_of (if b then Some c else None)) e ∙ ap (λ b. if b then Some c.byte else None) (sym e)

-- cells with the same executable part may be executed alike
pub exec_alike : (c d : Option Cell) → exec_cell c ≡ exec_cell d → may_execute c ≡ may_execute d
exec_alike c d e = sym (exec_cell_marks c) ∙ ap may_execute e ∙ exec_cell_marks d

-- and are the same cell where one may be
pub exec_same : (c d : Option Cell) → exec_cell c ≡ exec_cell d → may_execute c ≡ true → c ≡ d
exec_same c d e h = sym (exec_cell_same c h) ∙ e ∙ exec_cell_same d (sym (exec_alike c d e) ∙ h)

pub exec_mapped : (c : Option Cell) → may_execute c ≡ true → is_some c ≡ true
exec_mapped None e = e
exec_mapped (Some c) e = refl

pub write_mapped : (c : Option Cell) → may_write c ≡ true → is_some c ≡ true
write_mapped None e = e
write_mapped (Some c) e = refl

-- ---- accesses

-- no access, or one at an address that is not added
abbrev pub IsClearFault : (ℕ → Bool) → Option ℕ → Type 0
IsClearFault added None = Unit {0}
IsClearFault added (Some a) = added a ≡ false

-- tests that agree where nothing is added, the first of which fails elsewhere, fail first at the same place
pub first_alike : (added : ℕ → Bool) (p q : ℕ → Bool) → ((a : ℕ) → added a ≡ false → q a ≡ p a) → ((a : ℕ) → added a ≡ true → p a ≡ false) → (n a : ℕ) → IsClearFault added (first_failing p a n) → first_failing q a n ≡ first_failing p a n
unfolding first_failing
first_alike added p q same fails zero a h = refl
first_alike added p q same fails (suc n) a h = go (first_alike added p q same fails n (address_after a 1)) (p a) (added a) refl refl h
  where
    P : Option ℕ
    P = first_failing p (address_after a 1) n

    Q : Option ℕ
    Q = first_failing q (address_after a 1) n

    go : (IsClearFault added P → Q ≡ P) → (v w : Bool) → p a ≡ v → added a ≡ w → IsClearFault added (if v then P else Some a) → (if q a then Q else Some a) ≡ (if v then P else Some a)
    go rec true true e i c = absurd (both_ways (p a) (fails a i) e)
    go rec true false e i c = ap (λ b. if b then Q else Some a) (same a i ∙ e) ∙ rec c
    go rec false true e i c = absurd (both_ways (added a) c i)
    go rec false false e i c = ap (λ b. if b then Q else Some a) (same a i ∙ e)

-- tests that agree on a range fail first at the same place of it
pub first_same : (p q : ℕ → Bool) (n a : ℕ) → a + n < 2 ^ 32 → ((c : ℕ) → a ≤ c → c < a + n → q c ≡ p c) → first_failing q a n ≡ first_failing p a n
unfolding first_failing
first_same p q zero a fits same = refl
first_same p q (suc n) a fits same =
    let on : address_after a 1 ≡ a + 1 = omega arith in
    let rec = first_same p q n (address_after a 1) (omega (arith, on)) (λ c low high. same c (omega (arith, on)) (omega (arith, on))) in
    ap (λ b. if b then first_failing q (address_after a 1) n else Some a) (same a (omega arith) (omega arith)) ∙ ap (λ o. if p a then o else Some a) rec

-- an access that does not fail passes at each of its addresses
pub first_passes : (p : ℕ → Bool) (n a : ℕ) → first_failing p a n ≡ None → (k : ℕ) → k < n → a < 2 ^ 32 → p (address_after a k) ≡ true
unfolding first_failing
first_passes p zero a h k l low = absurd (omega arith)
first_passes p (suc n) a h k l low = go (first_passes p n (address_after a 1)) (p a) refl h k l
  where
    go : (first_failing p (address_after a 1) n ≡ None → (k : ℕ) → k < n → address_after a 1 < 2 ^ 32 → p (address_after (address_after a 1) k) ≡ true) → (v : Bool) → p a ≡ v → (if v then first_failing p (address_after a 1) n else Some a) ≡ None → (k : ℕ) → k < suc n → p (address_after a k) ≡ true
    go rec false e c k l = absurd (none-some a (sym c))
    go rec true e c zero l = let same : a ≡ address_after a 0 = omega arith in subst (λ b. p b ≡ true) same e
    go rec true e c (suc k) l = let same : address_after (address_after a 1) k ≡ address_after a (suc k) = omega arith in subst (λ b. p b ≡ true) same (rec c k (omega arith) (omega arith))

-- the first address of such an access
pub first_begins : (p : ℕ → Bool) (n a : ℕ) → 0 < n → first_failing p a n ≡ None → p a ≡ true
unfolding first_failing
first_begins p zero a some h = absurd (omega arith)
first_begins p (suc n) a some h = go (p a) refl h
  where
    go : (v : Bool) → p a ≡ v → (if v then first_failing p (address_after a 1) n else Some a) ≡ None → p a ≡ true
    go false e c = absurd (none-some a (sym c))
    go true e c = e

-- bytes that can be read are the same where the memories show the same
pub bytes_alike : (added : ℕ → Bool) (o t : Memory) → ((a : ℕ) → added a ≡ false → shown (t a) ≡ shown (o a)) → ((a : ℕ) → added a ≡ true → o a ≡ None) → (n a : ℕ) → first_failing (is_mapped o) a n ≡ None → bytes_at t a n ≡ bytes_at o a n
unfolding first_failing bytes_at
bytes_alike added o t outside free zero a h = refl
bytes_alike added o t outside free (suc n) a h = go (bytes_alike added o t outside free n (address_after a 1)) (is_mapped o a) (added a) refl refl h
  where
    go : (first_failing (is_mapped o) (address_after a 1) n ≡ None → bytes_at t (address_after a 1) n ≡ bytes_at o (address_after a 1) n) → (v w : Bool) → is_mapped o a ≡ v → added a ≡ w → (if v then first_failing (is_mapped o) (address_after a 1) n else Some a) ≡ None → byte_of (t a) ∷ bytes_at t (address_after a 1) n ≡ byte_of (o a) ∷ bytes_at o (address_after a 1) n
    go rec false w e i c = absurd (none-some a (sym c))
    go rec true true e i c = absurd (both_ways (is_mapped o a) (ap is_some (free a i)) e)
    go rec true false e i c = ap₂ ◌∷◌ (shown_byte (t a) (o a) (outside a i)) (rec c)
