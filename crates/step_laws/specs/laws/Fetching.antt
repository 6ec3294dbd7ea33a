-- What stands at an address, by its bytes alone: a spelling that stands in executable cells is fetched there.
use Rattle.std.proofs.Common.{◌≡◌, ℕ, zero, suc, ◌+◌, ◌<◌, ◌≤◌, List, [], ◌∷◌, length, take, Option, Some, None, slice_index, refl, sym, ap, ◌∙◌, subst, arith, length-take-le, ap₂, add-zero, ◌++◌, length-append, get_or-append-add}
use Rattle.std.proofs.lemmas.List.{get_or_append_left}
use Rattle.std.proofs.lemmas.List.{length-take}
use Rattle.std.proofs.lemmas.Option.{none-some}
use Rattle.mv_base.specs.Memory.{Memory, exec_byte, exec_bytes}
use Rattle.x86_insn.specs.declared.insn.Insn.{Insn}
use Rattle.x86_insn.specs.Spelling.{spelled, decoded}
use Rattle.x86_insn.specs.Laws.{limited_of, no_bytes, decoded_of, decoded_alike, decoded_bounds}
use Rattle.x86_insn.specs.Step.{Fetched, Absent, Found, Unknown, fetched, fetch_in, fetch}
use Rattle.step_laws.specs.Standing.{Stands}

-- ---- executable bytes

exec_bytes_none : (code : ℕ → Option ℕ) (a n : ℕ) → code a ≡ None → exec_bytes code a (suc n) ≡ []
unfolding exec_bytes
exec_bytes_none code a n e = rw (exec_bytes, e) refl

exec_bytes_some : (code : ℕ → Option ℕ) (a n y : ℕ) → code a ≡ Some y → exec_bytes code a (suc n) ≡ y ∷ exec_bytes code (a + 1) n
unfolding exec_bytes
exec_bytes_some code a n y e = rw (exec_bytes, e) refl

-- fewer bytes are a front of more
exec_bytes_front : (code : ℕ → Option ℕ) (n m a : ℕ) → n ≤ m → take n (exec_bytes code a m) ≡ exec_bytes code a n
exec_bytes_front code zero m a h = unfold exec_bytes in refl
exec_bytes_front code (suc n) zero a h = absurd (omega arith)
exec_bytes_front code (suc n) (suc m) a h = go (code a) refl (exec_bytes_front code n m (a + 1) (omega arith))
  where
    go : (o : Option ℕ) → code a ≡ o → take n (exec_bytes code (a + 1) m) ≡ exec_bytes code (a + 1) n → take (suc n) (exec_bytes code a (suc m)) ≡ exec_bytes code a (suc n)
    go None e rec = ap (take (suc n)) (exec_bytes_none code a m e) ∙ sym (exec_bytes_none code a n e)
    go (Some y) e rec = ap (take (suc n)) (exec_bytes_some code a m y e) ∙ ap (λ (r : List ℕ). y ∷ r) rec ∙ sym (exec_bytes_some code a n y e)

-- what stands from an address on is read there
pub bytes_stand : (code : ℕ → Option ℕ) (bytes : List ℕ) (p n : ℕ) → length bytes ≤ n → ((k : ℕ) → k < length bytes → code (p + k) ≡ Some (slice_index bytes k)) → take (length bytes) (exec_bytes code p n) ≡ bytes
bytes_stand code [] p n h at = refl
bytes_stand code (y ∷ ys) p zero h at = absurd (omega arith)
bytes_stand code (y ∷ ys) p (suc n) h at =
    let here : code p ≡ Some y = subst (λ a. code a ≡ Some y) (add-zero p) (at 0 (omega arith)) in
    let later : (k : ℕ) → k < length ys → code (p + 1 + k) ≡ Some (slice_index ys k) = λ k l. let e : p + suc k ≡ p + 1 + k = omega arith in subst (λ a. code a ≡ Some (slice_index ys k)) e (at (suc k) (omega arith)) in
    ap (take (suc (length ys))) (exec_bytes_some code p n y here) ∙ ap (λ (r : List ℕ). y ∷ r) (bytes_stand code ys (p + 1) n (omega arith) later)

-- ---- fetching

-- an instruction stands at an address, with its length
pub record IsFound (code : ℕ → Option ℕ) (a : ℕ) (i : Insn) (n : ℕ) : Type 0 where
  pub first : (y : ℕ) × (code a ≡ Some y)
  pub reads : decoded (exec_bytes code a 15) ≡ Some (i, n)

found_parts : (i j : Insn) (n m : ℕ) → Found j m ≡ Found i n → (j ≡ i) × (m ≡ n)
found_parts i j n m e = (ap insn_in e, ap len_in e)
  where
    insn_in : Fetched → Insn
    insn_in Absent = i
    insn_in (Found k l) = k
    insn_in Unknown = i

    len_in : Fetched → ℕ
    len_in Absent = n
    len_in (Found k l) = l
    len_in Unknown = n

pub is_found : (code : ℕ → Option ℕ) (a : ℕ) (i : Insn) (n : ℕ) → fetch_in code a ≡ Found i n → IsFound code a i n
unfolding fetch_in
is_found code a i n h = go (code a) (decoded (exec_bytes code a 15)) refl refl h
  where
    go : (y : Option ℕ) (d : Option (Insn × ℕ)) → code a ≡ y → decoded (exec_bytes code a 15) ≡ d → fetched y d ≡ Found i n → IsFound code a i n
    go None d e p q = absurd (grind arith)
    go (Some y) None e p q = absurd (grind arith)
    go (Some y) (Some d) e p q = let parts = found_parts i d.0 n d.1 q in record { first = (y, e); reads = p ∙ (λ t. Some (parts.0 t, parts.1 t)) }

pub from_found : (code : ℕ → Option ℕ) (a : ℕ) (i : Insn) (n : ℕ) → IsFound code a i n → fetch_in code a ≡ Found i n
unfolding fetch_in
from_found code a i n h = ap₂ fetched h.first.1 h.reads

pub found_pos : (code : ℕ → Option ℕ) (a : ℕ) (i : Insn) (n : ℕ) → IsFound code a i n → 0 < n
found_pos code a i n h = (decoded_bounds _ i n h.reads).0

pub found_most : (code : ℕ → Option ℕ) (a : ℕ) (i : Insn) (n : ℕ) → IsFound code a i n → n ≤ 15
found_most code a i n h = (decoded_bounds _ i n h.reads).1

-- all of an instruction's bytes stand there
pub found_len : (code : ℕ → Option ℕ) (a : ℕ) (i : Insn) (n : ℕ) → IsFound code a i n → length (exec_bytes code a n) ≡ n
found_len code a i n h =
    let w = decoded_bounds (exec_bytes code a 15) i n h.reads in
    ap length (sym (exec_bytes_front code n 15 a w.1)) ∙ length-take-le n (exec_bytes code a 15) w.2

-- and spell it
pub found_spelled : (code : ℕ → Option ℕ) (a : ℕ) (i : Insn) (n : ℕ) → IsFound code a i n → spelled (exec_bytes code a n) ≡ Some i
found_spelled code a i n h =
    let w = decoded_bounds (exec_bytes code a 15) i n h.reads in
    ap spelled (sym (exec_bytes_front code n 15 a w.1)) ∙ w.3

-- the same bytes elsewhere are the same instruction
pub found_copied : (code other : ℕ → Option ℕ) (a p : ℕ) (i : Insn) (n : ℕ) → IsFound code a i n → ((k : ℕ) → k < n → other (p + k) ≡ Some (slice_index (exec_bytes code a n) k)) → fetch_in other p ≡ Found i n
found_copied code other a p i n h at =
    let len = found_len code a i n h in
    let stand = bytes_stand other (exec_bytes code a n) p 15 (omega (arith, len, found_most code a i n h)) (λ k l. at k (omega (arith, len))) in
    let same : take n (exec_bytes other p 15) ≡ take n (exec_bytes code a 15) = subst (λ l. take l (exec_bytes other p 15) ≡ exec_bytes code a n) len stand ∙ sym (exec_bytes_front code n 15 a (found_most code a i n h)) in
    let first : other p ≡ Some (slice_index (exec_bytes code a n) 0) = subst (λ q. other q ≡ Some (slice_index (exec_bytes code a n) 0)) (add-zero p) (at 0 (found_pos code a i n h)) in
    from_found other p i n (record { first = (_, first); reads = decoded_alike (exec_bytes code a 15) (exec_bytes other p 15) i n h.reads same })

-- a spelling that stands at an address is fetched there
pub spelled_found : (code : ℕ → Option ℕ) (a : ℕ) (x : List ℕ) (i : Insn) → spelled x ≡ Some i → ((k : ℕ) → k < length x → code (a + k) ≡ Some (slice_index x k)) → fetch_in code a ≡ Found i (length x)
spelled_found code a [] i e at = absurd (none-some i (sym no_bytes ∙ e))
spelled_found code a (y ∷ ys) i e at =
    let x : List ℕ = y ∷ ys in
    let stand = bytes_stand code x a 15 (limited_of x i e).limit at in
    let first : code a ≡ Some y = subst (λ p. code p ≡ Some y) (add-zero a) (at 0 (omega arith)) in
    let long : length x ≤ length (exec_bytes code a 15) = omega (arith, ap length stand, length-take {A = ℕ} (length x) (exec_bytes code a 15)) in
    from_found code a i (length x) (record { first = (y, first); reads = decoded_of (length x) (exec_bytes code a 15) i (ap spelled stand ∙ e) long })

pub standing_fetched : (m : Memory) (a : ℕ) (x : List ℕ) (i : Insn) → spelled x ≡ Some i → Stands m a x → fetch m a ≡ Found i (length x)
standing_fetched m a x i e s = spelled_found (exec_byte m) a x i e s.byte

-- ---- what stands, in two parts

pub stands_front : (m : Memory) (at : ℕ) (xs ys : List ℕ) → Stands m at (xs ++ ys) → Stands m at xs
stands_front m at xs ys s = record {
  byte = λ k h. s.byte k (omega (arith, length-append xs ys)) ∙ ap Some (get_or_append_left xs ys 0 k h);
  low = omega (arith, s.low, length-append xs ys);
}

pub stands_back : (m : Memory) (at : ℕ) (xs ys : List ℕ) → Stands m at (xs ++ ys) → Stands m (at + length xs) ys
stands_back m at xs ys s = record {
  byte = λ k h.
      let place : at + (length xs + k) ≡ at + length xs + k = omega arith in
      subst (λ a. exec_byte m a ≡ Some (slice_index ys k)) place (s.byte (length xs + k) (omega (arith, length-append xs ys)) ∙ ap Some (get_or-append-add xs ys k 0));
  low = omega (arith, s.low, length-append xs ys);
}
