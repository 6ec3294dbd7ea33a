-- Reading digits and addresses, one after the other.
use Rattle.std.proofs.Common.{◌≡◌, ◌≢◌, ℕ, zero, suc, ◌+◌, ◌<◌, ◌≤◌, ◌==◌, Bool, true, false, List, [], ◌∷◌, ◌++◌, length, drop, take, Option, Some, None, option_map, option_and_then, refl, sym, ap, ◌∙◌, subst, arith, append_assoc, cond}
use Rattle.std.proofs.lemmas.Bool.{ne_eqb, eq-eqb, leb-true}
use Rattle.std.proofs.lemmas.List.{length-take, nil_from_length}
use Rattle.std.proofs.lemmas.Option.{none-some, same_Some, option_and_then_some}
use Rattle.std.specs.Borrow.{Bor}
use Rattle.std.specs.Prelude.{codes, nat_le, slice_index, IfSome, MatchOption}
use Rattle.mv_base.specs.Reading.{hex_value, number_in}
use Rattle.counter_hooks.specs.RuleTexts.{first_of, further, addresses_of, list_text}
use Rattle.std.specs.Str.{bytes_eq}
use Rattle.counter_hooks.specs.Rules.{Ascend}

-- fewer than eight digits are no address
pub first_of-short : (low : ℕ) (text : List ℕ) → length text < 8 → first_of low text ≡ None
unfolding first_of number_in
first_of-short low text short =
    let apart : length (take 8 text) ≢ 8 = omega (arith, length-take 8 text) in
    ap (option_and_then (λ n. cond (nat_le low n) (Some (n, drop 8 text)) None)) (ap (λ b. cond b (hex_value 0 (take 8 text)) None) (ne_eqb (length (take 8 text)) 8 apart))

-- ---- lists

module _ (low : ℕ) (text : List ℕ) where
  pub no-address : (most : ℕ) → first_of low text ≡ None → addresses_of most low text ≡ None
  unfolding addresses_of
  no-address zero is = refl
  no-address (suc most) is = ap (option_and_then (λ (n, text'). option_map (λ more. n ∷ more) (further (addresses_of most (n + 1)) text'))) is

  module _ (n : ℕ) (behind : List ℕ) (is : first_of low text ≡ Some (n, behind)) where
    one-address : (most : ℕ) → addresses_of (suc most) low text ≡ option_map (λ more. n ∷ more) (further (addresses_of most (n + 1)) behind)
    unfolding addresses_of
    one-address most = ap (option_and_then (λ (n, text'). option_map (λ more. n ∷ more) (further (addresses_of most (n + 1)) text'))) is

    -- the last address
    pub last-address : (most : ℕ) → 0 < most → length behind ≡ 0 → addresses_of most low text ≡ Some (n ∷ [])
    last-address zero some none = absurd (omega arith)
    last-address (suc most) some none = one-address most ∙ ap (λ b. option_map (λ more. n ∷ more) (further (addresses_of most (n + 1)) b)) (nil_from_length behind none)

    -- an address, a comma and more
    pub next-address : (most left : ℕ) (c : ℕ) (more : List ℕ) → most ≡ suc left → behind ≡ c ∷ more → c ≡ 44 → addresses_of most low text ≡ option_map (λ more. n ∷ more) (addresses_of left (n + 1) more)
    next-address most left c more one e comma =
        ap (λ k. addresses_of k low text) one
        ∙ one-address left
        ∙ ap (λ b. option_map (λ more. n ∷ more) (further (addresses_of left (n + 1)) b)) e
        ∙ ap (λ b. option_map (λ more. n ∷ more) (cond b (addresses_of left (n + 1) more) None)) (eq-eqb c 44 comma)

    -- an address that something else follows
    pub no-comma : (most : ℕ) (c : ℕ) (more : List ℕ) → behind ≡ c ∷ more → c ≢ 44 → addresses_of most low text ≡ None
    unfolding addresses_of
    no-comma zero c more e other = refl
    no-comma (suc most) c more e other =
        one-address most
        ∙ ap (λ b. option_map (λ more. n ∷ more) (further (addresses_of most (n + 1)) b)) e
        ∙ ap (λ b. option_map (λ more. n ∷ more) (cond b (addresses_of most (n + 1) more) None)) (ne_eqb c 44 other)

-- no address more
pub no-room : (most low : ℕ) (text : List ℕ) → most ≡ 0 → addresses_of most low text ≡ None
unfolding addresses_of
no-room zero low text none = refl
no-room (suc most) low text none = absurd (omega arith)

-- the addresses so far, and one more
pub one-more : (xs : List ℕ) (n : ℕ) (o : Option (List ℕ)) → option_map (λ more. xs ++ more) (option_map (λ more. n ∷ more) o) ≡ option_map (λ more. (xs ++ n ∷ []) ++ more) o
one-more xs n None = refl
one-more xs n (Some more) = ap Some (sym (append_assoc xs (n ∷ []) more))

-- ---- the whole text

module _ (text bytes prefix : List ℕ) (same : bytes ≡ text) (at : prefix ≡ codes "at:") where
  begins-so : bytes_eq (take 3 text) (codes "at:") ≡ bytes_eq (take (length prefix) bytes) prefix
  begins-so = sym (ap (λ p. bytes_eq (take (length p) bytes) p) at ∙ ap (λ t. bytes_eq (take 3 t) (codes "at:")) same)

  pub reads-list : (o : Option (Bor (List ℕ)))
      → MatchOption o (bytes_eq (take (length prefix) bytes) prefix ≡ false) (λ list. (bytes_eq (take (length prefix) bytes) prefix ≡ true) × (list.now ≡ drop (length prefix) bytes) × (length list.now + length prefix ≡ length bytes))
      → option_map (λ list. list.now) o ≡ list_text text
  unfolding list_text
  reads-list None other = sym (ap (λ b. cond b (Some (drop 3 text)) None) (begins-so ∙ other))
  reads-list (Some list) behind =
      ap Some (behind.1 ∙ ap (λ p. drop (length p) bytes) at ∙ ap (drop 3) same)
      ∙ sym (ap (λ b. cond b (Some (drop 3 text)) None) (begins-so ∙ behind.0))

-- ---- order

-- numbers from a bound on, each greater than the one before it
abbrev Rises : ℕ → List ℕ → Type 0
Rises low [] = Unit {0}
Rises low (x ∷ xs) = (low ≤ x) × Rises (x + 1) xs

rises-from : (low : ℕ) (xs : List ℕ) (j : ℕ) → Rises low xs → j < length xs → low ≤ slice_index xs j
rises-from low [] j r l = absurd (omega arith)
rises-from low (x ∷ xs) zero r l = r.0
rises-from low (x ∷ xs) (suc j) r l = let a = r.0 in let b = rises-from (x + 1) xs j r.1 (omega arith) in omega arith

rises-ascend : (low : ℕ) (xs : List ℕ) → Rises low xs → Ascend xs
rises-ascend low [] r i j k l = absurd (omega arith)
rises-ascend low (x ∷ xs) r i zero k l = absurd (omega arith)
rises-ascend low (x ∷ xs) r zero (suc j) k l = let b = rises-from (x + 1) xs j r.1 (omega arith) in omega arith
rises-ascend low (x ∷ xs) r (suc i) (suc j) k l = rises-ascend (x + 1) xs r.1 i j (omega arith) (omega arith)

-- what is read rises
first-low : (low : ℕ) (text : List ℕ) (p : ℕ × List ℕ) → first_of low text ≡ Some p → low ≤ p.0
unfolding first_of
first-low low text p is =
    option_and_then_some (λ n. cond (nat_le low n) (Some (n, drop 8 text)) None) (number_in (take 8 text)) p is (λ n here found. go n (nat_le low n) refl found)
  where
    go : (n : ℕ) (b : Bool) → nat_le low n ≡ b → cond b (Some (n, drop 8 text)) None ≡ Some p → low ≤ p.0
    go n true le found = subst (λ (q : ℕ × List ℕ). low ≤ q.0) (same_Some _ p found) (leb-true low n le)
    go n false le found = absurd (none-some p found)

map-some : {A B : Type 0} (f : A → B) (o : Option A) (y : B) → option_map f o ≡ Some y → (x : A) × (o ≡ Some x) × (f x ≡ y)
map-some f None y e = absurd (none-some y e)
map-some f (Some x) y e = (x, refl, same_Some (f x) y e)

further-some : (list : List ℕ → Option (List ℕ)) (low : ℕ) (text xs : List ℕ) → ((t ys : List ℕ) → list t ≡ Some ys → Rises low ys) → further list text ≡ Some xs → Rises low xs
further-some list low [] xs up e = subst (Rises low) (same_Some [] xs e) record {}
further-some list low (c ∷ text) xs up e = go (c == 44) e
  where
    go : (b : Bool) → cond b (list text) None ≡ Some xs → Rises low xs
    go true found = up text xs found
    go false found = absurd (none-some xs found)

addresses-rise : (most low : ℕ) (text xs : List ℕ) → addresses_of most low text ≡ Some xs → Rises low xs
unfolding addresses_of
addresses-rise zero low text xs e = absurd (none-some xs e)
addresses-rise (suc most) low text xs e =
    option_and_then_some (λ (n, text'). option_map (λ more. n ∷ more) (further (addresses_of most (n + 1)) text')) (first_of low text) xs e (λ p is found.
    let m = map-some (λ more. p.0 ∷ more) (further (addresses_of most (p.0 + 1)) p.1) xs found in
    subst (Rises low) m.2 (first-low low text p is, further-some (addresses_of most (p.0 + 1)) (p.0 + 1) p.1 m.0 (addresses-rise most (p.0 + 1)) m.1))

pub addresses-ascend : (most : ℕ) (text : List ℕ) (found : Option (List ℕ)) → found ≡ addresses_of most 0 text → IfSome found Ascend
addresses-ascend most text None e = record {}
addresses-ascend most text (Some xs) e = rises-ascend 0 xs (addresses-rise most 0 text xs (sym e))
