-- Bytes of a list, and prefixes at its front, one after the other.
use Rattle.std.proofs.Common.{◌≡◌, ◌≢◌, ℕ, zero, suc, ◌+◌, ◌<◌, ◌≤◌, Bool, true, false, ◌||◌, List, [], ◌∷◌, length, get_or, drop, refl, sym, ◌∙◌, ap, arith, drop-cons, drop_of_length-le}
use Rattle.std.proofs.lemmas.Bool.{eq-eqb}
use Rattle.std.specs.Prelude.{nat_eq}
use Rattle.std.proofs.lemmas.Bool.Decides.{nat_tests}
use Rattle.x86_insn.specs.Prefixes.{is_among, is_prefix}
use Rattle.x86_insn.specs.Spelling.{front}

or_true : (b : Bool) → (b || true) ≡ true
or_true true = refl
or_true false = refl

-- a byte that stands in a list
pub among_at : (xs : List ℕ) (k d b : ℕ) → k < length xs → b ≡ get_or xs k d → is_among xs b ≡ true
among_at [] k d b h e = absurd (omega arith)
among_at (x ∷ xs) zero d b h e = ap (λ v. v || is_among xs b) (eq-eqb b x e)
among_at (x ∷ xs) (suc k) d b h e = ap (λ v. nat_eq b x || v) (among_at xs k d b (omega arith) e) ∙ or_true (nat_eq b x)

other_first : (x b : ℕ) (xs : List ℕ) → b ≢ x → is_among (x ∷ xs) b ≡ is_among xs b
other_first x b xs h = grind (arith, nat_tests)

-- one byte less to look at
pub among_step : (xs : List ℕ) (k d b : ℕ) (v : Bool) → k < length xs → b ≢ get_or xs k d → is_among (drop k xs) b ≡ v → is_among (drop (k + 1) xs) b ≡ v
among_step xs k d b v h n e =
    let next : suc k ≡ k + 1 = omega arith in
    ap (λ (j : ℕ). is_among (drop j xs) b) (sym next) ∙ sym (other_first (get_or xs k d) b (drop (suc k) xs) n) ∙ ap (λ (l : List ℕ). is_among l b) (sym (drop-cons xs k d h)) ∙ e

pub among_end : (xs : List ℕ) (k b : ℕ) (v : Bool) → length xs ≤ k → is_among (drop k xs) b ≡ v → false ≡ v
among_end xs k b v h e = ap (λ (l : List ℕ). is_among l b) (sym (drop_of_length-le xs h)) ∙ e

-- a byte more that is a prefix
front_first : (x : ℕ) (xs : List ℕ) → is_prefix x ≡ true → length (front (x ∷ xs)) ≡ suc (length (front xs))
front_first x xs e = ap (λ (v : Bool). length (elim v as (λ _. List ℕ) [ true ↦ x ∷ front xs | false ↦ [] ])) e

front_stop : (x : ℕ) (xs : List ℕ) → is_prefix x ≡ false → length (front (x ∷ xs)) ≡ 0
front_stop x xs e = ap (λ (v : Bool). length (elim v as (λ _. List ℕ) [ true ↦ x ∷ front xs | false ↦ [] ])) e

pub front_step : (xs : List ℕ) (k d n : ℕ) → k < length xs → is_prefix (get_or xs k d) ≡ true → k + length (front (drop k xs)) ≡ n → k + 1 + length (front (drop (k + 1) xs)) ≡ n
front_step xs k d n h e f =
    let next : suc k ≡ k + 1 = omega arith in
    let here : length (front (drop k xs)) ≡ suc (length (front (drop (suc k) xs))) = ap (λ (l : List ℕ). length (front l)) (drop-cons xs k d h) ∙ front_first (get_or xs k d) (drop (suc k) xs) e in
    let there : length (front (drop (suc k) xs)) ≡ length (front (drop (k + 1) xs)) = ap (λ (j : ℕ). length (front (drop j xs))) next in
    omega (arith, here, there, f)

pub front_end : (xs : List ℕ) (k n : ℕ) → length xs ≤ k → k + length (front (drop k xs)) ≡ n → k ≡ n
front_end xs k n h f =
    let e : length (front (drop k xs)) ≡ 0 = ap (λ (l : List ℕ). length (front l)) (drop_of_length-le xs h) in
    omega (arith, e, f)

pub front_other : (xs : List ℕ) (k d n : ℕ) → k < length xs → is_prefix (get_or xs k d) ≡ false → k + length (front (drop k xs)) ≡ n → k ≡ n
front_other xs k d n h e f =
    let here : length (front (drop k xs)) ≡ 0 = ap (λ (l : List ℕ). length (front l)) (drop-cons xs k d h) ∙ front_stop (get_or xs k d) (drop (suc k) xs) e in
    omega (arith, here, f)
