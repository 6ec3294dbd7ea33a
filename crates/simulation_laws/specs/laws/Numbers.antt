-- Bytes and the number that they spell.
use Rattle.std.proofs.Common.{◌≡◌, ℕ, zero, suc, ◌+◌, ◌*◌, ◌/◌, ◌%◌, ◌^◌, ◌<◌, List, [], ◌∷◌, length, Option, Some, None, refl, sym, ap, ap₂, ◌∙◌, subst, arith}
use Rattle.std.proofs.Math.Nat.{div-div-eq-div-mul, div-one, mul_comm, pow-suc}
use Rattle.std.specs.Int.{byte_at, bytes_low_first}
use Rattle.byteorder.specs.Endian.{little_from, little_bytes}
use Rattle.byteorder.specs.Numbers.{little_from-cons, little_from-lt, little_number-reads_back}
use Rattle.mv_base.specs.Bytes.{AreBytes, number}
use Rattle.mv_base.specs.Memory.{Cell, Memory, IsMemory, address_after, byte_of, bytes_at}

-- ---- a number of the bytes that it has

shifted : (n i : ℕ) → n / 256 ^ suc i ≡ n / 256 / 256 ^ i
shifted n i = ap (λ (p : ℕ). n / p) (pow-suc 256 i ∙ mul_comm (256 ^ i) 256) ∙ sym (div-div-eq-div-mul n 256 (256 ^ i))

byte_shift : (j n : ℕ) → byte_at (suc j) n ≡ byte_at j (n / 256)
byte_shift zero n = ap (λ (m : ℕ). m % 256) (shifted n 0 ∙ div-one (n / 256))
byte_shift (suc j) n = ap (λ (m : ℕ). m % 256) (shifted n (suc j))

bytes_shift : (k j n : ℕ) → bytes_low_first (suc j) k n ≡ bytes_low_first j k (n / 256)
bytes_shift zero j n = refl
bytes_shift (suc k) j n = λ i. byte_shift j n i ∷ bytes_shift k (suc j) n i

bytes_back : (xs : List ℕ) → AreBytes xs → bytes_low_first 0 (length xs) (little_from 0 (length xs) xs) ≡ xs
bytes_back [] h = refl
bytes_back (a ∷ xs) h =
    let m = little_from 0 (length xs) xs in
    let value : little_from 0 (suc (length xs)) (a ∷ xs) ≡ a + 256 * m = ap (λ (r : ℕ). a + 256 * r) (little_from-cons 0 (length xs) a xs) in
    let low : a < 256 = h 0 in
    let first : (a + 256 * m) % 256 ≡ a = omega (arith, low) in
    let above : (a + 256 * m) / 256 ≡ m = omega (arith, low) in
    let rest = bytes_shift (length xs) 0 (a + 256 * m) ∙ ap (bytes_low_first 0 (length xs)) above ∙ bytes_back xs (λ k. h (suc k)) in
    ap (bytes_low_first 0 (suc (length xs))) value ∙ (λ i. first i ∷ rest i)

-- ---- eight bytes of memory

-- cells that are the same have the same bytes
pub bytes_same : (m u : Memory) (n a : ℕ) → a < 2 ^ 32 → ((k : ℕ) → k < n → u (address_after a k) ≡ m (address_after a k)) → bytes_at u a n ≡ bytes_at m a n
unfolding bytes_at
bytes_same m u zero a low same = refl
bytes_same m u (suc n) a low same =
    let here : address_after a 0 ≡ a = omega arith in
    let later : (k : ℕ) → address_after a (suc k) ≡ address_after (address_after a 1) k = λ k. omega arith in
    ap₂ (λ (b : ℕ) (r : List ℕ). b ∷ r)
    (ap byte_of (subst (λ y. u y ≡ m y) here (same 0 (omega arith))))
    (bytes_same m u n (address_after a 1) (omega arith) (λ k l. subst (λ y. u y ≡ m y) (later k) (same (suc k) (omega arith))))

byte_fits : (m : Memory) → IsMemory m → (a : ℕ) → byte_of (m a) < 256
byte_fits m h a = go (m a) refl
  where
    go : (c : Option Cell) → m a ≡ c → byte_of c < 256
    go None e = omega arith
    go (Some c) e = h.bytes a c e

are_bytes : (m : Memory) → IsMemory m → (n a : ℕ) → AreBytes (bytes_at m a n)
unfolding bytes_at
are_bytes m h zero a k = omega arith
are_bytes m h (suc n) a zero = byte_fits m h a
are_bytes m h (suc n) a (suc k) = are_bytes m h n (address_after a 1) k

-- eight bytes are those of their number, which is below 2^64
pub eight_are : (m : Memory) → IsMemory m → (a : ℕ) → bytes_at m a 8 ≡ little_bytes 8 (number (bytes_at m a 8))
unfolding bytes_at number
eight_are m h a = sym (bytes_back (bytes_at m a 8) (are_bytes m h 8 a))

pub eight_low : (m : Memory) → IsMemory m → (a : ℕ) → number (bytes_at m a 8) < 2 ^ 64
unfolding bytes_at number
eight_low m h a = little_from-lt 0 8 (bytes_at m a 8) (are_bytes m h 8 a)

-- and the bytes of a number spell it
pub spell_back : (n : ℕ) → n < 2 ^ 64 → number (little_bytes 8 n) ≡ n
unfolding number
spell_back n low = little_number-reads_back 8 n [] low

-- bytes that are 0 spell 0
pub zeros_spell : (m : Memory) (a : ℕ) → a < 2 ^ 32 → ((k : ℕ) → k < 8 → byte_of (m (address_after a k)) ≡ 0) → number (bytes_at m a 8) ≡ 0
unfolding bytes_at number
zeros_spell m a low zeros = ap (λ (l : List ℕ). number l) (go 8 a low zeros)
  where
    none : ℕ → List ℕ
    none zero = []
    none (suc n) = 0 ∷ none n

    go : (n a : ℕ) → a < 2 ^ 32 → ((k : ℕ) → k < n → byte_of (m (address_after a k)) ≡ 0) → bytes_at m a n ≡ none n
    go zero a low zeros = refl
    go (suc n) a low zeros =
        let here : address_after a 0 ≡ a = omega arith in
        let later : (k : ℕ) → address_after a (suc k) ≡ address_after (address_after a 1) k = λ k. omega arith in
        ap₂ (λ (b : ℕ) (r : List ℕ). b ∷ r)
        (subst (λ y. byte_of (m y) ≡ 0) here (zeros 0 (omega arith)))
        (go n (address_after a 1) (omega arith) (λ k l. subst (λ y. byte_of (m y) ≡ 0) (later k) (zeros (suc k) (omega arith))))
