-- A word that is turned, and a word that is filled from another: the code joins two parts by `|`.
use Rattle.std.proofs.Common.{◌≡◌, ℕ, ◌+◌, ◌-◌, ◌*◌, ◌/◌, ◌%◌, ◌^◌, ◌<◌, ◌≤◌, bit_or, arith, ◌∙◌, subst}
use Rattle.std.proofs.lemmas.Nat.{pow_pos, pow-add, one_shl, mod_below, shl_whole, shr_below, or_shifted, or_comm, mul-add-lt, mod-pow-add, mod_low, shl-shr}

-- the parts of a word of s + low bits
pub turned : (m s low x : ℕ) → m ≡ s + low → m ≤ 33 → x < 2 ^ m → bit_or (x % (1 * 2 ^ low % 2 ^ 64) * 2 ^ s % 2 ^ 64) (x / 2 ^ low) ≡ x % 2 ^ low * 2 ^ s + x / 2 ^ low
turned m s low x e at_most fits =
    let one : 1 * 2 ^ low % 2 ^ 64 ≡ 2 ^ low = one_shl low 64 (omega arith) in
    let below : x % 2 ^ low < 2 ^ low = mod_below x (2 ^ low) (pow_pos low) in
    let whole : x % 2 ^ low * 2 ^ s % 2 ^ 64 ≡ x % 2 ^ low * 2 ^ s = shl_whole (x % 2 ^ low) low s 64 below (omega arith) in
    let fits' : x < 2 ^ (s + low) = rw (← e) fits in
    let high : x / 2 ^ low < 2 ^ s = shr_below x s low fits' in
    rw (one, whole) (or_shifted (x % 2 ^ low) s (x / 2 ^ low) high)

pub turned_below : (m s low x : ℕ) → m ≡ s + low → x < 2 ^ m → x % 2 ^ low * 2 ^ s + x / 2 ^ low < 2 ^ m
turned_below m s low x e fits =
    let below : x % 2 ^ low < 2 ^ low = mod_below x (2 ^ low) (pow_pos low) in
    let fits' : x < 2 ^ (s + low) = rw (← e) fits in
    let high : x / 2 ^ low < 2 ^ s = shr_below x s low fits' in
    rw (e, pow-add 2 s low) (mul-add-lt (x % 2 ^ low) (2 ^ s) (x / 2 ^ low) (2 ^ low) below high)

-- a shift to the left drops the top bits
shifted_low : (m a n low : ℕ) → m ≡ low + n → a * 2 ^ n % 2 ^ m ≡ a % 2 ^ low * 2 ^ n
shifted_low m a n low e =
    let split : a * 2 ^ n % 2 ^ (low + n) ≡ (a * 2 ^ n / 2 ^ n % 2 ^ low) * 2 ^ n + a * 2 ^ n % 2 ^ n = mod-pow-add (a * 2 ^ n) low n in
    let none : a * 2 ^ n % 2 ^ n ≡ 0 = grind (arith, mod_low a n 0 (pow_pos n)) in
    rw e (rw (shl-shr a n, none) at split ∙ omega arith)

pub filled_left : (a b n : ℕ) → n < 32 → b < 2 ^ 32 → bit_or (a * 2 ^ n % 2 ^ 32) (b / 2 ^ (32 - n)) ≡ a * 2 ^ n % 2 ^ 32 + b / 2 ^ (32 - n)
filled_left a b n h fits =
    let e : 32 ≡ (32 - n) + n = omega arith in
    let low : a * 2 ^ n % 2 ^ 32 ≡ a % 2 ^ (32 - n) * 2 ^ n = shifted_low 32 a n (32 - n) e in
    let fits' : b < 2 ^ (n + (32 - n)) = subst (λ k. b < 2 ^ k) (let e' : 32 ≡ n + (32 - n) = omega arith in e') fits in
    rw low (or_shifted (a % 2 ^ (32 - n)) n (b / 2 ^ (32 - n)) (shr_below b n (32 - n) fits'))

pub filled_right : (a b n : ℕ) → n < 32 → a < 2 ^ 32 → bit_or (a / 2 ^ n) (b * 2 ^ (32 - n) % 2 ^ 32) ≡ a / 2 ^ n + b % 2 ^ n * 2 ^ (32 - n)
filled_right a b n h fits =
    let e : 32 ≡ n + (32 - n) = omega arith in
    let low : b * 2 ^ (32 - n) % 2 ^ 32 ≡ b % 2 ^ n * 2 ^ (32 - n) = shifted_low 32 b (32 - n) n e in
    let fits' : a < 2 ^ ((32 - n) + n) = subst (λ k. a < 2 ^ k) (let e' : 32 ≡ (32 - n) + n = omega arith in e') fits in
    let joined : bit_or (b % 2 ^ n * 2 ^ (32 - n)) (a / 2 ^ n) ≡ b % 2 ^ n * 2 ^ (32 - n) + a / 2 ^ n = or_shifted (b % 2 ^ n) (32 - n) (a / 2 ^ n) (shr_below a (32 - n) n fits') in
    rw low (or_comm (a / 2 ^ n) (b % 2 ^ n * 2 ^ (32 - n)) ∙ (joined ∙ omega arith))
