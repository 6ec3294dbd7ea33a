-- Eight bytes as two words.
use Rattle.std.proofs.Common.{◌≡◌, ℕ, ◌+◌, ◌/◌, ◌%◌, ◌^◌, ◌<◌, List, [], ◌∷◌, ◌++◌, take, drop, refl, sym, ap, ◌∙◌, arith}
use Rattle.std.specs.Int.{w32, to_le_bytes}
use Rattle.byteorder.specs.Endian.{little_bytes}
use Rattle.mv_base.specs.Bytes.{word}
use Rattle.mv_base.specs.Memory.{Memory, address_after, bytes_at}

-- the low four bytes of a sum are those of the sum modulo 2^32
word_of_sum : (n : ℕ) → word (n % 2 ^ 32) ≡ word n
unfolding word
word_of_sum n =
    let a : n % 2 ^ 32 % 256 ≡ n % 256 = omega arith in
    let b : n % 2 ^ 32 / 256 % 256 ≡ n / 256 % 256 = omega arith in
    let c : n % 2 ^ 32 / 65536 % 256 ≡ n / 65536 % 256 = omega arith in
    let d : n % 2 ^ 32 / 16777216 % 256 ≡ n / 16777216 % 256 = omega arith in
    λ i. a i ∷ b i ∷ c i ∷ d i ∷ []

-- as the code has them
pub word_is : (bytes : List ℕ) (n m : ℕ) → bytes ≡ to_le_bytes w32 m → m ≡ n % 2 ^ 32 → bytes ≡ word n
word_is bytes n m e sum = e ∙ ap (to_le_bytes w32) sum ∙ unfold word in word_of_sum n

-- a number of eight bytes: its low word and then its high one
pub two_words : (n : ℕ) → little_bytes 8 n ≡ word (n % 2 ^ 32) ++ word (n / 2 ^ 32)
unfolding word
two_words n =
    let a : n % 256 ≡ n % 2 ^ 32 % 256 = omega arith in
    let b : n / 256 % 256 ≡ n % 2 ^ 32 / 256 % 256 = omega arith in
    let c : n / 65536 % 256 ≡ n % 2 ^ 32 / 65536 % 256 = omega arith in
    let d : n / 16777216 % 256 ≡ n % 2 ^ 32 / 16777216 % 256 = omega arith in
    let e : n / 4294967296 % 256 ≡ n / 2 ^ 32 % 256 = refl in
    let f : n / 1099511627776 % 256 ≡ n / 2 ^ 32 / 256 % 256 = omega arith in
    let g : n / 281474976710656 % 256 ≡ n / 2 ^ 32 / 65536 % 256 = omega arith in
    let h : n / 72057594037927936 % 256 ≡ n / 2 ^ 32 / 16777216 % 256 = omega arith in
    λ i. a i ∷ b i ∷ c i ∷ d i ∷ e i ∷ f i ∷ g i ∷ h i ∷ []

-- eight bytes of memory: four, and the four behind them
pub two_reads : (m : Memory) (k : ℕ) → k + 8 < 2 ^ 32 → bytes_at m k 8 ≡ bytes_at m k 4 ++ bytes_at m (k + 4) 4
unfolding bytes_at
two_reads m k low =
    let there : address_after (address_after (address_after (address_after k 1) 1) 1) 1 ≡ k + 4 = omega arith in
    ap (λ (a : ℕ). bytes_at m k 4 ++ bytes_at m a 4) there

-- the words of a counter in memory
pub low_word : (m : Memory) (k n : ℕ) → k + 8 < 2 ^ 32 → bytes_at m k 8 ≡ little_bytes 8 n → bytes_at m k 4 ≡ word (n % 2 ^ 32)
unfolding bytes_at word
low_word m k n low h = ap (take 4) (sym (two_reads m k low) ∙ h ∙ two_words n)

pub high_word : (m : Memory) (k n : ℕ) → k + 8 < 2 ^ 32 → bytes_at m k 8 ≡ little_bytes 8 n → bytes_at m (k + 4) 4 ≡ word (n / 2 ^ 32)
unfolding bytes_at word
high_word m k n low h = ap (drop 4) (sym (two_reads m k low) ∙ h ∙ two_words n)

-- and back
pub both_words : (m : Memory) (k n lo hi : ℕ) → k + 8 < 2 ^ 32 → bytes_at m k 4 ≡ word lo → bytes_at m (k + 4) 4 ≡ word hi → lo ≡ n % 2 ^ 32 → hi ≡ n / 2 ^ 32 → bytes_at m k 8 ≡ little_bytes 8 n
both_words m k n lo hi low a b p q = two_reads m k low ∙ (λ i. (a ∙ ap word p) i ++ (b ∙ ap word q) i) ∙ sym (two_words n)
