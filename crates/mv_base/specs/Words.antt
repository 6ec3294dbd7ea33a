-- What holds of numbers that are spelled as four bytes each.
use Rattle.std.specs.Prelude.{◌≡◌, ℕ, zero, suc, ◌+◌, ◌*◌, ◌^◌, ◌<◌, List, [], ◌∷◌, ◌++◌, length}
use Rattle.std.proofs.Common.{get_or, drop, refl, ap, ◌∙◌, arith}
use Rattle.std.proofs.lemmas.List.{length-append}
use Rattle.std.proofs.Math.Seq.{drop-append-add}
use Rattle.std.proofs.lemmas.List.Concat.{flat_map-append}
use Rattle.byteorder.specs.Endian.{little_bytes, little_number}
use Rattle.byteorder.specs.Numbers.{little_number-reads_back, length-bytes_low_first}
use Rattle.mv_base.specs.Bytes.{word_at, words}

pub length-words : (ns : List ℕ) → length (words ns) ≡ 4 * length ns
unfolding words
length-words [] = refl
length-words (n ∷ ns) =
    let one = length-bytes_low_first 0 4 n in
    omega (arith, length-append (little_bytes 4 n) (words ns), length-words ns)

-- the k-th of some words
pub word_at-words : (ns : List ℕ) (k : ℕ) → k < length ns → get_or ns k 0 < 2 ^ 32 → word_at (words ns) (4 * k) ≡ get_or ns k 0
unfolding words word_at
word_at-words [] k lt fits = absurd (omega arith)
word_at-words (n ∷ ns) zero lt fits = little_number-reads_back 4 n (words ns) fits
word_at-words (n ∷ ns) (suc k) lt fits =
    let e : 4 * suc k ≡ length (little_bytes 4 n) + 4 * k = omega (arith, length-bytes_low_first 0 4 n) in
    ap (λ p. little_number 4 (drop p (little_bytes 4 n ++ words ns))) e
    ∙ ap (λ (xs : List ℕ). little_number 4 xs) (drop-append-add (little_bytes 4 n) (words ns) (4 * k))
    ∙ word_at-words ns k (omega arith) fits

pub words-append : (ms ns : List ℕ) → words (ms ++ ns) ≡ words ms ++ words ns
unfolding words
words-append ms ns = flat_map-append (little_bytes 4) ms ns
