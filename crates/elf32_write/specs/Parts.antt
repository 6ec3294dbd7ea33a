-- Which bytes stand at a place of a list, and the numbers there.
use Rattle.std.proofs.Common.{◌≡◌, ℕ, ◌+◌, ◌-◌, ◌*◌, ◌^◌, ◌<◌, ◌≤◌, List, [], ◌∷◌, ◌++◌, length, get_or, drop, map, refl, sym, ap, ◌∙◌, subst, arith}
use Rattle.std.specs.Prelude.{slice_index, replicate}
use Rattle.std.specs.List.{flat_map, range_with_len, AllByRecursion}
use Rattle.std.proofs.lemmas.List.{length-append, length-replicate, get_or_append_left, get_or-append-add, get_or-drop}
use Rattle.mv_base.specs.Bytes.{word_at, half_at, words}
use Rattle.elf32_read.specs.declared.image.Phdr.{Phdr}
use Rattle.elf32_read.specs.Fields.{header_at}
use Rattle.elf32_write.specs.Format.{filled}
use Rattle.elf32_write.specs.File.{header_words}
use Rattle.mv_base.specs.Words.{length-words, word_at-words, words-append}

-- a part stands at a place of a list
pub record Stands (x : List ℕ) (p : ℕ) (part : List ℕ) : Type 0 where
  pub byte : (k : ℕ) → k < length part → slice_index x (p + k) ≡ slice_index part k
  pub room : p + length part ≤ length x

pub stands_whole : (x : List ℕ) → Stands x 0 x
stands_whole x = record { byte = λ k lt. ap (slice_index x) (let e : 0 + k ≡ k = omega arith in e); room = omega arith }

pub stands_left : (x y part : List ℕ) (p : ℕ) → Stands x p part → Stands (x ++ y) p part
stands_left x y part p s = record {
  byte = λ k lt. get_or_append_left x y 0 (p + k) (omega (arith, lt, s.room)) ∙ s.byte k lt;
  room = omega (arith, s.room, length-append x y);
}

pub stands_right : (x y part : List ℕ) (n p : ℕ) → length x ≡ n → Stands y p part → Stands (x ++ y) (n + p) part
stands_right x y part n p len s = record {
  byte = λ k lt.
      let e : n + p + k ≡ length x + (p + k) = omega (arith, len) in
      ap (slice_index (x ++ y)) e ∙ (get_or-append-add x y (p + k) 0 ∙ s.byte k lt);
  room = omega (arith, s.room, len, length-append x y);
}

pub stands_in : (x part sub : List ℕ) (p q : ℕ) → Stands x p part → Stands part q sub → Stands x (p + q) sub
stands_in x part sub p q s t = record {
  byte = λ k lt.
      let e : p + q + k ≡ p + (q + k) = omega arith in
      ap (slice_index x) e ∙ (s.byte (q + k) (omega (arith, lt, t.room)) ∙ t.byte k lt);
  room = omega (arith, s.room, t.room);
}

pub stands_first : (x a b : List ℕ) (p : ℕ) → Stands x p (a ++ b) → Stands x p a
stands_first x a b p s =
    let e : p + 0 ≡ p = omega arith in
    subst (λ n. Stands x n a) e (stands_in x (a ++ b) a p 0 s (stands_left a b a 0 (stands_whole a)))

pub stands_second : (x a b : List ℕ) (p n : ℕ) → length a ≡ n → Stands x p (a ++ b) → Stands x (p + n) b
stands_second x a b p n len s =
    let e : p + (n + 0) ≡ p + n = omega arith in
    subst (λ m. Stands x m b) e (stands_in x (a ++ b) b p (n + 0) s (stands_right a b b n 0 len (stands_whole b)))

-- ---- numbers at a place

pub word_alike : (x y : List ℕ) (p q : ℕ) → ((k : ℕ) → k < 4 → slice_index x (p + k) ≡ slice_index y (q + k)) → word_at x p ≡ word_at y q
unfolding word_at
word_alike x y p q same =
    let at : (k : ℕ) → k < 4 → slice_index (drop p x) k ≡ slice_index (drop q y) k = λ k lt. get_or-drop p x k 0 ∙ (same k lt ∙ sym (get_or-drop q y k 0)) in
    let e0 = at 0 (omega arith) in
    let e1 = at 1 (omega arith) in
    let e2 = at 2 (omega arith) in
    let e3 = at 3 (omega arith) in
    omega (arith, e0, e1, e2, e3)

pub half_alike : (x y : List ℕ) (p q : ℕ) → ((k : ℕ) → k < 2 → slice_index x (p + k) ≡ slice_index y (q + k)) → half_at x p ≡ half_at y q
unfolding half_at
half_alike x y p q same =
    let at : (k : ℕ) → k < 2 → slice_index (drop p x) k ≡ slice_index (drop q y) k = λ k lt. get_or-drop p x k 0 ∙ (same k lt ∙ sym (get_or-drop q y k 0)) in
    let e0 = at 0 (omega arith) in
    let e1 = at 1 (omega arith) in
    omega (arith, e0, e1)

-- the k-th of words that stand at a place
pub word_in : (x ns : List ℕ) (p k : ℕ) → Stands x p (words ns) → k < length ns → get_or ns k 0 < 2 ^ 32 → word_at x (p + 4 * k) ≡ get_or ns k 0
word_in x ns p k s lt fits =
    word_alike x (words ns) (p + 4 * k) (4 * k)
    (λ j below.
    let e : p + 4 * k + j ≡ p + (4 * k + j) = omega arith in
    ap (slice_index x) e ∙ s.byte (4 * k + j) (omega (arith, below, lt, length-words ns)))
    ∙ word_at-words ns k lt fits

-- ---- program headers

-- each field of a header is a number of four bytes
pub record IsHeader (h : Phdr) : Type 0 where
  pub kind : h.kind < 2 ^ 32
  pub offset : h.offset < 2 ^ 32
  pub vaddr : h.vaddr < 2 ^ 32
  pub paddr : h.paddr < 2 ^ 32
  pub filesz : h.filesz < 2 ^ 32
  pub memsz : h.memsz < 2 ^ 32
  pub flags : h.flags < 2 ^ 32
  pub align : h.align < 2 ^ 32

pub header_in : (x : List ℕ) (h : Phdr) (p : ℕ) → Stands x p (words (header_words h)) → IsHeader h → header_at x p ≡ h
unfolding header_at
header_in x h p s is =
    let at : (k : ℕ) → k < 8 → get_or (header_words h) k 0 < 2 ^ 32 → word_at x (p + 4 * k) ≡ get_or (header_words h) k 0 = λ k lt fits. word_in x (header_words h) p k s lt fits in
    let first : word_at x p ≡ h.kind = ap (word_at x) (let e : p ≡ p + 4 * 0 = omega arith in e) ∙ at 0 (omega arith) is.kind in
    let e1 = at 1 (omega arith) is.offset in
    let e2 = at 2 (omega arith) is.vaddr in
    let e3 = at 3 (omega arith) is.paddr in
    let e4 = at 4 (omega arith) is.filesz in
    let e5 = at 5 (omega arith) is.memsz in
    let e6 = at 6 (omega arith) is.flags in
    let e7 = at 7 (omega arith) is.align in
    λ i. record { kind = first i; offset = e1 i; vaddr = e2 i; paddr = e3 i; filesz = e4 i; memsz = e5 i; flags = e6 i; align = e7 i }

pub headers_in : (x : List ℕ) (hs : List Phdr) (p j : ℕ) → Stands x (p + 32 * j) (words (flat_map header_words hs)) → AllByRecursion IsHeader hs
    → map (λ i. header_at x (p + 32 * i)) (range_with_len j (length hs)) ≡ hs
headers_in x [] p j s are = refl
headers_in x (h ∷ hs) p j s are =
    let ws = header_words h in
    let split : words (flat_map header_words (h ∷ hs)) ≡ words ws ++ words (flat_map header_words hs) = words-append ws (flat_map header_words hs) in
    let s' = subst (Stands x (p + 32 * j)) split s in
    let one = header_in x h (p + 32 * j) (stands_first x (words ws) (words (flat_map header_words hs)) (p + 32 * j) s') are.0 in
    let next : p + 32 * j + 32 ≡ p + 32 * (j + 1) = omega arith in
    let rest = headers_in x hs p (j + 1) (subst (λ n. Stands x n (words (flat_map header_words hs))) next (stands_second x (words ws) (words (flat_map header_words hs)) (p + 32 * j) 32 (length-words ws) s')) are.1 in
    λ i. one i ∷ rest i

-- ---- filled lists

pub stands_filled : (n : ℕ) (x : List ℕ) → Stands (filled n x) 0 x
stands_filled n x = stands_left x (replicate (n - length x) 0) x 0 (stands_whole x)

pub length-filled : (n : ℕ) (x : List ℕ) → length x ≤ n → length (filled n x) ≡ n
length-filled n x le = omega (arith, le, length-append x (replicate (n - length x) 0), length-replicate {A = ℕ} (n - length x) 0)
