-- The bytes of pieces, part by part.
use Rattle.std.proofs.Common.{◌≡◌, ℕ, zero, suc, ◌+◌, ◌/◌, ◌%◌, ◌^◌, List, [], ◌∷◌, ◌++◌, refl, ap, ◌∙◌, arith, append_assoc, append-nil}
use Rattle.std.specs.List.{concat}
use Rattle.mv_base.specs.Bytes.{word}
use Rattle.mv_base.specs.Memory.{address_after}
use Rattle.step_laws.specs.Jumps.{jump_bytes}
use Rattle.call_rewrite.specs.Far.{keep_eax, take_eax, pop_bytes, drop_bytes, via_parts, return_parts}

-- the low four bytes of a sum are those of the sum modulo 2^32
word_of_sum : (n : ℕ) → word (n % 2 ^ 32) ≡ word n
unfolding word
word_of_sum n =
    let a : n % 2 ^ 32 % 256 ≡ n % 256 = omega arith in
    let b : n % 2 ^ 32 / 256 % 256 ≡ n / 256 % 256 = omega arith in
    let c : n % 2 ^ 32 / 65536 % 256 ≡ n / 65536 % 256 = omega arith in
    let d : n % 2 ^ 32 / 16777216 % 256 ≡ n / 16777216 % 256 = omega arith in
    λ i. a i ∷ b i ∷ c i ∷ d i ∷ []

keep_sum : (n : ℕ) → keep_eax (n % 2 ^ 32) ≡ keep_eax n
keep_sum n = ap (λ (s : List ℕ). 0xA3 ∷ s) (word_of_sum n)

pop_sum : (n : ℕ) → pop_bytes (n % 2 ^ 32) ≡ pop_bytes n
pop_sum n = ap (λ (s : List ℕ). 0x8F ∷ 0x05 ∷ s) (word_of_sum n)

pub via_joined : (load : List ℕ) (p : ℕ) → ((keep_eax p ++ load) ++ keep_eax ((p + 4) % 2 ^ 32)) ++ take_eax p ≡ concat (via_parts load p)
via_joined load p = ap (λ (s : List ℕ). ((keep_eax p ++ load) ++ s) ++ take_eax p) (keep_sum (p + 4)) ∙ simp (append_assoc {A = ℕ}, append-nil {A = ℕ})

pub return_none : (n here stub p : ℕ) → n ≡ 0 → pop_bytes ((p + 4) % 2 ^ 32) ++ jump_bytes (address_after here 6) stub ≡ concat (return_parts n here stub p)
return_none zero here stub p e = ap (λ (s : List ℕ). s ++ jump_bytes (address_after here 6) stub) (pop_sum (p + 4)) ∙ simp (append-nil {A = ℕ})
return_none (suc n) here stub p e = absurd (cc e)

pub return_some : (n here stub p : ℕ) → (n ≡ 0 → ⊥) → (pop_bytes ((p + 4) % 2 ^ 32) ++ drop_bytes n) ++ jump_bytes (address_after here 13) stub ≡ concat (return_parts n here stub p)
return_some zero here stub p above = absurd (above refl)
return_some (suc n) here stub p above = ap (λ (s : List ℕ). (s ++ drop_bytes (suc n)) ++ jump_bytes (address_after here 13) stub) (pop_sum (p + 4)) ∙ simp (append_assoc {A = ℕ}, append-nil {A = ℕ})
