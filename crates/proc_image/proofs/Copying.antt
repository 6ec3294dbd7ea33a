-- Bytes read and written one after the other. What is left of an access does the same as all of it.
use Rattle.std.proofs.Common.{◌≡◌, ℕ, suc, ◌+◌, ◌-◌, ◌^◌, ◌<◌, ◌≤◌, List, [], ◌∷◌, ◌++◌, length, take, drop, set, slice_index, sym, ap, ◌∙◌, arith, add-one, append_assoc, length-drop}
use Rattle.std.proofs.Math.Seq.{take-suc-set, drop-cons}
use Rattle.std.proofs.Math.ListN.{drop_of_length-le}
use Rattle.std.proofs.lemmas.List.{append-nil, take_all}
use Rattle.mv_base.specs.Memory.{Memory, address_after, byte_of, bytes_at, put}
use Rattle.proc_image.specs.Laws.{put-append}
use Rattle.proc_image.proofs.Effecting.{put-none}
use Rattle.proc_image.proofs.Reading.{bytes_at-next, bytes_at-none}

-- one more byte is read
pub read-more : (m : Memory) (all to : List ℕ) (next i b n : ℕ) → i < n → length to ≡ n → byte_of (m next) ≡ b
    → all ≡ take i to ++ bytes_at m next (n - i) → all ≡ take (i + 1) (set to i b) ++ bytes_at m (address_after next 1) (n - (i + 1))
read-more m all to next i b n below long is copied =
    let room : i < length to = omega arith in
    let left : n - i ≡ suc (n - (i + 1)) = omega arith in
    let front : take (i + 1) (set to i b) ≡ take i to ++ b ∷ [] = rw add-one (take-suc-set to i b room) in
    copied
    ∙ ap (λ k. take i to ++ bytes_at m next k) left
    ∙ ap (λ xs. take i to ++ xs) (bytes_at-next m next (n - (i + 1)) ∙ ap (λ c. c ∷ bytes_at m (address_after next 1) (n - (i + 1))) is)
    ∙ sym (append_assoc (take i to) (b ∷ []) (bytes_at m (address_after next 1) (n - (i + 1))))
    ∙ ap (λ xs. xs ++ bytes_at m (address_after next 1) (n - (i + 1))) (sym front)

-- all of them are
pub read-all : (m : Memory) (all to : List ℕ) (next i n : ℕ) → n ≤ i → length to ≡ n → all ≡ take i to ++ bytes_at m next (n - i) → to ≡ all
read-all m all to next i n past long copied =
    let none : n - i ≡ 0 = omega arith in
    sym (copied ∙ ap (λ k. take i to ++ bytes_at m next k) none ∙ ap (λ xs. take i to ++ xs) (bytes_at-none m next) ∙ append-nil (take i to) ∙ take_all i to (omega (arith, past, long)))

-- one more byte is written
pub put-more : (all m : Memory) (bytes : List ℕ) (a k : ℕ) → a < 2 ^ 32 → length bytes < 2 ^ 32 → k < length bytes → all ≡ put m a (drop k bytes)
    → all ≡ put (put m a (slice_index bytes k ∷ [])) (address_after a 1) (drop (k + 1) bytes)
put-more all m bytes a k low short below left =
    let split : drop k bytes ≡ (slice_index bytes k ∷ []) ++ drop (k + 1) bytes = rw add-one (drop-cons bytes k 0 below) in
    left ∙ ap (put m a) split ∙ put-append m a (slice_index bytes k ∷ []) (drop (k + 1) bytes) low (rw (length-drop (k + 1) bytes) (omega arith))

-- all of them are
pub put-all : (all m : Memory) (bytes : List ℕ) (a k : ℕ) → length bytes ≤ k → all ≡ put m a (drop k bytes) → m ≡ all
put-all all m bytes a k past left = sym (left ∙ ap (put m a) (drop_of_length-le bytes past) ∙ sym (put-none m a))
