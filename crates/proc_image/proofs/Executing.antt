-- The executable bytes from an address on, byte by byte.
use Rattle.std.proofs.Common.{◌≡◌, ◌↔◌, ℕ, zero, suc, ◌+◌, ◌-◌, ◌/◌, ◌%◌, ◌<◌, ◌≤◌, List, [], ◌∷◌, ◌++◌, length, take, drop, set, get_or, slice_index, Option, Some, None, refl, sym, ap, ap₂, ◌∙◌, arith, add-one, append_assoc}
use Rattle.std.proofs.Math.Seq.{take-suc-set, drop-cons}
use Rattle.std.proofs.Math.ListN.{drop_of_length-le}
use Rattle.std.proofs.lemmas.List.{append-nil, drop-drop, drop-set-lt, take-append-drop, length-take-le}
use Rattle.mv_base.specs.Memory.{with_rest, exec_byte, exec_byte_of, exec_bytes}
use Rattle.proc_image.specs.declared.memory.Memory.{Memory as Pages}
use Rattle.proc_image.specs.Paged.{cells, page_of, exec_byte_in}
use Rattle.proc_image.proofs.Pages.{cells-page}

exec-next : (code : ℕ → Option ℕ) (a n b : ℕ) → Some b ≡ code a → exec_bytes code a (suc n) ≡ b ∷ exec_bytes code (a + 1) n
unfolding exec_bytes
exec-next code a n b is = ap (λ o. with_rest o (exec_bytes code (a + 1) n)) (sym is)

pub exec-none : (code : ℕ → Option ℕ) (a n : ℕ) → None ≡ code a → exec_bytes code a n ≡ []
unfolding exec_bytes
exec-none code a zero is = refl
exec-none code a (suc n) is = ap (λ o. with_rest o (exec_bytes code (a + 1) n)) (sym is)

pub exec-end : (code : ℕ → Option ℕ) (a n : ℕ) → n ≡ 0 → exec_bytes code a n ≡ []
unfolding exec_bytes
exec-end code a n none = ap (exec_bytes code a) none

-- one more byte is copied
pub copied-more : (code : ℕ → Option ℕ) (all to : List ℕ) (at next i b : ℕ) → i < 15 → length to ≡ 15 → next ≡ at + i → Some b ≡ code next
    → all ≡ take i to ++ exec_bytes code (at + i) (15 - i) → all ≡ take (i + 1) (set to i b) ++ exec_bytes code (at + (i + 1)) (15 - (i + 1))
copied-more code all to at next i b below long next_is is copied =
    let room : i < length to = omega arith in
    let left : 15 - i ≡ suc (15 - (i + 1)) = omega arith in
    let on : at + i + 1 ≡ at + (i + 1) = omega arith in
    let front : take (i + 1) (set to i b) ≡ take i to ++ b ∷ [] = rw add-one (take-suc-set to i b room) in
    copied
    ∙ ap (λ k. take i to ++ exec_bytes code (at + i) k) left
    ∙ ap (λ xs. take i to ++ xs) (exec-next code (at + i) (15 - (i + 1)) b (is ∙ ap code next_is) ∙ ap (λ a. b ∷ exec_bytes code a (15 - (i + 1))) on)
    ∙ sym (append_assoc (take i to) (b ∷ []) (exec_bytes code (at + (i + 1)) (15 - (i + 1))))
    ∙ ap (λ xs. xs ++ exec_bytes code (at + (i + 1)) (15 - (i + 1))) (sym front)

-- where no more is copied, the bytes stand in front, and their number is as many as were
pub number-copied : (all to rest : List ℕ) (i : ℕ) → i ≤ length to → all ≡ take i to ++ rest → rest ≡ [] → i ≡ length all
number-copied all to rest i below copied none =
    let whole : all ≡ take i to = copied ∙ ap (λ xs. take i to ++ xs) none ∙ append-nil (take i to) in
    sym (ap length whole ∙ length-take-le i to below)

pub all-copied : (all to old rest : List ℕ) (i : ℕ) → i ≤ length to → all ≡ take i to ++ rest → rest ≡ [] → drop i to ≡ drop i old → to ≡ all ++ drop (length all) old
all-copied all to old rest i below copied none kept =
    let whole : all ≡ take i to = copied ∙ ap (λ xs. take i to ++ xs) none ∙ append-nil (take i to) in
    sym (take-append-drop i to) ∙ ap₂ ◌++◌ (sym whole) (kept ∙ ap (λ k. drop k old) (number-copied all to rest i below copied none))

pub kept-more : (to old : List ℕ) (i b : ℕ) → drop i to ≡ drop i old → drop (i + 1) (set to i b) ≡ drop (i + 1) old
kept-more to old i b kept =
    let below : i < i + 1 = omega arith in
    drop-set-lt (i + 1) to i b below ∙ sym (drop-drop 1 i to) ∙ ap (drop 1) kept ∙ drop-drop 1 i old

-- the same bytes at other places
pub exec-same : (p q : ℕ → Option ℕ) (a b n : ℕ) → ((k : ℕ) → k < n → p (a + k) ≡ q (b + k)) → exec_bytes p a n ≡ exec_bytes q b n
unfolding exec_bytes
exec-same p q a b zero same = refl
exec-same p q a b (suc n) same =
    let here : p a ≡ q b = (let x : a ≡ a + 0 = omega arith in let y : b ≡ b + 0 = omega arith in ap p x ∙ same 0 (omega arith) ∙ ap q (sym y)) in
    ap₂ with_rest here (exec-same p q (a + 1) (b + 1) n (λ k below.
    let x : a + 1 + k ≡ a + suc k = omega arith in
    let y : b + 1 + k ≡ b + suc k = omega arith in
    ap p x ∙ same (suc k) (omega arith) ∙ ap q (sym y)))

-- those of one page
pub exec-page : (m : Pages) (at n : ℕ) → at < 0xFFFFF000 → at % 4096 + n ≤ 4096 → exec_bytes (exec_byte_in (page_of m (at / 4096))) (at % 4096) n ≡ exec_bytes (exec_byte (cells m)) at n
exec-page m at n low room = exec-same (exec_byte_in (page_of m (at / 4096))) (exec_byte (cells m)) (at % 4096) at n (λ k below.
    let page : (at + k) / 4096 ≡ at / 4096 = omega arith in
    let place : (at + k) % 4096 ≡ at % 4096 + k = omega arith in
    ap exec_byte_of (sym (cells-page m (at + k) (omega arith) ∙ ap₂ (λ p i. get_or (page_of m p) i None) page place)))

-- ---- bytes that stand there

-- all of them stand there, exactly where those from a number on stand that much further up
abbrev pub StandAlike : (ℕ → Option ℕ) → List ℕ → ℕ → ℕ → Type 0
StandAlike code bytes at k = (exec_bytes code at (length bytes) ≡ bytes) ↔ (exec_bytes code (at + k) (length bytes - k) ≡ drop k bytes)

pub alike-start : (code : ℕ → Option ℕ) (bytes : List ℕ) (at : ℕ) → StandAlike code bytes at 0
alike-start code bytes at =
    let same : exec_bytes code (at + 0) (length bytes - 0) ≡ exec_bytes code at (length bytes) =
    (let a : at + 0 ≡ at = omega arith in let n : length bytes - 0 ≡ length bytes = omega arith in ap₂ (exec_bytes code) a n) in
    (λ all. same ∙ all, λ rest. sym same ∙ rest)

abbrev rest_of : List ℕ → List ℕ
rest_of [] = []
rest_of (b ∷ bytes) = bytes

-- one of them and those behind it
left-there : (code : ℕ → Option ℕ) (at n k : ℕ) → k < n → exec_bytes code (at + k) (n - k) ≡ with_rest (code (at + k)) (exec_bytes code (at + (k + 1)) (n - (k + 1)))
unfolding exec_bytes
left-there code at n k below =
    let left : n - k ≡ suc (n - (k + 1)) = omega arith in
    let on : at + k + 1 ≡ at + (k + 1) = omega arith in
    ap (exec_bytes code (at + k)) left ∙ ap (λ a. with_rest (code (at + k)) (exec_bytes code a (n - (k + 1)))) on

left-of : (bytes : List ℕ) (k b : ℕ) → k < length bytes → b ≡ slice_index bytes k → drop k bytes ≡ b ∷ drop (k + 1) bytes
left-of bytes k b below is = rw add-one (drop-cons bytes k 0 below) ∙ ap (λ c. c ∷ drop (k + 1) bytes) (sym is)

module _ (code : ℕ → Option ℕ) (bytes : List ℕ) (at k b : ℕ) (below : k < length bytes) (is : b ≡ slice_index bytes k) (alike : StandAlike code bytes at k) where
  -- the next byte is there
  pub alike-next : Some b ≡ code (at + k) → StandAlike code bytes at (k + 1)
  alike-next there =
      let left : exec_bytes code (at + k) (length bytes - k) ≡ b ∷ exec_bytes code (at + (k + 1)) (length bytes - (k + 1)) =
      left-there code at (length bytes) k below ∙ ap (λ o. with_rest o (exec_bytes code (at + (k + 1)) (length bytes - (k + 1)))) (sym there) in
      let right : drop k bytes ≡ b ∷ drop (k + 1) bytes = left-of bytes k b below is in
      (λ all. ap rest_of (sym left ∙ alike.0 all ∙ right), λ rest. alike.1 (left ∙ ap (λ bs. b ∷ bs) rest ∙ sym right))

  -- no byte is there, or another
  pub alike-none : None ≡ code (at + k) → exec_bytes code at (length bytes) ≡ bytes → ⊥
  alike-none none all =
      let left : exec_bytes code (at + k) (length bytes - k) ≡ [] =
      left-there code at (length bytes) k below ∙ ap (λ o. with_rest o (exec_bytes code (at + (k + 1)) (length bytes - (k + 1)))) (sym none) in
      let len = ap length (sym left ∙ alike.0 all ∙ left-of bytes k b below is) in
      omega (arith, len)

  pub alike-other : (c : ℕ) → Some c ≡ code (at + k) → (c ≡ b → ⊥) → exec_bytes code at (length bytes) ≡ bytes → ⊥
  alike-other c there other all =
      let left : exec_bytes code (at + k) (length bytes - k) ≡ c ∷ exec_bytes code (at + (k + 1)) (length bytes - (k + 1)) =
      left-there code at (length bytes) k below ∙ ap (λ o. with_rest o (exec_bytes code (at + (k + 1)) (length bytes - (k + 1)))) (sym there) in
      other (ap (λ bs. slice_index bs 0) (sym left ∙ alike.0 all ∙ left-of bytes k b below is))

-- no byte is left
pub alike-end : (code : ℕ → Option ℕ) (bytes : List ℕ) (at k : ℕ) → length bytes ≤ k → StandAlike code bytes at k → exec_bytes code at (length bytes) ≡ bytes
alike-end code bytes at k past alike =
    let none : length bytes - k ≡ 0 = omega arith in
    alike.1 (exec-end code (at + k) (length bytes - k) none ∙ sym (drop_of_length-le bytes past))
