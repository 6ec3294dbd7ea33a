-- A text is cut at its line feeds in one way only.
use Rattle.std.proofs.Common.{◌≡◌, ◌≢◌, ℕ, zero, suc, ◌+◌, ◌/◌, ◌%◌, ◌^◌, ◌≤◌, Bool, true, false, not, ◌&&◌, cond, eqb, List, [], ◌∷◌, ◌++◌, length, refl, sym, ap, ◌∙◌, append_assoc, arith}
use Rattle.std.proofs.lemmas.Bool.{and_parts, ne_eqb, false≢true}
use Rattle.std.proofs.lemmas.Option.{same_Some}
use Rattle.mv_base.specs.Text.{hex_digit, hex_digits}
use Rattle.syscall_log.specs.declared.effect.Mode.{Mode}
use Rattle.syscall_log.specs.declared.effect.Mode.TheVariants as mode
use Rattle.syscall_log.specs.declared.effect.Effect.TheVariants as effect
use Rattle.syscall_log.specs.declared.item.Item.{Item}
use Rattle.syscall_log.specs.declared.item.Item.TheVariants as item
use Rattle.mv_base.specs.Text.{byte_text, hex_text}
use Rattle.syscall_log.specs.Grammar.{number_text, bytes_text, mode_text, line_of, lines}
use Rattle.syscall_log.specs.Following.{one_line}
use Rattle.syscall_log.specs.Phases.{IsItem}
use Rattle.syscall_log.specs.Reading.{item_in}
use Rattle.syscall_log.proofs.Spelling.{item-again}

one_line-append : (xs ys : List ℕ) → one_line xs ≡ true → one_line ys ≡ true → one_line (xs ++ ys) ≡ true
one_line-append [] ys x y = y
one_line-append (c ∷ xs) ys x y =
    let p = and_parts _ _ x in ap (λ b. b && one_line (xs ++ ys)) p.0 ∙ one_line-append xs ys p.1 y

digit-apart : (b : Bool) (d : ℕ) → cond b (48 + d) (87 + d) ≢ 10
digit-apart true d e = absurd (omega arith)
digit-apart false d e = absurd (omega arith)

one_line-digits : (k n : ℕ) → one_line (hex_digits k n) ≡ true
one_line-digits zero n = refl
one_line-digits (suc k) n =
    ap (λ b. not b && one_line (hex_digits k n)) (ne_eqb (hex_digit (n / 16 ^ k % 16)) 10 (digit-apart _ _)) ∙ one_line-digits k n

one_line-word : (n : ℕ) → one_line (number_text n) ≡ true
unfolding number_text
one_line-word n = one_line-digits 8 n

one_line-number : (n : ℕ) (rest : List ℕ) → one_line rest ≡ true → one_line (number_text n ++ rest) ≡ true
one_line-number n rest r = one_line-append (number_text n) rest (one_line-word n) r

one_line-hex : (bytes : List ℕ) → one_line (hex_text bytes) ≡ true
unfolding byte_text
one_line-hex [] = refl
one_line-hex (b ∷ bytes) = one_line-append (hex_digits 2 b) (hex_text bytes) (one_line-digits 2 b) (one_line-hex bytes)

one_line-bytes : (bytes : List ℕ) → one_line (bytes_text bytes) ≡ true
one_line-bytes [] = refl
one_line-bytes (b ∷ bytes) = one_line-hex (b ∷ bytes)

one_line-mode : (m : Mode) (rest : List ℕ) → one_line rest ≡ true → one_line (mode_text m ++ rest) ≡ true
one_line-mode mode.Read rest r = r
one_line-mode mode.Write rest r = r
one_line-mode mode.Exec rest r = r

pub one_line-item : (i : Item) → one_line (line_of i) ≡ true
one_line-item item.Header = refl
one_line-item (item.Arg bytes) = one_line-bytes bytes
one_line-item (item.Ret eax) = one_line-word eax
one_line-item (item.Change (effect.Write lo bytes)) = one_line-number lo (32 ∷ hex_text bytes) (one_line-hex bytes)
one_line-item (item.Change (effect.Map lo len m bytes)) =
    one_line-number lo (32 ∷ (number_text len ++ 32 ∷ (mode_text m ++ 32 ∷ bytes_text bytes))) (
    one_line-number len (32 ∷ (mode_text m ++ 32 ∷ bytes_text bytes)) (one_line-mode m (32 ∷ bytes_text bytes) (one_line-bytes bytes)))
one_line-item (item.Change (effect.Unmap lo len)) = one_line-number lo (32 ∷ number_text len) (one_line-word len)
one_line-item (item.Change (effect.Desc index base)) = one_line-number index (32 ∷ number_text base) (one_line-word base)
one_line-item item.Gone = refl
one_line-item (item.Cpuid eax ebx ecx edx) =
    one_line-number eax (32 ∷ (number_text ebx ++ 32 ∷ (number_text ecx ++ 32 ∷ number_text edx))) (
    one_line-number ebx (32 ∷ (number_text ecx ++ 32 ∷ number_text edx)) (
    one_line-number ecx (32 ∷ number_text edx) (one_line-word edx)))

-- a line feed is in no line
feed-apart : (c : ℕ) (text : List ℕ) → one_line (c ∷ text) ≡ true → 10 ≡ c → ⊥
feed-apart c text x e = false≢true (ap (λ v. not (eqb v 10)) e ∙ (and_parts _ _ x).0)

same-cons : (c d : ℕ) (a b : List ℕ) → c ≡ d → a ≡ b → c ∷ a ≡ d ∷ b
same-cons c d a b head tail = cc

-- what stands before the first line feed, and behind it
pub cut : (a b r s : List ℕ) → one_line a ≡ true → one_line b ≡ true → a ++ 10 ∷ r ≡ b ++ 10 ∷ s → (a ≡ b) × (r ≡ s)
cut [] [] r s x y e = (refl, cc)
cut [] (c ∷ b) r s x y e = let k : 10 ≡ c = cc in absurd (feed-apart c b y k)
cut (c ∷ a) [] r s x y e = let k : 10 ≡ c = cc in absurd (feed-apart c a x k)
cut (c ∷ a) (d ∷ b) r s x y e =
    let head : c ≡ d = cc in
    let tail : a ++ 10 ∷ r ≡ b ++ 10 ∷ s = cc in
    let k : (a ≡ b) × (r ≡ s) = cut a b r s (and_parts _ _ x).1 (and_parts _ _ y).1 tail in
    (same-cons c d a b head k.0, k.1)

-- each of some items keeps its bounds
abbrev pub AreItems : List Item → Type 0
AreItems [] = Unit {0}
AreItems (i ∷ items) = IsItem i × AreItems items

-- items that have one line are equal
same-item : (i j : Item) → IsItem i → IsItem j → line_of i ≡ line_of j → i ≡ j
same-item i j is_i is_j e = same_Some i j (sym (item-again i is_i) ∙ ap item_in e ∙ item-again j is_j)

pub lines-cons : (i : Item) (items : List Item) (rest : List ℕ) → lines (i ∷ items) ++ rest ≡ line_of i ++ 10 ∷ (lines items ++ rest)
lines-cons i items rest = simp append_assoc

-- two readings of a text: the one with more items goes on where the other ends
pub split : (xs ys : List Item) (r s : List ℕ) → AreItems xs → AreItems ys → length xs ≤ length ys → lines xs ++ r ≡ lines ys ++ s → (zs : List Item) × (ys ≡ xs ++ zs) × (r ≡ lines zs ++ s)
split [] ys r s x y le e = (ys, refl, e)
split (i ∷ xs) [] r s x y le e = absurd (omega arith)
split (i ∷ xs) (j ∷ ys) r s x y le e =
    let k = cut (line_of i) (line_of j) (lines xs ++ r) (lines ys ++ s) (one_line-item i) (one_line-item j) (sym (lines-cons i xs r) ∙ e ∙ lines-cons j ys s) in
    let head : i ≡ j = same-item i j x.0 y.0 k.0 in
    let more = split xs ys r s x.1 y.1 (omega arith) k.1 in
    let tail : ys ≡ xs ++ more.0 = more.1 in (more.0, cc, more.2)
