-- Digits and words are taken one byte after the other.
use Rattle.std.specs.Prelude.{if◌then◌else◌}
use Rattle.std.specs.Option.{option_map_or}
use Rattle.std.proofs.Common.{◌≡◌, ◌≢◌, ℕ, suc, ◌+◌, ◌-◌, ◌*◌, ◌%◌, ◌^◌, ◌<◌, ◌≤◌, ◌==◌, List, [], ◌∷◌, ◌++◌, length, get_or, drop, take, Some, None, refl, sym, ap, ◌∙◌, arith, add-one, append-nil, append_assoc, cond}
use Rattle.std.proofs.Math.Seq.{drop-cons, take-suc}
use Rattle.std.proofs.Math.ListN.{drop_of_length-le}
use Rattle.std.proofs.lemmas.List.{take_all, length-drop}
use Rattle.std.proofs.lemmas.Bool.{ne_eqb, eq-eqb}
use Rattle.mv_base.specs.Reading.{digit_value}
use Rattle.mini_asm.specs.Words.{digits_at, word_at}

-- what stands from a place on
pub rest_is : (text : List ℕ) (k : ℕ) → take (length text - k) (drop k text) ≡ drop k text
rest_is text k = take_all (length text - k) (drop k text) (omega (arith, length-drop k text))

none_from : (text : List ℕ) (k : ℕ) → length text ≤ k → drop k text ≡ []
none_from text k past = drop_of_length-le text past

digits-next : (n : ℕ) (text : List ℕ) (k : ℕ) → k < length text
    → digits_at n (drop k text) ≡ option_map_or (λ d. digits_at (16 * (n % 2 ^ 28) + d) (drop (k + 1) text)) (digit_value (get_or text k 0)) (n, drop k text)
unfolding digits_at
digits-next n text k below =
    ap (digits_at n) (drop-cons text k 0 below)
    ∙ ap (λ j. option_map_or (λ d. digits_at (16 * (n % 2 ^ 28) + d) (drop j text)) (digit_value (get_or text k 0)) (n, get_or text k 0 ∷ drop (suc k) text)) (sym (add-one k))
    ∙ ap (λ (t : List ℕ). option_map_or (λ d. digits_at (16 * (n % 2 ^ 28) + d) (drop (k + 1) text)) (digit_value (get_or text k 0)) (n, t)) (sym (drop-cons text k 0 below))

-- a digit more
pub digits-some : (n : ℕ) (text : List ℕ) (k d : ℕ) → k < length text → digit_value (get_or text k 0) ≡ Some d
    → digits_at n (drop k text) ≡ digits_at (16 * (n % 2 ^ 28) + d) (drop (k + 1) text)
digits-some n text k d below is =
    digits-next n text k below ∙ ap (λ o. option_map_or (λ d. digits_at (16 * (n % 2 ^ 28) + d) (drop (k + 1) text)) o (n, drop k text)) is

-- no digit more
pub digits-none : (n : ℕ) (text : List ℕ) (k : ℕ) → k < length text → digit_value (get_or text k 0) ≡ None → digits_at n (drop k text) ≡ (n, drop k text)
digits-none n text k below is =
    digits-next n text k below ∙ ap (λ o. option_map_or (λ d. digits_at (16 * (n % 2 ^ 28) + d) (drop (k + 1) text)) o (n, drop k text)) is

pub digits-end : (n : ℕ) (text : List ℕ) (k : ℕ) → length text ≤ k → digits_at n (drop k text) ≡ (n, drop k text)
unfolding digits_at
digits-end n text k past =
    ap (digits_at n) (none_from text k past) ∙ ap (λ (t : List ℕ). (n, t)) (sym (none_from text k past))

-- a byte of a word
word-next : (text : List ℕ) (k : ℕ) → k < length text
    → word_at (drop k text) ≡ (if get_or text k 0 == 32 then ([], drop (k + 1) text) else (get_or text k 0 ∷ (word_at (drop (k + 1) text)).0, (word_at (drop (k + 1) text)).1))
unfolding word_at
word-next text k below =
    ap word_at (drop-cons text k 0 below)
    ∙ ap (λ j. if get_or text k 0 == 32 then ([], drop j text) else (get_or text k 0 ∷ (word_at (drop j text)).0, (word_at (drop j text)).1)) (sym (add-one k))

pub record WordSoFar (text : List ℕ) (k : ℕ) : Type 0 where
  pub word : take k text ++ (word_at (drop k text)).0 ≡ (word_at text).0
  pub rest : (word_at (drop k text)).1 ≡ (word_at text).1

pub word-start : (text : List ℕ) → WordSoFar text 0
word-start text = record { word = refl; rest = refl }

pub word-more : (text : List ℕ) (k : ℕ) → k < length text → get_or text k 0 ≢ 32 → WordSoFar text k → WordSoFar text (k + 1)
word-more text k below other so_far =
    let next = word-next text k below ∙ ap (λ b. cond b ([], drop (k + 1) text) (get_or text k 0 ∷ (word_at (drop (k + 1) text)).0, (word_at (drop (k + 1) text)).1)) (ne_eqb (get_or text k 0) 32 other) in
    record {
      word =
          ap (λ (t : List ℕ). t ++ (word_at (drop (k + 1) text)).0) (ap (λ j. take j text) (add-one k) ∙ take-suc text k 0 below)
          ∙ append_assoc (take k text) (get_or text k 0 ∷ []) (word_at (drop (k + 1) text)).0
          ∙ ap (λ (p : List ℕ × List ℕ). take k text ++ p.0) (sym next)
          ∙ so_far.word;
      rest = ap (λ (p : List ℕ × List ℕ). p.1) (sym next) ∙ so_far.rest;
    }

pub record Split (text word rest : List ℕ) : Type 0 where
  pub word_is : word ≡ (word_at text).0
  pub rest_is : rest ≡ (word_at text).1

pub word-space : (text : List ℕ) (k : ℕ) → k < length text → get_or text k 0 ≡ 32 → WordSoFar text k → Split text (take k text) (drop (k + 1) text)
word-space text k below space so_far =
    let next = word-next text k below ∙ ap (λ b. cond b ([], drop (k + 1) text) (get_or text k 0 ∷ (word_at (drop (k + 1) text)).0, (word_at (drop (k + 1) text)).1)) (eq-eqb (get_or text k 0) 32 space) in
    record {
      word_is = sym (append-nil (take k text)) ∙ ap (λ (p : List ℕ × List ℕ). take k text ++ p.0) (sym next) ∙ so_far.word;
      rest_is = ap (λ (p : List ℕ × List ℕ). p.1) (sym next) ∙ so_far.rest;
    }

pub word-end : (text : List ℕ) (k : ℕ) → length text ≤ k → WordSoFar text k → Split text text []
unfolding word_at
word-end text k past so_far =
    let nothing = none_from text k past in
    record {
      word_is =
          sym (take_all k text past) ∙ sym (append-nil (take k text)) ∙ ap (λ (t : List ℕ). take k text ++ (word_at t).0) (sym nothing) ∙ so_far.word;
      rest_is = ap (λ (t : List ℕ). (word_at t).1) (sym nothing) ∙ so_far.rest;
    }

-- what stands from the end on
pub nothing-left : (text : List ℕ) → take (length text - length text) (drop (length text) text) ≡ []
nothing-left text = rest_is text (length text) ∙ none_from text (length text) (omega arith)

pub all-digits : (n : ℕ) (text : List ℕ) (k : ℕ) → length text ≤ k → digits_at n (drop k text) ≡ digits_at 0 text
    → take (length text - length text) (drop (length text) text) ≡ (digits_at 0 text).1
all-digits n text k past is =
    nothing-left text
    ∙ sym (none_from text k past)
    ∙ ap (λ (p : ℕ × List ℕ). p.1) (sym (digits-end n text k past) ∙ is)
