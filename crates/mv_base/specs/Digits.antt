-- What holds of hexadecimal digits: they are read one after the other, what is written is read again, and what is read was
-- written.
use Rattle.std.proofs.Common.{◌≡◌, ℕ, zero, suc, ◌+◌, ◌*◌, ◌/◌, ◌%◌, ◌^◌, ◌<◌, ◌≤◌, Bool, true, false, cond, eqb, List, [], ◌∷◌, ◌++◌, length, get_or, drop, take, Option, Some, None, option_map, option_and_then, refl, sym, ap, ◌∙◌, arith, add-one, append_assoc}
use Rattle.std.proofs.Math.Nat.{pow-le-pow_right, pow-suc, div-div-eq-div-mul, div-eq_of_lt, div-add-mod}
use Rattle.std.proofs.Math.Seq.{drop-cons}
use Rattle.std.proofs.Math.ListN.{drop_of_length-le}
use Rattle.std.proofs.lemmas.Bool.{eqb-true}
use Rattle.std.proofs.lemmas.Bool.Decides.{nat_tests}
use Rattle.std.proofs.lemmas.Option.{none-some, same_Some, option_and_then_some}
use Rattle.mv_base.specs.Bytes.{AreBytes}
use Rattle.mv_base.specs.Reading.{digit_value, hex_value, number_in, pairs_in}
use Rattle.mv_base.specs.Text.{hex_digit, hex_digits, hex8, byte_text, hex_text}

found-if : {A P : Type 0} (b : Bool) (o p : Option A) (i : A) → (b ≡ true → o ≡ Some i → P) → (b ≡ false → p ≡ Some i → P) → cond b o p ≡ Some i → P
found-if true o p i first second h = first refl h
found-if false o p i first second h = second refl h

found-map : {A B P : Type 0} (f : A → B) (o : Option A) (i : B) → ((x : A) → o ≡ Some x → f x ≡ i → P) → option_map f o ≡ Some i → P
found-map f None i k h = absurd (none-some i h)
found-map f (Some x) i k h = k x refl (same_Some _ _ h)

-- one digit more
pub hex_value-next : (n : ℕ) (text : List ℕ) (k : ℕ) → k < length text → hex_value n (drop k text) ≡ option_and_then (λ d. hex_value (16 * n + d) (drop (k + 1) text)) (digit_value (get_or text k 0))
unfolding hex_value
hex_value-next n text k below =
    ap (hex_value n) (drop-cons text k 0 below)
    ∙ ap (λ j. option_and_then (λ d. hex_value (16 * n + d) (drop j text)) (digit_value (get_or text k 0))) (sym (add-one k))

pub hex_value-some : (n : ℕ) (text : List ℕ) (k d : ℕ) → k < length text → digit_value (get_or text k 0) ≡ Some d → hex_value n (drop k text) ≡ hex_value (16 * n + d) (drop (k + 1) text)
hex_value-some n text k d below is =
    hex_value-next n text k below ∙ ap (option_and_then (λ d. hex_value (16 * n + d) (drop (k + 1) text))) is

pub hex_value-none : (n : ℕ) (text : List ℕ) (k : ℕ) → k < length text → digit_value (get_or text k 0) ≡ None → hex_value n (drop k text) ≡ None
hex_value-none n text k below is =
    hex_value-next n text k below ∙ ap (option_and_then (λ d. hex_value (16 * n + d) (drop (k + 1) text))) is

-- no digit more
pub hex_value-end : (n : ℕ) (text : List ℕ) (k : ℕ) → length text ≤ k → hex_value n (drop k text) ≡ Some n
unfolding hex_value
hex_value-end n text k past = ap (hex_value n) (drop_of_length-le text past)

-- a digit more multiplies the bound by 16
pub below-next : (n d k : ℕ) → n < 16 ^ k → d < 16 → 16 * n + d < 16 ^ (k + 1)
below-next n d k small digit = let e : 16 ^ (k + 1) ≡ 16 ^ k * 16 = ap (λ j. 16 ^ j) (add-one k) ∙ pow-suc 16 k in omega arith

-- fewer than eight digits leave room for one more
pub below-word : (n k : ℕ) → n < 16 ^ k → k < 8 → n < 16 ^ 7
below-word n k small few = let le : 16 ^ k ≤ 16 ^ 7 = pow-le-pow_right {n = 16} (omega arith) {i = k} {j = 7} (omega arith) in omega arith

-- one pair more
pub pairs_in-next : (text : List ℕ) → 2 ≤ length text → pairs_in text ≡ option_and_then (λ b. option_map (λ bytes. b ∷ bytes) (pairs_in (drop 2 text))) (hex_value 0 (take 2 text))
unfolding pairs_in
pairs_in-next [] enough = absurd (omega arith)
pairs_in-next (h ∷ []) enough = absurd (omega arith)
pairs_in-next (h ∷ l ∷ text) enough = refl

-- the pairs so far, and one pair more
pub pairs_in-more : (bytes rest text pair more : List ℕ) (b : ℕ) → option_map (λ after. bytes ++ after) (pairs_in rest) ≡ pairs_in text → 2 ≤ length rest → pair ≡ take 2 rest → more ≡ drop 2 rest → hex_value 0 pair ≡ Some b → option_map (λ after. (bytes ++ b ∷ []) ++ after) (pairs_in more) ≡ pairs_in text
pairs_in-more bytes rest text pair more b so_far enough is_pair is_more is =
    sym (one_more bytes b (pairs_in more)) ∙ ap (option_map (λ after. bytes ++ after)) (sym next) ∙ so_far where
      next : pairs_in rest ≡ option_map (λ after. b ∷ after) (pairs_in more)
      next =
          pairs_in-next rest enough
          ∙ ap (λ o. option_and_then (λ b. option_map (λ after. b ∷ after) (pairs_in (drop 2 rest))) o) (ap (hex_value 0) (sym is_pair) ∙ is)
          ∙ ap (λ m. option_map (λ after. b ∷ after) (pairs_in m)) (sym is_more)

      one_more : (bytes : List ℕ) (b : ℕ) (o : Option (List ℕ)) → option_map (λ after. bytes ++ after) (option_map (λ after. b ∷ after) o) ≡ option_map (λ after. (bytes ++ b ∷ []) ++ after) o
      one_more bytes b None = refl
      one_more bytes b (Some after) = ap Some (sym (append_assoc bytes (b ∷ []) after))

pub pairs_in-stuck : (bytes rest text pair : List ℕ) → option_map (λ after. bytes ++ after) (pairs_in rest) ≡ pairs_in text → 2 ≤ length rest → pair ≡ take 2 rest → hex_value 0 pair ≡ None → pairs_in text ≡ None
pairs_in-stuck bytes rest text pair so_far enough is_pair is =
    sym so_far
    ∙ ap (option_map (λ after. bytes ++ after)) (
    pairs_in-next rest enough
    ∙ ap (λ o. option_and_then (λ b. option_map (λ after. b ∷ after) (pairs_in (drop 2 rest))) o) (ap (hex_value 0) (sym is_pair) ∙ is)
    )

-- no digit more, and one digit more
pub pairs_in-end : (text : List ℕ) → length text ≡ 0 → pairs_in text ≡ Some []
unfolding pairs_in
pairs_in-end [] none = refl
pairs_in-end (h ∷ text) none = absurd (omega arith)

pub pairs_in-odd : (text : List ℕ) → length text ≡ 1 → pairs_in text ≡ None
unfolding pairs_in
pairs_in-odd [] one = absurd (omega arith)
pairs_in-odd (h ∷ []) one = refl
pairs_in-odd (h ∷ l ∷ text) one = absurd (omega arith)

-- ---- both ways

-- a digit
pub digit-again : (d : ℕ) → d < 16 → digit_value (hex_digit d) ≡ Some d
digit-again d small = grind (arith, nat_tests)

pub digit-found : (c d : ℕ) → digit_value c ≡ Some d → (d < 16) × (c ≡ hex_digit d)
digit-found c d h = grind (arith, nat_tests)

-- the higher digits of a number
pub higher : (n k : ℕ) → n / 16 ^ suc k ≡ n / 16 ^ k / 16
higher n k = ap (λ p. n / p) (pow-suc 16 k) ∙ sym (div-div-eq-div-mul n (16 ^ k) 16)

-- digits behind those of a number's higher part
pub digits-again : (k n : ℕ) → hex_value (n / 16 ^ k) (hex_digits k n) ≡ Some n
unfolding hex_value
digits-again zero n = ap Some (omega arith)
digits-again (suc k) n =
    let q = n / 16 ^ k in
    let e : 16 * (n / 16 ^ suc k) + q % 16 ≡ q = ap (λ m. 16 * m + q % 16) (higher n k) ∙ div-add-mod q 16 in
    ap (option_and_then (λ d. hex_value (16 * (n / 16 ^ suc k) + d) (hex_digits k n))) (digit-again (q % 16) (omega arith))
    ∙ ap (λ m. hex_value m (hex_digits k n)) e
    ∙ digits-again k n

-- digits that are read behind m are those of a number whose higher part is m
pub digits-found : (text : List ℕ) (m v : ℕ) → hex_value m text ≡ Some v → (v / 16 ^ length text ≡ m) × (text ≡ hex_digits (length text) v)
unfolding hex_value
digits-found [] m v h = (let e : m ≡ v = same_Some m v h in omega arith, refl)
digits-found (c ∷ text) m v h =
    option_and_then_some (λ d. hex_value (16 * m + d) text) (digit_value c) v h (λ d is more.
    let digit = digit-found c d is in
    let rest = digits-found text (16 * m + d) v more in
    let q = v / 16 ^ length text in
    let low : q % 16 ≡ d = omega (arith, rest.0, digit.0) in
    let high : v / 16 ^ suc (length text) ≡ m = higher v (length text) ∙ omega (arith, rest.0, digit.0) in
    (high, (let e : c ≡ hex_digit (q % 16) = digit.1 ∙ ap hex_digit (sym low) in cc)))

-- a number in eight digits
pub number-again : (n : ℕ) → n < 2 ^ 32 → number_in (hex8 n) ≡ Some n
unfolding number_in
number-again n small = ap (λ m. hex_value m (hex_digits 8 n)) (sym (div-eq_of_lt {n = n} {m = 16 ^ 8} small)) ∙ digits-again 8 n

pub number-found : (text : List ℕ) (n : ℕ) → number_in text ≡ Some n → text ≡ hex8 n
unfolding number_in
number-found text n h =
    found-if (eqb (length text) 8) (hex_value 0 text) None n
    (λ eight is. (digits-found text 0 n is).1 ∙ ap (λ k. hex_digits k n) (eqb-true (length text) 8 eight))
    (λ _ is. absurd (none-some n is)) h

-- a byte in two digits
pub byte-again : (b : ℕ) → b < 256 → hex_value 0 (byte_text b) ≡ Some b
unfolding byte_text
byte-again b small = ap (λ m. hex_value m (hex_digits 2 b)) (sym (div-eq_of_lt {n = b} {m = 16 ^ 2} small)) ∙ digits-again 2 b

pub byte-found : (h l b : ℕ) → hex_value 0 (h ∷ l ∷ []) ≡ Some b → h ∷ l ∷ [] ≡ byte_text b
unfolding byte_text
byte-found h l b is = (digits-found (h ∷ l ∷ []) 0 b is).1

-- bytes in pairs of digits
pub pairs-again : (bytes : List ℕ) → AreBytes bytes → pairs_in (hex_text bytes) ≡ Some bytes
unfolding pairs_in byte_text
pairs-again [] are = refl
pairs-again (b ∷ bytes) are =
    ap (λ o. option_and_then (λ b. option_map (λ after. b ∷ after) (pairs_in (hex_text bytes))) o) (byte-again b (are 0))
    ∙ ap (option_map (λ after. b ∷ after)) (pairs-again bytes (λ k. are (suc k)))

pub pairs-found : (text bytes : List ℕ) → pairs_in text ≡ Some bytes → text ≡ hex_text bytes
unfolding pairs_in
pairs-found [] bytes is = ap hex_text (same_Some [] bytes is)
pairs-found (h ∷ []) bytes is = absurd (none-some bytes is)
pairs-found (h ∷ l ∷ text) bytes is =
    option_and_then_some _ (hex_value 0 (h ∷ l ∷ [])) bytes is (λ b is_byte more.
    found-map (λ after. b ∷ after) (pairs_in text) bytes (λ after is_after whole.
    ap (λ t. t ++ text) (byte-found h l b is_byte) ∙ ap (λ t. byte_text b ++ t) (pairs-found text after is_after) ∙ ap hex_text whole) more)
