-- Words that are decimals.
use Rattle.std.proofs.Common.{◌≡◌, ℕ, ◌<◌, ◌^◌, Bool, true, false, ◌&&◌, List, Some, None, Result, Ok, Err, refl, sym, ap, ◌∙◌, subst}
use Rattle.std.specs.Prelude.{nat_lt, decimal, if◌then◌else◌}
use Rattle.std.specs.Result.{result_ok}
use Rattle.std.specs.Str.{bytes_eq}
use Rattle.std.specs.Str.Parse.{digits_value, ParsesUnsigned}
use Rattle.std.proofs.lemmas.Bool.{lt-ltb, ltb-true, both_ways}
use Rattle.std.proofs.lemmas.Fmt.{decimal_is_IsNumeral, parse-decimal}
use Rattle.std.proofs.lemmas.Option.{none-some, same_Some}
use Rattle.std.proofs.lemmas.Slice.Eq.{bytes_eq-Decides}
use Rattle.multiverse_cli.specs.Words.{number_of}

both : {A : Type 0} (a b : Bool) (x y : A) → a ≡ true → b ≡ true → (if a && b then x else y) ≡ x
both true true x y p q = refl
both true false x y p q = absurd (both_ways false refl q)
both false b x y p q = absurd (both_ways false refl p)

not-both : {A : Type 0} (a b : Bool) (x y : A) → (a ≡ true → b ≡ true → ⊥) → (if a && b then x else y) ≡ y
not-both true true x y never = absurd (never refl refl)
not-both true false x y never = refl
not-both false b x y never = refl

-- a decimal is the number's
number-is : (w : List ℕ) (n : ℕ) → n < 2 ^ 64 → w ≡ decimal n → number_of w ≡ Some n
number-is w n low e =
    let value : digits_value 10 w ≡ n = ap (digits_value 10) e ∙ (decimal_is_IsNumeral n low).1 in
    let P : ℕ → Type 0 = λ m. nat_lt m (2 ^ 64) ≡ true in
    let Q : ℕ → Type 0 = λ m. bytes_eq w (decimal m) ≡ true in
    both (nat_lt (digits_value 10 w) (2 ^ 64)) (bytes_eq w (decimal (digits_value 10 w))) (Some (digits_value 10 w)) None
    (subst P (sym value) (lt-ltb n (2 ^ 64) low)) (subst Q (sym value) ((bytes_eq-Decides w (decimal n)).1 e))
    ∙ ap Some value

-- any other word has none
number-not : (w : List ℕ) → ((n : ℕ) → n < 2 ^ 64 → w ≡ decimal n → ⊥) → number_of w ≡ None
number-not w never =
    not-both (nat_lt (digits_value 10 w) (2 ^ 64)) (bytes_eq w (decimal (digits_value 10 w))) (Some (digits_value 10 w)) None
    (λ p q. never (digits_value 10 w) (ltb-true _ _ p) ((bytes_eq-Decides w (decimal (digits_value 10 w))).0 q))

module _ {E : Type 0} (w : List ℕ) (r : Result ℕ E) (parses : ParsesUnsigned 64 10 w r) where
  -- a decimal is parsed
  parsed : (n : ℕ) → n < 2 ^ 64 → w ≡ decimal n → result_ok r ≡ Some n
  parsed n low e = ap result_ok (parse-decimal 64 n w r low low e parses)

  -- what isn't parsed is no decimal
  pub unparsed-number : result_ok r ≡ None → number_of w ≡ None
  unparsed-number none = number-not w (λ n low e. none-some n (sym none ∙ parsed n low e))

  -- what is parsed as a number with another decimal is none
  pub other-number : (m : ℕ) → result_ok r ≡ Some m → bytes_eq (decimal m) w ≡ false → number_of w ≡ None
  other-number m some differs =
      number-not w (λ n low e.
      let same : m ≡ n = same_Some m n (sym some ∙ parsed n low e) in
      both_ways (bytes_eq (decimal m) w) differs ((bytes_eq-Decides (decimal m) w).1 (ap decimal same ∙ sym e)))

-- what is parsed fits
parsed-low : {E : Type 0} (w : List ℕ) (r : Result ℕ E) (m : ℕ) → ParsesUnsigned 64 10 w r → result_ok r ≡ Some m → m < 2 ^ 64
parsed-low w (Ok n) m parses some =
    let P : ℕ → Type 0 = λ k. k < 2 ^ 64 in
    subst P (sym parses.1 ∙ same_Some n m some) parses.0.1
parsed-low w (Err e) m parses some = absurd (none-some m some)

-- what is parsed as the number of which it is the decimal
pub own-number :
    {E : Type 0} (w : List ℕ) (r : Result ℕ E) (m : ℕ) → ParsesUnsigned 64 10 w r → result_ok r ≡ Some m
    → bytes_eq (decimal m) w ≡ true → number_of w ≡ Some m
own-number w r m parses some same =
    number-is w m (parsed-low w r m parses some) (sym ((bytes_eq-Decides (decimal m) w).0 same))
