-- A number is read again from its digits.
use Rattle.std.specs.Prelude.{if◌then◌else◌}
use Rattle.std.specs.Option.{option_map_or}
use Rattle.std.proofs.Common.{◌≡◌, ℕ, zero, suc, ◌+◌, ◌*◌, ◌/◌, ◌%◌, ◌^◌, ◌<◌, ◌≤◌, ◌==◌, Bool, true, false, List, [], ◌∷◌, ◌++◌, Some, None, refl, sym, ap, ◌∙◌, arith}
use Rattle.std.proofs.Math.Nat.{div-le_self, div-eq_of_lt}
use Rattle.std.proofs.lemmas.Bool.{eqb-true}
use Rattle.mv_base.specs.Digits.{digit-again, higher}
use Rattle.mv_base.specs.Reading.{behind, digit_value}
use Rattle.mv_base.specs.Text.{hex_digit, hex_digits, hex8}
use Rattle.insn_text.specs.Text.{number, significant}
use Rattle.mini_asm.specs.Words.{digits_at, number_at}

-- no digit stands in front
abbrev pub Ends : List ℕ → Type 0
Ends [] = Unit {0}
Ends (c ∷ s) = digit_value c ≡ None

stops : (n : ℕ) (s : List ℕ) → Ends s → digits_at n s ≡ (n, s)
unfolding digits_at
stops n [] ends = refl
stops n (c ∷ s) ends = ap (λ o. option_map_or (λ d. digits_at (16 * (n % 2 ^ 28) + d) s) o (n, c ∷ s)) ends

-- one digit more of a number below 2^32
step : (n q h : ℕ) → n < 2 ^ 32 → q ≤ n → h ≡ q / 16 → 16 * (h % 2 ^ 28) + q % 16 ≡ q
step n q h small le e = omega arith

digits-again : (k n : ℕ) (s : List ℕ) → n < 2 ^ 32 → Ends s → digits_at (n / 16 ^ k) (hex_digits k n ++ s) ≡ (n, s)
unfolding digits_at
digits-again zero n s small ends = let e : n / 16 ^ 0 ≡ n = omega arith in ap (λ m. digits_at m s) e ∙ stops n s ends
digits-again (suc k) n s small ends =
    let q = n / 16 ^ k in
    let e = step n q (n / 16 ^ suc k) small (div-le_self n (16 ^ k)) (higher n k) in
    ap (λ o. option_map_or (λ d. digits_at (16 * (n / 16 ^ suc k % 2 ^ 28) + d) (hex_digits k n ++ s)) o (n / 16 ^ suc k, hex_digit (q % 16) ∷ (hex_digits k n ++ s))) (digit-again (q % 16) (omega arith))
    ∙ ap (λ m. digits_at m (hex_digits k n ++ s)) e
    ∙ digits-again k n s small ends

-- zeros in front change nothing
stripped : (ds s : List ℕ) → digits_at 0 (significant ds ++ s) ≡ digits_at 0 (ds ++ s)
unfolding significant digits_at
stripped [] s = refl
stripped (d ∷ []) s = refl
stripped (d ∷ e ∷ ds) s = go (stripped (e ∷ ds) s) (d == 48) refl where
  go : digits_at 0 (significant (e ∷ ds) ++ s) ≡ digits_at 0 (e ∷ ds ++ s) → (b : Bool) → (d == 48) ≡ b → digits_at 0 ((if b then significant (e ∷ ds) else d ∷ e ∷ ds) ++ s) ≡ digits_at 0 (d ∷ e ∷ ds ++ s)
  go rest true is = rest ∙ ap (λ x. digits_at 0 (x ∷ e ∷ ds ++ s)) (sym (eqb-true d 48 is))
  go rest false is = refl

pub number-again : (n : ℕ) (s : List ℕ) → n < 2 ^ 32 → Ends s → number_at (number n ++ s) ≡ Some (n, s)
unfolding number_at behind
number-again n s small ends =
    ap Some (
    stripped (hex8 n) s
    ∙ ap (λ m. digits_at m (hex8 n ++ s)) (sym (div-eq_of_lt {n = n} {m = 16 ^ 8} small))
    ∙ digits-again 8 n s small ends)
