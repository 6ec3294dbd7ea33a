-- Numbers and bytes as digits: what is written is read again, and what is read was written.
use Rattle.std.proofs.Common.{◌≡◌, ◌≢◌, ℕ, suc, ◌<◌, ◌^◌, false, cond, eqb, List, [], ◌∷◌, length, Some, None, refl, ap, ◌∙◌, sym, arith}
use Rattle.std.proofs.Math.Bool.{and-false}
use Rattle.std.proofs.lemmas.Bool.{eq-eqb, false≢true}
use Rattle.std.proofs.Math.Dec.{eqb-suc-zero}
use Rattle.std.proofs.lemmas.Option.{none-some, same_Some}
use Rattle.std.proofs.lemmas.Slice.Eq.{bytes_eq-Decides}
use Rattle.std.specs.Str.{bytes_eq}
use Rattle.std.specs.Prelude.{codes}
use Rattle.mv_base.specs.Bytes.{AreBytes}
use Rattle.mv_base.specs.Digits.{pairs-again, pairs-found, number-again as eight-again, number-found as eight-found}
use Rattle.mv_base.specs.Reading.{number_in, pairs_in}
use Rattle.mv_base.specs.Text.{byte_text, hex_text}
use Rattle.syscall_log.specs.Grammar.{number_text, bytes_text}
use Rattle.syscall_log.specs.Reading.{hex_in, bytes_in}
use Rattle.syscall_log.proofs.Steps.{found-if}

-- a number in eight digits
pub number-again : (n : ℕ) → n < 2 ^ 32 → number_in (number_text n) ≡ Some n
unfolding number_text
number-again n small = eight-again n small

pub number-found : (text : List ℕ) (n : ℕ) → number_in text ≡ Some n → text ≡ number_text n
unfolding number_text
number-found text n h = eight-found text n h

-- one byte at least
pub hex-again : (bytes : List ℕ) → AreBytes bytes → 0 < length bytes → hex_in (hex_text bytes) ≡ Some bytes
unfolding hex_in byte_text
hex-again [] are some = absurd (omega arith)
hex-again (b ∷ bytes) are some =
    ap (λ t. cond t None (pairs_in (hex_text (b ∷ bytes)))) (eqb-suc-zero (suc (length (hex_text bytes)))) ∙ pairs-again (b ∷ bytes) are

pub hex-found : (text bytes : List ℕ) → hex_in text ≡ Some bytes → (text ≡ hex_text bytes) × (text ≢ [])
unfolding hex_in
hex-found text bytes is =
    found-if (eqb (length text) 0) None (pairs_in text) bytes (λ _ none. absurd (none-some bytes none))
    (λ some found. (pairs-found text bytes found, λ e. false≢true (sym some ∙ eq-eqb (length text) 0 (ap length e)))) is

-- bytes, or a dash
no-dash : (b : ℕ) (bytes : List ℕ) → bytes_eq (hex_text (b ∷ bytes)) (codes "-") ≡ false
unfolding byte_text
no-dash b bytes = and-false _

pub bytes-again : (bytes : List ℕ) → AreBytes bytes → bytes_in (bytes_text bytes) ≡ Some bytes
unfolding bytes_in
bytes-again [] are = refl
bytes-again (b ∷ bytes) are =
    ap (λ t. cond t (Some []) (hex_in (hex_text (b ∷ bytes)))) (no-dash b bytes) ∙ hex-again (b ∷ bytes) are (omega arith)

some-bytes : (text bytes : List ℕ) → text ≡ hex_text bytes → text ≢ [] → text ≡ bytes_text bytes
some-bytes text [] is some = absurd (some is)
some-bytes text (b ∷ bytes) is some = is

pub bytes-found : (text bytes : List ℕ) → bytes_in text ≡ Some bytes → text ≡ bytes_text bytes
unfolding bytes_in
bytes-found text bytes is =
    found-if (bytes_eq text (codes "-")) (Some []) (hex_in text) bytes
    (λ dash found. (bytes_eq-Decides text (codes "-")).0 dash ∙ ap bytes_text (same_Some [] bytes found))
    (λ _ found. let h = hex-found text bytes found in some-bytes text bytes h.0 h.1) is
