-- Reading digits and words, one after the other.
use Rattle.std.proofs.Common.{◌≡◌, ◌≢◌, ℕ, ◌<◌, List, length, drop, take, None, option_map, option_and_then, ap, arith, cond}
use Rattle.std.proofs.lemmas.Bool.{ne_eqb}
use Rattle.std.proofs.lemmas.List.{length-take}
use Rattle.std.specs.Prelude.{codes}
use Rattle.mv_base.specs.Reading.{behind, hex_value, number_in}
use Rattle.syscall_log.specs.Reading.{number_and}

-- fewer than eight digits are no number
pub number_and-short : (text : List ℕ) → length text < 8 → number_and text ≡ None
unfolding number_and number_in
number_and-short text short =
    let apart : length (take 8 text) ≢ 8 = omega (arith, length-take 8 text) in
    ap (option_and_then (λ n. option_map (λ rest. (n, rest)) (behind (codes " ") (drop 8 text)))) (ap (λ b. cond b (hex_value 0 (take 8 text)) None) (ne_eqb (length (take 8 text)) 8 apart))
