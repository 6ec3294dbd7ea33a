-- The text of a rule. This project's own. A text is the list of its bytes.
use Rattle.std.specs.Prelude.{ℕ, zero, suc, ◌+◌, ◌==◌, nat_le, if◌then◌else◌, List, [], ◌∷◌, take, drop, codes, Option, Some, None, option_map, option_and_then}
use Rattle.std.specs.Str.{bytes_eq}
use Rattle.mv_base.specs.Reading.{number_in}
use Rattle.counter_hooks.specs.declared.rules.Rule.{Rule}
use Rattle.counter_hooks.specs.declared.rules.Rule.TheVariants as rule

-- an address that isn't below a bound, and what stands behind its digits
unfoldable pub first_of : ℕ → List ℕ → Option (ℕ × List ℕ)
first_of low text =
    option_and_then (λ n. if nat_le low n then Some (n, drop 8 text) else None) (number_in (take 8 text))

-- nothing, or a comma and a list that is read
abbrev pub further : (List ℕ → Option (List ℕ)) → List ℕ → Option (List ℕ)
further list [] = Some []
further list (c ∷ text) = if c == 44 then list text else None

-- so many addresses at most, and one at least, of which the first isn't below a bound and each other one is greater than
-- the one before it, with one comma between two
unfoldable pub addresses_of : ℕ → ℕ → List ℕ → Option (List ℕ)
addresses_of zero low text = None
addresses_of (suc most) low text =
    option_and_then (λ (n, text'). option_map (λ more. n ∷ more) (further (addresses_of most (n + 1)) text')) (first_of low text)

-- how many addresses a rule has at most
abbrev pub most_addresses : ℕ
most_addresses = 1024

-- a rule that is one word
abbrev pub word_rule : List ℕ → Option Rule
word_rule text =
    if bytes_eq text (codes "none") then Some rule.None
    else (if bytes_eq text (codes "all") then Some rule.All
    else (if bytes_eq text (codes "calls") then Some rule.Calls
    else (if bytes_eq text (codes "returns") then Some rule.Returns
    else (if bytes_eq text (codes "branches") then Some rule.Branches
    else (if bytes_eq text (codes "system") then Some rule.System
    else None)))))

-- what stands behind `at:`, where a text begins with that
unfoldable pub list_text : List ℕ → Option (List ℕ)
list_text text = if bytes_eq (take 3 text) (codes "at:") then Some (drop 3 text) else None

-- the rule of a text: `at:` and addresses, or one word
abbrev pub rule_in : List ℕ → Option (List ℕ) → Option Rule
rule_in text (Some list) = option_map rule.At (addresses_of most_addresses 0 list)
rule_in text None = word_rule text

unfoldable pub rule_of : List ℕ → Option Rule
rule_of text = rule_in text (list_text text)
