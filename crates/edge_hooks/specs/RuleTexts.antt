-- The text of an edge rule. This project's own. A text is the list of its bytes.
use Rattle.std.specs.Prelude.{ℕ, if◌then◌else◌, List, codes, Option, Some, None, option_map}
use Rattle.std.specs.Str.{bytes_eq}
use Rattle.counter_hooks.specs.RuleTexts.{addresses_of, list_text, most_addresses}
use Rattle.edge_hooks.specs.declared.rules.EdgeRule.{EdgeRule}
use Rattle.edge_hooks.specs.declared.rules.EdgeRule.TheVariants as rule

-- an edge rule that is one word
abbrev pub word_rule : List ℕ → Option EdgeRule
word_rule text =
    if bytes_eq text (codes "none") then Some rule.None
    else (if bytes_eq text (codes "all") then Some rule.All
    else None)

-- the edge rule of a text: `at:` and addresses, or one word
abbrev pub edge_rule_in : List ℕ → Option (List ℕ) → Option EdgeRule
edge_rule_in text (Some list) = option_map rule.At (addresses_of most_addresses 0 list)
edge_rule_in text None = word_rule text

unfoldable pub edge_rule_of : List ℕ → Option EdgeRule
edge_rule_of text = edge_rule_in text (list_text text)
