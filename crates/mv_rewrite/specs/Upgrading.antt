-- The rules that a frame's counters are of. This project's own.
use Rattle.std.specs.Prelude.{◌≡◌, ◌≤◌, ℕ, List, [], ◌∷◌, length, map, Some, None, nat_lt, ◌==◌, if◌then◌else◌}
use Rattle.std.specs.List.{filter}
use Rattle.mv_base.specs.Bytes.{AreBytes}
use Rattle.elf32_read.specs.Faults.{refusal}
use Rattle.elf32_write.specs.Frame.{Frame, counted}
use Rattle.counter_hooks.specs.declared.rules.Rule.{Rule}
use Rattle.counter_hooks.specs.declared.rules.Rule.TheVariants as rule
use Rattle.edge_hooks.specs.declared.rules.EdgeRule.{EdgeRule}
use Rattle.edge_hooks.specs.declared.rules.EdgeRule.TheVariants as edges
use Rattle.image_layout.specs.Rules.{Rules, both}
use Rattle.mv_rewrite.specs.Output.{output}

-- the addresses that pairs have with a kind
abbrev pub of_kind : ℕ → List (ℕ × ℕ) → List ℕ
of_kind kind qs = map (λ q. q.0) (filter (λ q. q.1 == kind) qs)

-- a number put into an ascending list, if it isn't there
abbrev pub insert_once : ℕ → List ℕ → List ℕ
insert_once a [] = a ∷ []
insert_once a (x ∷ xs) = if nat_lt a x then a ∷ x ∷ xs else (if a == x then x ∷ xs else x ∷ insert_once a xs)

-- the numbers of a list, ascending and each once
abbrev pub sorted_once : List ℕ → List ℕ
sorted_once [] = []
sorted_once (x ∷ xs) = insert_once x (sorted_once xs)

-- the addresses that a frame lists with a kind
abbrev pub listed : ℕ → Frame → List ℕ
listed kind f = sorted_once (of_kind kind (counted f))

-- the rule of a number; 6 is that of listed addresses
abbrev pub rule_by : ℕ → List ℕ → Rule
rule_by n xs =
    if n == 0 then rule.None else
    (if n == 1 then rule.All else
    (if n == 2 then rule.Calls else
    (if n == 3 then rule.Returns else
    (if n == 4 then rule.Branches else
    (if n == 5 then rule.System else rule.At xs)))))

-- and the edge rule
abbrev pub edge_rule_by : ℕ → List ℕ → EdgeRule
edge_rule_by n xs = if n == 0 then edges.None else (if n == 1 then edges.All else edges.At xs)

-- the rule that a frame's counters of all executions are of
unfoldable pub rule_back : Frame → Rule
rule_back f = rule_by f.rule (listed 0 f)

-- and that of its counters of the ways that branches and loops go
unfoldable pub edge_rule_back : Frame → EdgeRule
edge_rule_back f = edge_rule_by f.edge_rule (listed 1 f)

abbrev pub rules_back : Frame → Rules
rules_back f = both (rule_back f) (edge_rule_back f)

-- a file without a fault, its one output by rules, for which there is room
pub record HasOutput (b : List ℕ) (rules : Rules) (x : List ℕ) : Type 0 where
  pub bytes : AreBytes b
  pub short : length b ≤ 268435456
  pub sound : refusal b ≡ None
  pub output_is : output b rules ≡ Some x
