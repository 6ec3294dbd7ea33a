-- Which branches and loops an edge rule picks. This project's own.
use Rattle.std.specs.Prelude.{ℕ, ◌&&◌, ◌==◌, Bool, false}
use Rattle.std.specs.List.{list_any}
use Rattle.x86_insn.specs.Flow.{flow_of}
use Rattle.superset.specs.declared.site.Site.{Site}
use Rattle.counter_hooks.specs.Rules.{Ascend, is_branch}
use Rattle.edge_hooks.specs.declared.rules.EdgeRule.{EdgeRule}
use Rattle.edge_hooks.specs.declared.rules.EdgeRule.TheVariants as rule

-- the addresses of a list strictly ascend
abbrev pub EdgesAscend : EdgeRule → Type 0
EdgesAscend rule.None = Unit {0}
EdgesAscend rule.All = Unit {0}
EdgesAscend (rule.At xs) = Ascend xs

-- the number of an edge rule, as rules of sites have them: this project's own
abbrev pub number_of : EdgeRule → ℕ
number_of rule.None = 0
number_of rule.All = 1
number_of (rule.At _) = 6

-- whether an edge rule picks a site: a branch on a condition, LOOP and its kin, or JECXZ
abbrev pub edge_picked : EdgeRule → Site → Bool
edge_picked rule.None s = false
edge_picked rule.All s = is_branch (flow_of s.insn)
edge_picked (rule.At xs) s = is_branch (flow_of s.insn) && list_any (λ a. a == s.at) xs
