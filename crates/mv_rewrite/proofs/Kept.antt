-- An output keeps its input, and the rules by which it was made.
use Rattle.std.proofs.Common.{◌≡◌, ℕ, List, map, Some, refl, sym, ap, ◌∙◌, subst}
use mathlib.Core.Path.{fun_ext}
use Rattle.std.specs.Prelude.{slice_get}
use Rattle.std.specs.Option.{option_map}
use Rattle.std.proofs.lemmas.Option.{same_Some}
use Rattle.elf32_read.specs.Fields.{entry_at, segments}
use Rattle.elf32_read.specs.Runs.{runs_of}
use Rattle.elf32_write.specs.File.{file_of}
use Rattle.elf32_write.specs.Frame.{Frame, frame, frame_input, counted}
use Rattle.image_layout.specs.Rules.{Rules, both}
use Rattle.counter_hooks.specs.declared.rules.Rule.{Rule}
use Rattle.counter_hooks.specs.declared.rules.Rule.TheVariants as rule
use Rattle.counter_hooks.specs.Rules.{number_of, picked}
use Rattle.edge_hooks.specs.declared.rules.EdgeRule.{EdgeRule}
use Rattle.edge_hooks.specs.declared.rules.EdgeRule.TheVariants as edges
use Rattle.edge_hooks.specs.Rules as edge
use Rattle.edge_hooks.specs.Rules.{edge_picked}
use Rattle.map_table.specs.Pairs.{Ascend}
use Rattle.superset.specs.declared.site.Site.{Site}
use Rattle.image_layout.specs.Fit.{first_fit}
use Rattle.image_layout.specs.laws.Ruled.{PickAlike, passing, passing_ascends, same_size, same_plan, same_at, same_edges_at}
use Rattle.image_layout.specs.laws.SiteFacts.{site_address}
use Rattle.image_layout.specs.laws.InPlacing.{index_of}
use Rattle.image_layout.specs.laws.LayFacts.{ascend}
use Rattle.mv_rewrite.specs.Sites.{sites}
use Rattle.mv_rewrite.specs.Layout.{base_of, chains}
use Rattle.mv_rewrite.specs.Output.{output, output_at}
use Rattle.mv_rewrite.specs.Upgrading.{HasOutput, of_kind, sorted_once, listed, rule_by, edge_rule_by, rule_back, edge_rule_back, rules_back}
use Rattle.mv_rewrite.proofs.Listed.{all_listed, ways_listed, sorted_already}
use Rattle.mv_rewrite.proofs.Planned.{IsInput}
use Rattle.mv_rewrite.proofs.Recorded.{frame_is, framed, counted_there, input_there}
use Rattle.mv_rewrite.proofs.Assembled.{IsOutputOf, output_of}

-- ---- the rules that is taken from a frame

-- rules of the same numbers that pick the same of a file's sites have one output of it
same_output : (b : List ℕ) (p q : Rules) → PickAlike p q (sites b) → number_of p.all ≡ number_of q.all → edge.number_of p.ways ≡ edge.number_of q.ways → output b p ≡ output b q
unfolding output base_of
same_output b p q alike number ways =
    ap (λ n. option_map (output_at b p) (first_fit (segments b) n)) (same_size p q (runs_of b) (sites b) (chains b) alike)
    ∙ ap (λ (g : ℕ → List ℕ). option_map g (base_of b q))
    (fun_ext (λ base. ap (file_of b) (same_plan p q (entry_at b) (runs_of b) (sites b) (chains b) base alike number ways)))

-- the rule of a rule's number and of the addresses that it picks has that number, and picks the same
same_number : (r : Rule) (xs : List ℕ) → number_of (rule_by (number_of r) xs) ≡ number_of r
same_number rule.None xs = refl
same_number rule.All xs = refl
same_number rule.Calls xs = refl
same_number rule.Returns xs = refl
same_number rule.Branches xs = refl
same_number rule.System xs = refl
same_number (rule.At ys) xs = refl

same_edge_number : (r : EdgeRule) (xs : List ℕ) → edge.number_of (edge_rule_by (edge.number_of r) xs) ≡ edge.number_of r
same_edge_number edges.None xs = refl
same_edge_number edges.All xs = refl
same_edge_number (edges.At ys) xs = refl

module _ (ss : List Site) (asc : Ascend 0 (map site_address ss)) (k : ℕ) (s : Site) (e : slice_get ss k ≡ Some s) where
  same_picked : (r : Rule) → picked (rule_by (number_of r) (passing (picked r) ss)) s ≡ picked r s
  same_picked rule.None = refl
  same_picked rule.All = refl
  same_picked rule.Calls = refl
  same_picked rule.Returns = refl
  same_picked rule.Branches = refl
  same_picked rule.System = refl
  same_picked (rule.At xs) = same_at xs ss k s asc e

  same_edges : (r : EdgeRule) → edge_picked (edge_rule_by (edge.number_of r) (passing (edge_picked r) ss)) s ≡ edge_picked r s
  same_edges edges.None = refl
  same_edges edges.All = refl
  same_edges (edges.At xs) = same_edges_at xs ss k s asc e

-- the rules of two numbers and of what the rules of these numbers pick of sites
abbrev taken : Rules → List Site → Rules
taken r ss = both (rule_by (number_of r.all) (passing (picked r.all) ss)) (edge_rule_by (edge.number_of r.ways) (passing (edge_picked r.ways) ss))

taken_alike : (r : Rules) (ss : List Site) → Ascend 0 (map site_address ss) → PickAlike (taken r ss) r ss
taken_alike r ss asc s h =
    let q = index_of ss s h in
    record { all = same_picked ss asc q.0 s q.1 r.all; ways = same_edges ss asc q.0 s q.1 r.ways }

taken_output : (b : List ℕ) (r : Rules) → Ascend 0 (map site_address (sites b)) → output b (taken r (sites b)) ≡ output b r
taken_output b r asc = same_output b (taken r (sites b)) r (taken_alike r (sites b) asc) (same_number r.all _) (same_edge_number r.ways _)

module _ (b : List ℕ) (r : Rules) (base : ℕ) (is : IsInput b r base) where
  in_order : Ascend 0 (map site_address (sites b))
  in_order = ascend (runs_of b) (sites b) (chains b) is.laid

  all_there : listed 0 (frame_is b r base) ≡ passing (picked r.all) (sites b)
  all_there =
      ap (λ (qs : List (ℕ × ℕ)). sorted_once (of_kind 0 qs)) (counted_there b r base is)
      ∙ (ap sorted_once (all_listed r (sites b)) ∙ sorted_already (passing (picked r.all) (sites b)) (passing_ascends (picked r.all) (sites b) in_order))

  ways_there : listed 1 (frame_is b r base) ≡ passing (edge_picked r.ways) (sites b)
  ways_there =
      ap (λ (qs : List (ℕ × ℕ)). sorted_once (of_kind 1 qs)) (counted_there b r base is)
      ∙ (ap sorted_once (ways_listed r (sites b)) ∙ sorted_already (passing (edge_picked r.ways) (sites b)) (passing_ascends (edge_picked r.ways) (sites b) in_order))

  rules_there : rules_back (frame_is b r base) ≡ taken r (sites b)
  unfolding rule_back edge_rule_back
  rules_there = λ i. both (rule_by (number_of r.all) (all_there i)) (edge_rule_by (edge.number_of r.ways) (ways_there i))

-- ---- the two laws

-- the frame of an output
record HasFrame (b : List ℕ) (r : Rules) (x : List ℕ) : Type 0 where
  base : ℕ
  input : IsInput b r base
  framed_as : frame x ≡ Some (frame_is b r base)

frame_of : (b : List ℕ) (r : Rules) (x : List ℕ) → HasOutput b r x → HasFrame b r x
frame_of b r x has =
    let o = output_of b r x has.sound has.bytes has.short has.output_is in
    record { base = o.base; input = o.input; framed_as = ap frame (sym o.same) ∙ framed b r o.base o.input }

pub keeps_input : (b : List ℕ) (r : Rules) (x : List ℕ) → HasOutput b r x → (f : Frame) × (frame x ≡ Some f) × (frame_input f ≡ b)
keeps_input b r x has =
    let h = frame_of b r x has in
    (frame_is b r h.base, h.framed_as, input_there b r h.base h.input)

pub gives_again : (b : List ℕ) (r : Rules) (x : List ℕ) → HasOutput b r x → (f : Frame) → frame x ≡ Some f → output (frame_input f) (rules_back f) ≡ Some x
gives_again b r x has f e =
    let h = frame_of b r x has in
    let same : frame_is b r h.base ≡ f = same_Some (frame_is b r h.base) f (sym h.framed_as ∙ e) in
    subst (λ (g : Frame). output (frame_input g) (rules_back g) ≡ Some x) same
    (ap (λ (i : List ℕ). output i (rules_back (frame_is b r h.base))) (input_there b r h.base h.input)
    ∙ (ap (output b) (rules_there b r h.base h.input) ∙ (taken_output b r (in_order b r h.base h.input) ∙ has.output_is)))
