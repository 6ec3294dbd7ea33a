-- The plan as it is computed is the plan.
use Rattle.std.proofs.Common.{◌≡◌, ℕ, ◌+◌, ◌*◌, ◌≤◌, List, ◌++◌, length, map, Option, sym, ap, ◌∙◌, subst}
use Rattle.std.proofs.lemmas.List.{length-map}
use Rattle.mv_base.specs.declared.range.RunPlace.{RunPlace}
use Rattle.elf32_read.specs.declared.run.Run.{Run}
use Rattle.elf32_read.specs.Runs.{code_of}
use Rattle.elf32_write.specs.declared.plan.Plan.{Plan}
use Rattle.elf32_write.specs.Format.{up}
use Rattle.map_table.specs.Pairs.{firsts}
use Rattle.map_table.specs.Paged.{table_bytes, table_size, Made, IsMade}
use Rattle.map_table.specs.Paged as paged
use Rattle.lookup_stub.specs.Stub.{stub}
use Rattle.lookup_stub.specs.laws.StubBytes.{stub_length}
use Rattle.image_layout.specs.Rules.{Rules}
use Rattle.superset.specs.declared.site.Site.{Site}
use Rattle.sequence_join.specs.Chains.{Chain}
use Rattle.simulation_laws.specs.declared.anchors.Anchors.{Anchors}
use Rattle.image_layout.specs.Layout.{stub_len, code_len, table_len, table_from, pairs_from, pairs, moved, run_places, anchors, code, plan}
use Rattle.image_layout.specs.Parts.{parts, parts_len, entry}
use Rattle.counter_hooks.specs.Rules.{number_of}
use Rattle.edge_hooks.specs.Rules as edges
use Rattle.image_layout.specs.Pieces.{site_len, listed, code_lens, chain_code}
use Rattle.image_layout.specs.Sites.{AreBelow}
use Rattle.image_layout.specs.laws.SiteFacts.{site_address}
use Rattle.image_layout.specs.laws.Pairing.{firsts_pairs}
use Rattle.image_layout.specs.laws.LayFacts.{AreLaid, chains_below, chains_small, HasBase, made}

-- what is known of the lengths
pub length-lens : (rules : Rules) (ss : List Site) (lens : List ℕ) → lens ≡ code_lens rules ss → length lens ≡ length ss
length-lens rules ss lens e = ap length e ∙ length-map ss (site_len rules)

pub lens_below : (rules : Rules) (rs : List Run) (ss : List Site) (cs : List Chain) (lens : List ℕ) → AreLaid rs ss cs → lens ≡ code_lens rules ss → AreBelow (length lens) cs
lens_below rules rs ss cs lens is e = subst (λ n. AreBelow n cs) (sym (length-lens rules ss lens e)) (chains_below rs ss cs is)

pub lens_small : (rules : Rules) (rs : List Run) (ss : List Site) (cs : List Chain) (lens : List ℕ) → AreLaid rs ss cs → lens ≡ code_lens rules ss → parts_len lens (parts cs) ≤ 156 * 16777216
lens_small rules rs ss cs lens is e = subst (λ (l : List ℕ). parts_len l (parts cs) ≤ 156 * 16777216) (sym e) (chains_small rules rs ss cs is)

pub lens_room : (rules : Rules) (cs : List Chain) (ss : List Site) (lens : List ℕ) → lens ≡ code_lens rules ss → parts_len lens (parts cs) ≡ parts_len (code_lens rules ss) (parts cs)
lens_room rules cs ss lens e = ap (λ (l : List ℕ). parts_len l (parts cs)) e

-- what the table is made of
pub made_is : (rules : Rules) (rs : List Run) (ss : List Site) (cs : List Chain) (is : AreLaid rs ss cs) (base n room : ℕ) (ps : List (ℕ × ℕ)) → HasBase rules rs ss cs is base → n ≡ stub_len rs → ps ≡ pairs_from rules ss cs (base + n) → room ≡ up (code_len rules rs ss cs) → IsMade (record { runs = rs; pairs = ps; lo = base + room })
made_is rules rs ss cs is base n room ps has n_is pairs_are room_is =
    let same : ps ≡ pairs rules rs ss cs base = pairs_are ∙ ap (λ m. pairs_from rules ss cs (base + m)) n_is in
    subst (λ (l : List (ℕ × ℕ)). IsMade (record { runs = rs; pairs = l; lo = base + room })) (sym same)
    (subst (λ m. IsMade (record { runs = rs; pairs = pairs rules rs ss cs base; lo = base + m })) (sym room_is) (made rules rs ss cs is base has))

-- the code behind the stub
pub code_is : (rules : Rules) (an : Anchors) (move : ℕ → ℕ) (bytes : ℕ → Option ℕ) (runs : List RunPlace) (ss : List Site) (cs : List Chain) (front new : List ℕ) → front ≡ stub 2 runs an.private → new ≡ front ++ chain_code rules an move bytes ss (an.stub + length front) cs → new ≡ code rules an move bytes runs ss cs
unfolding code
code_is rules an move bytes runs ss cs front new e h =
    h ∙ (ap (λ (l : List ℕ). l ++ chain_code rules an move bytes ss (an.stub + length l) cs) e
    ∙ ap (λ n. stub 2 runs an.private ++ chain_code rules an move bytes ss (an.stub + n) cs) (stub_length 2 runs an.private))

-- the parts of a plan, for these runs, sites and chains
pub record HasParts (start : ℕ) (rules : Rules) (rs : List Run) (ss : List Site) (cs : List Chain) (p : Plan) : Type 0 where
  pub code_is : p.code ≡ code rules (anchors rules rs ss cs p.base) (moved (pairs rules rs ss cs p.base)) (code_of rs) (run_places rules rs ss cs p.base) ss cs
  pub table_is : p.table ≡ table_bytes rs (pairs rules rs ss cs p.base) (table_from rules rs ss cs p.base)
  pub counted_is : p.counted ≡ listed rules ss
  pub runs_is : p.runs ≡ run_places rules rs ss cs p.base
  pub entry_is : p.entry ≡ moved (pairs rules rs ss cs p.base) start
  pub rule_is : p.rule ≡ number_of rules.all
  pub edge_rule_is : p.edge_rule ≡ edges.number_of rules.ways

-- and as they are computed
pub has_parts : (start : ℕ) (rules : Rules) (rs : List Run) (ss : List Site) (cs : List Chain) (p : Plan) (n room private : ℕ) (t : Made) (ps : List (ℕ × ℕ)) (there : List RunPlace)
    → n ≡ stub_len rs → room ≡ up (code_len rules rs ss cs) → ps ≡ pairs_from rules ss cs (p.base + n) → t ≡ record { runs = rs; pairs = ps; lo = p.base + room }
    → there ≡ paged.places rs (p.base + room) → private ≡ up (table_size t.runs (firsts t.pairs) + 8 * length (listed rules ss))
    → p.code ≡ code rules (record { stub = p.base; private = p.base + room + private }) (moved t.pairs) (code_of rs) there ss cs
    → p.table ≡ table_bytes t.runs t.pairs t.lo → p.counted ≡ listed rules ss → p.runs ≡ there → p.entry ≡ moved t.pairs start → p.rule ≡ number_of rules.all → p.edge_rule ≡ edges.number_of rules.ways → HasParts start rules rs ss cs p
has_parts start rules rs ss cs p n room private t ps there n_is room_is pairs_is t_is there_is private_is code_is table_is counted_is runs_is entry_is rule_is edge_rule_is =
    let base = p.base in
    let runs_same : t.runs ≡ rs = ap (λ (m : Made). m.runs) t_is in
    let pairs_same : t.pairs ≡ pairs rules rs ss cs base = ap (λ (m : Made). m.pairs) t_is ∙ (pairs_is ∙ ap (λ m. pairs_from rules ss cs (base + m)) n_is) in
    let lo_same : t.lo ≡ table_from rules rs ss cs base = ap (λ (m : Made). m.lo) t_is ∙ ap (λ m. base + m) room_is in
    let firsts_same : firsts t.pairs ≡ map site_address ss = ap firsts pairs_same ∙ firsts_pairs (entry (code_lens rules ss) (base + stub_len rs) (parts cs)) 0 ss in
    let private_same : private ≡ up (table_len rules rs ss) = private_is ∙ (λ i. up (table_size (runs_same i) (firsts_same i) + 8 * length (listed rules ss))) in
    let there_same : there ≡ run_places rules rs ss cs base = there_is ∙ ap (λ m. paged.places rs (base + m)) room_is in
    record {
      code_is = code_is ∙ (λ i. code rules (record { stub = base; private = base + room_is i + private_same i }) (moved (pairs_same i)) (code_of rs) (there_same i) ss cs);
      table_is = table_is ∙ (λ i. table_bytes (runs_same i) (pairs_same i) (lo_same i));
      counted_is = counted_is;
      runs_is = runs_is ∙ there_same;
      entry_is = entry_is ∙ ap (λ (l : List (ℕ × ℕ)). moved l start) pairs_same;
      rule_is = rule_is;
      edge_rule_is = edge_rule_is;
    }

-- the plan field by field
pub plan_is : (start : ℕ) (rules : Rules) (rs : List Run) (ss : List Site) (cs : List Chain) (p : Plan) → HasParts start rules rs ss cs p → p ≡ plan start rules rs ss cs p.base
unfolding plan
plan_is start rules rs ss cs p is =
    λ i. record { base = p.base; code = is.code_is i; table = is.table_is i; counted = is.counted_is i; runs = is.runs_is i; entry = is.entry_is i; rule = is.rule_is i; edge_rule = is.edge_rule_is i }

-- the counters of a plan
pub counted_is : (start : ℕ) (rules : Rules) (rs : List Run) (ss : List Site) (cs : List Chain) (p : Plan) → p ≡ plan start rules rs ss cs p.base → p.counted ≡ listed rules ss
unfolding plan
counted_is start rules rs ss cs p e = ap (λ (q : Plan). q.counted) e

-- the length of the table that is made
pub table_is : (rules : Rules) (rs : List Run) (ss : List Site) (cs : List Chain) (base n room : ℕ) (ps : List (ℕ × ℕ)) (t : Made) → n ≡ stub_len rs → ps ≡ pairs_from rules ss cs (base + n) → t ≡ record { runs = rs; pairs = ps; lo = base + room } → table_size t.runs (firsts t.pairs) ≡ table_size rs (map site_address ss)
table_is rules rs ss cs base n room ps t n_is pairs_is t_is =
    let runs_same : t.runs ≡ rs = ap (λ (m : Made). m.runs) t_is in
    let firsts_same : firsts t.pairs ≡ map site_address ss =
    ap (λ (m : Made). firsts m.pairs) t_is ∙ (ap firsts pairs_is ∙ firsts_pairs (entry (code_lens rules ss) (base + n) (parts cs)) 0 ss) in
    λ i. table_size (runs_same i) (firsts_same i)
