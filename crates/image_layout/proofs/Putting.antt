-- Code part by part: what is written, and what is still to be written.
use Rattle.std.proofs.Common.{◌≡◌, ℕ, ◌+◌, ◌*◌, ◌<◌, ◌≤◌, Bool, true, false, cond, List, [], ◌∷◌, ◌++◌, length, get_or, drop, map, Option, Some, None, refl, sym, ap, ◌∙◌, subst, arith}
use Rattle.std.specs.Prelude.{IfSome, slice_get, slice_index}
use Rattle.std.specs.Option.{ForSome}
use Rattle.std.proofs.lemmas.Bool.{true≢false}
use Rattle.std.proofs.lemmas.List.{length-append, append_assoc, append-nil}
use Rattle.std.proofs.lemmas.List.Concat.{flat_map-append}
use Rattle.std.proofs.lemmas.Option.{none-some, slice_get-get_or}
use Rattle.mv_base.specs.Memory.{exec_bytes}
use Rattle.x86_insn.specs.declared.insn.Flow.{Flow}
use Rattle.x86_insn.specs.declared.insn.Flow.TheVariants as flow
use Rattle.x86_insn.specs.Flow.{flow_of}
use Rattle.branch_lengthen.specs.Near.{near_bytes}
use Rattle.call_rewrite.specs.Far.{far_bytes, load_of}
use Rattle.map_table.specs.Pairs.{Ascend}
use Rattle.image_layout.specs.Rules.{Rules}
use Rattle.counter_hooks.specs.Rules.{picked, is_branch}
use Rattle.counter_hooks.specs.Counter.{counter}
use Rattle.edge_hooks.specs.Rules.{edge_picked}
use Rattle.edge_hooks.specs.Edges.{edge_bytes}
use Rattle.superset.specs.declared.site.Site.{Site}
use Rattle.sequence_join.specs.Chains.{Chain}
use Rattle.simulation_laws.specs.declared.anchors.Anchors.{Anchors}
use Rattle.simulation_laws.specs.declared.anchors.Ways.{Ways}
use Rattle.simulation_laws.specs.Pieces.{successor, target, piece_of, piece_with, counter_code, counted_piece, ways_by}
use Rattle.image_layout.specs.Parts.{Part, Piece, Join, join_parts, link_parts, chain_parts, parts, part_len, parts_len, placed}
use Rattle.image_layout.specs.Measuring.{AreRanks}
use Rattle.image_layout.specs.Pieces.{is_direct, is_own, all_place, ways_place, counters, code_lens, site_code, part_bytes, bytes_of}
use Rattle.image_layout.specs.Sites.{AreWhole}
use Rattle.image_layout.specs.laws.Placing.{placed-append, length-code_at}
use Rattle.image_layout.specs.laws.SiteFacts.{site_address}
use Rattle.image_layout.specs.laws.Sizes.{counter_sized, lens_at, part_sized}
use Rattle.image_layout.specs.laws.Counters.{rank_most, IsCountedAt, counted_at, counted_first, picked_branches}
use Rattle.image_layout.proofs.Steps.{links_rest, links_none, chains_rest}

module _ (lens : List ℕ) (bytes : ℕ → Part → List ℕ) (stub : ℕ) where
  -- the code, and behind it what is to come
  pub to_come : List ℕ → List Part → List ℕ
  to_come code ps = code ++ bytes_of bytes (placed lens (stub + length code) ps)

  -- one part more
  pub put_part : (now new p : List ℕ) (here : ℕ) (q : Part) (rest : List Part) → here ≡ stub + length now → p ≡ bytes here q → length p ≡ part_len lens q → new ≡ now ++ p
      → new ++ bytes_of bytes (placed lens (stub + length new) rest) ≡ now ++ bytes_of bytes (placed lens (stub + length now) (q ∷ rest))
  unfolding placed
  put_part now new p here q rest at is len new_is =
      let front : p ≡ bytes (stub + length now) q = is ∙ ap (λ n. bytes n q) at in
      let end : stub + length new ≡ stub + length now + part_len lens q = omega (arith, ap length new_is, length-append now p, len) in
      ap (λ n. new ++ bytes_of bytes (placed lens n rest)) end
      ∙ (ap (λ (l : List ℕ). l ++ bytes_of bytes (placed lens (stub + length now + part_len lens q) rest)) (new_is ∙ ap (λ (l : List ℕ). now ++ l) front)
      ∙ append_assoc now (bytes (stub + length now) q) (bytes_of bytes (placed lens (stub + length now + part_len lens q) rest)))

  pub put_all : (now new : List ℕ) (ps : List Part) → ps ≡ [] → new ≡ now → new ≡ now ++ bytes_of bytes (placed lens (stub + length now) ps)
  unfolding placed
  put_all now new ps e same = same ∙ (sym (append-nil now) ∙ ap (λ (l : List Part). now ++ bytes_of bytes (placed lens (stub + length now) l)) (sym e))

  -- several parts more
  pub put_parts : (sized : (here : ℕ) (p : Part) → length (bytes here p) ≡ part_len lens p) (now new : List ℕ) (ps rest : List Part) → new ≡ now ++ bytes_of bytes (placed lens (stub + length now) ps)
      → new ++ bytes_of bytes (placed lens (stub + length new) rest) ≡ now ++ bytes_of bytes (placed lens (stub + length now) (ps ++ rest))
  put_parts sized now new ps rest new_is =
      let here = stub + length now in
      let first = bytes_of bytes (placed lens here ps) in
      let end : stub + length new ≡ here + parts_len lens ps = omega (arith, ap length new_is, length-append now first, length-code_at lens bytes sized ps here) in
      let more = bytes_of bytes (placed lens (here + parts_len lens ps) rest) in
      ap (λ n. new ++ bytes_of bytes (placed lens n rest)) end
      ∙ (ap (λ (l : List ℕ). l ++ more) new_is
      ∙ (append_assoc now first more
      ∙ ap (λ (l : List ℕ). now ++ l)
      (sym (ap (bytes_of bytes) (placed-append lens here ps rest) ∙ flat_map-append (λ (q : ℕ × Part). bytes q.0 q.1) (placed lens here ps) (placed lens (here + parts_len lens ps) rest)))))

  pub length-put : (sized : (here : ℕ) (p : Part) → length (bytes here p) ≡ part_len lens p) (now new : List ℕ) (ps : List Part) → new ≡ now ++ bytes_of bytes (placed lens (stub + length now) ps) → length new ≡ length now + parts_len lens ps
  length-put sized now new ps new_is = ap length new_is ∙ (length-append now (bytes_of bytes (placed lens (stub + length now) ps)) ∙ ap (λ n. length now + n) (length-code_at lens bytes sized ps (stub + length now)))

  -- the same of the links and the chains from the i-th on
  pub put_link : (ks : List ℕ) (i : ℕ) (next : Option ℕ) (now new p : List ℕ) (here : ℕ) → i < length ks → here ≡ stub + length now → p ≡ bytes here (Piece (get_or ks i 0)) → length p ≡ slice_index lens (get_or ks i 0) → new ≡ now ++ p
      → new ++ bytes_of bytes (placed lens (stub + length new) (link_parts (drop (i + 1) ks) next)) ≡ now ++ bytes_of bytes (placed lens (stub + length now) (link_parts (drop i ks) next))
  put_link ks i next now new p here lt at is len new_is =
      put_part now new p here (Piece (get_or ks i 0)) (link_parts (drop (i + 1) ks) next) at is len new_is
      ∙ ap (λ (l : List Part). now ++ bytes_of bytes (placed lens (stub + length now) l)) (sym (links_rest ks i next lt))

  pub put_chain : (sized : (here : ℕ) (p : Part) → length (bytes here p) ≡ part_len lens p) (cs : List Chain) (i : ℕ) (c : Chain) (now new : List ℕ) → i < length cs → c ≡ get_or cs i c → new ≡ now ++ bytes_of bytes (placed lens (stub + length now) (chain_parts c))
      → new ++ bytes_of bytes (placed lens (stub + length new) (parts (drop (i + 1) cs))) ≡ now ++ bytes_of bytes (placed lens (stub + length now) (parts (drop i cs)))
  put_chain sized cs i c now new lt e new_is =
      put_parts sized now new (chain_parts c) (parts (drop (i + 1) cs)) new_is
      ∙ ap (λ (l : List Part). now ++ bytes_of bytes (placed lens (stub + length now) l)) (sym (chains_rest cs i c lt e))

  -- where the links end there is a join or nothing
  pub put_join : (ks : List ℕ) (i : ℕ) (next : Option ℕ) (now new : List ℕ) (to : ℕ) → length ks ≤ i → next ≡ Some to → length (bytes (stub + length now) (Join to)) ≡ 5 → new ≡ now ++ bytes (stub + length now) (Join to)
      → new ≡ now ++ bytes_of bytes (placed lens (stub + length now) (link_parts (drop i ks) next))
  put_join ks i next now new to le e len new_is =
      put_all new new [] refl refl
      ∙ (put_part now new (bytes (stub + length now) (Join to)) (stub + length now) (Join to) [] refl refl len new_is
      ∙ ap (λ (l : List Part). now ++ bytes_of bytes (placed lens (stub + length now) l)) (sym (links_none ks i next le ∙ ap join_parts e)))

  pub put_nothing : (ks : List ℕ) (i : ℕ) (next : Option ℕ) (now : List ℕ) → length ks ≤ i → next ≡ None → now ≡ now ++ bytes_of bytes (placed lens (stub + length now) (link_parts (drop i ks) next))
  put_nothing ks i next now le e = put_all now now (link_parts (drop i ks) next) (links_none ks i next le ∙ ap join_parts e) refl

-- ---- the code of a site

-- a piece for the place of its target, where it has one, whatever is said of that of any other
pub piece_by : (f : Flow) (an : Anchors) (move : ℕ → ℕ) (code : ℕ → Option ℕ) (here : ℕ) (s : Site) (to : ℕ) → to ≡ cond (is_direct f) (move (target s)) 0 → piece_of f an (λ _. to) code here s ≡ piece_of f an move code here s
piece_by flow.Plain an move code here s to e = refl
piece_by flow.System an move code here s to e = refl
piece_by flow.Trap an move code here s to e = refl
piece_by flow.Jump an move code here s to e = ap (λ n. near_bytes s.insn here n) e
piece_by flow.Branch an move code here s to e = ap (λ n. near_bytes s.insn here n) e
piece_by flow.Count an move code here s to e = ap (λ n. near_bytes s.insn here n) e
piece_by flow.Call an move code here s to e = ap (λ n. far_bytes (load_of s.insn) s.insn (successor s) here n an.private) e
piece_by flow.JumpVia an move code here s to e = refl
piece_by flow.CallVia an move code here s to e = refl
piece_by flow.Return an move code here s to e = refl

-- a piece that is the instruction's own bytes
pub own_piece : (f : Flow) (an : Anchors) (move : ℕ → ℕ) (code : ℕ → Option ℕ) (here : ℕ) (s : Site) → is_own f ≡ true → exec_bytes code s.at s.len ≡ piece_of f an move code here s
own_piece flow.Plain an move code here s e = refl
own_piece flow.System an move code here s e = refl
own_piece flow.Trap an move code here s e = refl
own_piece flow.Jump an move code here s e = absurd cc
own_piece flow.Branch an move code here s e = absurd cc
own_piece flow.Count an move code here s e = absurd cc
own_piece flow.Call an move code here s e = absurd cc
own_piece flow.JumpVia an move code here s e = absurd cc
own_piece flow.CallVia an move code here s e = absurd cc
own_piece flow.Return an move code here s e = absurd cc

-- the same of a piece with counters on its ways, which goes to its target
pub with_by : (ways : Option Ways) (an : Anchors) (move : ℕ → ℕ) (code : ℕ → Option ℕ) (here : ℕ) (s : Site) (to : ℕ) → ForSome ways (λ w. is_branch (flow_of s.insn) ≡ true) → to ≡ cond (is_direct (flow_of s.insn)) (move (target s)) 0 → piece_with an (λ _. to) code ways here s ≡ piece_with an move code ways here s
with_by None an move code here s to branches e = piece_by (flow_of s.insn) an move code here s to e
with_by (Some w) an move code here s to branches e =
    ap (λ n. edge_bytes s.insn here n (counter an.private w.passed) (counter an.private w.taken)) (e ∙ ap (λ (t : Bool). cond t (move (target s)) 0) (branch_direct (flow_of s.insn) (branches w refl)))
  where
    branch_direct : (f : Flow) → is_branch f ≡ true → is_direct f ≡ true
    branch_direct flow.Branch is = refl
    branch_direct flow.Count is = refl
    branch_direct flow.Plain is = absurd (true≢false (sym is))
    branch_direct flow.System is = absurd (true≢false (sym is))
    branch_direct flow.Trap is = absurd (true≢false (sym is))
    branch_direct flow.Jump is = refl
    branch_direct flow.Call is = refl
    branch_direct flow.JumpVia is = absurd (true≢false (sym is))
    branch_direct flow.CallVia is = absurd (true≢false (sym is))
    branch_direct flow.Return is = absurd (true≢false (sym is))

-- an instruction that is copied has no ways
pub own_with : (ways : Option Ways) (an : Anchors) (move : ℕ → ℕ) (code : ℕ → Option ℕ) (here : ℕ) (s : Site) → ForSome ways (λ w. is_branch (flow_of s.insn) ≡ true) → is_own (flow_of s.insn) ≡ true → exec_bytes code s.at s.len ≡ piece_with an move code ways here s
own_with None an move code here s branches e = own_piece (flow_of s.insn) an move code here s e
own_with (Some w) an move code here s branches e = absurd (never (flow_of s.insn) (branches w refl) e)
  where
    never : (f : Flow) → is_branch f ≡ true → is_own f ≡ true → ⊥
    never flow.Branch is own = true≢false (sym own)
    never flow.Count is own = true≢false (sym own)
    never flow.Plain is own = true≢false (sym is)
    never flow.System is own = true≢false (sym is)
    never flow.Trap is own = true≢false (sym is)
    never flow.Jump is own = true≢false (sym own)
    never flow.Call is own = true≢false (sym own)
    never flow.JumpVia is own = true≢false (sym own)
    never flow.CallVia is own = true≢false (sym own)
    never flow.Return is own = true≢false (sym own)

-- a counter and a piece, one behind the other
pub put_counted : (an : Anchors) (move : ℕ → ℕ) (code : ℕ → Option ℕ) (place : Option ℕ) (ways : Option Ways) (k here n : ℕ) (s : Site) (now front mid new : List ℕ) → place ≡ Some k → front ≡ counter_code an (Some k) → n ≡ length front → mid ≡ now ++ front → new ≡ mid ++ piece_with an move code ways (here + n) s → new ≡ now ++ counted_piece an move code place ways here s
put_counted an move code place ways k here n s now front mid new place_is front_is n_is mid_is new_is =
    let c = counter_code an (Some k) in
    let at : here + n ≡ here + length c = omega (arith, n_is, ap (λ (l : List ℕ). length l) front_is) in
    new_is
    ∙ (ap (λ m. mid ++ piece_with an move code ways m s) at
    ∙ (ap (λ (l : List ℕ). l ++ piece_with an move code ways (here + length c) s) (mid_is ∙ ap (λ (l : List ℕ). now ++ l) front_is)
    ∙ (append_assoc now c (piece_with an move code ways (here + length c) s)
    ∙ ap (λ (o : Option ℕ). now ++ counted_piece an move code o ways here s) (sym place_is))))

pub put_alone : (an : Anchors) (move : ℕ → ℕ) (code : ℕ → Option ℕ) (place : Option ℕ) (ways : Option Ways) (here : ℕ) (s : Site) (now new : List ℕ) → place ≡ None → new ≡ now ++ piece_with an move code ways here s → new ≡ now ++ counted_piece an move code place ways here s
put_alone an move code place ways here s now new place_is new_is =
    let at : here ≡ here + 0 = omega arith in
    new_is ∙ (ap (λ m. now ++ piece_with an move code ways m s) at ∙ ap (λ (o : Option ℕ). now ++ counted_piece an move code o ways here s) (sym place_is))

pub there_is : (P : Site → Type 0) (ss : List Site) (k : ℕ) (d : Site) → k < length ss → IfSome (slice_get ss k) P → P (get_or ss k d)
there_is P ss k d lt h = subst (λ (o : Option Site). IfSome o P) (slice_get-get_or ss k d lt) h

-- a rank and the counters of its site are within three for each site
pub rank_low : (rules : Rules) (ss : List Site) (ranks : List ℕ) (k : ℕ) → AreRanks rules ss ranks → k < length ss → slice_index ranks k + 3 ≤ 3 * length ss
rank_low rules ss ranks k are lt = omega (arith, are.are k lt, rank_most rules ss k lt)

module _ (rules : Rules) (an : Anchors) (ss : List Site) (asc : Ascend 0 (map site_address ss)) (ranks : List ℕ) (are : AreRanks rules ss ranks) (k : ℕ) (d : Site) (lt : k < length ss) where
  abbrev s : Site
  s = get_or ss k d

  there : slice_get ss k ≡ Some (get_or ss k d)
  there = slice_get-get_or ss k d lt

  at : IsCountedAt rules (counters rules an ss) (get_or ss k d)
  at = counted_at rules an 0 ss k (get_or ss k d) asc there

  first_is : at.first ≡ an.private + 64 + 8 * slice_index ranks k
  unfolding at
  first_is = counted_first rules an 0 ss k s asc there ∙ ap (λ n. an.private + 64 + 8 * n) (sym (are.are k lt))

  module _ (all : Option ℕ) (ways : Option Ways) (all_is : all ≡ all_place (an.private + 64 + 8 * slice_index ranks k) (picked rules.all (get_or ss k d))) (ways_is : ways ≡ ways_place (an.private + 64 + 8 * slice_index ranks k) (picked rules.all (get_or ss k d)) (edge_picked rules.ways (get_or ss k d))) where
    all_there : all ≡ counters rules an ss 0 s.at
    all_there = all_is ∙ (ap (λ n. all_place n (picked rules.all s)) (sym first_is) ∙ sym at.all)

    ways_there : ways ≡ ways_by (counters rules an ss 1 s.at) (counters rules an ss 2 s.at)
    ways_there = ways_is ∙ (ap (λ n. ways_place n (picked rules.all s) (edge_picked rules.ways s)) (sym first_is) ∙ sym at.ways)

    -- only a branch or a loop has counters on its ways
    pub only_branches : ForSome ways (λ w. is_branch (flow_of (get_or ss k d).insn) ≡ true)
    only_branches w e = by (edge_picked rules.ways s) refl
      where
        by : (t : Bool) → edge_picked rules.ways s ≡ t → is_branch (flow_of s.insn) ≡ true
        by true h = picked_branches rules.ways s h
        by false h = absurd (none-some w (sym (ways_is ∙ ap (ways_place (an.private + 64 + 8 * slice_index ranks k) (picked rules.all s)) h) ∙ e))

    -- the counter has no more bytes than the site's code
    pub counter_low : length (counter_code an all) ≤ slice_index (code_lens rules ss) k
    counter_low = omega (arith, ap (λ (o : Option ℕ). length (counter_code an o)) all_there, counter_sized rules an (counters rules an ss) s at, lens_at rules ss k s there)

    pub site_bytes : (move : ℕ → ℕ) (code : ℕ → Option ℕ) (here : ℕ) → counted_piece an move code all ways here s ≡ part_bytes an move code (counters rules an ss) ss here (Piece k)
    site_bytes move code here =
        (λ i. counted_piece an move code (all_there i) (ways_there i) here s)
        ∙ sym (ap (site_code an move code (counters rules an ss) here) there)

-- parts have their lengths where sites ascend and are whole
pub sized_parts : (rules : Rules) (an : Anchors) (move : ℕ → ℕ) (code : ℕ → Option ℕ) (ss : List Site) → AreWhole code ss → Ascend 0 (map site_address ss) → (here : ℕ) (p : Part) → length (part_bytes an move code (counters rules an ss) ss here p) ≡ part_len (code_lens rules ss) p
sized_parts rules an move code ss whole asc here p = part_sized rules an move code (counters rules an ss) ss whole (λ k s e. counted_at rules an 0 ss k s asc e) here p
