-- Chains link by link and one by one: how long they are, and where their parts stand.
use Rattle.std.proofs.Common.{◌≡◌, ℕ, zero, suc, ◌+◌, ◌<◌, ◌≤◌, Bool, cond, eqb, List, [], ◌∷◌, ◌++◌, length, get_or, set, map, take, drop, Option, Some, None, refl, sym, ap, ◌∙◌, subst, inl, inr, arith}
use Rattle.std.specs.Prelude.{slice_index}
use Rattle.std.proofs.lemmas.Bool.{eq-eqb, ne_eqb, cases_eq, cases_lt}
use Rattle.std.proofs.lemmas.List.{append-nil, drop_more, drop_all, get_or-set_same, get_or-set_other, take_more, take_all, map_more, get_or_default, get_or_append_left, get_or-append-add, get_or-map, length-map}
use Rattle.image_layout.specs.Rules.{Rules}
use Rattle.counter_hooks.specs.Rules.{picked}
use Rattle.edge_hooks.specs.Rules.{edge_picked}
use Rattle.superset.specs.declared.site.Site.{Site}
use Rattle.sequence_join.specs.Chains.{Chain}
use Rattle.image_layout.specs.Parts.{Part, Piece, join_parts, link_parts, chain_parts, parts, parts_len, placed, place_or}
use Rattle.image_layout.specs.Pieces.{kinds_at, listed, site_len, code_lens}
use Rattle.image_layout.specs.Layout.{pairs_by}
use Rattle.image_layout.specs.Sites.{LinksBelow, AreBelow}
use Rattle.image_layout.specs.laws.SiteFacts.{site_address}
use Rattle.image_layout.specs.laws.Counters.{listed_more}
use Rattle.image_layout.specs.laws.Placing.{parts_len-append, placed-append, place_or-append}

-- ---- lengths

parts_len-piece : (lens : List ℕ) (k : ℕ) (ps : List Part) → parts_len lens (Piece k ∷ ps) ≡ slice_index lens k + parts_len lens ps
unfolding parts_len
parts_len-piece lens k ps = refl

-- the links from the i-th on
pub links_rest : (ks : List ℕ) (i : ℕ) (next : Option ℕ) → i < length ks → link_parts (drop i ks) next ≡ Piece (get_or ks i 0) ∷ link_parts (drop (i + 1) ks) next
links_rest ks i next lt = ap (λ (l : List ℕ). link_parts l next) (drop_more ks i 0 lt)

pub links_none : (ks : List ℕ) (i : ℕ) (next : Option ℕ) → length ks ≤ i → link_parts (drop i ks) next ≡ join_parts next
links_none ks i next le = ap (λ (l : List ℕ). link_parts l next) (drop_all i ks le)

pub links_step : (lens ks : List ℕ) (i : ℕ) (next : Option ℕ) → i < length ks → parts_len lens (link_parts (drop i ks) next) ≡ slice_index lens (get_or ks i 0) + parts_len lens (link_parts (drop (i + 1) ks) next)
links_step lens ks i next lt = ap (parts_len lens) (links_rest ks i next lt) ∙ parts_len-piece lens (get_or ks i 0) (link_parts (drop (i + 1) ks) next)

pub links_end : (lens ks : List ℕ) (i : ℕ) (next : Option ℕ) → length ks ≤ i → parts_len lens (link_parts (drop i ks) next) ≡ parts_len lens (join_parts next)
links_end lens ks i next le = ap (parts_len lens) (links_none ks i next le)

pub join_some : (lens : List ℕ) (next : Option ℕ) (to : ℕ) → next ≡ Some to → parts_len lens (join_parts next) ≡ 5
unfolding parts_len
join_some lens next to e = ap (λ (o : Option ℕ). parts_len lens (join_parts o)) e

pub join_none : (lens : List ℕ) (next : Option ℕ) → next ≡ None → parts_len lens (join_parts next) ≡ 0
unfolding parts_len
join_none lens next e = ap (λ (o : Option ℕ). parts_len lens (join_parts o)) e

-- the chains from the i-th on
pub chains_rest : (cs : List Chain) (i : ℕ) (c : Chain) → i < length cs → c ≡ get_or cs i c → parts (drop i cs) ≡ chain_parts c ++ parts (drop (i + 1) cs)
chains_rest cs i c lt e = ap parts (drop_more cs i c lt ∙ ap (λ (x : Chain). x ∷ drop (i + 1) cs) (sym e))

pub chains_step : (lens : List ℕ) (cs : List Chain) (i : ℕ) (c : Chain) → i < length cs → c ≡ get_or cs i c → parts_len lens (parts (drop i cs)) ≡ parts_len lens (chain_parts c) + parts_len lens (parts (drop (i + 1) cs))
chains_step lens cs i c lt e = ap (parts_len lens) (chains_rest cs i c lt e) ∙ parts_len-append lens (chain_parts c) (parts (drop (i + 1) cs))

pub chains_end : (lens : List ℕ) (cs : List Chain) (i : ℕ) → length cs ≤ i → parts_len lens (parts (drop i cs)) ≡ 0
unfolding parts_len
chains_end lens cs i le = ap (λ (l : List Chain). parts_len lens (parts l)) (drop_all i cs le)

pub below_here : (n : ℕ) (cs : List Chain) (i : ℕ) (c : Chain) → i < length cs → c ≡ get_or cs i c → AreBelow n (drop i cs) → LinksBelow n c × AreBelow n (drop (i + 1) cs)
below_here n cs i c lt e h =
    let both = subst (λ (l : List Chain). AreBelow n l) (drop_more cs i c lt ∙ ap (λ (x : Chain). x ∷ drop (i + 1) cs) (sym e)) h in
    (both.0, both.1)

-- ---- places

-- a piece that is placed
place_piece : (lens : List ℕ) (here none j k : ℕ) (ps : List Part) → place_or none (placed lens here (Piece j ∷ ps)) k ≡ place_or (cond (eqb j k) here none) (placed lens (here + slice_index lens j) ps) k
unfolding placed place_or
place_piece lens here none j k ps = refl

entry_set : (es : List ℕ) (j here k : ℕ) → j < length es → slice_index (set es j here) k ≡ cond (eqb j k) here (slice_index es k)
entry_set es j here k lt =
    elim (cases_eq k j) [
      | inl e ↦
          ap (slice_index (set es j here)) e
          ∙ (get_or-set_same es j here 0 lt ∙ sym (ap (λ (u : Bool). cond u here (slice_index es k)) (eq-eqb j k (sym e))))
      | inr ne ↦
          get_or-set_other es j k here 0 ne
          ∙ sym (ap (λ (u : Bool). cond u here (slice_index es k)) (ne_eqb j k (λ e. ne (sym e))))
    ]

pub place_step : (lens es ks : List ℕ) (i : ℕ) (next : Option ℕ) (here len k : ℕ) → i < length ks → get_or ks i 0 < length es → len ≡ slice_index lens (get_or ks i 0)
    → place_or (slice_index (set es (get_or ks i 0) here) k) (placed lens (here + len) (link_parts (drop (i + 1) ks) next)) k ≡ place_or (slice_index es k) (placed lens here (link_parts (drop i ks) next)) k
place_step lens es ks i next here len k lt below is =
    let j = get_or ks i 0 in
    let rest = link_parts (drop (i + 1) ks) next in
    ap (λ n. place_or n (placed lens (here + len) rest) k) (entry_set es j here k below)
    ∙ (ap (λ n. place_or (cond (eqb j k) here (slice_index es k)) (placed lens (here + n) rest) k) is
    ∙ (sym (place_piece lens here (slice_index es k) j k rest)
    ∙ sym (ap (λ (ps : List Part). place_or (slice_index es k) (placed lens here ps) k) (links_rest ks i next lt))))

-- a join changes no place
place_join : (lens : List ℕ) (here none k : ℕ) (next : Option ℕ) → place_or none (placed lens here (join_parts next)) k ≡ none
unfolding placed place_or
place_join lens here none k None = refl
place_join lens here none k (Some to) = refl

pub place_links_end : (lens es ks : List ℕ) (i : ℕ) (next : Option ℕ) (here k : ℕ) → length ks ≤ i → place_or (slice_index es k) (placed lens here (link_parts (drop i ks) next)) k ≡ slice_index es k
place_links_end lens es ks i next here k le =
    ap (λ (ps : List Part). place_or (slice_index es k) (placed lens here ps) k) (links_none ks i next le) ∙ place_join lens here (slice_index es k) k next

-- a chain that is placed
pub place_chain_step : (lens es : List ℕ) (cs : List Chain) (i : ℕ) (c : Chain) (here k : ℕ) → i < length cs → c ≡ get_or cs i c
    → place_or (slice_index es k) (placed lens here (parts (drop i cs))) k ≡ place_or (place_or (slice_index es k) (placed lens here (chain_parts c)) k) (placed lens (here + parts_len lens (chain_parts c)) (parts (drop (i + 1) cs))) k
place_chain_step lens es cs i c here k lt e =
    let rest = parts (drop (i + 1) cs) in
    ap (λ (ps : List Part). place_or (slice_index es k) (placed lens here ps) k) (chains_rest cs i c lt e)
    ∙ (ap (λ (qs : List (ℕ × Part)). place_or (slice_index es k) qs k) (placed-append lens here (chain_parts c) rest)
    ∙ place_or-append (slice_index es k) (placed lens here (chain_parts c)) (placed lens (here + parts_len lens (chain_parts c)) rest) k)

-- the same with what is written and where it ends
pub place_next : (lens es slice new whole : List ℕ) (cs : List Chain) (i : ℕ) (c : Chain) (here end k : ℕ) → i < length cs → c ≡ get_or cs i c → slice ≡ es → whole ≡ new → end ≡ here + parts_len lens (chain_parts c)
    → slice_index new k ≡ place_or (slice_index slice k) (placed lens here (chain_parts c)) k → place_or (slice_index whole k) (placed lens end (parts (drop (i + 1) cs))) k ≡ place_or (slice_index es k) (placed lens here (parts (drop i cs))) k
place_next lens es slice new whole cs i c here end k lt is e w at h =
    let rest = parts (drop (i + 1) cs) in
    ap (λ (l : List ℕ). place_or (slice_index l k) (placed lens end rest) k) w
    ∙ (ap (λ n. place_or n (placed lens end rest) k) (h ∙ ap (λ (l : List ℕ). place_or (slice_index l k) (placed lens here (chain_parts c)) k) e)
    ∙ (ap (λ n. place_or (place_or (slice_index es k) (placed lens here (chain_parts c)) k) (placed lens n rest) k) at
    ∙ sym (place_chain_step lens es cs i c here k lt is)))

pub place_chains_end : (lens es : List ℕ) (cs : List Chain) (i here k : ℕ) → length cs ≤ i → place_or (slice_index es k) (placed lens here (parts (drop i cs))) k ≡ slice_index es k
unfolding placed place_or
place_chains_end lens es cs i here k le = ap (λ (l : List Chain). place_or (slice_index es k) (placed lens here (parts l)) k) (drop_all i cs le)

-- ---- what is known of sites, one by one

pub lens_step : (rules : Rules) (ss : List Site) (k : ℕ) (d : Site) (n : ℕ) (now new : List ℕ) → k < length ss → n ≡ site_len rules (get_or ss k d) → now ≡ code_lens rules (take k ss) → new ≡ now ++ n ∷ [] → new ≡ code_lens rules (take (k + 1) ss)
lens_step rules ss k d n now new lt is h p =
    p ∙ (ap (λ (t : List ℕ). t ++ n ∷ []) h ∙ (ap (λ m. code_lens rules (take k ss) ++ m ∷ []) is ∙ sym (map_more (site_len rules) ss k d lt)))

pub ranks_step : (f : ℕ → ℕ) (now new : List ℕ) (i n : ℕ) → length now ≡ i → n ≡ f i → ((k : ℕ) → k < i → slice_index now k ≡ f k) → new ≡ now ++ n ∷ [] → (k : ℕ) → k < i + 1 → slice_index new k ≡ f k
ranks_step f now new i n len is h p k lt =
    elim (cases_lt k i) [
      | inl l ↦ ap (λ (xs : List ℕ). slice_index xs k) p ∙ (get_or_append_left now (n ∷ []) 0 k (omega (arith, l, len)) ∙ h k l)
      | inr l ↦
          let last : k ≡ i = omega (arith, l, lt) in
          let place : k ≡ length now + 0 = omega (arith, last, len) in
          ap (λ (xs : List ℕ). slice_index xs k) p ∙ (ap (slice_index (now ++ n ∷ [])) place ∙ (get_or-append-add now (n ∷ []) 0 0 ∙ (is ∙ ap f (sym last))))
    ]

pub counted_step : (rules : Rules) (ss : List Site) (k : ℕ) (d : Site) (all ways : Bool) (now new : List (ℕ × ℕ)) → k < length ss → all ≡ picked rules.all (get_or ss k d) → ways ≡ edge_picked rules.ways (get_or ss k d) → now ≡ listed rules (take k ss) → new ≡ now ++ kinds_at (get_or ss k d).at all ways → new ≡ listed rules (take (k + 1) ss)
counted_step rules ss k d all ways now new lt all_is ways_is h p =
    p ∙ (ap (λ (l : List (ℕ × ℕ)). l ++ kinds_at (get_or ss k d).at all ways) h
    ∙ ((λ i. listed rules (take k ss) ++ kinds_at (get_or ss k d).at (all_is i) (ways_is i))
    ∙ sym (listed_more rules ss k d lt)))

-- a list that is written over whole
pub whole_slice : (old new : List ℕ) (n : ℕ) → n ≡ length old → length new ≡ length old → take n (new ++ drop (length new) old) ≡ new
whole_slice old new n e f =
    ap (λ (l : List ℕ). take n (new ++ l)) (drop_all (length new) old (omega (arith, f)))
    ∙ (ap (take n) (append-nil new) ∙ take_all n new (omega (arith, e, f)))

-- ---- pairs

pub pair_at : (place : ℕ → ℕ) (j : ℕ) (ss : List Site) (k : ℕ) (s : Site) (d : ℕ × ℕ) → k < length ss → s ≡ get_or ss k s → get_or (pairs_by place j ss) k d ≡ (s.at, place (j + k))
unfolding pairs_by
pair_at place j [] k s d lt e = absurd (omega (arith, lt))
pair_at place j (q ∷ ss) zero s d lt e =
    let here : j ≡ j + 0 = omega arith in
    (λ i. (sym (ap site_address e) i, place (here i)))
pair_at place j (q ∷ ss) (suc k) s d lt e =
    let next : j + 1 + k ≡ j + suc k = omega arith in
    pair_at place (j + 1) ss k s d (omega (arith, lt)) e ∙ ap (λ n. (s.at, place n)) next

pub length-pairs : (place : ℕ → ℕ) (j : ℕ) (ss : List Site) → length (pairs_by place j ss) ≡ length ss
unfolding pairs_by
length-pairs place j [] = refl
length-pairs place j (s ∷ ss) = ap suc (length-pairs place (j + 1) ss)

pairs_step : (place : ℕ → ℕ) (ss : List Site) (k at : ℕ) (s : Site) (now new : List (ℕ × ℕ)) → k < length ss → s ≡ get_or ss k s → at ≡ place k → now ≡ take k (pairs_by place 0 ss) → new ≡ now ++ (s.at, at) ∷ [] → new ≡ take (k + 1) (pairs_by place 0 ss)
pairs_step place ss k at s now new lt e f h p =
    let zero_more : 0 + k ≡ k = omega arith in
    let from_zero : place (0 + k) ≡ place k = ap place zero_more in
    let there : get_or (pairs_by place 0 ss) k (s.at, at) ≡ (s.at, at) = pair_at place 0 ss k s (s.at, at) lt e ∙ ap (λ n. (s.at, n)) (from_zero ∙ sym f) in
    p ∙ (ap (λ (t : List (ℕ × ℕ)). t ++ (s.at, at) ∷ []) h
    ∙ (ap (λ (q : ℕ × ℕ). take k (pairs_by place 0 ss) ++ q ∷ []) (sym there)
    ∙ sym (take_more (pairs_by place 0 ss) k (s.at, at) (omega (arith, lt, length-pairs place 0 ss)))))

pub pairs_done : (place : ℕ → ℕ) (ss : List Site) (k : ℕ) (now : List (ℕ × ℕ)) → length ss ≤ k → now ≡ take k (pairs_by place 0 ss) → now ≡ pairs_by place 0 ss
pairs_done place ss k now le h = h ∙ take_all k (pairs_by place 0 ss) (omega (arith, le, length-pairs place 0 ss))

pub length-addresses : (ss : List Site) (as' : List ℕ) → as' ≡ map site_address ss → length as' ≡ length ss
length-addresses ss as' e = ap length e ∙ length-map ss site_address

-- the same, where the site's address is read from a list of all addresses
pub pairs_step_from : (place : ℕ → ℕ) (ss : List Site) (as' : List ℕ) (k a at : ℕ) (now new : List (ℕ × ℕ)) → as' ≡ map site_address ss → k < length as' → a ≡ get_or as' k 0 → at ≡ place k → now ≡ take k (pairs_by place 0 ss) → new ≡ now ++ (a, at) ∷ [] → new ≡ take (k + 1) (pairs_by place 0 ss)
pairs_step_from place [] as' k a at now new e lt a_is f h p = absurd (omega (arith, lt, length-addresses [] as' e))
pairs_step_from place (q ∷ qs) as' k a at now new e lt a_is f h p =
    let ss : List Site = q ∷ qs in
    let below : k < length ss = omega (arith, lt, length-addresses ss as' e) in
    let s : Site = get_or ss k q in
    let a_at : a ≡ s.at = a_is ∙ (ap (λ (l : List ℕ). get_or l k 0) e ∙ get_or-map site_address ss k q 0 below) in
    pairs_step place ss k at s now new below (get_or_default ss k q s below) f h (p ∙ ap (λ n. now ++ (n, at) ∷ []) a_at)

-- ---- no chain is left

pub chains_gone : (cs : List Chain) (i : ℕ) → length cs ≤ i → parts (drop i cs) ≡ []
chains_gone cs i le = ap parts (drop_all i cs le)
