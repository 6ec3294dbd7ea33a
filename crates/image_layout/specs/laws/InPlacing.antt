-- The code of each site stands at its entry, and behind it what leads on; entries differ.
use Rattle.std.proofs.Common.{◌≡◌, ◌≢◌, ℕ, ◌+◌, ◌<◌, ◌≤◌, ◌⊎◌, Bool, true, cond, List, length, Option, Some, None, refl, sym, ap, ◌∙◌, subst, inl, inr, arith}
use Rattle.std.specs.Prelude.{slice_get, slice_index, Contains}
use Rattle.std.specs.Option.{option_map, option_and_then}
use Rattle.std.proofs.lemmas.Bool.{ne_eqb, cases_eq}
use Rattle.std.proofs.lemmas.Option.{none-some, same_Some, slice_get-get_or}
use Rattle.mv_base.specs.Table.{entry_or}
use Rattle.x86_insn.specs.Flow.{flow_of, falls}
use Rattle.step_laws.specs.Jumps.{jump_bytes}
use Rattle.elf32_read.specs.declared.run.Run.{Run}
use Rattle.elf32_read.specs.Runs.{code_of}
use Rattle.elf32_write.specs.Parts.{Stands, stands_right}
use Rattle.map_table.specs.Pairs.{or_zero, entry_in}
use Rattle.lookup_stub.specs.Stub.{stub, stub_size}
use Rattle.lookup_stub.specs.laws.StubBytes.{stub_length}
use Rattle.image_layout.specs.Rules.{Rules}
use Rattle.superset.specs.declared.site.Site.{Site}
use Rattle.superset.specs.Sites.{site_at}
use Rattle.superset.specs.Targets.{successor}
use Rattle.sequence_join.specs.Chains.{Chain, after, goes_on, address_of}
use Rattle.simulation_laws.specs.declared.anchors.Anchors.{Anchors}
use Rattle.simulation_laws.specs.Pieces.{counted_piece, ways_by}
use Rattle.image_layout.specs.InPlace.{IsInPlace, HasPieces}
use Rattle.image_layout.specs.Layout.{stub_len, code_len, pairs, moved, run_places, anchors, table_from, private_from, code, plan}
use Rattle.image_layout.specs.Parts.{Part, Piece, part_len, parts, placed, entry}
use Rattle.image_layout.specs.Pieces.{counters, site_len, code_lens, site_code, part_bytes, bytes_of, chain_code}
use Rattle.image_layout.specs.laws.Placing.{behind, Standing, standing, places_apart}
use Rattle.image_layout.specs.laws.Following.{single, there, Onward, onward}
use Rattle.image_layout.specs.laws.Sizes.{part_sized, lens_at, site_some_by}
use Rattle.image_layout.specs.laws.SiteFacts.{is_site_at, site_is, are_whole}
use Rattle.image_layout.specs.laws.Pairing.{second_is, second_missing}
use Rattle.image_layout.specs.laws.Blocks.{length-run_places}
use Rattle.image_layout.specs.laws.LayFacts.{AreLaid, HasBase, below_low, ascend, counters_are, has_entry}

-- an address with an entry goes there
pub moved_to : (ps : List (ℕ × ℕ)) (a n : ℕ) → 0 < n → entry_in ps a ≡ n → moved ps a ≡ n
moved_to ps a n some e = ap (λ m. entry_or m a) e ∙ ap (λ (t : Bool). cond t a n) (ne_eqb n 0 (λ z. omega (arith, z, some)))

-- a site of a list has an index
pub index_of : (ss : List Site) (s : Site) → Contains ss s → (k : ℕ) × (slice_get ss k ≡ Some s)
index_of ss s h = (h.0, slice_get-get_or ss h.0 s h.1 ∙ ap Some h.2)

-- the site at an address of a list
address_site : (ss : List Site) (j a : ℕ) (o : Option Site) → slice_get ss j ≡ o → address_of ss j ≡ Some a → (q : Site) × (slice_get ss j ≡ Some q) × (q.at ≡ a)
address_site ss j a None e h = absurd (none-some a (sym (ap (option_map (λ (s : Site). s.at)) e) ∙ h))
address_site ss j a (Some q) e h = (q, e, same_Some q.at a (sym (ap (option_map (λ (s : Site). s.at)) e) ∙ h))

module _ (rules : Rules) (rs : List Run) (ss : List Site) (cs : List Chain) (is : AreLaid rs ss cs) (base : ℕ) (has : HasBase rules rs ss cs is base) where
  abbrev lens : List ℕ
  lens = code_lens rules ss

  abbrev first : ℕ
  first = base + stub_len rs

  abbrev an : Anchors
  an = anchors rules rs ss cs base

  abbrev ps : List (ℕ × ℕ)
  ps = pairs rules rs ss cs base

  abbrev move : ℕ → ℕ
  move = moved (pairs rules rs ss cs base)

  -- the entry of a site is its place, which isn't 0
  pub entry_is : (k : ℕ) (s : Site) → slice_get ss k ≡ Some s → entry_in ps s.at ≡ entry lens first (parts cs) k
  entry_is k s e =
      let same : 0 + k ≡ k = omega arith in
      ap or_zero (second_is (entry lens first (parts cs)) 0 0 ss k s (ascend rs ss cs is) e) ∙ ap (entry lens first (parts cs)) same

  pub entry_some : (k : ℕ) (s : Site) → slice_get ss k ≡ Some s → 0 < entry lens first (parts cs) k
  entry_some k s e =
      let h = has_entry rules rs ss cs is first k (below_low rs ss cs is k s e) in
      omega (arith, h.low, has.some)

  pub moved_is : (k : ℕ) (s : Site) → slice_get ss k ≡ Some s → move s.at ≡ entry lens first (parts cs) k
  moved_is k s e = moved_to ps s.at (entry lens first (parts cs) k) (entry_some k s e) (entry_is k s e)

  -- an address that is no site has none
  pub no_entry : (a : ℕ) → site_at (code_of rs) a ≡ None → entry_in ps a ≡ 0
  no_entry a none =
      let other : (k : ℕ) (s : Site) → slice_get ss k ≡ Some s → s.at ≢ a =
      λ k s e same. none-some s (sym none ∙ (ap (site_at (code_of rs)) (sym same) ∙ site_is rs ss is.sites k s e)) in
      ap or_zero (second_missing (entry lens first (parts cs)) 0 ss a other)

  -- a site's entry lies in the code, its piece too
  pub entry_inside : (k : ℕ) (s : Site) → slice_get ss k ≡ Some s → (0 < entry_in ps s.at) × (base ≤ entry_in ps s.at) × (entry_in ps s.at < base + code_len rules rs ss cs)
  entry_inside k s e =
      let h = has_entry rules rs ss cs is first k (below_low rs ss cs is k s e) in
      let some = site_some_by rules s (is_site_at (code_of rs) s.at s (site_is rs ss is.sites k s e)).whole.some in
      let same = entry_is k s e in (
        omega (arith, same, h.low, has.some),
        omega (arith, same, h.low),
        omega (arith, same, h.high, lens_at rules ss k s e, some),
      )

  -- entries differ
  pub entries_differ : (k j : ℕ) (s q : Site) → slice_get ss k ≡ Some s → slice_get ss j ≡ Some q → entry_in ps s.at ≡ entry_in ps q.at → s.at ≡ q.at
  entries_differ k j s q es eq same =
      elim (cases_eq k j) [
        | inl e ↦ ap (λ (x : Site). x.at) (same_Some s q (sym es ∙ (ap (slice_get ss) e ∙ eq)))
        | inr ne ↦ absurd (apart ne)
      ]
    where
      apart : k ≢ j → ⊥
      apart ne =
          let lt_k = below_low rs ss cs is k s es in
          let lt_j = below_low rs ss cs is j q eq in
          let some_k = site_some_by rules s (is_site_at (code_of rs) s.at s (site_is rs ss is.sites k s es)).whole.some in
          let some_j = site_some_by rules q (is_site_at (code_of rs) q.at q (site_is rs ss is.sites j q eq)).whole.some in
          let both = places_apart lens (parts cs) first k j 0 (single (length ss) cs is.once) (there (length ss) k cs is.once lt_k) (there (length ss) j cs is.once lt_j) ne in
          let facts : entry lens first (parts cs) k ≡ entry lens first (parts cs) j = sym (entry_is k s es) ∙ (same ∙ entry_is j q eq) in
          elim both [
            | inl h ↦ omega (arith, h, facts, some_k, lens_at rules ss k s es)
            | inr h ↦ omega (arith, h, facts, some_j, lens_at rules ss j q eq)
          ]

  abbrev bytes : ℕ → Part → List ℕ
  bytes = part_bytes (anchors rules rs ss cs base) (moved (pairs rules rs ss cs base)) (code_of rs) (counters rules (anchors rules rs ss cs base) ss) ss

  sized : (here : ℕ) (p : Part) → length (part_bytes (anchors rules rs ss cs base) (moved (pairs rules rs ss cs base)) (code_of rs) (counters rules (anchors rules rs ss cs base) ss) ss here p) ≡ part_len (code_lens rules ss) p
  sized = part_sized rules an move (code_of rs) (counters rules an ss) ss (are_whole rs ss is.sites) (counters_are rules rs ss cs is an)

  abbrev whole : List ℕ
  whole = code rules (anchors rules rs ss cs base) (moved (pairs rules rs ss cs base)) (code_of rs) (run_places rules rs ss cs base) ss cs

  length-places : length (run_places rules rs ss cs base) ≡ length rs
  length-places = length-run_places (table_from rules rs ss cs base + 4096) rs

  -- what stands in the chains stands in the code behind the stub
  behind_stub : (off : ℕ) (part : List ℕ) → Stands (bytes_of bytes (placed lens first (parts cs))) off part → Stands whole (stub_len rs + off) part
  unfolding code chain_code
  behind_stub off part s =
      let front = stub 2 (run_places rules rs ss cs base) (private_from rules rs ss cs base) in
      let len : length front ≡ stub_len rs = stub_length 2 (run_places rules rs ss cs base) (private_from rules rs ss cs base) ∙ ap (stub_size 2) length-places in
      let same : first ≡ base + stub_size 2 (length (run_places rules rs ss cs base)) = ap (λ n. base + stub_size 2 n) (sym length-places) in
      stands_right front (bytes_of bytes (placed lens (base + stub_size 2 (length (run_places rules rs ss cs base))) (parts cs))) part (stub_len rs) off len
      (subst (λ n. Stands (bytes_of bytes (placed lens n (parts cs))) off part) same s)

  goes : (k : ℕ) (s : Site) → slice_get ss k ≡ Some s → falls (flow_of s.insn) ≡ true → goes_on ss k ≡ Some (successor s)
  goes k s e on = ap (option_and_then after) e ∙ ap (λ (t : Bool). cond t (Some (successor s)) None) on

  module _ (k : ℕ) (s : Site) (e : slice_get ss k ≡ Some s) where
    at : Standing lens bytes sized first (parts cs) k
    at =
        standing lens bytes sized (parts cs) first k (single (length ss) cs is.once) (there (length ss) k cs is.once (below_low rs ss cs is k s e))

    len_is : slice_index lens k ≡ site_len rules s
    len_is = lens_at rules ss k s e

    -- the way behind the piece
    way : Onward ss (successor s) (behind k (parts cs)) → (move (successor s) ≡ base + (stub_len rs + at.off) + site_len rules s) ⊎ Stands whole (stub_len rs + at.off + site_len rules s) (jump_bytes (base + (stub_len rs + at.off) + site_len rules s) (move (successor s)))
    way (inl joins) =
        let place : stub_len rs + (at.off + slice_index lens k) ≡ stub_len rs + at.off + site_len rules s = omega (arith, len_is) in
        let here : first + at.off + slice_index lens k ≡ base + (stub_len rs + at.off) + site_len rules s = omega (arith, len_is) in
        inr (subst (λ n. Stands whole n (jump_bytes (base + (stub_len rs + at.off) + site_len rules s) (move (successor s)))) place
        (subst (λ n. Stands whole (stub_len rs + (at.off + slice_index lens k)) (jump_bytes n (move (successor s)))) here
        (behind_stub (at.off + slice_index lens k) (jump_bytes (first + at.off + slice_index lens k) (move (successor s))) (at.joins (successor s) joins))))
    way (inr next) =
        let q = address_site ss next.0 (successor s) (slice_get ss next.0) refl next.2 in
        let here : first + at.off + slice_index lens k ≡ base + (stub_len rs + at.off) + site_len rules s = omega (arith, len_is) in
        inl (ap move (sym q.2) ∙ (moved_is next.0 q.0 q.1 ∙ (at.goes_on next.0 next.1 0 ∙ here)))

    pub in_place : IsInPlace rules (anchors rules rs ss cs base) (moved (pairs rules rs ss cs base)) (code_of rs) (counters rules (anchors rules rs ss cs base) ss) whole s
    in_place =
        let here : first + at.off ≡ base + (stub_len rs + at.off) = omega arith in
        let own : bytes (first + at.off) (Piece k) ≡ counted_piece an move (code_of rs) (counters rules an ss 0 s.at) (ways_by (counters rules an ss 1 s.at) (counters rules an ss 2 s.at)) (base + (stub_len rs + at.off)) s =
        ap (site_code an move (code_of rs) (counters rules an ss) (first + at.off)) e ∙ ap (λ n. counted_piece an move (code_of rs) (counters rules an ss 0 s.at) (ways_by (counters rules an ss 1 s.at) (counters rules an ss 2 s.at)) n s) here in
        record {
          off = stub_len rs + at.off;
          entry = moved_is k s e ∙ (at.place 0 ∙ here);
          stands = subst (λ (l : List ℕ). Stands whole (stub_len rs + at.off) l) own (behind_stub at.off (bytes (first + at.off) (Piece k)) at.stands);
          leads = λ on. way (onward ss cs k (successor s) is.linked (there (length ss) k cs is.once (below_low rs ss cs is k s e)) (goes k s e on));
        }

  pub has_pieces : (start : ℕ) → HasPieces rules rs ss cs (plan start rules rs ss cs base)
  unfolding plan
  has_pieces start = record {
    pieces = λ s h. let w = index_of ss s h in in_place w.0 s w.1;
    differ = λ s q h i same. let w = index_of ss s h in let v = index_of ss q i in entries_differ w.0 v.0 s q w.1 v.1 same;
  }
