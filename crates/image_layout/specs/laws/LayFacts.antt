-- What the layout of runs, sites and chains stands on: where its parts lie, and that its table can be made.
use Rattle.std.proofs.Common.{◌≡◌, ℕ, zero, suc, ◌+◌, ◌*◌, ◌^◌, ◌<◌, ◌≤◌, List, [], ◌∷◌, length, map, Option, Some, refl, sym, ap, subst, arith}
use Rattle.std.specs.Prelude.{slice_get, slice_index, IsSome}
use Rattle.std.specs.List.{AllByRecursion}
use Rattle.std.proofs.lemmas.Option.{none-some}
use Rattle.elf32_read.specs.declared.image.Segment.{Segment}
use Rattle.elf32_read.specs.declared.run.Run.{Run}
use Rattle.elf32_read.specs.Runs.{code_of}
use Rattle.elf32_write.specs.Format.{up, private_len}
use Rattle.elf32_write.specs.Written.{up-le}
use Rattle.map_table.specs.Pairs.{entry_in, Ascend, IsPair}
use Rattle.map_table.specs.Paged.{table_size, AreRuns, IsMade}
use Rattle.image_layout.specs.Rules.{Rules}
use Rattle.superset.specs.declared.site.Site.{Site}
use Rattle.superset.specs.Sites.{sites_in}
use Rattle.sequence_join.specs.Chains.{Chain, order, EachOnce, IsLinked}
use Rattle.simulation_laws.specs.declared.anchors.Anchors.{Anchors}
use Rattle.image_layout.specs.Fit.{first_fit}
use Rattle.image_layout.specs.Layout.{stub_len, code_len, table_len, size, pairs, pairs_from, table_from}
use Rattle.image_layout.specs.Parts.{parts, parts_len, entry}
use Rattle.image_layout.specs.Pieces.{listed, counters, code_lens}
use Rattle.image_layout.specs.Sites.{AreBelow}
use Rattle.image_layout.specs.laws.Sizes.{lens_most, AreCounted}
use Rattle.image_layout.specs.laws.Placing.{has_place}
use Rattle.image_layout.specs.laws.Following.{single, there, below}
use Rattle.image_layout.specs.laws.SiteFacts.{is_site_at, site_is, site_address, sites_ascend, sites_count, are_short}
use Rattle.image_layout.specs.laws.Pairing.{firsts_pairs, all_pairs, entry_at_most}
use Rattle.image_layout.specs.laws.Counters.{listed_most, counted_at}
use Rattle.image_layout.specs.laws.Counting.{length-once, parts_most}
use Rattle.image_layout.specs.laws.Blocks.{room_at}

-- runs, their sites and the chains of these
pub record AreLaid (rs : List Run) (ss : List Site) (cs : List Chain) : Type 0 where
  pub runs : AreRuns rs
  pub sites : ss ≡ sites_in (code_of rs) rs
  pub once : EachOnce (length ss) (order cs)
  pub linked : AllByRecursion (IsLinked ss) cs

-- an index of a site
index_low : (ss : List Site) (k : ℕ) (s : Site) → slice_get ss k ≡ Some s → k < length ss
index_low [] k s e = absurd (none-some s e)
index_low (q ∷ ss) zero s e = omega arith
index_low (q ∷ ss) (suc k) s e = omega (arith, index_low ss k s e)

module _ (rs : List Run) (ss : List Site) (cs : List Chain) (is : AreLaid rs ss cs) where
  pub below_low : (k : ℕ) (s : Site) → slice_get ss k ≡ Some s → k < length ss
  below_low k s e = index_low ss k s e

  pub count : length ss ≤ 16777216
  count = omega (arith, sites_count rs ss is.sites, is.runs.small)

  pub ascend : Ascend 0 (map site_address ss)
  ascend = sites_ascend rs ss is.sites is.runs.apart

  pub chains_below : AreBelow (length ss) cs
  chains_below = below (length ss) cs is.once

-- and by rules
module _ (rules : Rules) (rs : List Run) (ss : List Site) (cs : List Chain) (is : AreLaid rs ss cs) where
  abbrev lens : List ℕ
  lens = code_lens rules ss

  pub listed_few : length (listed rules ss) ≤ 3 * 16777216
  listed_few = omega (arith, listed_most rules ss, count rs ss cs is)

  pub counters_are : (an : Anchors) → AreCounted rules (counters rules an ss) ss
  counters_are an k s e = counted_at rules an 0 ss k s (ascend rs ss cs is) e

  -- the chains have at most 156 bytes for each site, fewer than 2^32
  pub chains_by : parts_len lens (parts cs) ≤ 156 * length ss
  chains_by =
      omega (arith, parts_most ss lens cs is.linked (lens_most rules ss (are_short rs ss is.sites)), length-once (length ss) (order cs) is.once)

  pub chains_small : parts_len lens (parts cs) ≤ 156 * 16777216
  chains_small = omega (arith, chains_by, count rs ss cs is)

  -- a place in the chains
  pub record HasEntry (first k : ℕ) : Type 0 where
    pub low : first ≤ entry lens first (parts cs) k
    pub high : entry lens first (parts cs) k + slice_index lens k ≤ first + parts_len lens (parts cs)

  pub has_entry : (first k : ℕ) → k < length ss → HasEntry first k
  has_entry first k lt =
      let w = has_place lens (parts cs) first k (single (length ss) cs is.once) (there (length ss) k cs is.once lt) in
      record { low = omega (arith, w.place 0); high = omega (arith, w.place 0, w.room) }

  pub pairs_are : (first : ℕ) → 0 < first → first + parts_len lens (parts cs) < 2 ^ 32 → AllByRecursion (IsPair rs) (pairs_from rules ss cs first)
  pairs_are first some fits = all_pairs rs (entry lens first (parts cs)) 0 ss one
    where
      one : (k : ℕ) (s : Site) → slice_get ss k ≡ Some s → IsPair rs (s.at, entry lens first (parts cs) (0 + k))
      one k s e =
          let same : 0 + k ≡ k = omega arith in
          let h = has_entry first k (below_low rs ss cs is k s e) in
          let q = is_site_at (code_of rs) s.at s (site_is rs ss is.sites k s e) in
          subst (λ n. IsPair rs (s.at, entry lens first (parts cs) n)) (sym same)
          (record { inside = subst (λ (o : Option ℕ). IsSome o) (sym q.starts.1) refl; some = omega (arith, h.low, some); fits = omega (arith, h.high, fits) })

  -- no entry is above the end of the code
  pub entry_most : (base a : ℕ) → entry_in (pairs rules rs ss cs base) a ≤ base + code_len rules rs ss cs
  entry_most base a =
      let first = base + stub_len rs in
      let most : (k : ℕ) → k < length ss → entry lens first (parts cs) (0 + k) ≤ first + parts_len lens (parts cs) =
      λ k lt.
      let same : 0 + k ≡ k = omega arith in
      let h = has_entry first k lt in
      subst (λ n. entry lens first (parts cs) n ≤ first + parts_len lens (parts cs)) (sym same) (omega (arith, h.high)) in
      omega (arith, entry_at_most (entry lens first (parts cs)) 0 (first + parts_len lens (parts cs)) ss most a)

  -- the block's parts end below 2^32
  pub record HasBase (base : ℕ) : Type 0 where
    pub some : 0 < base
    pub low : base + up (code_len rules rs ss cs) + up (table_len rules rs ss) + up (private_len (length (listed rules ss))) ≤ 0xB0000000

  pub size_is : size rules rs ss cs ≡ up (code_len rules rs ss cs) + up (table_len rules rs ss) + up (private_len (length (listed rules ss)))
  unfolding size
  size_is = refl

  pub has_base : (segs : List Segment) (base : ℕ) → first_fit segs (size rules rs ss cs) ≡ Some base → HasBase base
  has_base segs base e =
      let room = room_at segs (size rules rs ss cs) base e in
      record { some = omega (arith, room.at, room.from); low = omega (arith, room.low, size_is) }

  pub made : (base : ℕ) → HasBase base → IsMade (record { runs = rs; pairs = pairs rules rs ss cs base; lo = table_from rules rs ss cs base })
  made base room =
      let first = base + stub_len rs in
      let firsts_are = firsts_pairs (entry lens first (parts cs)) 0 ss in
      record {
        runs = is.runs;
        ascend = subst (λ (l : List ℕ). Ascend 0 l) (sym firsts_are) (ascend rs ss cs is);
        pairs = pairs_are first (omega (arith, room.some)) (omega (arith, room.low, up-le (code_len rules rs ss cs)));
        room = omega (arith, room.low, up-le (table_len rules rs ss), ap (table_size rs) firsts_are);
      }
