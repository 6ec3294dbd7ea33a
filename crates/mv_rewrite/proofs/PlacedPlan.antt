-- From where the plan's bytes are loaded to what stands at each site's entry, and to the stub and the table.
use Rattle.std.proofs.Common.{◌≡◌, ℕ, zero, suc, ◌+◌, ◌*◌, ◌/◌, ◌^◌, ◌<◌, ◌≤◌, true, false, cond, eqb, ltb, leb, List, [], ◌∷◌, ◌++◌, length, get_or, map, Option, Some, None, refl, sym, ap, ◌∙◌, subst, inl, inr, arith}
use mathlib.Core.Path.{fun_ext}
use Rattle.std.specs.Prelude.{slice_index}
use Rattle.std.specs.List.{flat_map, AllByRecursion}
use Rattle.std.specs.Option.{option_map}
use Rattle.std.proofs.lemmas.List.{length-append}
use Rattle.std.proofs.lemmas.List.FromFn.{get_or-map-range_with_len}
use Rattle.std.proofs.lemmas.Bool.{le-leb, lt-ltb, lt-leb, and_from, and_left, cond_both}
use Rattle.byteorder.specs.Endian.{little_bytes}
use Rattle.mv_base.specs.Bytes.{AreBytes, words}
use Rattle.mv_base.specs.Words.{words-append}
use Rattle.mv_base.specs.declared.range.RunPlace.{RunPlace}
use Rattle.mv_base.specs.Memory.{Cell, exec_byte_of, cell_is}
use Rattle.mv_base.specs.Table.{entry_or, flat_entry, group_count, paged_entry}
use Rattle.elf32_read.specs.declared.run.Run.{Run}
use Rattle.elf32_read.specs.Load.{load}
use Rattle.elf32_read.specs.Runs.{runs_of, code_of, AreApart}
use Rattle.elf32_write.specs.Format.{up, private_len}
use Rattle.elf32_write.specs.Frame.{Frame, frame_map, frame_entry, frame_table, is_added, is_private, counted}
use Rattle.map_table.specs.Pairs.{entry_in}
use Rattle.map_table.specs.Paged.{places_from, table_words, table_bytes, IsPaged, IsMade}
use Rattle.map_table.specs.laws.Reading.{Laws, made_laws}
use Rattle.lookup_stub.specs.Stub.{stub, stub_size}
use Rattle.lookup_stub.specs.Finding as finding
use Rattle.image_layout.specs.Rules.{Rules}
use Rattle.counter_hooks.specs.Rules.{is_branch}
use Rattle.x86_insn.specs.Flow.{flow_of}
use Rattle.superset.specs.declared.site.Site.{Site}
use Rattle.simulation_laws.specs.declared.anchors.Anchors.{Anchors}
use Rattle.simulation_laws.specs.Pieces.{piece_with, successor, counter_in}
use Rattle.simulation_laws.specs.Relocated.{StandAt, PieceAt, piece_there, piece_place, counter_there, kind_of, ways_of, ways_fit, fits_ways, anchors_of}
use Rattle.step_laws.specs.Jumps.{jump_bytes}
use Rattle.elf32_write.specs.File.{pair_words, table_of}
use Rattle.elf32_write.specs.Parts.{Stands, stands_whole, stands_left, stands_first, stands_second}
use Rattle.elf32_write.specs.Written.{up-le}
use Rattle.image_layout.specs.InPlace.{IsInPlace}
use Rattle.image_layout.specs.Layout.{plan}
use Rattle.image_layout.specs.Layout as layout
use Rattle.image_layout.specs.Pieces.{site_len, counters, chain_code}
use Rattle.image_layout.specs.Sites.{IsWhole}
use Rattle.image_layout.specs.laws.Sizes.{site_sized}
use Rattle.image_layout.specs.laws.Counters.{IsCountedAt, ways_fit_at}
use Rattle.image_layout.specs.laws.SiteFacts.{is_site_at, IsListed, site_there}
use Rattle.image_layout.specs.laws.LayFacts.{AreLaid, HasBase, made, entry_most}
use Rattle.image_layout.specs.laws.LayFacts as lay_facts
use Rattle.image_layout.specs.laws.InPlacing.{no_entry, entry_inside, entries_differ, in_place}
use Rattle.mv_rewrite.specs.Sites.{site_at, code_in, sites}
use Rattle.mv_rewrite.specs.Layout.{moved, code, chains, listed_at, code_len, table_len, size, table_from, private_from, pairs_at, runs_at, anchors_at, plan_at}
use Rattle.mv_rewrite.proofs.LayoutFacts.{same_code}
use Rattle.mv_rewrite.proofs.Planned.{private_size, length-code, length-table_of}
use Rattle.mv_rewrite.proofs.Longer.{page_front, entry_front}

-- words are bytes
word_bytes : (n k : ℕ) → slice_index (little_bytes 4 n) k < 256
word_bytes n zero = omega arith
word_bytes n (suc zero) = omega arith
word_bytes n (suc (suc zero)) = omega arith
word_bytes n (suc (suc (suc zero))) = omega arith
word_bytes n (suc (suc (suc (suc k)))) = omega arith

words_bytes : (ns : List ℕ) → AreBytes (words ns)
unfolding words
words_bytes [] k = omega arith
words_bytes (n ∷ ns) zero = word_bytes n 0
words_bytes (n ∷ ns) (suc zero) = word_bytes n 1
words_bytes (n ∷ ns) (suc (suc zero)) = word_bytes n 2
words_bytes (n ∷ ns) (suc (suc (suc zero))) = word_bytes n 3
words_bytes (n ∷ ns) (suc (suc (suc (suc k)))) = words_bytes ns k

-- what the table has for runs is what a lookup of them reads, with what stands behind it too
looked_up : (bytes more : List ℕ) (lo from dir : ℕ) (rs : List Run) → lo + length bytes < 2 ^ 32 → AreApart from rs → AllByRecursion (IsPaged bytes lo) (places_from dir rs) → AllByRecursion (finding.IsPlaced 2 (bytes ++ more) lo) (places_from dir rs)
unfolding places_from
looked_up bytes more lo from dir [] end apart all = tt
looked_up bytes more lo from dir (r ∷ rs) end apart all =
    let one = all.0 in
    let place : RunPlace = record { lo = r.lo; len = length r.bytes; dir = dir } in
    let longer = length-append bytes more in (
      record {
        low = omega (arith, apart.2);
        dir = omega (arith, one.high, end);
        words = λ k lt.
            let below : k / 1024 < group_count (length r.bytes) = omega (arith, lt) in
            let named = page_front bytes more lo place one (k / 1024) below in
            let low = one.page_low (k / 1024) below in
            let high = one.page_high (k / 1024) below in (
              record { low = one.low; high = omega (arith, one.high, below, longer) },
              record { low = omega (arith, named, low); high = omega (arith, named, high, longer) },
            );
      },
      looked_up bytes more lo (r.lo + length r.bytes + 1) (dir + 4 * group_count (length r.bytes)) rs end apart.3 all.1,
    )

-- the plan's code and table are loaded where the frame says
pub record IsPlaced (b : List ℕ) (rules : Rules) (base : ℕ) (x : List ℕ) (f : Frame) : Type 0 where
  pub form_is : f.form ≡ 2
  pub code_lo : f.code.lo ≡ base
  pub table_is : frame_table f ≡ table_of (plan_at b rules base)
  pub table_lo : f.table.lo ≡ table_from b rules base
  pub runs_are : f.runs ≡ runs_at b rules base
  pub private : f.private ≡ private_from b rules base
  pub first_counter : f.first_counter ≡ private_from b rules base + 64
  pub counted_are : counted f ≡ listed_at b rules
  pub added_lo : f.added.lo ≡ base
  pub added_len : f.added.len ≡ size b rules
  pub cells : (k : ℕ) → k < length (plan_at b rules base).code → load x (base + k) ≡ Some (record { byte = slice_index (plan_at b rules base).code k; write = false; exec = true })
  pub words : (k : ℕ) → k < length (table_of (plan_at b rules base)) → load x (table_from b rules base + k) ≡ Some (record { byte = slice_index (table_of (plan_at b rules base)) k; write = false; exec = false })
  pub positive : 0 < base
  pub low : base + size b rules ≤ 0xB0000000
  -- the input's executable bytes are those of its runs
  pub code : (a : ℕ) → code_in b a ≡ code_of (runs_of b) a
  pub laid : AreLaid (runs_of b) (sites b) (chains b)
  pub based : HasBase rules (runs_of b) (sites b) (chains b) laid base

module _ (b : List ℕ) (rules : Rules) (base : ℕ) (x : List ℕ) (f : Frame) (h : IsPlaced b rules base x f) where
  abbrev move : ℕ → ℕ
  move = moved (pairs_at b rules base)

  -- the code's bytes, by address
  same_bytes : code_in b ≡ code_of (runs_of b)
  same_bytes = same_code (code_in b) (code_of (runs_of b)) h.code

  size-code : up (code_len b rules) + up (table_len b rules) + 64 ≤ size b rules
  unfolding layout.size
  size-code = omega (arith, up-le (private_size b rules))

  made_at : IsMade (record { runs = runs_of b; pairs = pairs_at b rules base; lo = table_from b rules base })
  made_at = made rules (runs_of b) (sites b) (chains b) h.laid base h.based

  entry-bound : (a : ℕ) → entry_in (pairs_at b rules base) a < 2 ^ 32
  entry-bound a = omega (arith, entry_most rules (runs_of b) (sites b) (chains b) h.laid base a, up-le (code_len b rules), size-code, h.low)

  -- the site at an address is one of the list
  in_code : (a : ℕ) (o : Option Site) → site_at (code_in b) a ≡ o → site_at (code_of (runs_of b)) a ≡ o
  in_code a o e = sym (ap (λ (c : ℕ → Option ℕ). site_at c a) same_bytes) ∙ e

  site_listed : (a : ℕ) (s : Site) → site_at (code_in b) a ≡ Some s → IsListed (sites b) s
  site_listed a s e = site_there (runs_of b) (sites b) h.laid.sites a s (in_code a (Some s) e)

  entry-none : (a : ℕ) → site_at (code_in b) a ≡ None → entry_in (pairs_at b rules base) a ≡ 0
  entry-none a e = no_entry rules (runs_of b) (sites b) (chains b) h.laid base h.based a (in_code a None e)

  laws : Laws (record { runs = runs_of b; pairs = pairs_at b rules base; lo = table_from b rules base }) (plan_at b rules base).table
  unfolding plan
  laws = made_laws (record { runs = runs_of b; pairs = pairs_at b rules base; lo = table_from b rules base }) made_at

  -- the frame's entries are the pairs'
  pub entries : (a : ℕ) → frame_entry f a ≡ entry_in (pairs_at b rules base) a
  unfolding frame_entry
  entries a =
      ap (λ n. cond (eqb n 1) (flat_entry (frame_table f) f.table.lo f.runs a) (paged_entry (frame_table f) f.table.lo f.runs a)) h.form_is
      ∙ (ap (λ (t : List ℕ). paged_entry t f.table.lo f.runs a) h.table_is
      ∙ (ap (λ n. paged_entry (table_of (plan_at b rules base)) n f.runs a) h.table_lo
      ∙ (ap (λ rs. paged_entry (table_of (plan_at b rules base)) (table_from b rules base) rs a) h.runs_are
      ∙ (entry_front (plan_at b rules base).table (words (flat_map pair_words (plan_at b rules base).counted)) (table_from b rules base) (runs_at b rules base) laws.inside_are a
      ∙ laws.reads_are a))))

  -- an address that is no site has none
  pub none : (a : ℕ) → site_at (code_in b) a ≡ None → frame_entry f a ≡ 0
  none a e = entries a ∙ entry-none a e

  pub map_is : (a : ℕ) → frame_map f a ≡ moved (pairs_at b rules base) a
  map_is a = ap (λ n. entry_or n a) (entries a)

  pub others : (a : ℕ) → site_at (code_in b) a ≡ None → frame_map f a ≡ a
  others a e = map_is a ∙ ap (λ n. entry_or n a) (entry-none a e)

  pub mapped : (a : ℕ) → a < 2 ^ 32 → frame_map f a < 2 ^ 32
  mapped a lt =
      subst (λ n. n < 2 ^ 32) (sym (map_is a)) (cond_both (eqb (entry_in (pairs_at b rules base) a) 0) a (entry_in (pairs_at b rules base) a) (λ n. n < 2 ^ 32) (λ _. lt) (λ _. entry-bound a))

  -- an address of the code and the table is added and not private
  in_added : (a : ℕ) → base ≤ a → a < base + up (code_len b rules) + up (table_len b rules) → is_added f a ≡ true
  in_added a low high =
      and_from (leb f.added.lo a) (ltb a (f.added.lo + f.added.len)) (le-leb f.added.lo a (omega (arith, low, h.added_lo)))
      (lt-ltb a (f.added.lo + f.added.len) (omega (arith, high, h.added_lo, h.added_len, size-code)))

  below_private : (a : ℕ) → a < base + up (code_len b rules) + up (table_len b rules) → is_private f a ≡ false
  below_private a high =
      and_left (leb f.private a) (ltb a (f.private + private_len f.counters)) (lt-leb f.private a (omega (arith, high, h.private)))

  -- bytes that stand in the code stand where it is loaded
  code_stands : (off : ℕ) (bytes : List ℕ) → Stands (plan_at b rules base).code off bytes → StandAt x f (f.code.lo + off) bytes
  code_stands off bytes s =
      let place : (k : ℕ) → f.code.lo + off + k ≡ base + (off + k) = λ k. omega (arith, h.code_lo) in
      let room : off + length bytes ≤ code_len b rules = omega (arith, s.room, length-code b rules base h.laid) in
      let cell : (k : ℕ) → k < length bytes → load x (f.code.lo + off + k) ≡ Some (record { byte = slice_index bytes k; write = false; exec = true }) =
      λ k lt. ap (load x) (place k) ∙ (h.cells (off + k) (omega (arith, lt, s.room)) ∙ ap (λ n. Some (record { byte = n; write = false; exec = true })) (s.byte k lt)) in
      record {
        byte = λ k lt. ap exec_byte_of (cell k lt);
        fixed = λ k lt. ap (cell_is (λ c. c.write)) (cell k lt);
        added = λ k lt. in_added (f.code.lo + off + k) (omega (arith, h.code_lo)) (omega (arith, h.code_lo, lt, room, up-le (code_len b rules)));
        public = λ k lt. below_private (f.code.lo + off + k) (omega (arith, h.code_lo, lt, room, up-le (code_len b rules)));
      }

  -- the code begins with the stub
  stub_first : Stands (plan_at b rules base).code 0 (stub 2 (runs_at b rules base) (private_from b rules base))
  unfolding plan layout.code
  stub_first =
      let front = stub 2 (runs_at b rules base) (private_from b rules base) in
      stands_left front (chain_code rules (anchors_at b rules base) move (code_of (runs_of b)) (sites b) (base + stub_size 2 (length (runs_at b rules base))) (chains b)) front 0 (stands_whole front)

  pub stub_stands : StandAt x f f.code.lo (stub f.form f.runs f.private)
  stub_stands =
      let start : f.code.lo + 0 ≡ f.code.lo = omega arith in
      let e1 : stub 2 (runs_at b rules base) (private_from b rules base) ≡ stub f.form f.runs f.private =
      ap (λ n. stub n (runs_at b rules base) (private_from b rules base)) (sym h.form_is) ∙ (ap (λ rs. stub f.form rs (private_from b rules base)) (sym h.runs_are) ∙ ap (stub f.form f.runs) (sym h.private)) in
      subst (λ n. StandAt x f n (stub f.form f.runs f.private)) start (subst (λ (l : List ℕ). StandAt x f (f.code.lo + 0) l) e1 (code_stands 0 (stub 2 (runs_at b rules base) (private_from b rules base)) stub_first))

  pub anchors_are : anchors_at b rules base ≡ anchors_of f
  anchors_are = λ i. record { stub = sym h.code_lo i; private = sym h.private i }

  -- a site's entry isn't 0 and lies in the code, and no two have one
  pub inside : (a : ℕ) (s : Site) → site_at (code_in b) a ≡ Some s → (0 < entry_in (pairs_at b rules base) a) × (base ≤ entry_in (pairs_at b rules base) a) × (entry_in (pairs_at b rules base) a < base + code_len b rules)
  inside a s e =
      let q = site_listed a s e in
      subst (λ n. (0 < entry_in (pairs_at b rules base) n) × (base ≤ entry_in (pairs_at b rules base) n) × (entry_in (pairs_at b rules base) n < base + code_len b rules)) (is_site_at (code_in b) a s e).here
      (entry_inside rules (runs_of b) (sites b) (chains b) h.laid base h.based q.index s q.is)

  pub differ : (a c : ℕ) (s q : Site) → site_at (code_in b) a ≡ Some s → site_at (code_in b) c ≡ Some q → entry_in (pairs_at b rules base) a ≡ entry_in (pairs_at b rules base) c → a ≡ c
  differ a c s q e g same =
      let k = site_listed a s e in
      let j = site_listed c q g in
      let here_s = (is_site_at (code_in b) a s e).here in
      let here_q = (is_site_at (code_in b) c q g).here in
      sym here_s ∙ (entries_differ rules (runs_of b) (sites b) (chains b) h.laid base h.based k.index j.index s q k.is j.is
      (ap (entry_in (pairs_at b rules base)) here_s ∙ (same ∙ sym (ap (entry_in (pairs_at b rules base)) here_q))) ∙ here_q)

  -- the frame's counters are the plan's
  counters_are : kind_of f ≡ counters rules (anchors_at b rules base) (sites b)
  counters_are = λ i. counter_in (h.first_counter i) (h.counted_are i)

  -- the site's code is in place by the frame's own map
  in_frame : (a : ℕ) (s : Site) → site_at (code_in b) a ≡ Some s → IsInPlace rules (anchors_of f) (frame_map f) (code_in b) (kind_of f) (plan_at b rules base).code s
  unfolding plan
  in_frame a s e =
      let q = site_listed a s e in
      let code : List ℕ = (plan_at b rules base).code in
      let moves : frame_map f ≡ move = fun_ext map_is in
      subst (λ (p : ℕ → ℕ → Option ℕ). IsInPlace rules (anchors_of f) (frame_map f) (code_in b) p code s) (sym counters_are)
      (subst (λ (n : Anchors). IsInPlace rules n (frame_map f) (code_in b) (counters rules (anchors_at b rules base) (sites b)) code s) anchors_are
      (subst (λ (m : ℕ → ℕ). IsInPlace rules (anchors_at b rules base) m (code_in b) (counters rules (anchors_at b rules base) (sites b)) code s) (sym moves)
      (subst (λ (c : ℕ → Option ℕ). IsInPlace rules (anchors_at b rules base) move c (counters rules (anchors_at b rules base) (sites b)) code s) (sym same_bytes)
      (in_place rules (runs_of b) (sites b) (chains b) h.laid base h.based q.index s q.is))))

  -- what is in place stands where it is loaded: the counter, the piece, and what leads on
  piece_at : (s : Site) → fits_ways f s ≡ true → length (counter_there f s) + length (piece_there b f s) ≡ site_len rules s → IsInPlace rules (anchors_of f) (frame_map f) (code_in b) (kind_of f) (plan_at b rules base).code s → PieceAt b x f s
  piece_at s fit sized w =
      let front = counter_there f s in
      let n = length front in
      let p : ℕ → List ℕ = λ at. piece_with (anchors_of f) (frame_map f) (code_in b) (ways_of f s.at) at s in
      let next = frame_map f (successor s) in
      let here : f.code.lo + w.off ≡ frame_map f s.at = sym w.entry in
      let behind : f.code.lo + w.off + n ≡ piece_place f s = ap (λ (at : ℕ). at + n) here in
      let own = p (f.code.lo + w.off + n) in
      let code = (plan_at b rules base).code in
      let along : f.code.lo + (w.off + n) ≡ f.code.lo + w.off + n = omega arith in
      let end : f.code.lo + w.off + site_len rules s ≡ piece_place f s + length (piece_there b f s) = omega (arith, behind, sized) in
      let there : f.code.lo + (w.off + site_len rules s) ≡ piece_place f s + length (piece_there b f s) = omega (arith, behind, sized) in
      record {
        ways = fit;
        counts = subst (λ at. StandAt x f at front) here (code_stands w.off front (stands_first code front own w.off w.stands));
        stands = subst (λ at. StandAt x f at (p at)) behind (subst (λ at. StandAt x f at own) along (code_stands (w.off + n) own (stands_second code front own w.off n refl w.stands)));
        leads = λ on. elim (w.leads on) [
          | inl e ↦ inl (e ∙ end)
          | inr s2 ↦ inr (subst (λ at. StandAt x f (piece_place f s + length (piece_there b f s)) (jump_bytes at next)) end
              (subst (λ at. StandAt x f at (jump_bytes (f.code.lo + w.off + site_len rules s) next)) there (code_stands (w.off + site_len rules s) (jump_bytes (f.code.lo + w.off + site_len rules s) next) s2)))
        ];
      }

  -- a site's counters are as the rules pick them, so its ways fit and its code has its length
  counted_so : (s : Site) → IsListed (sites b) s → IsCountedAt rules (kind_of f) s
  counted_so s q =
      subst (λ (p : ℕ → ℕ → Option ℕ). IsCountedAt rules p s) (sym counters_are)
      (lay_facts.counters_are rules (runs_of b) (sites b) (chains b) h.laid (anchors_at b rules base) q.index s q.is)

  fits_so : (s : Site) → IsListed (sites b) s → fits_ways f s ≡ true
  fits_so s q =
      ap (λ (p : ℕ → ℕ → Option ℕ). ways_fit (p 1 s.at) (p 2 s.at) (is_branch (flow_of s.insn))) counters_are
      ∙ ways_fit_at rules (anchors_at b rules base) 0 (sites b) q.index s (lay_facts.ascend (runs_of b) (sites b) (chains b) h.laid) q.is

  sized_so : (s : Site) → IsListed (sites b) s → IsWhole (code_in b) s → length (counter_there f s) + length (piece_there b f s) ≡ site_len rules s
  sized_so s q whole =
      sym (length-append (counter_there f s) (piece_there b f s))
      ∙ site_sized rules (anchors_of f) (frame_map f) (code_in b) (kind_of f) (frame_map f s.at) s whole (counted_so s q)

  pub pieces : (a : ℕ) (s : Site) → site_at (code_in b) a ≡ Some s → PieceAt b x f s
  pieces a s e =
      let q = site_listed a s e in
      piece_at s (fits_so s q) (sized_so s q (is_site_at (code_in b) a s e).whole) (in_frame a s e)

  -- ---- the table

  table-room : length (frame_table f) ≤ up (table_len b rules)
  table-room = omega (arith, ap length h.table_is, length-table_of b rules base, up-le (table_len b rules))

  pub table_added : (k : ℕ) → k < length (frame_table f) → (is_added f (f.table.lo + k) ≡ true) × (is_private f (f.table.lo + k) ≡ false)
  table_added k lt = (
    in_added (f.table.lo + k) (omega (arith, h.table_lo)) (omega (arith, lt, h.table_lo, table-room)),
    below_private (f.table.lo + k) (omega (arith, lt, h.table_lo, table-room)),
  )

  pub table_are_bytes : AreBytes (frame_table f)
  unfolding plan table_bytes
  table_are_bytes =
      let ws = table_words (runs_of b) (pairs_at b rules base) (table_from b rules base) in
      let list = flat_map pair_words (listed_at b rules) in
      subst (λ (t : List ℕ). AreBytes t) (words-append ws list ∙ sym h.table_is) (words_bytes (ws ++ list))

  pub table_holds : (k : ℕ) → k < length (frame_table f) → option_map (λ c. c.byte) (load x (f.table.lo + k)) ≡ Some (slice_index (frame_table f) k)
  table_holds k lt =
      let byte : Option Cell → Option ℕ = λ o. option_map (λ (c : Cell). c.byte) o in
      ap (λ n. byte (load x (n + k))) h.table_lo
      ∙ (ap byte (h.words k (omega (arith, lt, ap length h.table_is))) ∙ ap (λ (t : List ℕ). Some (slice_index t k)) (sym h.table_is))

  pub table_low : f.table.lo + length (frame_table f) < 2 ^ 32
  table_low = omega (arith, h.table_lo, table-room, size-code, h.low)

  pub placed : AllByRecursion (finding.IsPlaced f.form (frame_table f) f.table.lo) f.runs
  placed =
      let t = (plan_at b rules base).table in
      let list = words (flat_map pair_words (plan_at b rules base).counted) in
      let end : table_from b rules base + length t < 2 ^ 32 = omega (arith, length-append t list, length-table_of b rules base, up-le (table_len b rules), size-code, h.low) in
      let all = looked_up t list (table_from b rules base) 0 (table_from b rules base + 4096) (runs_of b) end h.laid.runs.apart laws.inside_are in
      subst (λ n. AllByRecursion (finding.IsPlaced n (frame_table f) f.table.lo) f.runs) (sym h.form_is)
      (subst (λ rs. AllByRecursion (finding.IsPlaced 2 (frame_table f) f.table.lo) rs) (sym h.runs_are)
      (subst (λ n. AllByRecursion (finding.IsPlaced 2 (frame_table f) n) (runs_at b rules base)) (sym h.table_lo)
      (subst (λ (t : List ℕ). AllByRecursion (finding.IsPlaced 2 t (table_from b rules base)) (runs_at b rules base)) (sym h.table_is) all)))
