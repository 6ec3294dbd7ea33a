-- The plan of any image: its block, and that it fits.
use Rattle.std.proofs.Common.{◌≡◌, ℕ, ◌+◌, ◌*◌, ◌/◌, ◌^◌, ◌<◌, ◌≤◌, eqb, List, length, map, Some, None, refl, ap, ◌∙◌, arith}
use Rattle.std.specs.List.{list_all}
use Rattle.std.proofs.lemmas.List.{length-append, length-map}
use Rattle.std.proofs.lemmas.Bool.{cond_both}
use Rattle.mv_base.specs.Bytes.{AreBytes}
use Rattle.mv_base.specs.declared.range.RunPlace.{RunPlace}
use Rattle.elf32_read.specs.Fields.{header_count, entry_at, segments}
use Rattle.elf32_read.specs.Faults.{load_refusal}
use Rattle.elf32_read.specs.Runs.{runs_of, code_of}
use Rattle.elf32_write.specs.Format.{up, private_len}
use Rattle.image_layout.specs.Rules.{Rules}
use Rattle.elf32_write.specs.File.{table_of, added_len}
use Rattle.map_table.specs.Pairs.{entry_in}
use Rattle.map_table.specs.Paged.{table_size, IsMade}
use Rattle.map_table.specs.laws.Reading.{length-table_bytes}
use Rattle.lookup_stub.specs.Stub.{stub, stub_size}
use Rattle.lookup_stub.specs.laws.StubBytes.{stub_length}
use Rattle.simulation_laws.specs.laws.Bounded.{word_at-lt}
use Rattle.image_layout.specs.Fit.{is_apart}
use Rattle.image_layout.specs.Layout.{plan}
use Rattle.image_layout.specs.Layout as layout
use Rattle.image_layout.specs.Parts.{parts, placed, entry}
use Rattle.image_layout.specs.Pieces.{counters, code_lens, part_bytes, bytes_of, chain_code}
use Rattle.image_layout.specs.laws.Blocks.{HasRoom, room_at, length-run_places}
use Rattle.image_layout.specs.laws.Placing.{length-code_at}
use Rattle.image_layout.specs.laws.Sizes.{part_sized}
use Rattle.image_layout.specs.laws.SiteFacts.{are_whole}
use Rattle.image_layout.specs.laws.Pairing.{firsts_pairs}
use Rattle.image_layout.specs.laws.LayFacts.{AreLaid, HasBase, has_base, made, entry_most, counters_are}
use Rattle.image_layout.specs.laws.Fitting.{Fits}
use Rattle.mv_rewrite.specs.Sites.{code_in, sites}
use Rattle.mv_rewrite.specs.Layout.{moved, code, chains, listed_at, base_of, size, stub_len, code_len, table_len, table_from, private_from, pairs_at, runs_at, anchors_at, plan_at}
use Rattle.elf32_write.specs.Written.{table_length, up-le}

-- ---- lengths of the plan

-- how many counters there are, and how many bytes the private area has with them
abbrev pub count : List ℕ → Rules → ℕ
count b rules = length (listed_at b rules)

abbrev pub private_size : List ℕ → Rules → ℕ
private_size b rules = private_len (count b rules)

-- the length of the table without the list
abbrev pub words_len : List ℕ → ℕ
words_len b = table_size (runs_of b) (map (λ s. s.at) (sites b))

module _ (b : List ℕ) (rules : Rules) (base : ℕ) where
  -- as many runs have places as there are
  pub length-runs_at : length (runs_at b rules base) ≡ length (runs_of b)
  length-runs_at = length-run_places (table_from b rules base + 4096) (runs_of b)

  pub length-stub : length (stub 2 (runs_at b rules base) (private_from b rules base)) ≡ stub_len b
  length-stub = stub_length 2 (runs_at b rules base) (private_from b rules base) ∙ ap (stub_size 2) length-runs_at

  pub length-table : length (plan_at b rules base).table ≡ words_len b
  unfolding plan
  length-table =
      length-table_bytes (runs_of b) (pairs_at b rules base) (table_from b rules base)
      ∙ ap (table_size (runs_of b)) (firsts_pairs (entry (code_lens rules (sites b)) (base + stub_len b) (parts (chains b))) 0 (sites b))

  counted_is : (plan_at b rules base).counted ≡ listed_at b rules
  unfolding plan
  counted_is = refl

  pub length-counted : length (plan_at b rules base).counted ≡ count b rules
  length-counted = ap length counted_is

  pub length-table_of : length (table_of (plan_at b rules base)) ≡ table_len b rules
  length-table_of = table_length (plan_at b rules base) ∙ (ap (λ n. n + 8 * length (plan_at b rules base).counted) length-table ∙ ap (λ n. words_len b + 8 * n) length-counted)

  pub size_is : size b rules ≡ up (code_len b rules) + up (table_len b rules) + up (private_size b rules)
  unfolding layout.size
  size_is = refl

  pub plan_runs : (plan_at b rules base).runs ≡ runs_at b rules base
  unfolding plan
  plan_runs = refl

-- ---- what is asked of an image

-- a file that is rewritten by a rules with its block at this base: it has no fault, and its runs have its executable bytes
pub record IsInput (b : List ℕ) (rules : Rules) (base : ℕ) : Type 0 where
  pub bytes : AreBytes b
  pub small : length b ≤ 268435456
  pub loads : load_refusal b ≡ None
  pub few_headers : header_count b ≤ 61
  pub base_is : base_of b rules ≡ Some base
  pub code : (a : ℕ) → code_in b a ≡ code_of (runs_of b) a
  pub laid : AreLaid (runs_of b) (sites b) (chains b)

pub has_room_at : (b : List ℕ) (rules : Rules) (base : ℕ) → base_of b rules ≡ Some base → HasRoom (segments b) (size b rules) base
unfolding base_of
has_room_at b rules base e = room_at (segments b) (size b rules) base e

-- the code has its length, since each piece has that of its site
pub length-code : (b : List ℕ) (rules : Rules) (base : ℕ) → AreLaid (runs_of b) (sites b) (chains b) → length (plan_at b rules base).code ≡ code_len b rules
unfolding plan layout.code chain_code
length-code b rules base is =
    let first = base + stub_size 2 (length (runs_at b rules base)) in
    let place = counters rules (anchors_at b rules base) (sites b) in
    let bytes = part_bytes (anchors_at b rules base) (moved (pairs_at b rules base)) (code_of (runs_of b)) place (sites b) in
    let sized = part_sized rules (anchors_at b rules base) (moved (pairs_at b rules base)) (code_of (runs_of b)) place (sites b) (are_whole (runs_of b) (sites b) is.sites) (counters_are rules (runs_of b) (sites b) (chains b) is (anchors_at b rules base)) in
    let behind = bytes_of bytes (placed (code_lens rules (sites b)) first (parts (chains b))) in
    omega (arith, length-append (stub 2 (runs_at b rules base) (private_from b rules base)) behind, length-stub b rules base, length-code_at (code_lens rules (sites b)) bytes sized (parts (chains b)) first)

module _ (b : List ℕ) (rules : Rules) (base : ℕ) (is : IsInput b rules base) where
  pub room : HasRoom (segments b) (size b rules) base
  room = has_room_at b rules base is.base_is

  -- and the parts of the block end below 2^32
  pub has : HasBase rules (runs_of b) (sites b) (chains b) is.laid base
  unfolding base_of
  has = has_base rules (runs_of b) (sites b) (chains b) is.laid (segments b) base is.base_is

  pub made_at : IsMade (record { runs = runs_of b; pairs = pairs_at b rules base; lo = table_from b rules base })
  made_at = made rules (runs_of b) (sites b) (chains b) is.laid base has

  pub entry_bound : (a : ℕ) → entry_in (pairs_at b rules base) a < 2 ^ 32
  entry_bound a = omega (arith, entry_most rules (runs_of b) (sites b) (chains b) is.laid base a, room.low, size_is b rules base, up-le (code_len b rules))

  entry_lt : (plan_at b rules base).entry < 2 ^ 32
  unfolding plan
  entry_lt =
      cond_both (eqb (entry_in (pairs_at b rules base) (entry_at b)) 0) (entry_at b) (entry_in (pairs_at b rules base) (entry_at b)) (λ n. n < 2 ^ 32) (λ _. word_at-lt b 24 is.bytes) (λ _. entry_bound (entry_at b))

  -- the plan fits
  pub fits : Fits b (plan_at b rules base)
  unfolding plan
  fits = record {
    bytes = is.bytes;
    small = is.small;
    loads_so = is.loads;
    few_headers = is.few_headers;
    page = room.page;
    at = room.at;
    from = room.from;
    low = omega (arith, room.low, added_by);
    apart = ap (λ n. list_all (is_apart room.page (room.page + n / 4096)) (segments b)) added_by ∙ room.apart;
    few_runs = omega (arith, is.laid.runs.few, ap (λ (l : List RunPlace). length l) (plan_runs b rules base), length-runs_at b rules base);
    entry = entry_lt;
  }
    where
      added_by : added_len (plan_at b rules base) ≡ size b rules
      added_by = omega (arith, length-code b rules base is.laid, length-table_of b rules base, length-counted b rules base, size_is b rules base)
