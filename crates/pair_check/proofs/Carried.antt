-- A file in which nothing differs is that of a plan that fits, so it loads as an output over the input.
use Rattle.std.proofs.Common.{lit<, ◌≡◌, ℕ, ◌+◌, ◌-◌, ◌*◌, ◌/◌, ◌^◌, ◌<◌, ◌≤◌, ◌⊎◌, inl, inr, Bool, true, false, ◌==◌, List, [], length, take, drop, Option, Some, None, sym, ap, ◌∙◌, subst, arith}
use Rattle.std.specs.Prelude.{slice_index, if◌then◌else◌}
use Rattle.std.specs.List.{list_all}
use Rattle.std.specs.Option.{option_map}
use Rattle.std.proofs.lemmas.Bool.{cond_both, cases_lt, le-leb}
use Rattle.std.proofs.lemmas.List.{length-take, get_or-take, get_or-drop, get_or_past, ext_get_or}
use Rattle.mv_base.specs.Bytes.{AreBytes, word_at}
use Rattle.mv_base.specs.Memory.{Cell, byte_of, within, cell_is, exec_byte_of}
use Rattle.mv_base.specs.Table.{run_of, flat_word, paged_word}
use Rattle.mv_base.specs.declared.range.RunPlace.{RunPlace}
use Rattle.elf32_read.specs.Fields.{entry_at, header_count, segments}
use Rattle.elf32_read.specs.Faults.{load_refusal}
use Rattle.elf32_read.specs.Load.{load}
use Rattle.elf32_write.specs.declared.plan.Plan.{Plan}
use Rattle.elf32_write.specs.Format.{up, private_len}
use Rattle.elf32_write.specs.File.{code_place, table_of, table_lo, private_lo, added_len, record_words, file_of}
use Rattle.elf32_write.specs.Frame.{Frame, frame, frame_code, frame_table, frame_entry, frame_map, is_added, is_private}
use Rattle.elf32_write.specs.Parts.{word_alike, word_in}
use Rattle.elf32_write.specs.ReadBack.{taken}
use Rattle.elf32_write.specs.Within.{within_parts}
use Rattle.elf32_write.specs.Written.{up-le}
use Rattle.lookup_stub.specs.Stub.{stub}
use Rattle.superset.specs.RunBytes.{outside_below}
use Rattle.simulation_laws.specs.Front.{difference}
use Rattle.simulation_laws.specs.Relocated.{IsOutput, StandAt}
use Rattle.simulation_laws.specs.Standing.{code_from, stub_difference}
use Rattle.simulation_laws.specs.laws.Bounded.{word_at-lt}
use Rattle.simulation_laws.specs.laws.Counters.{length-counted}
use Rattle.simulation_laws.specs.laws.Fronts.{none_same}
use Rattle.simulation_laws.specs.laws.Pieced.{HoldsCode, stands_by}
use Rattle.simulation_laws.specs.laws.Ruled.{ruled, all_placed}
use Rattle.image_layout.specs.Fit.{is_apart}
use Rattle.image_layout.specs.laws.NewCells.{not_within, within_is, InBlock, OutOfBlock}
use Rattle.image_layout.specs.laws.Fitting.{Fits, block}
use Rattle.image_layout.specs.laws.Fitting as fitting
use Rattle.elf32_write.specs.Plans.{plan_of}
use Rattle.pair_check.proofs.Framed.{IsExact, exact, length-code, length-table, length-table_of, table_there, private_there, added_there, ends_low}
use Rattle.pair_check.proofs.NoDifference.{HasRoom}

-- ---- bytes

part_bytes : (n p : ℕ) (x : List ℕ) → AreBytes x → AreBytes (take n (drop p x))
part_bytes n p x bytes k = go (cases_lt k n)
  where
    go : (k < n) ⊎ (n ≤ k) → slice_index (take n (drop p x)) k < 256
    go (inl lt) = omega (arith, get_or-take n (drop p x) k 0 lt, get_or-drop p x k 0, bytes (p + k))
    go (inr le) = omega (arith, get_or_past (take n (drop p x)) k 0 (omega (arith, length-take n (drop p x), le)))

-- an entry is a word of bytes
flat_low : (t : List ℕ) (lo a : ℕ) (o : Option RunPlace) → AreBytes t → flat_word t lo a o < 2 ^ 32
flat_low t lo a None bytes = lit< tt
flat_low t lo a (Some r) bytes = word_at-lt t (r.dir - lo + 4 * (a - r.lo)) bytes

paged_low : (t : List ℕ) (lo a : ℕ) (o : Option RunPlace) → AreBytes t → paged_word t lo a o < 2 ^ 32
paged_low t lo a None bytes = lit< tt
paged_low t lo a (Some r) bytes = word_at-lt t _ bytes

starts_at : (f : Frame) → code_from f f.code.lo ≡ frame_code f
starts_at f = (λ i. if (le-leb f.code.lo f.code.lo (let e : f.code.lo ≤ f.code.lo = omega arith in e)) i then drop ((let e : f.code.lo - f.code.lo ≡ 0 = omega arith in e) i) (frame_code f) else [])

below_private : (f : Frame) (a : ℕ) → a < f.private → is_private f a ≡ false
below_private f a lt = outside_below f.private (private_len f.counters) a lt

-- ---- a file in which the parts don't differ

pub record IsJudged (b x : List ℕ) (f : Frame) : Type 0 where
  pub bytes : AreBytes b
  pub bytes_there : AreBytes x
  pub small : length b ≤ 268435456
  pub whole : load_refusal b ≡ None
  pub few_headers : header_count b ≤ 61
  pub framed : frame x ≡ Some f
  pub version : f.version ≡ 2
  pub room : HasRoom f (segments b)
  pub file : difference 0 (file_of b (plan_of (entry_at b) f)) x ≡ None
  pub stub : stub_difference f ≡ None

module _ (b x : List ℕ) (f : Frame) (j : IsJudged b x f) where
  abbrev p : Plan
  p = plan_of (entry_at b) f

  is : IsExact x f
  is = exact x f j.framed

  pub table_bytes : AreBytes (frame_table f)
  unfolding frame_table
  table_bytes = part_bytes f.table.len (code_place f.input_len + up f.code.len) f.file (subst AreBytes (sym is.file) j.bytes_there)

  entry_low : (a : ℕ) → frame_entry f a < 2 ^ 32
  unfolding frame_entry
  entry_low a =
      cond_both (f.form == 1) (flat_word (frame_table f) f.table.lo a (run_of f.runs a)) (paged_word (frame_table f) f.table.lo a (run_of f.runs a)) (λ n. n < 2 ^ 32)
      (λ _. flat_low (frame_table f) f.table.lo a (run_of f.runs a) table_bytes) (λ _. paged_low (frame_table f) f.table.lo a (run_of f.runs a) table_bytes)

  pub mapped : (a : ℕ) → a < 2 ^ 32 → frame_map f a < 2 ^ 32
  mapped a lt = cond_both (frame_entry f a == 0) a (frame_entry f a) (λ n. n < 2 ^ 32) (λ _. lt) (λ _. entry_low a)

  pub fits : Fits b p
  fits =
      let added = added_there (entry_at b) x f is j.version in
      let places = is.places in
      record {
        bytes = j.bytes;
        small = j.small;
        loads_so = j.whole;
        few_headers = j.few_headers;
        page = f.added.lo / 4096;
        at = omega (arith, places.page);
        from = omega (arith, j.room.from);
        low = ends_low (entry_at b) x f is j.version;
        apart = ap (λ n. list_all (is_apart (f.added.lo / 4096) n) (segments b)) (let e : f.added.lo / 4096 + added_len p / 4096 ≡ (f.added.lo + f.added.len) / 4096 = omega (arith, added, places.page) in e) ∙ j.room.apart;
        few_runs = is.few_runs;
        entry = mapped (entry_at b) (word_at-lt b 24 j.bytes);
      }

  -- ---- it is the plan's file

  input_len : f.input_len ≡ length b
  unfolding record_words
  input_len =
      let y = file_of b p in
      let wrote = fitting.wrote b p fits in
      let alike : word_at x (0x900 + 4 * 3) ≡ word_at y (0x900 + 4 * 3) = word_alike x y 0x90C 0x90C (λ k lt. none_same 0 y x (0x90C + k) j.file (omega (arith, wrote.length_is, lt))) in
      is.input_is ∙ (alike ∙ word_in y (record_words (length b) p) 0x900 3 wrote.record_stands (omega arith) (omega (arith, j.small)))

  pub same : x ≡ file_of b p
  same =
      let y = file_of b p in
      let wrote = fitting.wrote b p fits in
      let len : length x ≡ length y = omega (arith, ap length is.file, is.places.size, wrote.length_is, ap up input_len, ap up (length-code (entry_at b) x f is), ap up (length-table_of (entry_at b) x f is j.version)) in
      ext_get_or 0 x y len (λ i lt. none_same 0 y x i j.file (omega (arith, lt, len)))

  table_is : frame_table f ≡ table_of p
  unfolding frame_table
  table_is =
      let wrote = fitting.wrote b p fits in
      let place : code_place f.input_len + up f.code.len ≡ code_place (length b) + up (length p.code) = omega (arith, ap up input_len, ap up (length-code (entry_at b) x f is)) in
      (λ i. take f.table.len (drop (place i) ((is.file ∙ same) i)))
      ∙ taken (file_of b p) (table_of p) (code_place (length b) + up (length p.code)) f.table.len (length-table_of (entry_at b) x f is j.version) wrote.table_stands

  -- ---- how it loads

  loaded : (a : ℕ) → load x a ≡ load (file_of b p) a
  loaded a = ap (λ y. load y a) same

  in_block : (a : ℕ) → is_added f a ≡ true → InBlock (block b p fits) a
  in_block a e =
      let q = within_parts f.added.lo f.added.len a e in
      record { from = q.0; below = omega (arith, q.1, added_there (entry_at b) x f is j.version) }

  in_added : (a : ℕ) → InBlock (block b p fits) a → is_added f a ≡ true
  in_added a at = within_is f.added.lo f.added.len a at.from (omega (arith, at.below, added_there (entry_at b) x f is j.version))

  out_block : (a : ℕ) → is_added f a ≡ false → OutOfBlock (block b p fits) a
  out_block a e = elim (not_within f.added.lo f.added.len a e) [
    | inl lt ↦ inl lt
    | inr le ↦ inr (omega (arith, le, added_there (entry_at b) x f is j.version))
  ]

  private_within : (a : ℕ) (v : Bool) → is_private f a ≡ v → within (private_lo p) (private_len (length p.counted)) a ≡ v
  private_within a v e = (λ i. within (private_there (entry_at b) x f is j.version i) (private_len (length-counted f i)) a) ∙ e

  private_cell : (a : ℕ) → is_private f a ≡ true → load x a ≡ Some (record { byte = 0; write = true; exec = false })
  private_cell a e = loaded a ∙ fitting.private_cells b p fits a (private_within a true e)

  code_cell : (k : ℕ) → k < length (frame_code f) → load x (f.code.lo + k) ≡ Some (record { byte = slice_index (frame_code f) k; write = false; exec = true })
  code_cell k lt = ap (λ n. load x (n + k)) is.places.code_lo ∙ (loaded (f.added.lo + k) ∙ fitting.code_cells b p fits k lt)

  table_cell : (k : ℕ) → k < length (frame_table f) → load x (f.table.lo + k) ≡ Some (record { byte = slice_index (frame_table f) k; write = false; exec = false })
  table_cell k lt =
      ap (λ n. load x (n + k)) (sym (table_there (entry_at b) x f is j.version))
      ∙ (loaded (table_lo p + k) ∙ (fitting.table_cells b p fits k (omega (arith, lt, ap length table_is))
      ∙ ap (λ (t : List ℕ). Some (record { byte = slice_index t k; write = false; exec = false })) (sym table_is)))

  fixed : (a : ℕ) → is_added f a ≡ true → is_private f a ≡ false → cell_is (λ c. c.write) (load x a) ≡ false
  fixed a e w = ap (cell_is (λ c. c.write)) (loaded a) ∙ fitting.fixed b p fits a (in_block a e) (private_within a false w)

  pub holds : HoldsCode x f
  holds = record { framed = j.framed; code = λ k lt. ap exec_byte_of (code_cell k lt); fixed = fixed }

  stub_stands : StandAt x f f.code.lo (stub f.form f.runs f.private)
  stub_stands = stands_by x f f.code.lo 0 (stub f.form f.runs f.private) holds (ap (difference 0 (stub f.form f.runs f.private)) from_start ∙ j.stub)
    where
      from_start : code_from f f.code.lo ≡ frame_code f
      from_start = starts_at f

  pub output_is : IsOutput b x f
  output_is = record {
    admitted = ap load_refusal same ∙ fitting.admitted b p fits;
    framed = j.framed;
    low = is.places.low;
    bytes = j.bytes;
    bytes_there = j.bytes_there;
    outside = λ a e. loaded a ∙ fitting.outside b p fits a (out_block a e);
    free = λ a e. fitting.free b p fits a (in_block a e);
    scratch = λ a e. (in_added a (fitting.private_in b p fits a (private_within a true e)), ap (cell_is (λ c. c.write)) (private_cell a e));
    fixed = fixed;
    idle = λ a e. ap (cell_is (λ c. c.exec)) (private_cell a e);
    zeros = λ a e. ap byte_of (private_cell a e);
    stub = stub_stands;
    table_added = λ k lt. (
      within_is f.added.lo f.added.len (f.table.lo + k) (omega (arith, is.places.table_lo)) (omega (arith, is.places.table_lo, is.places.added, lt, length-table (entry_at b) x f is, up-le f.table.len)),
      before (f.table.lo + k) (omega (arith, is.places.private, lt, length-table (entry_at b) x f is, up-le f.table.len)),
    );
    table_bytes = table_bytes;
    table_holds = λ k lt. ap (option_map (λ (c : Cell). c.byte)) (table_cell k lt);
    table_low = omega (arith, length-table (entry_at b) x f is, is.places.table_lo, is.places.added, is.places.low, up-le f.table.len);
    placed = all_placed f (ruled x f j.framed);
    unwritable = fitting.unwritable b p fits;
    code = holds.code;
    mapped = mapped;
  }
    where
      before : (a : ℕ) → a < f.private → is_private f a ≡ false
      before a lt = below_private f a lt
