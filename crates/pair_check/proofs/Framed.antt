-- What the record of a file with a frame says of its parts, word by word, and what the plan that is taken from it has.
use Rattle.std.proofs.Common.{◌≡◌, ℕ, ◌+◌, ◌-◌, ◌*◌, ◌%◌, ◌^◌, ◌<◌, ◌≤◌, Bool, true, false, cond, ◌&&◌, ◌||◌, ◌==◌, List, length, drop, Some, None, refl, ap, subst, arith}
use Rattle.std.specs.List.{range_with_len}
use Rattle.std.proofs.lemmas.Bool.{and_parts, eqb-true, leb-true}
use Rattle.std.proofs.lemmas.List.{length-take, length-drop, length-map}
use Rattle.std.proofs.lemmas.List.FromFn.{length-range_with_len}
use Rattle.elf32_write.specs.Format.{up, private_len}
use Rattle.elf32_write.specs.File.{code_place, table_of, table_lo, private_lo, added_len}
use Rattle.elf32_write.specs.Frame.{Frame, field, run_place_at, frame, frame_at, frame_code, frame_table, list_len, most_input, has_version, has_record, has_places, has_block, has_numbers, has_kinds, has_runs, keeps_rules, table_at}
use Rattle.elf32_write.specs.Written.{up-le, table_length}
use Rattle.simulation_laws.specs.laws.Counters.{length-counted}
use Rattle.elf32_write.specs.Plans.{plan_of}

-- the places and lengths of the parts
pub record HasPlaces (f : Frame) : Type 0 where
  pub code_lo : f.code.lo ≡ f.added.lo
  pub table_lo : f.table.lo ≡ f.added.lo + up f.code.len
  pub private : f.private ≡ f.table.lo + up f.table.len
  pub private_size : f.private_size ≡ 64
  pub first : f.first_counter ≡ f.private + 64
  pub list_fits : list_len f.version f.counters ≤ f.table.len
  pub list : f.list ≡ f.table.lo + (f.table.len - list_len f.version f.counters)
  pub added : f.added.len ≡ up f.code.len + up f.table.len + up (private_len f.counters)
  pub size : length f.file ≡ code_place f.input_len + up f.code.len + up f.table.len
  pub page : f.added.lo % 4096 ≡ 0
  pub low : f.added.lo + f.added.len ≤ 0xB0000000

places_hold : (f : Frame) → has_places f ≡ true → has_block f ≡ true → HasPlaces f
unfolding has_places has_block
places_hold f places block =
    let p7 = and_parts _ _ places in
    let p6 = and_parts _ _ p7.0 in
    let p5 = and_parts _ _ p6.0 in
    let p4 = and_parts _ _ p5.0 in
    let p3 = and_parts _ _ p4.0 in
    let p2 = and_parts _ _ p3.0 in
    let p1 = and_parts _ _ p2.0 in
    let b2 = and_parts _ _ block in
    let b1 = and_parts _ _ b2.0 in
    record {
      code_lo = eqb-true _ _ p1.0;
      table_lo = eqb-true _ _ p1.1;
      private = eqb-true _ _ p2.1;
      private_size = eqb-true _ _ p3.1;
      first = eqb-true _ _ p4.1;
      list_fits = leb-true _ _ p5.1;
      list = eqb-true _ _ p6.1;
      added = eqb-true _ _ p7.1;
      size = eqb-true _ _ b1.0;
      page = eqb-true _ _ b1.1;
      low = leb-true _ _ b2.1;
    }

-- the frame is that of the file's record, within its limits
pub record IsExact (x : List ℕ) (f : Frame) : Type 0 where
  pub file : f.file ≡ x
  pub places : HasPlaces f
  pub version : has_version f.version f.form ≡ true
  pub few_runs : length f.runs ≤ 64
  pub input : f.input_len ≤ 268435456
  pub input_is : f.input_len ≡ field x 3

exact_at : (x : List ℕ) → has_record x ≡ true → keeps_rules x ≡ true → IsExact x (frame_at x)
unfolding has_record frame_at
exact_at x record_there keeps =
    let k2 = and_parts (has_numbers x && has_kinds (frame_at x)) (has_runs (table_at (frame_at x)) 0 (frame_at x).runs) keeps in
    let k1 = and_parts (has_numbers x) (has_kinds (frame_at x)) k2.0 in
    let n3 = and_parts _ _ k1.0 in
    let n2 = and_parts _ _ n3.0 in
    let n1 = and_parts (has_places (frame_at x)) (has_block (frame_at x)) n2.0 in
    let r4 = and_parts _ _ record_there in
    let r3 = and_parts _ _ r4.0 in
    let r2 = and_parts _ _ r3.0 in
    record {
      file = refl;
      places = places_hold (frame_at x) n1.0 n1.1;
      version = r2.1;
      few_runs = omega (arith, leb-true (field x 15) 64 r3.1, length-map (range_with_len 0 (field x 15)) (run_place_at x), length-range_with_len 0 (field x 15));
      input = small (field x 1 == 1) (leb-true (field x 3) (most_input (field x 1)) r4.1);
      input_is = refl;
    }
  where
    small : (v : Bool) → field x 3 ≤ cond v 67108864 268435456 → field x 3 ≤ 268435456
    small true h = omega (arith, h)
    small false h = h

exact_by : (x : List ℕ) (f : Frame) (r k : Bool) → has_record x ≡ r → keeps_rules x ≡ k → cond (r && k) (Some (frame_at x)) None ≡ Some f → IsExact x f
exact_by x f true true r k e = subst (IsExact x) (cc e) (exact_at x r k)
exact_by x f true false r k e = absurd (cc e)
exact_by x f false k r h e = absurd (cc e)

pub exact : (x : List ℕ) (f : Frame) → frame x ≡ Some f → IsExact x f
unfolding frame
exact x f e = exact_by x f (has_record x) (keeps_rules x) refl refl e

-- a file with a frame has fewer than 2^32 bytes
pub short_file : (x : List ℕ) (f : Frame) → IsExact x f → length x < 2 ^ 32
short_file x f is =
    let p = is.places in
    omega (arith, ap length is.file, p.size, p.added, p.low, is.input, up-le (private_len f.counters))

-- ---- version 2

pub version_two : (f : Frame) → has_version f.version f.form ≡ true → (f.version == 1) ≡ false → (f.version ≡ 2) × (f.form ≡ 2)
version_two f known new =
    let two = by_two (f.version == 1) (f.form == 1 || f.form == 2) (f.version == 2 && f.form == 2) new known in
    let q = and_parts (f.version == 2) (f.form == 2) two in
    (eqb-true f.version 2 q.0, eqb-true f.form 2 q.1)
  where
    by_two : (v w r : Bool) → v ≡ false → ((v && w) || r) ≡ true → r ≡ true
    by_two true w r e h = absurd (cc e)
    by_two false w r e h = h

module _ (start : ℕ) (x : List ℕ) (f : Frame) (is : IsExact x f) where
  pub length-code : length (frame_code f) ≡ f.code.len
  length-code = omega (arith, is.places.size, length-take f.code.len (drop (code_place f.input_len) f.file), length-drop (code_place f.input_len) f.file, up-le f.code.len)

  pub length-table : length (frame_table f) ≡ f.table.len
  unfolding frame_table
  length-table = omega (arith, is.places.size, length-take f.table.len (drop (code_place f.input_len + up f.code.len) f.file), length-drop (code_place f.input_len + up f.code.len) f.file, up-le f.table.len)

  pub length-words : length (plan_of start f).table ≡ f.list - f.table.lo
  length-words = omega (arith, is.places.list, length-table, length-take (f.list - f.table.lo) (frame_table f))

  pub two_len : f.version ≡ 2 → list_len f.version f.counters ≡ 8 * f.counters
  two_len two = ap (λ v. list_len v f.counters) two

  pub length-table_of : f.version ≡ 2 → length (table_of (plan_of start f)) ≡ f.table.len
  length-table_of two = omega (arith, table_length (plan_of start f), length-words, length-counted f, two_len two, is.places.list, is.places.list_fits)

  pub table_there : f.version ≡ 2 → table_lo (plan_of start f) ≡ f.table.lo
  table_there two = omega (arith, ap up length-code, is.places.table_lo)

  pub private_there : f.version ≡ 2 → private_lo (plan_of start f) ≡ f.private
  private_there two = omega (arith, table_there two, ap up (length-table_of two), is.places.private)

  pub added_there : f.version ≡ 2 → added_len (plan_of start f) ≡ f.added.len
  added_there two = omega (arith, ap up length-code, ap up (length-table_of two), length-counted f, is.places.added)

  pub ends_low : f.version ≡ 2 → f.added.lo + added_len (plan_of start f) ≤ 0xB0000000
  ends_low two = omega (arith, added_there two, is.places.low)
