-- What the rules of a frame say of its parts.
use Rattle.std.proofs.Common.{◌≡◌, ℕ, zero, suc, ◌+◌, ◌-◌, ◌*◌, ◌/◌, ◌^◌, ◌<◌, ◌≤◌, Bool, true, false, cond, ◌&&◌, List, [], ◌∷◌, length, drop, Some, None, nat_le, nat_lt, eqb, refl, sym, ap, ◌∙◌, subst, arith}
use Rattle.std.specs.List.{range_with_len, list_all, AllByRecursion}
use Rattle.std.proofs.lemmas.Bool.{and_parts, eqb-true, leb-true}
use Rattle.std.proofs.lemmas.List.{length-take, length-drop}
use Rattle.mv_base.specs.declared.range.RunPlace.{RunPlace}
use Rattle.mv_base.specs.Table.{group_count, page_named}
use Rattle.elf32_write.specs.Format.{up, private_len}
use Rattle.elf32_write.specs.File.{code_place}
use Rattle.elf32_write.specs.Frame.{Frame, TableAt, table_at, frame, frame_at, list_len, has_record, keeps_rules, has_numbers, has_kinds, has_places, has_block, is_run, is_in_table, has_pages, has_part, has_runs, frame_table, frame_code}
use Rattle.elf32_write.specs.Written.{up-le}
use Rattle.lookup_stub.specs.Finding.{AreIn, IsPlaced}

-- where the parts lie: one behind the other, below 2^32, and the file has the table whole
pub record IsRuled (f : Frame) : Type 0 where
  pub code : f.code.lo + f.code.len ≤ f.table.lo
  pub table : f.table.lo + f.table.len ≤ f.private
  pub private : f.private + 64 ≤ 0xB0000000
  pub size : f.private_size ≡ 64
  pub first : f.first_counter ≡ f.private + 64
  pub added : f.code.lo ≡ f.added.lo
  pub fits : f.private + private_len f.counters ≤ f.added.lo + f.added.len
  pub list : f.list ≤ f.table.lo + f.table.len
  pub held : length (frame_table f) ≡ f.table.len
  pub runs : has_runs (table_at f) 0 f.runs ≡ true

code_len : (f : Frame) → length (frame_code f) ≤ f.code.len
code_len f = omega (arith, length-take f.code.len (drop (code_place f.input_len) f.file))

rules_hold : (f : Frame) → has_places f ≡ true → has_block f ≡ true → has_runs (table_at f) 0 f.runs ≡ true → IsRuled f
unfolding has_places has_block frame_table
rules_hold f places block runs =
    let p7 = and_parts _ _ places in
    let p6 = and_parts _ _ p7.0 in
    let p5 = and_parts _ _ p6.0 in
    let p4 = and_parts _ _ p5.0 in
    let p3 = and_parts _ _ p4.0 in
    let p2 = and_parts _ _ p3.0 in
    let p1 = and_parts _ _ p2.0 in
    let b2 = and_parts _ _ block in
    let b1 = and_parts _ _ b2.0 in
    let code : f.code.lo ≡ f.added.lo = eqb-true _ _ p1.0 in
    let table : f.table.lo ≡ f.added.lo + up f.code.len = eqb-true _ _ p1.1 in
    let private : f.private ≡ f.table.lo + up f.table.len = eqb-true _ _ p2.1 in
    let size : f.private_size ≡ 64 = eqb-true _ _ p3.1 in
    let first : f.first_counter ≡ f.private + 64 = eqb-true _ _ p4.1 in
    let list : f.list ≡ f.table.lo + (f.table.len - list_len f.version f.counters) = eqb-true _ _ p6.1 in
    let added : f.added.len ≡ up f.code.len + up f.table.len + up (private_len f.counters) = eqb-true _ _ p7.1 in
    let whole : length f.file ≡ code_place f.input_len + up f.code.len + up f.table.len = eqb-true _ _ b1.0 in
    let low : f.added.lo + f.added.len ≤ 0xB0000000 = leb-true _ _ b2.1 in
    let c = up-le f.code.len in
    let t = up-le f.table.len in
    let s = up-le (private_len f.counters) in
    record {
      code = omega (arith, code, table, c);
      table = omega (arith, private, t);
      private = omega (arith, table, private, added, low, s);
      size = size;
      first = first;
      added = code;
      fits = omega (arith, code, table, private, added, s);
      list = omega (arith, list);
      held = omega (arith, length-take f.table.len (drop (code_place f.input_len + up f.code.len) f.file), length-drop (code_place f.input_len + up f.code.len) f.file, whole, t);
      runs = runs;
    }

numbers_hold : (x : List ℕ) → keeps_rules x ≡ true → IsRuled (frame_at x)
numbers_hold x h =
    let k2 = and_parts (has_numbers x && has_kinds (frame_at x)) (has_runs (table_at (frame_at x)) 0 (frame_at x).runs) h in
    let k1 = and_parts (has_numbers x) (has_kinds (frame_at x)) k2.0 in
    let n3 = and_parts _ _ k1.0 in
    let n2 = and_parts _ _ n3.0 in
    let n1 = and_parts (has_places (frame_at x)) (has_block (frame_at x)) n2.0 in
    rules_hold (frame_at x) n1.0 n1.1 k2.1

by_rules : (x : List ℕ) (f : Frame) (b c : Bool) → c ≡ keeps_rules x → cond (b && c) (Some (frame_at x)) None ≡ Some f → IsRuled f
by_rules x f true true e h = subst IsRuled (cc h) (numbers_hold x (sym e))
by_rules x f true false e h = absurd (cc h)
by_rules x f false c e h = absurd (cc h)

pub ruled : (x : List ℕ) (f : Frame) → frame x ≡ Some f → IsRuled f
unfolding frame
ruled x f h = by_rules x f (has_record x) (keeps_rules x) refl h

pub code_fits : (f : Frame) → length (frame_code f) ≤ f.code.len
code_fits = code_len

-- ---- the parts of the runs

in_table : (t : TableAt) (at n : ℕ) → is_in_table t at n ≡ true → (t.lo ≤ at) × (at + n ≤ t.list)
in_table t at n h =
    let p = and_parts _ _ h in
    (leb-true _ _ p.0, leb-true _ _ p.1)

listed : (test : ℕ → Bool) (i n g : ℕ) → list_all test (range_with_len i n) ≡ true → g < n → test (i + g) ≡ true
listed test i zero g h lt = absurd (omega arith)
listed test i (suc n) zero h lt = ap test (let e : i + 0 ≡ i = omega arith in e) ∙ (and_parts _ _ h).0
listed test i (suc n) (suc g) h lt =
    ap test (let e : i + suc g ≡ i + 1 + g = omega arith in e) ∙ listed test (i + 1) n g (and_parts _ _ h).1 (omega arith)

page_there : (t : TableAt) (r : RunPlace) (g : ℕ) → has_pages t r ≡ true → g < group_count r.len → is_in_table t (page_named t.bytes t.lo r.dir g) 4096 ≡ true
unfolding has_pages
page_there t r g h lt =
    let test : ℕ → Bool = λ k. is_in_table t (page_named t.bytes t.lo r.dir k) 4096 in
    ap test (let e : g ≡ 0 + g = omega arith in e) ∙ listed test 0 (group_count r.len) g h lt

-- what a run's part says, by whether the table is flat
abbrev PartIs : TableAt → RunPlace → Bool → Type 0
PartIs t r flat = cond flat (is_in_table t r.dir (4 * r.len)) (is_in_table t r.dir (4 * group_count r.len) && has_pages t r) ≡ true

part_places : (t : TableAt) (r : RunPlace) (flat : Bool) → t.list ≤ t.lo + length t.bytes → PartIs t r flat → (k : ℕ) → k < r.len → AreIn flat t.bytes t.lo r k
part_places t r true list h k lt =
    let p = in_table t r.dir (4 * r.len) h in
    record { low = p.0; high = omega (arith, p.1, list, lt) }
part_places t r false list h k lt =
    let q = and_parts _ _ h in
    let p = in_table t r.dir (4 * group_count r.len) q.0 in
    let group : k / 1024 < group_count r.len = omega (arith, lt) in
    let s = in_table t (page_named t.bytes t.lo r.dir (k / 1024)) 4096 (page_there t r (k / 1024) q.1 group) in
    (record { low = p.0; high = omega (arith, p.1, list, group) }, record { low = s.0; high = omega (arith, s.1, list) })

part_end : (t : TableAt) (r : RunPlace) (flat : Bool) → PartIs t r flat → r.dir ≤ t.list
part_end t r true h = omega (arith, (in_table t r.dir (4 * r.len) h).1)
part_end t r false h = omega (arith, (in_table t r.dir (4 * group_count r.len) (and_parts _ _ h).0).1)

runs_placed : (t : TableAt) (from : ℕ) (rs : List RunPlace) → t.list ≤ t.lo + length t.bytes → t.list < 2 ^ 32 → has_runs t from rs ≡ true
    → AllByRecursion (IsPlaced t.form t.bytes t.lo) rs
unfolding has_runs has_part
runs_placed t from [] list low h = tt
runs_placed t from (r ∷ rs) list low h =
    let h2 = and_parts (is_run from r && has_part t r) (has_runs t (r.lo + r.len + 1) rs) h in
    let h1 = and_parts (is_run from r) (has_part t r) h2.0 in
    let run = and_parts (nat_le from r.lo && nat_lt 0 r.len) (nat_le (r.lo + r.len) 0xFFFFF000) h1.0 in
    let end = leb-true (r.lo + r.len) 0xFFFFF000 run.1 in
    let part = part_end t r (eqb t.form 1) h1.1 in (
      record {
        low = omega (arith, end);
        dir = omega (arith, part, low);
        words = part_places t r (eqb t.form 1) list h1.1;
      },
      runs_placed t (r.lo + r.len + 1) rs list low h2.1,
    )

pub all_placed : (f : Frame) → IsRuled f → AllByRecursion (IsPlaced f.form (frame_table f) f.table.lo) f.runs
all_placed f is = runs_placed (table_at f) 0 f.runs (omega (arith, is.list, is.held)) (omega (arith, is.list, is.table, is.private)) is.runs
