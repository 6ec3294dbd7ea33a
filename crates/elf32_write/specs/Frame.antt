-- The frame of a file: what its record says was added to what. This project's own format.
use Rattle.std.specs.Prelude.{◌≡◌, ◌⊎◌, ◌<◌, get_or, ℕ, ◌+◌, ◌-◌, ◌*◌, ◌%◌, Bool, true, ◌&&◌, ◌||◌, List, [], ◌∷◌, length, take, drop, map, Option, Some, None, nat_lt, nat_le, ◌==◌, if◌then◌else◌}
use Rattle.std.specs.List.{range_with_len, sum_by, list_all}
use Rattle.mv_base.specs.Span.{Span}
use Rattle.mv_base.specs.Bytes.{word_at}
use Rattle.mv_base.specs.Memory.{within}
use Rattle.mv_base.specs.Table.{group_count, page_named, entry_at, entry_or}
use Rattle.mv_base.specs.declared.range.RunPlace.{RunPlace}
use Rattle.elf32_write.specs.Format.{up, private_len}
use Rattle.elf32_write.specs.File.{head_len, record_place, frame_magic, code_place}

-- the ranges, places and counts that a record names, with the file whose record it is
pub record Frame : Type 0 where
  pub version : ℕ
  pub form : ℕ
  pub input_len : ℕ
  pub added : Span
  pub code : Span
  pub table : Span
  pub private : ℕ
  pub private_size : ℕ
  pub first_counter : ℕ
  pub counters : ℕ
  pub list : ℕ
  pub rule : ℕ
  pub edge_rule : ℕ
  pub runs : List RunPlace
  pub file : List ℕ

-- word k of the record
abbrev pub field : List ℕ → ℕ → ℕ
field x k = word_at x (record_place + 4 * k)

-- how many words of a record stand before its runs, in a version: the two rules are new in version 2
abbrev pub fixed_words : ℕ → ℕ
fixed_words v = if v == 1 then 16 else 18

-- the run whose words stand from the k-th on
abbrev pub run_place_from : List ℕ → ℕ → RunPlace
run_place_from x k = record { lo = field x k; len = field x (k + 1); dir = field x (k + 2) }

abbrev pub run_place_at : List ℕ → ℕ → RunPlace
run_place_at x i = run_place_from x (fixed_words (field x 1) + 3 * i)

-- how many bytes n counters have in the list: an address each in version 1, and an address and a kind each in version 2
abbrev pub list_len : ℕ → ℕ → ℕ
list_len v n = if v == 1 then 4 * n else 8 * n

-- the number of the rule, which in version 1 is that of listed addresses, and that of the edge rule, which is none there
abbrev pub rule_in : List ℕ → ℕ
rule_in x = if field x 1 == 1 then 6 else field x 16

abbrev pub edge_rule_in : List ℕ → ℕ
edge_rule_in x = if field x 1 == 1 then 0 else field x 17

-- the limits of a version: an input's bytes, and the bytes of all runs together
abbrev pub most_input : ℕ → ℕ
most_input v = if v == 1 then 67108864 else 268435456

abbrev pub most_code : ℕ → ℕ
most_code v = if v == 1 then 4194304 else 16777216

-- the frame that a record spells, whether or not it keeps the rules
unfoldable pub frame_at : List ℕ → Frame
frame_at x = record {
  version = field x 1;
  form = field x 2;
  input_len = field x 3;
  added = record { lo = field x 4; len = field x 5 };
  code = record { lo = field x 6; len = field x 7 };
  table = record { lo = field x 8; len = field x 9 };
  private = field x 10;
  private_size = field x 11;
  first_counter = field x 12;
  counters = field x 13;
  list = field x 14;
  rule = rule_in x;
  edge_rule = edge_rule_in x;
  runs = map (run_place_at x) (range_with_len 0 (field x 15));
  file = x;
}

-- a version with a form that it has: 1 with 1 or 2, and 2 with 2
abbrev pub has_version : ℕ → ℕ → Bool
has_version v form = (v == 1 && (form == 1 || form == 2)) || (v == 2 && form == 2)

-- the magic agrees, version and form are known, and the counts are within their limits
unfoldable pub has_record : List ℕ → Bool
has_record x =
    nat_le head_len (length x)
    && field x 0 == frame_magic
    && has_version (field x 1) (field x 2)
    && nat_le (field x 15) 64
    && nat_le (field x 3) (most_input (field x 1))

-- each place and length is what the lengths of code, table and input and the number of counters give
unfoldable pub has_places : Frame → Bool
has_places f =
    f.code.lo == f.added.lo
    && f.table.lo == f.added.lo + up f.code.len
    && f.private == f.table.lo + up f.table.len
    && f.private_size == 64
    && f.first_counter == f.private + 64
    && nat_le (list_len f.version f.counters) f.table.len
    && f.list == f.table.lo + (f.table.len - list_len f.version f.counters)
    && f.added.len == up f.code.len + up f.table.len + up (private_len f.counters)

-- the file has that length, and the block begins at a page and ends at most at 0xB0000000
unfoldable pub has_block : Frame → Bool
has_block f =
    length f.file == code_place f.input_len + up f.code.len + up f.table.len
    && f.added.lo % 4096 == 0
    && nat_le (f.added.lo + f.added.len) 0xB0000000

-- the input, the code, and the table with the list of counted sites
abbrev pub frame_input : Frame → List ℕ
frame_input f = take f.input_len (drop head_len f.file)

abbrev pub frame_code : Frame → List ℕ
frame_code f = take f.code.len (drop (code_place f.input_len) f.file)

unfoldable pub frame_table : Frame → List ℕ
frame_table f = take f.table.len (drop (code_place f.input_len + up f.code.len) f.file)

-- a table: its form, its bytes, their address, and the address of the list behind them
pub record TableAt : Type 0 where
  pub form : ℕ
  pub bytes : List ℕ
  pub lo : ℕ
  pub list : ℕ

abbrev pub table_at : Frame → TableAt
table_at f = record { form = f.form; bytes = frame_table f; lo = f.table.lo; list = f.list }

-- n addresses from one on lie in a table before its list
abbrev pub is_in_table : TableAt → ℕ → ℕ → Bool
is_in_table t at n = nat_le t.lo at && nat_le (at + n) t.list

-- each page that the directory of a run names lies there
unfoldable pub has_pages : TableAt → RunPlace → Bool
has_pages t r = list_all (λ g. is_in_table t (page_named t.bytes t.lo r.dir g) 4096) (range_with_len 0 (group_count r.len))

-- a run's part of the table lies there: its words in form 1, its directory and the pages named in form 2
unfoldable pub has_part : TableAt → RunPlace → Bool
has_part t r =
    if t.form == 1 then is_in_table t r.dir (4 * r.len) else is_in_table t r.dir (4 * group_count r.len) && has_pages t r

-- a run begins at an address or above it, has a length and ends at most at 0xFFFFF000
abbrev pub is_run : ℕ → RunPlace → Bool
is_run from r = nat_le from r.lo && nat_lt 0 r.len && nat_le (r.lo + r.len) 0xFFFFF000

-- runs ascend from an address on and leave a gap between any two, and their parts of the table lie in it before the list
unfoldable pub has_runs : TableAt → ℕ → List RunPlace → Bool
has_runs t from [] = true
has_runs t from (r ∷ rs) = is_run from r && has_part t r && has_runs t (r.lo + r.len + 1) rs

-- the runs have few enough bytes together for a version
abbrev pub has_size : ℕ → List RunPlace → Bool
has_size v rs = nat_le (sum_by (λ r. r.len) rs) (most_code v)

-- the two rules are numbers of rules
abbrev pub has_rules : ℕ → ℕ → Bool
has_rules rule edge = nat_le rule 6 && (edge == 0 || edge == 1 || edge == 6)

-- the address of counter k, its kind, which is 0 in version 1, and the two together
abbrev pub counted_at : Frame → ℕ → ℕ
counted_at f k = word_at (frame_table f) (f.list - f.table.lo + list_len f.version k)

abbrev pub kind_at : Frame → ℕ → ℕ
kind_at f k = if f.version == 1 then 0 else word_at (frame_table f) (f.list - f.table.lo + (8 * k + 4))

abbrev pub pair_at : Frame → ℕ → ℕ × ℕ
pair_at f k = (counted_at f k, kind_at f k)

-- the addresses that are counted, each with its kind, in the list's order
abbrev pub counted : Frame → List (ℕ × ℕ)
counted f = map (pair_at f) (range_with_len 0 f.counters)

-- a pair stands before another by its address, and at one address by its kind
abbrev pub IsBefore : ℕ × ℕ → ℕ × ℕ → Type 0
IsBefore p q = (p.0 < q.0) ⊎ ((p.0 ≡ q.0) × (p.1 < q.1))

-- the pairs of a list strictly ascend
abbrev pub AscendPairs : List (ℕ × ℕ) → Type 0
AscendPairs qs = (i j : ℕ) → i < j → j < length qs → IsBefore (get_or qs i (0, 0)) (get_or qs j (0, 0))

-- each kind is 0 for all executions, or 1 or 2 for those of a branch that jumped or didn't
unfoldable pub has_kinds : Frame → Bool
has_kinds f = list_all (λ k. nat_le (kind_at f k) 2) (range_with_len 0 f.counters)

-- places, lengths, rules and limits are as a record has them
abbrev pub has_numbers : List ℕ → Bool
has_numbers x =
    has_places (frame_at x) && has_block (frame_at x) && has_rules (rule_in x) (edge_rule_in x) && has_size (field x 1) (frame_at x).runs

abbrev pub keeps_rules : List ℕ → Bool
keeps_rules x = has_numbers x && has_kinds (frame_at x) && has_runs (table_at (frame_at x)) 0 (frame_at x).runs

-- the frame of a file, where its record keeps the rules
unfoldable pub frame : List ℕ → Option Frame
frame x = if has_record x && keeps_rules x then Some (frame_at x) else None

-- an address's entry, or 0
unfoldable pub frame_entry : Frame → ℕ → ℕ
frame_entry f a = entry_at f.form (frame_table f) f.table.lo f.runs a

-- where an address goes: its entry where that isn't 0, else itself
abbrev pub frame_map : Frame → ℕ → ℕ
frame_map f a = entry_or (frame_entry f a) a

-- an address is added, and is one of the private area or of a counter
abbrev pub is_added : Frame → ℕ → Bool
is_added f a = within f.added.lo f.added.len a

abbrev pub is_private : Frame → ℕ → Bool
is_private f a = within f.private (private_len f.counters) a

-- the place of counter k
abbrev pub counter_place : Frame → ℕ → ℕ
counter_place f k = f.first_counter + 8 * k
