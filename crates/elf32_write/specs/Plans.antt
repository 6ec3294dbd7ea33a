-- The frame of a plan's file, and what is asked of the plan. This project's own format.
use Rattle.std.specs.Prelude.{◌≡◌, ℕ, ◌+◌, ◌-◌, ◌%◌, ◌^◌, ◌<◌, ◌≤◌, true, List, length, take, Some}
use Rattle.std.specs.List.{AllByRecursion}
use Rattle.elf32_write.specs.declared.plan.Plan.{Plan}
use Rattle.elf32_write.specs.File.{frame_version, paged_form, table_of, table_lo, private_lo, list_lo, added_len, file_of}
use Rattle.elf32_write.specs.Frame.{Frame, TableAt, frame, frame_input, frame_code, frame_table, frame_map, counted, has_rules, has_runs, has_size}

-- the frame of a plan's file
unfoldable pub frame_of : List ℕ → Plan → Frame
frame_of b p = record {
  version = frame_version;
  form = paged_form;
  input_len = length b;
  added = record { lo = p.base; len = added_len p };
  code = record { lo = p.base; len = length p.code };
  table = record { lo = table_lo p; len = length (table_of p) };
  private = private_lo p;
  private_size = 64;
  first_counter = private_lo p + 64;
  counters = length p.counted;
  list = list_lo p;
  rule = p.rule;
  edge_rule = p.edge_rule;
  runs = p.runs;
  file = file_of b p;
}

-- a plan's table
abbrev pub plan_table : Plan → TableAt
plan_table p = record { form = paged_form; bytes = table_of p; lo = table_lo p; list = list_lo p }

-- an address with a kind
abbrev pub IsPair : ℕ × ℕ → Type 0
IsPair q = (q.0 < 2 ^ 32) × (q.1 ≤ 2)

-- a plan keeps the frame's rules on counters, places, runs, directories and pages
pub record KeepsRules (p : Plan) : Type 0 where
  pub at : p.base % 4096 ≡ 0
  pub size : has_size frame_version p.runs ≡ true
  pub counted : AllByRecursion IsPair p.counted
  pub rules : has_rules p.rule p.edge_rule ≡ true
  pub runs : has_runs (plan_table p) 0 p.runs ≡ true

-- a file has the frame of a plan, with the input, the code, the table and the counted sites
pub record ReadsBack (b : List ℕ) (p : Plan) (x : List ℕ) : Type 0 where
  pub frame_is : frame x ≡ Some (frame_of b p)
  pub input_is : frame_input (frame_of b p) ≡ b
  pub code_is : frame_code (frame_of b p) ≡ p.code
  pub table_is : frame_table (frame_of b p) ≡ table_of p
  pub words_are : take ((frame_of b p).list - (frame_of b p).table.lo) (frame_table (frame_of b p)) ≡ p.table
  pub counted_are : counted (frame_of b p) ≡ p.counted

-- what a frame says was added, for an input that starts at this address
abbrev pub plan_of : ℕ → Frame → Plan
plan_of start f = record {
  base = f.added.lo;
  code = frame_code f;
  table = take (f.list - f.table.lo) (frame_table f);
  counted = counted f;
  runs = f.runs;
  entry = frame_map f start;
  rule = f.rule;
  edge_rule = f.edge_rule;
}
