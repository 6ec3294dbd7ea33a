-- The rules of a frame record, word by word. This project's own format.
use Rattle.std.specs.Prelude.{◌≡◌, ℕ, ◌+◌, ◌-◌, ◌*◌, ◌≤◌, true, List, length}
use Rattle.elf32_write.specs.Format.{up, private_len}
use Rattle.elf32_write.specs.File.{code_place}
use Rattle.elf32_write.specs.Frame.{field, list_len, rule_in, edge_rule_in, frame_at, table_at, has_kinds, has_runs}

-- the list of counters ends the table
pub record HasList (x : List ℕ) : Type 0 where
  pub fits : list_len (field x 1) (field x 13) ≤ field x 9
  pub place : field x 14 ≡ field x 8 + (field x 9 - list_len (field x 1) (field x 13))

-- what is known of the record of a file that has a frame
pub record IsFramed (x : List ℕ) : Type 0 where
  pub room : 0x1000 ≤ length x
  pub version_low : 1 ≤ field x 1
  pub version_high : field x 1 ≤ 2
  pub form_low : 1 ≤ field x 2
  pub form_high : field x 2 ≤ 2
  pub few_runs : field x 15 ≤ 64
  pub short_input : field x 3 ≤ 268435456
  pub code : field x 6 ≡ field x 4
  pub table : field x 8 ≡ field x 4 + up (field x 7)
  pub private_lo : field x 10 ≡ field x 8 + up (field x 9)
  pub list : HasList x
  pub first_counter : field x 12 ≡ field x 10 + 64
  pub added : field x 5 ≡ up (field x 7) + up (field x 9) + up (private_len (field x 13))
  pub size : length x ≡ code_place (field x 3) + up (field x 7) + up (field x 9)
  pub low : field x 4 + field x 5 ≤ 0xB0000000
  pub rule : rule_in x ≤ 6
  pub edge_rule : edge_rule_in x ≤ 6
  pub kinds : has_kinds (frame_at x) ≡ true
  pub runs : has_runs (table_at (frame_at x)) 0 (frame_at x).runs ≡ true
