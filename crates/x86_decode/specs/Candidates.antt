-- The rows of the spelling table behind some bytes, and what bytes come to by them. This project's own.
use Rattle.std.specs.Prelude.{ℕ, Bool, true, false, List, [], ◌∷◌, nat_eq, if◌then◌else◌}
use Rattle.x86_insn.specs.declared.row.Form.{Form}
use Rattle.x86_insn.specs.declared.row.Row.{Row}
use Rattle.x86_insn.specs.declared.row.Marks.{Marks}
use Rattle.x86_insn.specs.Prefixes.{is_among}
use Rattle.x86_insn.specs.Addressing.{reg_field}
use Rattle.x86_insn.specs.Rows.{rows}
use Rattle.x86_insn.specs.Spelling.{lead_bytes, is_opcode, takes_digit, from_modrm}
use Rattle.x86_insn.specs.Scanning.{Scan, Nothing, best, scan_operands, scan_opcode, scan_lead}

-- rows with the lead bytes that are still to come
abbrev pub Rest : Type 0
Rest = List (List ℕ × Row)

abbrev pub whole_rows : List Row → Rest
whole_rows [] = []
whole_rows (r ∷ rs) = (lead_bytes r.lead, r) ∷ whole_rows rs

-- those with this lead byte next, behind it
abbrev pub keep_lead : ℕ → List ℕ → Row → Rest → Rest
keep_lead b [] r rest = rest
keep_lead b (x ∷ lead) r rest = if nat_eq b x then (lead, r) ∷ rest else rest

abbrev pub behind_byte : ℕ → Rest → Rest
behind_byte b [] = []
behind_byte b (r ∷ rs) = keep_lead b r.0 r.1 (behind_byte b rs)

abbrev pub behind_bytes : List ℕ → Rest → Rest
behind_bytes [] rs = rs
behind_bytes (b ∷ bytes) rs = behind_bytes bytes (behind_byte b rs)

-- the rows of the table behind these bytes
unfoldable pub rows_behind : List ℕ → Rest
rows_behind bytes = behind_bytes bytes (whole_rows rows)

-- the forms of those with this opcode byte next
abbrev pub keep_form : ℕ → List ℕ → Row → List Form → List Form
keep_form b [] r forms = if is_opcode r b then r.form ∷ forms else forms
keep_form b (x ∷ lead) r forms = forms

abbrev pub forms_at : ℕ → Rest → List Form
forms_at b [] = []
forms_at b (r ∷ rs) = keep_form b r.0 r.1 (forms_at b rs)

-- what bytes come to by such rows, and operand bytes by forms
abbrev pub scan_rest : Rest → Marks → List ℕ → Scan
scan_rest [] m s = Nothing
scan_rest (r ∷ rs) m s = best (scan_lead r.0 (scan_opcode r.1 m) s) (scan_rest rs m s)

-- ModRM's reg field lets a form be the one that is meant; so it does where no byte is there
abbrev pub may_take : Form → List ℕ → Bool
may_take f [] = true
may_take f (b ∷ s) = takes_digit f.digit (reg_field (from_modrm f (b ∷ s)))

abbrev pub scan_forms : List Form → Marks → ℕ → List ℕ → Scan
scan_forms [] m opcode s = Nothing
scan_forms (f ∷ forms) m opcode s = best (scan_operands f m opcode s) (scan_forms forms m opcode s)

-- the opcodes that have several forms, told apart by ModRM's reg field or by F3: one-byte opcodes, and behind 0F
abbrev pub one_byte_groups : List ℕ
one_byte_groups = 0x80 ∷ 0x81 ∷ 0x83 ∷ 0x90 ∷ 0xC0 ∷ 0xC1 ∷ 0xD0 ∷ 0xD1 ∷ 0xD2 ∷ 0xD3 ∷ 0xF6 ∷ 0xF7 ∷ 0xFE ∷ 0xFF ∷ []

abbrev pub groups : List ℕ → List ℕ
groups [] = one_byte_groups
groups (b ∷ lead) = 0xBA ∷ []

abbrev pub is_group : ℕ → List ℕ → Bool
is_group b lead = is_among (groups lead) b

-- the forms at an opcode behind some lead bytes, where it has several, and where it hasn't
abbrev pub group_at : ℕ → List ℕ → List Form
group_at b lead = elim (is_group b lead) [ true ↦ forms_at b (rows_behind lead) | false ↦ [] ]

abbrev pub single_at : ℕ → List ℕ → List Form
single_at b lead = elim (is_group b lead) [ true ↦ [] | false ↦ forms_at b (rows_behind lead) ]
