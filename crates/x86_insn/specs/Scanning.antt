-- What bytes come to, read from the left: the instruction that they begin with, or how many bytes they lack. This
-- project's own; it is the spelling table as a walk over bytes, which `Scanned` ties to what is spelled.
use Rattle.std.specs.Prelude.{◌≡◌, ℕ, ◌+◌, ◌*◌, ◌%◌, ◌<◌, ◌≤◌, min, true, false, ◌&&◌, List, [], ◌∷◌, ◌++◌, length, take, Option, Some, None, nat_eq, nat_le}
use Rattle.x86_insn.specs.declared.insn.Insn.{Insn}
use Rattle.x86_insn.specs.declared.row.Layout.{Layout}
use Rattle.x86_insn.specs.declared.row.Layout.TheVariants.{NoModrm, Any, Memory, Register}
use Rattle.x86_insn.specs.declared.row.Form.{Form}
use Rattle.x86_insn.specs.declared.row.Row.{Row}
use Rattle.x86_insn.specs.declared.row.Marks.{Marks}
use Rattle.x86_insn.specs.Prefixes.{may_stand_together, marks_of}
use Rattle.x86_insn.specs.Meaning.{meaning}
use Rattle.x86_insn.specs.Rows.{rows}
use Rattle.x86_insn.specs.Spelling.{lead_bytes, takes_marks, takes_modrm, operand_length, operands_of, is_opcode, front, body, are_bytes}

-- bytes begin with an instruction of n bytes; they are too few, and the shortest that they begin has n bytes; they
-- begin none
pub data Scan : Type 0 where
  Found : (i : Insn) (n : ℕ) → Scan
  More : (n : ℕ) → Scan
  Nothing : Scan

-- behind k bytes more
abbrev pub later : ℕ → Scan → Scan
later k (Found i n) = Found i (k + n)
later k (More n) = More (k + n)
later k Nothing = Nothing

-- behind a byte that is missing
abbrev pub unseen : Scan → Scan
unseen (Found i n) = More (1 + n)
unseen (More n) = More (1 + n)
unseen Nothing = Nothing

-- of two scans of the same bytes
abbrev pub best : Scan → Scan → Scan
best (Found i n) s = Found i n
best (More n) (Found i m) = Found i m
best (More n) (More m) = More (min n m)
best (More n) Nothing = More n
best Nothing s = s

-- the ModRM byte that a form takes and that fewest bytes follow
abbrev pub mod_of : Layout → ℕ
mod_of NoModrm = 0
mod_of Any = 0
mod_of Memory = 0
mod_of Register = 0xC0

abbrev pub digit_of : Option ℕ → ℕ
digit_of None = 0
digit_of (Some d) = 8 * (d % 8)

abbrev pub seeded : Form → List ℕ → List ℕ
seeded f [] = (mod_of f.layout + digit_of f.digit) ∷ []
seeded f (b ∷ s) = b ∷ s

abbrev pub sized : Insn → ℕ → ℕ → Scan
sized i n len = elim (nat_le n len) [ true ↦ Found i n | false ↦ More n ]

abbrev pub scan_operands : Form → Marks → ℕ → List ℕ → Scan
scan_operands f m opcode s =
    elim (takes_marks f m && takes_modrm f m (seeded f s)) [
      | true ↦ sized (meaning f.kind (operands_of f m opcode s)) (operand_length f m (seeded f s)) (length s)
      | false ↦ Nothing
    ]

abbrev pub scan_opcode : Row → Marks → List ℕ → Scan
scan_opcode r m [] = unseen (scan_operands r.form m r.opcode [])
scan_opcode r m (b ∷ s) = elim (is_opcode r b) [ true ↦ later 1 (scan_operands r.form m b s) | false ↦ Nothing ]

abbrev pub scan_lead : List ℕ → (List ℕ → Scan) → List ℕ → Scan
scan_lead [] go s = go s
scan_lead (x ∷ lead) go [] = unseen (scan_lead lead go [])
scan_lead (x ∷ lead) go (b ∷ s) = elim (nat_eq b x) [ true ↦ later 1 (scan_lead lead go s) | false ↦ Nothing ]

abbrev pub scan_row : Row → Marks → List ℕ → Scan
scan_row r m s = scan_lead (lead_bytes r.lead) (scan_opcode r m) s

abbrev pub scan_rows : List Row → Marks → List ℕ → Scan
scan_rows [] m s = Nothing
scan_rows (r ∷ rs) m s = best (scan_row r m s) (scan_rows rs m s)

-- with the prefixes, and without the limit of 15 bytes
unfoldable pub scan : List ℕ → Scan
scan s =
    elim (may_stand_together (front s)) [
      | true ↦ later (length (front s)) (scan_rows rows (marks_of (front s)) (body s))
      | false ↦ Nothing
    ]

-- one list is a front of the other
abbrev pub Agree : List ℕ → List ℕ → Type 0
Agree [] t = Unit {0}
Agree (x ∷ s) [] = Unit {0}
Agree (x ∷ s) (y ∷ t) = (x ≡ y) × Agree s t

-- what a scan says of bytes, where f gives what all of a list spells: what is found is spelled, and nothing else that
-- agrees with the bytes; what lacks bytes has a spelling of that length, and none that agrees with them is shorter
abbrev pub IsScan : (List ℕ → Option Insn) → List ℕ → Scan → Type 0
IsScan f b (Found i n) = (n ≤ length b) × (f (take n b) ≡ Some i) × ((s : List ℕ) (j : Insn) → f s ≡ Some j → Agree s b → length s ≡ n)
IsScan f b (More n) =
    (length b < n) × ((t : List ℕ) × (length (b ++ t) ≡ n) × (are_bytes t ≡ true) × ((i : Insn) × (f (b ++ t) ≡ Some i)))
    × ((s : List ℕ) (j : Insn) → f s ≡ Some j → Agree s b → n ≤ length s)
IsScan f b Nothing = (s : List ℕ) (j : Insn) → f s ≡ Some j → Agree s b → ⊥
