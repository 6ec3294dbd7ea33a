-- Which byte lists spell which instruction: prefixes, opcode bytes and operand bytes by a row of the table, at most 15
-- bytes. Intel SDM, volume 2, chapter 2.
use Rattle.std.specs.Prelude.{◌≡◌, ℕ, zero, suc, ◌+◌, ◌*◌, ◌^◌, ◌≤◌, Bool, true, false, not, ◌&&◌, ◌||◌, List, [], ◌∷◌, ◌++◌, length, take, Contains, Option, Some, None, IsTrue, nat_eq, nat_le, nat_lt, ◌==◌}
use Rattle.mv_base.specs.Bytes.{AreBytes}
use Rattle.x86_insn.specs.declared.insn.Insn.{Insn}
use Rattle.x86_insn.specs.declared.insn.Rep.{Rep}
use Rattle.x86_insn.specs.declared.insn.Rep.TheVariants as rep
use Rattle.x86_insn.specs.declared.insn.Width.{Width}
use Rattle.x86_insn.specs.declared.insn.Width.TheVariants.{B, W, D}
use Rattle.x86_insn.specs.declared.row.Lead.{Lead}
use Rattle.x86_insn.specs.declared.row.Lead.TheVariants.{Bare, Escape, Interrupt, Hint}
use Rattle.x86_insn.specs.declared.row.Layout.{Layout}
use Rattle.x86_insn.specs.declared.row.Layout.TheVariants.{NoModrm, Any, Memory, Register}
use Rattle.x86_insn.specs.declared.row.Immediate.{Immediate}
use Rattle.x86_insn.specs.declared.row.Immediate.TheVariants.{Absent, Ib, SignedIb, Iw, Id, Iz}
use Rattle.x86_insn.specs.declared.row.Size.{Size}
use Rattle.x86_insn.specs.declared.row.Size.TheVariants.{Byte, Vary, Dword}
use Rattle.x86_insn.specs.declared.row.Repeat.{Repeat}
use Rattle.x86_insn.specs.declared.row.Repeat.TheVariants.{Never, Idle, Needed, Rep as Repeats, Repe}
use Rattle.x86_insn.specs.declared.row.Kind.{Kind}
use Rattle.x86_insn.specs.declared.row.Kind.TheVariants.{Lea, Nop, MovAccAt, MovAtAcc}
use Rattle.x86_insn.specs.declared.row.Form.{Form}
use Rattle.x86_insn.specs.declared.row.Row.{Row}
use Rattle.x86_insn.specs.declared.row.Marks.{Marks}
use Rattle.x86_insn.specs.declared.row.Operands.{Operands}
use Rattle.x86_insn.specs.Addressing.{byte_at, dword_at, sign_extended, reg_of, reg_field, names_memory, address_length, rm_of, with_gs}
use Rattle.x86_insn.specs.Prefixes.{is_prefix, are_prefixes, may_stand_together, marks_of}
use Rattle.x86_insn.specs.Meaning.{meaning}
use Rattle.x86_insn.specs.Rows.{rows}
pub use Rattle.x86_insn.specs.Addressing.{reg_of}

-- the bytes before the opcode byte
abbrev pub lead_bytes : Lead → List ℕ
lead_bytes Bare = []
lead_bytes Escape = 0x0F ∷ []
lead_bytes Interrupt = 0xCD ∷ []
lead_bytes Hint = 0x0F ∷ 0x1E ∷ []

-- the width of a size, by whether 66 stands
abbrev pub width_of : Size → Bool → Width
width_of Byte word = B
width_of Vary true = W
width_of Vary false = D
width_of Dword word = D

-- a size takes the prefix 66
abbrev pub takes_word : Size → Bool
takes_word Byte = false
takes_word Vary = true
takes_word Dword = false

-- F3, F2 or neither may stand
abbrev pub takes_repeat : Repeat → Rep → Bool
takes_repeat Never rep.Once = true
takes_repeat Never rep.F3 = false
takes_repeat Never rep.F2 = false
takes_repeat Idle rep.Once = true
takes_repeat Idle rep.F3 = true
takes_repeat Idle rep.F2 = false
takes_repeat Needed rep.Once = false
takes_repeat Needed rep.F3 = true
takes_repeat Needed rep.F2 = false
takes_repeat Repeats rep.Once = true
takes_repeat Repeats rep.F3 = true
takes_repeat Repeats rep.F2 = false
takes_repeat Repe rep.Once = true
takes_repeat Repe rep.F3 = true
takes_repeat Repe rep.F2 = true

-- ModRM stands, and names what it may
abbrev pub has_modrm : Layout → Bool
has_modrm NoModrm = false
has_modrm Any = true
has_modrm Memory = true
has_modrm Register = true

abbrev pub takes_operand : Layout → Bool → Bool
takes_operand NoModrm memory = true
takes_operand Any memory = true
takes_operand Memory memory = memory
takes_operand Register memory = not memory

-- ModRM's reg field is the row's digit
abbrev pub takes_digit : Option ℕ → ℕ → Bool
takes_digit None n = true
takes_digit (Some d) n = n == d

-- an immediate's length, by the operand's width
abbrev pub immediate_length : Immediate → Width → ℕ
immediate_length Absent w = 0
immediate_length Ib w = 1
immediate_length SignedIb w = 1
immediate_length Iw w = 2
immediate_length Id w = 4
immediate_length Iz W = 2
immediate_length Iz B = 4
immediate_length Iz D = 4

-- a byte extended by its sign to a width
abbrev pub signed_byte : Width → ℕ → ℕ
signed_byte B b = b
signed_byte W b = sign_extended 16 b
signed_byte D b = sign_extended 32 b

abbrev pub half_number : List ℕ → ℕ → ℕ
half_number s k = byte_at s k + 2 ^ 8 * byte_at s (k + 1)

-- the immediate at a place
abbrev pub immediate_of : Immediate → Width → List ℕ → ℕ → ℕ
immediate_of Absent w s k = 0
immediate_of Ib w s k = byte_at s k
immediate_of SignedIb w s k = signed_byte w (byte_at s k)
immediate_of Iw w s k = half_number s k
immediate_of Id w s k = dword_at s k
immediate_of Iz W s k = half_number s k
immediate_of Iz B s k = dword_at s k
immediate_of Iz D s k = dword_at s k

-- where the immediate stands: behind ModRM, SIB and displacement
abbrev pub immediate_place : Bool → List ℕ → ℕ
immediate_place true s = address_length s
immediate_place false s = 0

-- the bytes from ModRM on, of a form's operand bytes
abbrev pub addressed : Bool → List ℕ → List ℕ
addressed true s = s
addressed false s = []

-- what follows describes the operand bytes s of a form under the prefixes' marks
abbrev pub from_modrm : Form → List ℕ → List ℕ
from_modrm f s = addressed (has_modrm f.layout) s

abbrev pub form_width : Form → Marks → Width
form_width f m = width_of f.size m.word

abbrev pub operand_length : Form → Marks → List ℕ → ℕ
operand_length f m s = immediate_place (has_modrm f.layout) s + immediate_length f.immediate (form_width f m)

-- 65 may stand before an operand of ModRM that is accessed, and before one at an immediate
abbrev pub kind_takes_gs : Kind → Layout → Bool
kind_takes_gs Lea layout = false
kind_takes_gs Nop layout = false
kind_takes_gs MovAccAt layout = true
kind_takes_gs MovAtAcc layout = true
kind_takes_gs kind layout = has_modrm layout

abbrev pub takes_gs : Form → Bool
takes_gs f = kind_takes_gs f.kind f.layout

-- the prefixes may stand before it
abbrev pub takes_marks : Form → Marks → Bool
takes_marks f m = (not m.word || takes_word f.size) && takes_repeat f.repeat m.rep && (not m.lock || f.lock) && (not m.gs || takes_gs f)

-- F0 and 65 ask for memory
abbrev pub asks_memory : Marks → Bool
asks_memory m = m.lock || m.gs

-- ModRM is one of the form's
abbrev pub takes_modrm : Form → Marks → List ℕ → Bool
takes_modrm f m s =
    takes_digit f.digit (reg_field (from_modrm f s)) && takes_operand f.layout (names_memory (from_modrm f s)) && (not (asks_memory m) || names_memory (from_modrm f s))

abbrev pub operands_of : Form → Marks → ℕ → List ℕ → Operands
operands_of f m opcode s = record {
  width = form_width f m;
  marks = m;
  opcode = opcode;
  reg = reg_of (reg_field (from_modrm f s));
  rm = with_gs m.gs (rm_of (from_modrm f s));
  immediate = immediate_of f.immediate (form_width f m) s (immediate_place (has_modrm f.layout) s);
}

abbrev pub is_opcode : Row → ℕ → Bool
is_opcode r b = nat_le r.opcode b && nat_lt b (r.opcode + r.span)

-- some row gives all of a byte list, and the instruction is what it means
pub record Spells (s : List ℕ) (i : Insn) : Type 0 where
  pub prefixes : List ℕ
  pub row : Row
  pub opcode : ℕ
  pub operands : List ℕ
  pub parts : s ≡ prefixes ++ lead_bytes row.lead ++ opcode ∷ operands
  pub limit : length s ≤ 15
  pub bytes : AreBytes s
  pub are_prefixes : IsTrue (are_prefixes prefixes)
  pub together : IsTrue (may_stand_together prefixes)
  pub listed : Contains rows row
  pub is_opcode : IsTrue (is_opcode row opcode)
  pub marks : IsTrue (takes_marks row.form (marks_of prefixes))
  pub modrm : IsTrue (takes_modrm row.form (marks_of prefixes) operands)
  pub whole : length operands ≡ operand_length row.form (marks_of prefixes) operands
  pub means : meaning row.form.kind (operands_of row.form (marks_of prefixes) opcode operands) ≡ i

-- the same as a function. What operand bytes spell by a form
abbrev pub spelled_operands : Form → Marks → ℕ → List ℕ → Option Insn
spelled_operands f m opcode s =
    elim (takes_marks f m && takes_modrm f m s && (length s == operand_length f m s)) [
      | true ↦ Some (meaning f.kind (operands_of f m opcode s))
      | false ↦ None
    ]

-- what the bytes from the opcode byte on spell by a row
abbrev pub spelled_opcode : Row → Marks → List ℕ → Option Insn
spelled_opcode r m [] = None
spelled_opcode r m (b ∷ s) = elim (is_opcode r b) [ true ↦ spelled_operands r.form m b s | false ↦ None ]

-- what a test gives of the bytes behind a lead
abbrev pub behind_lead : List ℕ → (List ℕ → Option Insn) → List ℕ → Option Insn
behind_lead [] go s = go s
behind_lead (x ∷ lead) go [] = None
behind_lead (x ∷ lead) go (b ∷ s) = elim (nat_eq b x) [ true ↦ behind_lead lead go s | false ↦ None ]

abbrev pub spelled_row : Row → Marks → List ℕ → Option Insn
spelled_row r m s = behind_lead (lead_bytes r.lead) (spelled_opcode r m) s

abbrev pub or_else : {A : Type 0} → Option A → Option A → Option A
or_else None b = b
or_else (Some a) b = Some a

abbrev pub spelled_rows : List Row → Marks → List ℕ → Option Insn
spelled_rows [] m s = None
spelled_rows (r ∷ rs) m s = or_else (spelled_row r m s) (spelled_rows rs m s)

-- the prefixes at the front, and what follows them
abbrev pub front : List ℕ → List ℕ
front [] = []
front (b ∷ s) = elim (is_prefix b) [ true ↦ b ∷ front s | false ↦ [] ]

abbrev pub body : List ℕ → List ℕ
body [] = []
body (b ∷ s) = elim (is_prefix b) [ true ↦ body s | false ↦ b ∷ s ]

abbrev pub are_bytes : List ℕ → Bool
are_bytes [] = true
are_bytes (b ∷ s) = nat_lt b 256 && are_bytes s

-- what all of a byte list spells
unfoldable pub spelled : List ℕ → Option Insn
spelled s =
    elim (nat_le (length s) 15 && are_bytes s && may_stand_together (front s)) [
      | true ↦ spelled_rows rows (marks_of (front s)) (body s)
      | false ↦ None
    ]

abbrev pub with_len : ℕ → Option Insn → Option (Insn × ℕ)
with_len n None = None
with_len n (Some i) = Some (i, n)

-- the first of the fronts of length k, k + 1, .. (n of them) that is a spelling, with its length
unfoldable pub first_spelled : ℕ → ℕ → List ℕ → Option (Insn × ℕ)
first_spelled k zero bytes = None
first_spelled k (suc n) bytes = or_else (with_len k (spelled (take k bytes))) (first_spelled (k + 1) n bytes)

-- the instruction that a front of the bytes spells, and the front's length
unfoldable pub decoded : List ℕ → Option (Insn × ℕ)
decoded bytes = first_spelled 1 15 bytes
