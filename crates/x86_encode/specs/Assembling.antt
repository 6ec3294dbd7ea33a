-- The least bytes that spell operands by a row of the spelling table. Intel SDM, volume 2, chapter 2.
use Rattle.std.specs.Prelude.{ℕ, ◌+◌, ◌*◌, ◌/◌, ◌%◌, ◌^◌, Bool, true, false, not, ◌&&◌, ◌||◌, List, [], ◌∷◌, ◌++◌, Option, Some, None, nat_lt, ◌==◌, if◌then◌else◌}
use Rattle.x86_insn.specs.declared.insn.Reg.{Reg}
use Rattle.x86_insn.specs.declared.insn.Rep.{Rep}
use Rattle.x86_insn.specs.declared.insn.Rep.TheVariants.{Once, F3, F2}
use Rattle.x86_insn.specs.declared.insn.Rm.{Rm}
use Rattle.x86_insn.specs.declared.insn.Rm.TheVariants.{R, M}
use Rattle.x86_insn.specs.declared.insn.Width.{Width}
use Rattle.x86_insn.specs.declared.insn.Width.TheVariants.{B, W, D}
use Rattle.x86_insn.specs.declared.row.Immediate.{Immediate}
use Rattle.x86_insn.specs.declared.row.Immediate.TheVariants.{Absent, Ib, SignedIb, Iw, Id, Iz}
use Rattle.x86_insn.specs.declared.row.Marks.{Marks}
use Rattle.x86_insn.specs.declared.row.Operands.{Operands}
use Rattle.x86_insn.specs.declared.row.Row.{Row}
use Rattle.x86_insn.specs.State.{reg_number}
use Rattle.x86_insn.specs.Spelling.{lead_bytes, width_of, has_modrm, takes_operand, takes_marks, asks_memory, is_opcode, signed_byte}
use Rattle.x86_encode.specs.Address.{half_bytes, dword_bytes, address_bytes}

abbrev pub same_width : Width → Width → Bool
same_width B B = true
same_width B W = false
same_width B D = false
same_width W B = false
same_width W W = true
same_width W D = false
same_width D B = false
same_width D W = false
same_width D D = true

abbrev pub is_memory : Rm → Bool
is_memory (R r) = false
is_memory (M m) = true

-- the prefixes, in ascending order
abbrev pub group_bytes : Bool → Rep → List ℕ
group_bytes true rep = 0xF0 ∷ []
group_bytes false Once = []
group_bytes false F2 = 0xF2 ∷ []
group_bytes false F3 = 0xF3 ∷ []

abbrev pub word_bytes : Bool → List ℕ
word_bytes true = 0x66 ∷ []
word_bytes false = []

abbrev pub segment_bytes : Bool → List ℕ
segment_bytes true = 0x65 ∷ []
segment_bytes false = []

abbrev pub prefix_bytes : Marks → List ℕ
prefix_bytes m = segment_bytes m.gs ++ word_bytes m.word ++ group_bytes m.lock m.rep

-- an immediate's bytes; none where it doesn't fit
abbrev pub fits_half : ℕ → Option (List ℕ)
fits_half n = if nat_lt n (2 ^ 16) then Some (half_bytes n) else None

abbrev pub fits_dword : ℕ → Option (List ℕ)
fits_dword n = if nat_lt n (2 ^ 32) then Some (dword_bytes n) else None

abbrev pub immediate_bytes : Immediate → Width → ℕ → Option (List ℕ)
immediate_bytes Absent w n = if n == 0 then Some [] else None
immediate_bytes Ib w n = if nat_lt n (2 ^ 8) then Some (n ∷ []) else None
immediate_bytes SignedIb w n = if signed_byte w (n % 2 ^ 8) == n then Some (n % 2 ^ 8 ∷ []) else None
immediate_bytes Iw w n = fits_half n
immediate_bytes Id w n = fits_dword n
immediate_bytes Iz W n = fits_half n
immediate_bytes Iz B n = fits_dword n
immediate_bytes Iz D n = fits_dword n

-- the opcode byte of a number, a register's or a condition's
abbrev pub opcode_byte : Row → ℕ → ℕ
opcode_byte r n = if r.span == 1 then r.opcode else (r.opcode / 8 * 8 + n) % 2 ^ 8

-- ModRM's reg field
abbrev pub field_of : Option ℕ → Reg → ℕ
field_of None r = reg_number r
field_of (Some d) r = d % 8

-- the row takes the operands, their immediate and address aside
abbrev pub takes : Row → Operands → Bool
takes r o =
    same_width (width_of r.form.size o.marks.word) o.width
    && takes_marks r.form o.marks
    && takes_operand r.form.layout (is_memory o.rm)
    && (not (asks_memory o.marks) || is_memory o.rm)
    && is_opcode r (opcode_byte r o.opcode)

abbrev pub addressed_bytes : Bool → ℕ → Rm → Option (List ℕ)
addressed_bytes true field x = address_bytes field x
addressed_bytes false field x = Some []

abbrev pub both : Option (List ℕ) → Option (List ℕ) → Option (List ℕ)
both None t = None
both (Some s) None = None
both (Some s) (Some t) = Some (s ++ t)

-- what follows the opcode byte
abbrev pub operand_bytes : Row → Operands → Option (List ℕ)
operand_bytes r o =
    both (addressed_bytes (has_modrm r.form.layout) (field_of r.form.digit o.reg) o.rm) (immediate_bytes r.form.immediate o.width o.immediate)

abbrev pub front_bytes : Row → Operands → List ℕ
front_bytes r o = prefix_bytes o.marks ++ lead_bytes r.lead ++ opcode_byte r o.opcode ∷ []

abbrev pub behind : List ℕ → Option (List ℕ) → Option (List ℕ)
behind s None = None
behind s (Some t) = Some (s ++ t)

unfoldable pub assembled : Row → Operands → Option (List ℕ)
assembled r o = if takes r o then behind (front_bytes r o) (operand_bytes r o) else None
