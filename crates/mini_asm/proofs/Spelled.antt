-- What has a spelling is kept by its text: the bytes of a spelling name factors, and numbers that fit.
use Rattle.std.specs.Prelude.{nat_lt, slice_index_or, if◌then◌else◌}
use Rattle.std.proofs.Common.{◌≡◌, ℕ, zero, suc, ◌+◌, ◌-◌, ◌*◌, ◌^◌, ◌<◌, Bool, true, false, List, [], ◌∷◌, ◌++◌, length, Some, None, refl, subst, arith, lit<}
use Rattle.mv_base.specs.Bytes.{AreBytes}
use Rattle.x86_insn.specs.declared.insn.Insn.{Insn}
use Rattle.x86_insn.specs.declared.insn.Rm.{Rm}
use Rattle.x86_insn.specs.declared.insn.Rm.TheVariants as rm
use Rattle.x86_insn.specs.declared.insn.Width.{Width}
use Rattle.x86_insn.specs.declared.insn.Width.TheVariants.{B, W, D}
use Rattle.x86_insn.specs.declared.row.Immediate.{Immediate}
use Rattle.x86_insn.specs.declared.row.Immediate.TheVariants.{Absent, Ib, SignedIb, Iw, Id, Iz}
use Rattle.x86_insn.specs.declared.row.Kind.{Kind}
use Rattle.x86_insn.specs.declared.row.Kind.TheVariants as kind
use Rattle.x86_insn.specs.declared.row.Operands.{Operands}
use Rattle.x86_insn.specs.declared.row.Row.{Row}
use Rattle.x86_insn.specs.declared.row.Size.{Size}
use Rattle.x86_insn.specs.declared.row.Size.TheVariants.{Byte, Vary, Dword}
use Rattle.x86_insn.specs.Addressing.{byte_at, dword_at, sign_extended, displacement_of, displacement_length, displacement_place, factor_of, has_index, index_field, memory_of, names_memory, reg_of, rm_field, rm_of, scale_field, with_gs}
use Rattle.x86_insn.specs.Meaning.{meaning, source_of, memory_in, selector_width}
use Rattle.x86_insn.specs.Prefixes.{marks_of}
use Rattle.x86_insn.specs.Rows.{rows}
use Rattle.x86_insn.specs.Spelling.{Spells, addressed, from_modrm, form_width, has_modrm, immediate_of, immediate_place, lead_bytes, operands_of, signed_byte, width_of}
use Rattle.x86_encode.specs.laws.Addressed.{extended_low}
use Rattle.x86_encode.specs.laws.Chosen.{bytes_behind}
use Rattle.mini_asm.proofs.Kept.{Factor, One, Two, Four, Eight, IndexKept, MemKept, RmKept, SrcKept, Kept, Wide, Selected}

-- ---- numbers

dword-low : (s : List ℕ) (k : ℕ) → AreBytes s → dword_at s k < 2 ^ 32
dword-low s k bytes =
    let a : byte_at s k < 256 = bytes k in
    let b : byte_at s (k + 1) < 256 = bytes (k + 1) in
    let c : byte_at s (k + 2) < 256 = bytes (k + 2) in
    let d : byte_at s (k + 3) < 256 = bytes (k + 3) in
    omega arith

half-low : (s : List ℕ) (k : ℕ) → AreBytes s → byte_at s k + 2 ^ 8 * byte_at s (k + 1) < 2 ^ 32
half-low s k bytes =
    let a : byte_at s k < 256 = bytes k in
    let b : byte_at s (k + 1) < 256 = bytes (k + 1) in
    omega arith

byte-low : (s : List ℕ) (k : ℕ) → AreBytes s → byte_at s k < 2 ^ 32
byte-low s k bytes = let a : byte_at s k < 256 = bytes k in omega arith

word-low : (b : ℕ) → b < 256 → sign_extended 16 b < 2 ^ 32
word-low b small = go (nat_lt b 0x80) where
  go : (v : Bool) → (if v then b else b + (2 ^ 16 - 0x100)) < 2 ^ 32
  go true = omega arith
  go false = omega arith

signed-low : (w : Width) (b : ℕ) → b < 256 → signed_byte w b < 2 ^ 32
signed-low B b small = omega arith
signed-low W b small = word-low b small
signed-low D b small = (extended_low b small).0

immediate-low : (i : Immediate) (w : Width) (s : List ℕ) (k : ℕ) → AreBytes s → immediate_of i w s k < 2 ^ 32
immediate-low Absent w s k bytes = lit< tt
immediate-low Ib w s k bytes = byte-low s k bytes
immediate-low SignedIb w s k bytes = signed-low w (byte_at s k) (bytes k)
immediate-low Iw w s k bytes = half-low s k bytes
immediate-low Id w s k bytes = dword-low s k bytes
immediate-low Iz W s k bytes = half-low s k bytes
immediate-low Iz B s k bytes = dword-low s k bytes
immediate-low Iz D s k bytes = dword-low s k bytes

-- ---- operands

displacement-low : (s : List ℕ) (n : ℕ) → AreBytes s → displacement_of s n < 2 ^ 32
displacement-low s zero bytes = lit< tt
displacement-low s (suc zero) bytes = (extended_low (byte_at s (displacement_place s)) (bytes (displacement_place s))).0
displacement-low s (suc (suc n)) bytes = dword-low s (displacement_place s) bytes

factor-kept : (n : ℕ) → Factor (factor_of n)
factor-kept zero = One
factor-kept (suc zero) = Two
factor-kept (suc (suc zero)) = Four
factor-kept (suc (suc (suc n))) = Eight

index-kept : (s : List ℕ) (v : Bool) → IndexKept (if v then Some (reg_of (index_field s), factor_of (scale_field s)) else None)
index-kept s true = factor-kept (scale_field s)
index-kept s false = tt

rm-kept : (g : Bool) (s : List ℕ) → AreBytes s → RmKept (with_gs g (rm_of s))
rm-kept g s bytes = go (names_memory s) where
  go : (v : Bool) → RmKept (with_gs g (if v then rm.M (memory_of s) else rm.R (reg_of (rm_field s))))
  go true = record { low = displacement-low s (displacement_length s) bytes; factor = index-kept s (has_index s) }
  go false = tt

addressed-bytes : (v : Bool) (s : List ℕ) → AreBytes s → AreBytes (addressed v s)
addressed-bytes true s bytes = bytes
addressed-bytes false s bytes = λ k. lit< tt

read-kept : (x : Rm) → RmKept x → SrcKept (source_of x)
read-kept (rm.R r) kept = tt
read-kept (rm.M m) kept = kept

memory-kept : (x : Rm) → RmKept x → MemKept (memory_in x)
memory-kept (rm.R r) kept = record { low = lit< tt; factor = tt }
memory-kept (rm.M m) kept = kept

selected-kept : (w : Width) (x : Rm) → RmKept x → Selected (selector_width w x) x
selected-kept w (rm.R r) kept = tt
selected-kept w (rm.M m) kept = kept

-- ---- the width of what widens the accumulator

abbrev WideBy : Kind → Width → Type 0
WideBy kind.Cbw w = Wide w
WideBy kind.Cwd w = Wide w
WideBy k w = Unit {0}

abbrev is_vary : Size → Bool
is_vary Byte = false
is_vary Vary = true
is_vary Dword = false

abbrev widens : Kind → Size → Bool
widens kind.Cbw size = is_vary size
widens kind.Cwd size = is_vary size
widens k size = true

abbrev all_widen : List Row → Bool
all_widen [] = true
all_widen (r ∷ rs) = if widens r.form.kind r.form.size then all_widen rs else false

table_wide : all_widen rows ≡ true
unfolding rows
table_wide = refl

first-true : (a : Bool) (b : Bool) → (if a then b else false) ≡ true → (a ≡ true) × (b ≡ true)
first-true true b h = (refl, h)
first-true false b h = absurd (cc h)

row-widens : (rs : List Row) (k : ℕ) (d : Row) → all_widen rs ≡ true → k < length rs → widens (slice_index_or rs k d).form.kind (slice_index_or rs k d).form.size ≡ true
row-widens [] k d all below = absurd (omega arith)
row-widens (r ∷ rs) zero d all below = (first-true (widens r.form.kind r.form.size) (all_widen rs) all).0
row-widens (r ∷ rs) (suc k) d all below = row-widens rs k d (first-true (widens r.form.kind r.form.size) (all_widen rs) all).1 (omega arith)

vary-wide : (size : Size) (word : Bool) → is_vary size ≡ true → Wide (width_of size word)
vary-wide Byte word h = absurd (cc h)
vary-wide Vary true h = tt
vary-wide Vary false h = tt
vary-wide Dword word h = absurd (cc h)

wide-by : (k : Kind) (size : Size) (word : Bool) → widens k size ≡ true → WideBy k (width_of size word)
wide-by kind.Cbw size word h = vary-wide size word h
wide-by kind.Cwd size word h = vary-wide size word h
wide-by k size word h = tt

-- ---- all kinds

kept-by : (k : Kind) (o : Operands) → RmKept o.rm → o.immediate < 2 ^ 32 → WideBy k o.width → Kept (meaning k o)
kept-by (kind.AluRmReg op) o x n w = (x, tt)
kept-by (kind.AluRegRm op) o x n w = (tt, read-kept o.rm x)
kept-by (kind.AluAccImm op) o x n w = (tt, n)
kept-by (kind.AluRmImm op) o x n w = (x, n)
kept-by kind.TestRmReg o x n w = (x, tt)
kept-by kind.TestAccImm o x n w = (tt, n)
kept-by kind.TestRmImm o x n w = (x, n)
kept-by kind.MovRmReg o x n w = (x, tt)
kept-by kind.MovRegRm o x n w = (tt, read-kept o.rm x)
kept-by kind.MovRegImm o x n w = (tt, n)
kept-by kind.MovRmImm o x n w = (x, n)
kept-by kind.MovAccAt o x n w = (tt, record { low = n; factor = tt })
kept-by kind.MovAtAcc o x n w = (record { low = n; factor = tt }, tt)
kept-by kind.XchgRmReg o x n w = x
kept-by kind.XchgRegAcc o x n w = tt
kept-by kind.Lea o x n w = memory-kept o.rm x
kept-by (kind.Movx signed from) o x n w = x
kept-by kind.Bswap o x n w = tt
kept-by kind.PushReg o x n w = tt
kept-by kind.PushImm o x n w = n
kept-by kind.PushRm o x n w = read-kept o.rm x
kept-by kind.PopReg o x n w = tt
kept-by kind.PopRm o x n w = x
kept-by (kind.BumpReg up) o x n w = tt
kept-by (kind.BumpRm up) o x n w = x
kept-by (kind.Unary op) o x n w = x
kept-by (kind.Mul signed) o x n w = x
kept-by (kind.Div signed) o x n w = x
kept-by kind.ImulRegRm o x n w = (x, tt)
kept-by kind.ImulRegRmImm o x n w = (x, n)
kept-by (kind.ShiftImm op) o x n w = (x, omega arith)
kept-by (kind.ShiftOne op) o x n w = (x, lit< tt)
kept-by (kind.ShiftCl op) o x n w = (x, tt)
kept-by (kind.DoubleImm left) o x n w = (x, omega arith)
kept-by (kind.DoubleCl left) o x n w = (x, tt)
kept-by (kind.BitReg op) o x n w = (x, tt)
kept-by (kind.BitImm op) o x n w = (x, n)
kept-by (kind.Scan up) o x n w = x
kept-by kind.Cmpxchg o x n w = x
kept-by kind.Xadd o x n w = x
kept-by kind.Set o x n w = x
kept-by kind.Cmov o x n w = x
kept-by kind.Cbw o x n w = w
kept-by kind.Cwd o x n w = w
kept-by (kind.Str op) o x n w = tt
kept-by (kind.Flag op) o x n w = tt
kept-by kind.Pushad o x n w = tt
kept-by kind.Popad o x n w = tt
kept-by kind.Pushfd o x n w = tt
kept-by kind.Popfd o x n w = tt
kept-by kind.Leave o x n w = tt
kept-by kind.Xlat o x n w = tt
kept-by kind.Lahf o x n w = tt
kept-by kind.Sahf o x n w = tt
kept-by kind.Nop o x n w = tt
kept-by kind.Pause o x n w = tt
kept-by kind.Endbr o x n w = tt
kept-by kind.ToGs o x n w = x
kept-by kind.FromGs o x n w = selected-kept o.width o.rm x
kept-by kind.Cpuid o x n w = tt
kept-by kind.Jump o x n w = n
kept-by kind.Branch o x n w = n
kept-by (kind.Loop which) o x n w = n
kept-by kind.Call o x n w = n
kept-by kind.JumpVia o x n w = x
kept-by kind.CallVia o x n w = x
kept-by kind.Ret o x n w = omega arith
kept-by kind.Int80 o x n w = tt
kept-by kind.Int3 o x n w = tt
kept-by kind.Hlt o x n w = tt
kept-by kind.Ud2 o x n w = tt

pub spelled-kept : (s : List ℕ) (i : Insn) → Spells s i → Kept i
spelled-kept s i h =
    let f = h.row.form in
    let m = marks_of h.prefixes in
    let behind : AreBytes (h.opcode ∷ h.operands) = bytes_behind (h.prefixes ++ lead_bytes h.row.lead) (h.opcode ∷ h.operands) (subst AreBytes h.parts h.bytes) in
    let bytes : AreBytes h.operands = λ k. behind (suc k) in
    let listed : widens f.kind f.size ≡ true = subst (λ (r : Row). widens r.form.kind r.form.size ≡ true) h.listed.2 (row-widens rows h.listed.0 h.row table_wide h.listed.1) in
    subst Kept h.means (
    kept-by f.kind (operands_of f m h.opcode h.operands)
    (rm-kept m.gs (from_modrm f h.operands) (addressed-bytes (has_modrm f.layout) h.operands bytes))
    (immediate-low f.immediate (form_width f m) h.operands (immediate_place (has_modrm f.layout) h.operands) bytes)
    (wide-by f.kind f.size m.word listed))
