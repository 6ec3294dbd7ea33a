-- Rounds of arithmetic: values and flags, read, computed and written back. Intel SDM, volume 2. A destination in memory
-- that is read and written is read first.
use Rattle.std.specs.Prelude.{ℕ, ◌%◌, ◌==◌, Bool, true, false, List, Option, Some, None, if◌then◌else◌}
use Rattle.x86_insn.specs.declared.flags.Flags.{Flags}
use Rattle.x86_insn.specs.declared.insn.AluOp.{AluOp}
use Rattle.x86_insn.specs.declared.insn.AluOp.TheVariants.{Add, Or, Adc, Sbb, And, Sub, Xor, Cmp}
use Rattle.x86_insn.specs.declared.insn.BitOp.{BitOp}
use Rattle.x86_insn.specs.declared.insn.BitOp.TheVariants.{Bt, Bts, Btr, Btc}
use Rattle.x86_insn.specs.declared.insn.Count.{Count}
use Rattle.x86_insn.specs.declared.insn.Count.TheVariants as count
use Rattle.x86_insn.specs.declared.insn.Reg.{Reg}
use Rattle.x86_insn.specs.declared.insn.Reg.TheVariants.{Eax, Ecx, Edx}
use Rattle.x86_insn.specs.declared.insn.Rm.{Rm}
use Rattle.x86_insn.specs.declared.insn.ShiftOp.{ShiftOp}
use Rattle.x86_insn.specs.declared.insn.Src.{Src}
use Rattle.x86_insn.specs.declared.insn.UnOp.{UnOp}
use Rattle.x86_insn.specs.declared.insn.UnOp.TheVariants.{Not, Neg}
use Rattle.x86_insn.specs.declared.insn.Width.{Width}
use Rattle.x86_insn.specs.declared.insn.Width.TheVariants.{B, W, D}
use Rattle.x86_insn.specs.State.{Core, Trap, Divide}
use Rattle.x86_insn.specs.Values.{modulus, alu_value, alu_flags, test_flags, bump_value, bump_flags, negate_value, negate_flags, not_value}
use Rattle.x86_insn.specs.Shifts.{shift_value, shift_flags, double_value, double_flags}
use Rattle.x86_insn.specs.Products.{mul_low, mul_high, mul_flags, div_of}
use Rattle.x86_insn.specs.Bits.{bit_value, bit_flags, scan_value, scan_flags}
use Rattle.x86_insn.specs.Operands.{reg, reg_value, set_reg, set_flags, accumulator, ah}
use Rattle.x86_insn.specs.Ask.{Ask, Halts, with_rm, with_src, ends, ends_in}

-- ---- sums and logic

-- all but CMP write their value
abbrev pub is_compare : AluOp → Bool
is_compare Add = false
is_compare Or = false
is_compare Adc = false
is_compare Sbb = false
is_compare And = false
is_compare Sub = false
is_compare Xor = false
is_compare Cmp = true

abbrev pub alu_end : AluOp → Width → Rm → ℕ → ℕ → Core → Ask Bool
alu_end op w dst a b c =
    let after = set_flags (alu_flags op w a b c.flags) c in
    if is_compare op then ends false after else ends_in false w dst (alu_value op w a b c.flags) c after

-- the destination's value is a; the source is next
abbrev pub alu_with : AluOp → Width → Rm → Src → ℕ → Core → List (List ℕ) → Ask Bool
alu_with op w dst src a c rest = with_src w c src rest (λ b more. alu_end op w dst a b c)

abbrev pub alu_round : AluOp → Width → Rm → Src → Core → List (List ℕ) → Ask Bool
alu_round op w dst src c got = with_rm w c dst got (λ a rest. alu_with op w dst src a c rest)

abbrev pub test_with : Width → Src → ℕ → Core → List (List ℕ) → Ask Bool
test_with w src a c rest = with_src w c src rest (λ b more. ends false (set_flags (test_flags w a b c.flags) c))

abbrev pub test_round : Width → Rm → Src → Core → List (List ℕ) → Ask Bool
test_round w dst src c got = with_rm w c dst got (λ a rest. test_with w src a c rest)

abbrev pub bump_round : Bool → Width → Rm → Core → List (List ℕ) → Ask Bool
bump_round up w dst c got = with_rm w c dst got (λ a rest. ends_in false w dst (bump_value up w a) c (set_flags (bump_flags up w a c.flags) c))

abbrev pub unary_end : UnOp → Width → Rm → ℕ → Core → Ask Bool
unary_end Not w dst a c = ends_in false w dst (not_value w a) c c
unary_end Neg w dst a c = ends_in false w dst (negate_value w a) c (set_flags (negate_flags w a c.flags) c)

abbrev pub unary_round : UnOp → Width → Rm → Core → List (List ℕ) → Ask Bool
unary_round op w dst c got = with_rm w c dst got (λ a rest. unary_end op w dst a c)

-- the register gets the old value, and then the destination the sum
abbrev pub xadd_round : Width → Rm → Reg → Core → List (List ℕ) → Ask Bool
xadd_round w dst src c got =
    with_rm w c dst got (λ a rest. ends_in false w dst (alu_value Add w a (reg_value w c src) c.flags) c (set_reg w src a (set_flags (alu_flags Add w a (reg_value w c src) c.flags) c)))

-- compares the accumulator a with the destination's value b; where they are equal the destination gets the source, else
-- it gets its own value, and the accumulator that value too
abbrev pub cmpxchg_end : Width → Rm → Reg → ℕ → ℕ → Core → Core → Ask Bool
cmpxchg_end w dst src a b c after = if a == b then ends_in false w dst (reg_value w c src) c after else ends_in false w dst b c (set_reg w Eax b after)

abbrev pub cmpxchg_round : Width → Rm → Reg → Core → List (List ℕ) → Ask Bool
cmpxchg_round w dst src c got =
    with_rm w c dst got (λ b rest. cmpxchg_end w dst src (accumulator w c) b c (set_flags (alu_flags Cmp w (accumulator w c) b c.flags) c))

-- ---- products and quotients

-- a double value in AX, in DX and AX, or in EDX and EAX
abbrev pub set_double : Width → ℕ → ℕ → Core → Core
set_double B low high c = set_reg B ah high (set_reg B Eax low c)
set_double W low high c = set_reg W Edx high (set_reg W Eax low c)
set_double D low high c = set_reg D Edx high (set_reg D Eax low c)

-- the high half of the double value
abbrev pub high_half : Width → Core → ℕ
high_half B c = reg_value B c ah
high_half W c = reg_value W c Edx
high_half D c = reg_value D c Edx

abbrev pub mul_end : Bool → Width → ℕ → ℕ → Core → Ask Bool
mul_end signed w a b c = ends false (set_double w (mul_low signed w a b) (mul_high signed w a b) (set_flags (mul_flags signed w a b c.flags) c))

abbrev pub mul_round : Bool → Width → Rm → Core → List (List ℕ) → Ask Bool
mul_round signed w src c got = with_rm w c src got (λ b rest. mul_end signed w (accumulator w c) b c)

-- the quotient goes to the low half and the remainder to the high half
abbrev pub div_end : Width → Option (ℕ × ℕ × Flags) → Core → Ask Bool
div_end w None c = Halts (Trap Divide 0)
div_end w (Some d) c = ends false (set_double w d.0 d.1 (set_flags d.2 c))

abbrev pub div_round : Bool → Width → Rm → Core → List (List ℕ) → Ask Bool
div_round signed w src c got = with_rm w c src got (λ by rest. div_end w (div_of signed w (high_half w c) (accumulator w c) by c.flags) c)

-- the second factor of a signed product into a register
abbrev pub second_factor : Width → Reg → Option ℕ → Core → ℕ
second_factor w dst None c = reg_value w c dst
second_factor w dst (Some n) c = n % modulus w

abbrev pub imul_end : Width → Reg → ℕ → ℕ → Core → Ask Bool
imul_end w dst a b c = ends false (set_reg w dst (mul_low true w a b) (set_flags (mul_flags true w a b c.flags) c))

abbrev pub imul_round : Width → Reg → Rm → Option ℕ → Core → List (List ℕ) → Ask Bool
imul_round w dst src imm c got = with_rm w c src got (λ a rest. imul_end w dst a (second_factor w dst imm c) c)

-- ---- shifts and bits

abbrev pub count_of : Count → Core → ℕ
count_of (count.Imm n) c = n
count_of count.Cl c = reg_value B c Ecx

-- a shift by a multiple of 32 changes nothing: a destination in memory is read and not written
abbrev pub shift_end : ShiftOp → Width → Rm → ℕ → ℕ → Core → Ask Bool
shift_end op w dst a n c =
    if n % 32 == 0 then ends false c else ends_in false w dst (shift_value op w a n c.flags) c (set_flags (shift_flags op w a n c.flags) c)

abbrev pub shift_round : ShiftOp → Width → Rm → Count → Core → List (List ℕ) → Ask Bool
shift_round op w dst by c got = with_rm w c dst got (λ a rest. shift_end op w dst a (count_of by c) c)

abbrev pub double_end : Bool → Rm → ℕ → ℕ → ℕ → Core → Ask Bool
double_end left dst a b n c =
    if n % 32 == 0 then ends false c else ends_in false D dst (double_value left a b n) c (set_flags (double_flags left a b n c.flags) c)

abbrev pub double_round : Bool → Rm → Reg → Count → Core → List (List ℕ) → Ask Bool
double_round left dst src by c got = with_rm D c dst got (λ a rest. double_end left dst a (reg c src) (count_of by c) c)

-- BT writes nothing
abbrev pub is_test : BitOp → Bool
is_test Bt = true
is_test Bts = false
is_test Btr = false
is_test Btc = false

abbrev pub bit_end : BitOp → Width → Rm → ℕ → ℕ → Core → Ask Bool
bit_end op w dst a index c =
    let after = set_flags (bit_flags w a index c.flags) c in
    if is_test op then ends false after else ends_in false w dst (bit_value op w a index) c after

-- the destination's value is a; the index is next
abbrev pub bit_with : BitOp → Width → Rm → Src → ℕ → Core → List (List ℕ) → Ask Bool
bit_with op w dst index a c rest = with_src w c index rest (λ k more. bit_end op w dst a k c)

abbrev pub bit_round : BitOp → Width → Rm → Src → Core → List (List ℕ) → Ask Bool
bit_round op w dst index c got = with_rm w c dst got (λ a rest. bit_with op w dst index a c rest)

-- the destination is kept where the source has no bit set
abbrev pub scan_end : Width → Reg → Option ℕ → Core → Ask Bool
scan_end w dst None after = ends false after
scan_end w dst (Some k) after = ends false (set_reg w dst k after)

abbrev pub scan_round : Bool → Width → Reg → Rm → Core → List (List ℕ) → Ask Bool
scan_round up w dst src c got = with_rm w c src got (λ a rest. scan_end w dst (scan_value up a) (set_flags (scan_flags a c.flags) c))
