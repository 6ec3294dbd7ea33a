-- What an instruction asks and how it ends, within bounds: its core is one, and what it writes are bytes. The lemmas go
-- along the words in which the table of rounds is written.
use Rattle.std.specs.Prelude.{◌≡◌, ℕ, zero, suc, ◌-◌, ◌/◌, ◌%◌, ◌^◌, ◌<◌, Bool, true, false, List, [], ◌∷◌, length, Option, Some, None, nat_lt, ◌==◌, slice_index, slice_set, if◌then◌else◌}
use Rattle.std.specs.List.{AllByRecursion}
use Rattle.std.specs.Int.{byte_at, bytes_low_first}
use Rattle.std.proofs.lemmas.Bool.{both_ways, eq-eqb, eqb-true}
use Rattle.std.proofs.Common.{refl, sym, ◌∙◌, subst, arith, get_or-set_same, get_or-set_other, length-set}
use Rattle.byteorder.specs.Endian.{little_from, little_number}
use Rattle.mv_base.specs.Bytes.{AreBytes, words}
use Rattle.x86_insn.specs.declared.flags.Flags.{Flags}
use Rattle.x86_insn.specs.declared.insn.Reg.{Reg}
use Rattle.x86_insn.specs.declared.insn.Reg.TheVariants.{Eax, Ecx, Edx, Ebx, Esp, Ebp, Esi, Edi}
use Rattle.x86_insn.specs.declared.insn.Rm.{Rm}
use Rattle.x86_insn.specs.declared.insn.Rm.TheVariants as rm
use Rattle.x86_insn.specs.declared.insn.Src.{Src}
use Rattle.x86_insn.specs.declared.insn.Src.TheVariants as src
use Rattle.x86_insn.specs.declared.insn.Width.{Width}
use Rattle.x86_insn.specs.declared.insn.Width.TheVariants.{B, W, D}
use Rattle.x86_insn.specs.State.{IsCore, reg_number}
use Rattle.x86_insn.specs.declared.registers.Core.{Core}
use Rattle.x86_insn.specs.Values.{width_bytes, modulus}
use Rattle.x86_insn.specs.Operands.{reg, reg_value, set_reg, set_flags, regs_with, with_low_byte, with_second_byte, with_low_half, set_byte_reg, effective_address, bytes_of}
use Rattle.x86_insn.specs.Ask.{got_at, got_rm, got_src, with_read, with_rm, with_src, ends_in}
use Rattle.x86_insn.specs.Round.{unless_beyond}
use Rattle.x86_insn.specs.declared.ask.Ask.{Ask}
use Rattle.x86_insn.specs.declared.ask.Ask.TheVariants.{Reads, Halts, Ends}
use Rattle.step_laws.specs.laws.Values.{mod_fits}

-- ---- asks within bounds

abbrev pub AreWritten : Option (ℕ × List ℕ) → Type 0
AreWritten None = Unit {0}
AreWritten (Some w) = AreBytes w.1

-- an ask that ends ends with a core and bytes, and with an end of which something holds
abbrev pub EndsWell : {E : Type 0} → (E → Type 0) → Ask E → Type 0
EndsWell Good (Reads at len) = Unit {0}
EndsWell Good (Halts why) = Unit {0}
EndsWell Good (Ends c w e) = IsCore c × AreWritten w × Good e

-- so does one that stops where what it accesses can't be reached
pub unless_beyond_ends : {E : Type 0} (Good : E → Type 0) (t : Bool) (ask : Ask E) → EndsWell Good ask → EndsWell Good (unless_beyond t ask)
unless_beyond_ends Good true ask h = tt
unless_beyond_ends Good false ask h = h

-- ---- registers

register_number : (r : Reg) → reg_number r < 8
register_number Eax = omega arith
register_number Ecx = omega arith
register_number Edx = omega arith
register_number Ebx = omega arith
register_number Esp = omega arith
register_number Ebp = omega arith
register_number Esi = omega arith
register_number Edi = omega arith

pub reg_fits : (c : Core) (r : Reg) → IsCore c → reg c r < 2 ^ 32
reg_fits c r h = h.fits (reg_number r)

byte_of_fits : (t : Bool) (a b : ℕ) → (if t then a % 2 ^ 8 else b / 2 ^ 8 % 2 ^ 8) < 2 ^ 8
byte_of_fits true a b = omega arith
byte_of_fits false a b = omega arith

pub value_fits : (w : Width) (c : Core) (r : Reg) → IsCore c → reg_value w c r < modulus w
value_fits B c r h = byte_of_fits (nat_lt (reg_number r) 4) _ _
value_fits W c r h = omega arith
value_fits D c r h = reg_fits c r h

-- registers of 32 bits, of which one is set to such a number
record AreRegisters (regs : List ℕ) : Type 0 where
  eight : length regs ≡ 8
  fits : (k : ℕ) → slice_index regs k < 2 ^ 32

set_fits : (regs : List ℕ) (k n : ℕ) → AreRegisters regs → n < 2 ^ 32 → k < 8 → AreRegisters (slice_set regs k n)
set_fits regs k n h l low = record { eight = length-set regs k n ∙ h.eight; fits = λ j. go j (j == k) refl }
  where
    go : (j : ℕ) (t : Bool) → (j == k) ≡ t → slice_index (slice_set regs k n) j < 2 ^ 32
    go j true e = subst (λ v. slice_index (slice_set regs k n) v < 2 ^ 32) (sym (eqb-true j k e)) (subst (λ v. v < 2 ^ 32) (sym (get_or-set_same regs k n 0 (omega (arith, h.eight)))) l)
    go j false e = subst (λ v. v < 2 ^ 32) (sym (get_or-set_other regs k j n 0 (λ p. both_ways (j == k) e (eq-eqb j k p)))) (h.fits j)

low_byte_fits : (n b : ℕ) → n < 2 ^ 32 → b < 2 ^ 8 → with_low_byte n b < 2 ^ 32
low_byte_fits n b h k = omega (arith, h, k)

second_byte_fits : (n b : ℕ) → n < 2 ^ 32 → b < 2 ^ 8 → with_second_byte n b < 2 ^ 32
second_byte_fits n b h k = omega (arith, h, k)

low_half_fits : (n b : ℕ) → n < 2 ^ 32 → b < 2 ^ 16 → with_low_half n b < 2 ^ 32
low_half_fits n b h k = omega (arith, h, k)

byte_set_fits : (regs : List ℕ) (k b : ℕ) → AreRegisters regs → b < 2 ^ 8 → k < 8 → AreRegisters (set_byte_reg regs k b)
byte_set_fits regs k b h l low = go (nat_lt k 4)
  where
    go : (t : Bool) → AreRegisters (if t then slice_set regs k (with_low_byte (slice_index regs k) b) else slice_set regs (k - 4) (with_second_byte (slice_index regs (k - 4)) b))
    go true = set_fits regs k _ h (low_byte_fits _ b (h.fits k) l) low
    go false = set_fits regs (k - 4) _ h (second_byte_fits _ b (h.fits (k - 4)) l) (omega (arith, low))

registers_with : (w : Width) (regs : List ℕ) (r : Reg) (n : ℕ) → AreRegisters regs → n < modulus w → AreRegisters (regs_with w regs r n)
registers_with B regs r n h l = byte_set_fits regs (reg_number r) n h l (register_number r)
registers_with W regs r n h l = set_fits regs (reg_number r) _ h (low_half_fits _ n (h.fits (reg_number r)) l) (register_number r)
registers_with D regs r n h l = set_fits regs (reg_number r) n h l (register_number r)

-- a register of a core may get a value of its width
pub set_core : (w : Width) (r : Reg) (n : ℕ) (c : Core) → IsCore c → n < modulus w → IsCore (set_reg w r n c)
set_core w r n c h l = let q = registers_with w c.regs r n (record { eight = h.eight; fits = h.fits }) l in record { eight = q.eight; fits = q.fits; selector = h.selector; base = h.base }

pub flags_core : (f : Flags) (c : Core) → IsCore c → IsCore (set_flags f c)
flags_core f c h = record { eight = h.eight; fits = h.fits; selector = h.selector; base = h.base }

-- ---- bytes

pub no_bytes : AreBytes []
no_bytes k = omega arith

pub one_more_byte : (b : ℕ) (bytes : List ℕ) → b < 256 → AreBytes bytes → AreBytes (b ∷ bytes)
one_more_byte b bytes h k zero = h
one_more_byte b bytes h k (suc n) = k n

byte_below : (i n : ℕ) → byte_at i n < 256
byte_below zero n = omega arith
byte_below (suc i) n = omega arith

low_first_are : (i k n : ℕ) → AreBytes (bytes_low_first i k n)
low_first_are i zero n = no_bytes
low_first_are i (suc k) n = one_more_byte _ (bytes_low_first (suc i) k n) (byte_below i n) (low_first_are (suc i) k n)

pub value_bytes : (w : Width) (n : ℕ) → AreBytes (bytes_of w n)
value_bytes w n = low_first_are 0 (width_bytes w) n

pub word_bytes : (ns : List ℕ) → AreBytes (words ns)
unfolding words
word_bytes [] = no_bytes
word_bytes (n ∷ ns) =
    let three = one_more_byte (byte_at 3 n) (words ns) (byte_below 3 n) (word_bytes ns) in
    let two = one_more_byte (byte_at 2 n) (byte_at 3 n ∷ words ns) (byte_below 2 n) three in
    let one = one_more_byte (byte_at 1 n) (byte_at 2 n ∷ byte_at 3 n ∷ words ns) (byte_below 1 n) two in
    one_more_byte (byte_at 0 n) (byte_at 1 n ∷ byte_at 2 n ∷ byte_at 3 n ∷ words ns) (byte_below 0 n) one

-- four bytes from a place on are a number below 2^32
pub word_below : (i : ℕ) (bytes : List ℕ) → AreBytes bytes → little_from i 4 bytes < 2 ^ 32
word_below i bytes h = omega (arith, h i, h (suc i), h (suc (suc i)), h (suc (suc (suc i))))

number_below : (w : Width) (bytes : List ℕ) → AreBytes bytes → little_number (width_bytes w) bytes < modulus w
number_below B bytes h = omega (arith, h 0)
number_below W bytes h = omega (arith, h 0, h 1)
number_below D bytes h = word_below 0 bytes h

-- ---- reads and ends, where the byte lists read so far are bytes

abbrev pub AreRead : List (List ℕ) → Type 0
AreRead got = AllByRecursion AreBytes got

-- what a number that was got goes on to
abbrev Goes : {E : Type 0} → (E → Type 0) → Width → (ℕ → List (List ℕ) → Ask E) → Type 0
Goes Good w go = (n : ℕ) (rest : List (List ℕ)) → n < modulus w → AreRead rest → EndsWell Good (go n rest)

pub read_ends : {E : Type 0} (Good : E → Type 0) (at : ℕ) (w : Width) (got : List (List ℕ)) (go : ℕ → List (List ℕ) → Ask E) → AreRead got → Goes Good w go → EndsWell Good (with_read at w got go)
unfolding got_at
read_ends Good at w [] go h k = tt
read_ends Good at w (bytes ∷ rest) go h k = k _ rest (number_below w bytes h.0) h.1

pub rm_ends : {E : Type 0} (Good : E → Type 0) (w : Width) (c : Core) (rm : Rm) (got : List (List ℕ)) (go : ℕ → List (List ℕ) → Ask E) → IsCore c → AreRead got → Goes Good w go → EndsWell Good (with_rm w c rm got go)
unfolding got_rm
rm_ends Good w c (rm.R r) got go core h k = k _ got (value_fits w c r core) h
rm_ends Good w c (rm.M m) got go core h k = read_ends Good (effective_address c m) w got go h k

pub src_ends : {E : Type 0} (Good : E → Type 0) (w : Width) (c : Core) (src : Src) (got : List (List ℕ)) (go : ℕ → List (List ℕ) → Ask E) → IsCore c → AreRead got → Goes Good w go → EndsWell Good (with_src w c src got go)
unfolding got_src
src_ends Good w c (src.R r) got go core h k = k _ got (value_fits w c r core) h
src_ends Good w c (src.M m) got go core h k = read_ends Good (effective_address c m) w got go h k
src_ends Good w c (src.Imm n) got go core h k = k _ got (mod_fits w n) h

-- ends with a value in an operand
pub ends_in_well : {E : Type 0} (Good : E → Type 0) (e : E) (w : Width) (rm : Rm) (n : ℕ) (before after : Core) → Good e → n < modulus w → IsCore after → EndsWell Good (ends_in e w rm n before after)
ends_in_well Good e w (rm.R r) n before after g h k = (set_core w r n after k h, tt, g)
ends_in_well Good e w (rm.M m) n before after g h k = (k, value_bytes w n, g)
