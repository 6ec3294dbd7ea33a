-- Rounds of moves: data, the stack, and flags. Intel SDM, volume 2. Each line says what one kind of instruction asks and
-- how it ends; `got` has the byte lists that the round has read so far.
use Rattle.std.specs.Prelude.{ℕ, ◌-◌, ◌%◌, ◌^◌, ◌/◌, ◌==◌, nat_lt, ◌||◌, Bool, true, false, not, List, [], ◌∷◌, Some, if◌then◌else◌}
use Rattle.std.specs.Int.{w32, swap_bytes}
use Rattle.byteorder.specs.Endian.{little_from}
use Rattle.mv_base.specs.Bytes.{words}
use Rattle.mv_base.specs.Memory.{address_after}
use Rattle.x86_insn.specs.declared.flags.Flags.{Flags}
use Rattle.x86_insn.specs.declared.insn.Cond.{Cond}
use Rattle.x86_insn.specs.declared.insn.FlagOp.{FlagOp}
use Rattle.x86_insn.specs.declared.insn.FlagOp.TheVariants.{Cmc, Clc, Stc, Cld, Std}
use Rattle.x86_insn.specs.declared.insn.Mem.{Mem}
use Rattle.x86_insn.specs.declared.insn.Reg.{Reg}
use Rattle.x86_insn.specs.declared.insn.Reg.TheVariants.{Eax, Ecx, Edx, Ebx, Esp, Ebp, Esi, Edi}
use Rattle.x86_insn.specs.declared.insn.Rm.{Rm}
use Rattle.x86_insn.specs.declared.insn.Src.{Src}
use Rattle.x86_insn.specs.declared.insn.Width.{Width}
use Rattle.x86_insn.specs.declared.insn.Width.TheVariants.{B, W, D}
use Rattle.x86_insn.specs.State.{Core, Outside}
use Rattle.x86_insn.specs.Flags.{flag_image}
use Rattle.x86_insn.specs.Values.{modulus, half}
use Rattle.x86_insn.specs.Conditions.{holds}
use Rattle.x86_insn.specs.Operands.{reg, reg_value, set_reg, set_flags, accumulator, ah, bytes_of, address_before, effective_address, sign_extended}
use Rattle.x86_insn.specs.Ask.{Ask, Reads, Halts, Ends, with_read, with_rm, with_src, ends, ends_in}

-- ---- data

abbrev pub mov_round : Width → Rm → Src → Core → List (List ℕ) → Ask Bool
mov_round w dst src c got = with_src w c src got (λ n rest. ends_in false w dst n c c)

-- both operands are read before either is set
abbrev pub xchg_round : Width → Rm → Reg → Core → List (List ℕ) → Ask Bool
xchg_round w dst r c got = with_rm w c dst got (λ n rest. ends_in false w dst (reg_value w c r) c (set_reg w r n c))

-- the address itself; nothing is read
abbrev pub lea_round : Width → Reg → Mem → Core → Ask Bool
lea_round w dst m c = ends false (set_reg w dst (effective_address c m % modulus w) c)

abbrev pub movx_value : Bool → Width → Width → ℕ → ℕ
movx_value true from to n = sign_extended from to n
movx_value false from to n = n % modulus to

abbrev pub movx_round : Bool → Width → Width → Reg → Rm → Core → List (List ℕ) → Ask Bool
movx_round signed from to dst src c got = with_rm from c src got (λ n rest. ends false (set_reg to dst (movx_value signed from to n) c))

-- the four bytes of a register in reverse order
abbrev pub bswap_round : Reg → Core → Ask Bool
bswap_round r c = ends false (set_reg D r (swap_bytes w32 (reg c r)) c)

-- the source is read whether or not the condition holds
abbrev pub cmov_round : Cond → Width → Reg → Rm → Core → List (List ℕ) → Ask Bool
cmov_round cond w dst src c got = with_rm w c src got (λ n rest. ends false (if holds cond c.flags then set_reg w dst n c else c))

abbrev pub set_round : Cond → Rm → Core → Ask Bool
set_round cond dst c = ends_in false B dst (if holds cond c.flags then 1 else 0) c c

-- the width that CBW and CWDE extend from
abbrev pub narrower : Width → Width
narrower B = B
narrower W = B
narrower D = W

abbrev pub cbw_round : Width → Core → Ask Bool
cbw_round w c = ends false (set_reg w Eax (sign_extended (narrower w) w (accumulator (narrower w) c)) c)

-- each bit is the sign of a value
abbrev pub sign_filled : Width → ℕ → ℕ
sign_filled w n = if nat_lt n (half w) then 0 else modulus w - 1

abbrev pub cwd_round : Width → Core → Ask Bool
cwd_round w c = ends false (set_reg w Edx (sign_filled w (accumulator w c)) c)

-- the byte at EBX and AL together
abbrev pub xlat_round : Core → List (List ℕ) → Ask Bool
xlat_round c got = with_read (address_after (reg c Ebx) (accumulator B c)) B got (λ n rest. ends false (set_reg B Eax n c))

-- ---- the stack

-- ESP moved
abbrev pub risen : ℕ → Core → Core
risen n c = set_reg D Esp (address_after (reg c Esp) n) c

abbrev pub lowered : ℕ → Core → Core
lowered n c = set_reg D Esp (address_before (reg c Esp) n) c

-- a word goes below ESP, and ESP to it
abbrev pub pushes : {E : Type 0} → E → ℕ → Core → Ask E
pushes e n c = Ends (lowered 4 c) (Some (address_before (reg c Esp) 4, bytes_of D n)) e

-- the address and the value are those of ESP before it falls
abbrev pub push_round : Src → Core → List (List ℕ) → Ask Bool
push_round src c got = with_src D c src got (λ n rest. pushes false n c)

-- the stack is read, then ESP rises, and with it the destination's address is computed
abbrev pub pop_round : Rm → Core → List (List ℕ) → Ask Bool
pop_round dst c got = with_read (reg c Esp) D got (λ n rest. ends_in false D dst n (risen 4 c) (risen 4 c))

-- from the lowest address on
abbrev pub pushed_bytes : Core → List ℕ
pushed_bytes c =
    words (reg c Edi ∷ reg c Esi ∷ reg c Ebp ∷ reg c Esp ∷ reg c Ebx ∷ reg c Edx ∷ reg c Ecx ∷ reg c Eax ∷ [])

-- the word of ESP is that of ESP before it falls
abbrev pub pushad_round : Core → Ask Bool
pushad_round c = Ends (lowered 32 c) (Some (address_before (reg c Esp) 32, pushed_bytes c)) false

-- the number in the four bytes from a place on
abbrev pub word_from : ℕ → List ℕ → ℕ
word_from place bytes = little_from place 4 bytes

-- the same eight words; that of ESP is skipped
abbrev pub popped_regs : ℕ → List ℕ → List ℕ
popped_regs esp bytes =
    word_from 28 bytes ∷ word_from 24 bytes ∷ word_from 20 bytes ∷ word_from 16 bytes ∷ address_after esp 32 ∷ word_from 8 bytes ∷ word_from 4 bytes ∷ word_from 0 bytes ∷ []

abbrev pub popad_round : Core → List (List ℕ) → Ask Bool
popad_round c [] = Reads (reg c Esp) 32
popad_round c (bytes ∷ rest) = ends false (record c { regs = popped_regs (reg c Esp) bytes })

-- EBP's word is read, then ESP stands above it
abbrev pub leave_round : Core → List (List ℕ) → Ask Bool
leave_round c got = with_read (reg c Ebp) D got (λ n rest. ends false (set_reg D Ebp n (set_reg D Esp (address_after (reg c Ebp) 4) c)))

-- ---- flags

abbrev pub pushfd_round : Core → Ask Bool
pushfd_round c = pushes false (flag_image c.flags) c

-- a bit of a number
abbrev pub has_bit : ℕ → ℕ → Bool
has_bit k n = n / 2 ^ k % 2 == 1

-- the flags of an image
abbrev pub flags_of_image : ℕ → Flags
flags_of_image n = record {
  cf = has_bit 0 n;
  pf = has_bit 2 n;
  af = has_bit 4 n;
  zf = has_bit 6 n;
  sf = has_bit 7 n;
  df = has_bit 10 n;
  of = has_bit 11 n;
  id = has_bit 21 n;
}

-- an image that sets TF, NT or AC is outside the profile
abbrev pub sets_other_flags : ℕ → Bool
sets_other_flags n = has_bit 8 n || has_bit 14 n || has_bit 18 n

abbrev pub popfd_end : ℕ → Core → Ask Bool
popfd_end n c = if sets_other_flags n then Halts Outside else ends false (set_flags (flags_of_image n) (risen 4 c))

abbrev pub popfd_round : Core → List (List ℕ) → Ask Bool
popfd_round c got = with_read (reg c Esp) D got (λ n rest. popfd_end n c)

-- AH gets the image's low byte
abbrev pub lahf_round : Core → Ask Bool
lahf_round c = ends false (set_reg B ah (flag_image c.flags % 2 ^ 8) c)

abbrev pub sahf_flags : ℕ → Flags → Flags
sahf_flags n f = record f { cf = has_bit 0 n; pf = has_bit 2 n; af = has_bit 4 n; zf = has_bit 6 n; sf = has_bit 7 n }

abbrev pub sahf_round : Core → Ask Bool
sahf_round c = ends false (set_flags (sahf_flags (reg_value B c ah) c.flags) c)

abbrev pub flag_changed : FlagOp → Flags → Flags
flag_changed Cmc f = record f { cf = not f.cf }
flag_changed Clc f = record f { cf = false }
flag_changed Stc f = record f { cf = true }
flag_changed Cld f = record f { df = false }
flag_changed Std f = record f { df = true }

abbrev pub flag_round : FlagOp → Core → Ask Bool
flag_round op c = ends false (set_flags (flag_changed op c.flags) c)
