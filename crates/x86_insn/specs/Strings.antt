-- Rounds of string instructions: one iteration each. Intel SDM, volume 2; that completed iterations are kept whole at a
-- fault, flags with them, is this project's own.
use Rattle.std.specs.Prelude.{ℕ, Bool, true, false, not, List, Some, None, if◌then◌else◌}
use Rattle.mv_base.specs.Memory.{address_after}
use Rattle.x86_insn.specs.declared.flags.Flags.{Flags}
use Rattle.x86_insn.specs.declared.insn.AluOp.TheVariants.{Cmp}
use Rattle.x86_insn.specs.declared.insn.Reg.{Reg}
use Rattle.x86_insn.specs.declared.insn.Reg.TheVariants.{Eax, Ecx, Esi, Edi}
use Rattle.x86_insn.specs.declared.insn.Rep.{Rep}
use Rattle.x86_insn.specs.declared.insn.Rep.TheVariants.{Once, F3, F2}
use Rattle.x86_insn.specs.declared.insn.StrOp.{StrOp}
use Rattle.x86_insn.specs.declared.insn.StrOp.TheVariants.{Movs, Cmps, Stos, Lods, Scas}
use Rattle.x86_insn.specs.declared.insn.Width.{Width}
use Rattle.x86_insn.specs.declared.insn.Width.TheVariants.{D}
use Rattle.x86_insn.specs.State.{Core}
use Rattle.x86_insn.specs.Values.{width_bytes, alu_flags}
use Rattle.x86_insn.specs.Operands.{reg, set_reg, set_flags, accumulator, address_before, bytes_of}
use Rattle.x86_insn.specs.Ask.{Ask, Ends, with_read}

-- a register moved by a width, down where DF is set
abbrev pub moved : Width → Reg → Core → Core
moved w r c = set_reg D r (if c.flags.df then address_before (reg c r) (width_bytes w) else address_after (reg c r) (width_bytes w)) c

-- a repeated instruction takes 1 from ECX in each iteration
abbrev pub counted : Rep → Core → Core
counted Once c = c
counted F3 c = set_reg D Ecx (address_before (reg c Ecx) 1) c
counted F2 c = set_reg D Ecx (address_before (reg c Ecx) 1) c

-- MOVS, STOS and LODS go on where they are repeated
abbrev pub goes_on : Rep → Bool
goes_on Once = false
goes_on F3 = true
goes_on F2 = true

-- CMPS and SCAS go on while ZF is set (F3) or clear (F2)
abbrev pub goes_on_with : Rep → Bool → Bool
goes_on_with Once zf = false
goes_on_with F3 zf = zf
goes_on_with F2 zf = not zf

-- a comparison's end, with the flags of a - b
abbrev pub compared : Rep → Flags → Core → Ask Bool
compared rep f c = Ends (counted rep (set_flags f c)) None (goes_on_with rep f.zf)

abbrev pub movs_round : Width → Rep → Core → List (List ℕ) → Ask Bool
movs_round w rep c got =
    with_read (reg c Esi) w got (λ n rest. Ends (counted rep (moved w Edi (moved w Esi c))) (Some (reg c Edi, bytes_of w n)) (goes_on rep))

-- the element a at ESI is read, and then the one at EDI
abbrev pub cmps_with : Width → Rep → ℕ → Core → List (List ℕ) → Ask Bool
cmps_with w rep a c rest = with_read (reg c Edi) w rest (λ b more. compared rep (alu_flags Cmp w a b c.flags) (moved w Edi (moved w Esi c)))

abbrev pub cmps_round : Width → Rep → Core → List (List ℕ) → Ask Bool
cmps_round w rep c got = with_read (reg c Esi) w got (λ a rest. cmps_with w rep a c rest)

abbrev pub stos_round : Width → Rep → Core → Ask Bool
stos_round w rep c = Ends (counted rep (moved w Edi c)) (Some (reg c Edi, bytes_of w (accumulator w c))) (goes_on rep)

abbrev pub lods_round : Width → Rep → Core → List (List ℕ) → Ask Bool
lods_round w rep c got = with_read (reg c Esi) w got (λ n rest. Ends (counted rep (set_reg w Eax n (moved w Esi c))) None (goes_on rep))

abbrev pub scas_round : Width → Rep → Core → List (List ℕ) → Ask Bool
scas_round w rep c got =
    with_read (reg c Edi) w got (λ b rest. compared rep (alu_flags Cmp w (accumulator w c) b c.flags) (moved w Edi c))

abbrev pub str_round : StrOp → Width → Rep → Core → List (List ℕ) → Ask Bool
str_round Movs w rep c got = movs_round w rep c got
str_round Cmps w rep c got = cmps_round w rep c got
str_round Stos w rep c got = stos_round w rep c
str_round Lods w rep c got = lods_round w rep c got
str_round Scas w rep c got = scas_round w rep c got

-- how many iterations there are at most: as many as ECX says, where it is repeated
abbrev pub iterations : Rep → Core → ℕ
iterations Once c = 1
iterations F3 c = reg c Ecx
iterations F2 c = reg c Ecx
