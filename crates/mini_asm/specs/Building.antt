-- The instruction of an operation and its operands. This project's own.
use Rattle.std.specs.Prelude.{ℕ, ◌^◌, Bool, true, false, nat_lt, if◌then◌else◌, List, [], ◌∷◌, codes, Option, Some, None, option_map, option_and_then}
use Rattle.std.specs.Option.{option_map_or}
use Rattle.mv_base.specs.Memory.{address_after, distance}
use Rattle.mv_base.specs.Reading.{behind}
use Rattle.x86_insn.specs.declared.insn.Count.{Count}
use Rattle.x86_insn.specs.declared.insn.Count.TheVariants as count
use Rattle.x86_insn.specs.declared.insn.Insn.{Insn}
use Rattle.x86_insn.specs.declared.insn.Insn.TheVariants as insn
use Rattle.x86_insn.specs.declared.insn.Mem.{Mem}
use Rattle.x86_insn.specs.declared.insn.Reg.{Reg}
use Rattle.x86_insn.specs.declared.insn.Rep.{Rep}
use Rattle.x86_insn.specs.declared.insn.Rep.TheVariants as rep
use Rattle.x86_insn.specs.declared.insn.Rm.TheVariants as rm
use Rattle.x86_insn.specs.declared.insn.ShiftOp.{ShiftOp}
use Rattle.x86_insn.specs.declared.insn.Src.{Src}
use Rattle.x86_insn.specs.declared.insn.Src.TheVariants as src
use Rattle.x86_insn.specs.declared.insn.Width.{Width}
use Rattle.insn_text.specs.declared.operand.Operand.{Operand}
use Rattle.insn_text.specs.declared.operand.Operand.TheVariants.{Register, Memory, Address, Number, Gs}
use Rattle.mini_asm.specs.declared.building.Sized.{Sized}
use Rattle.mini_asm.specs.declared.mnemonic.Mnemonic.{Mnemonic}
use Rattle.mini_asm.specs.declared.mnemonic.Mnemonic.TheVariants as mnemonic
use Rattle.mini_asm.specs.Words.{word_at}
use Rattle.mini_asm.specs.Operands.{operands_in}
use Rattle.mini_asm.specs.Mnemonics.{mnemonic_named}

-- a register or memory, and its width
abbrev pub sized_in : Operand → Option Sized
sized_in (Register w r) = Some (record { width = w; place = rm.R r })
sized_in (Memory w m) = Some (record { width = w; place = rm.M m })
sized_in (Address m) = None
sized_in (Number n) = None
sized_in Gs = None

-- what may be read: a register, memory or a number
abbrev pub read_from : Operand → Option Src
read_from (Register w r) = Some (src.R r)
read_from (Memory w m) = Some (src.M m)
read_from (Number n) = Some (src.Imm n)
read_from (Address m) = None
read_from Gs = None

-- a register and its width, an effective address, and a number
abbrev pub register_in : Operand → Option (Width × Reg)
register_in (Register w r) = Some (w, r)
register_in (Memory w m) = None
register_in (Address m) = None
register_in (Number n) = None
register_in Gs = None

abbrev pub address_in : Operand → Option Mem
address_in (Register w r) = None
address_in (Memory w m) = None
address_in (Address m) = Some m
address_in (Number n) = None
address_in Gs = None

abbrev pub number_of : Operand → Option ℕ
number_of (Register w r) = None
number_of (Memory w m) = None
number_of (Address m) = None
number_of (Number n) = Some n
number_of Gs = None

-- a count: a number, or CL
abbrev pub count_from : Operand → Option Count
count_from (Number n) = if nat_lt n (2 ^ 8) then Some (count.Imm n) else None
count_from (Register w r) = Some count.Cl
count_from (Memory w m) = None
count_from (Address m) = None
count_from Gs = None

-- an operation that shows no operand
abbrev pub without : Mnemonic → Rep → Option Insn
without (mnemonic.Lone i) rep = Some i
without (mnemonic.Str op w) rep = Some (insn.Str op w rep)
without mnemonic.Ret rep = Some (insn.Ret 0)
without m rep = None

-- one operand that has a width
unfoldable pub on_sized : Mnemonic → Bool → Sized → Option Insn
on_sized (mnemonic.Bump up) lock o = Some (insn.Bump up o.width lock o.place)
on_sized (mnemonic.Unary op) lock o = Some (insn.Unary op o.width lock o.place)
on_sized (mnemonic.Mul signed) lock o = Some (insn.Mul signed o.width o.place)
on_sized (mnemonic.Div signed) lock o = Some (insn.Div signed o.width o.place)
on_sized (mnemonic.Set cond) lock o = Some (insn.Set cond o.place)
on_sized mnemonic.Pop lock o = Some (insn.Pop o.place)
on_sized mnemonic.Jump lock o = Some (insn.JumpVia o.place)
on_sized mnemonic.Call lock o = Some (insn.CallVia o.place)
on_sized m lock o = None

-- a number alone: what a return drops, the number of an interrupt, and where a transfer goes
unfoldable pub on_number : Mnemonic → ℕ → Option Insn
on_number mnemonic.Push n = Some (insn.Push (src.Imm n))
on_number mnemonic.Ret n = if nat_lt n (2 ^ 16) then Some (insn.Ret n) else None
on_number mnemonic.Interrupt n = Some insn.Int80
on_number mnemonic.Jump n = Some (insn.Jump n)
on_number (mnemonic.Branch cond) n = Some (insn.Branch cond n)
on_number (mnemonic.Loop kind) n = Some (insn.Loop kind n)
on_number mnemonic.Call n = Some (insn.Call n)
on_number m n = None

-- one register, and memory alone
unfoldable pub on_register : Mnemonic → Bool → Width → Reg → Option Insn
on_register mnemonic.Bswap lock w r = Some (insn.Bswap r)
on_register mnemonic.Push lock w r = Some (insn.Push (src.R r))
on_register m lock w r = on_sized m lock (record { width = w; place = rm.R r })

unfoldable pub on_memory : Mnemonic → Bool → Width → Mem → Option Insn
on_memory mnemonic.Push lock w m = Some (insn.Push (src.M m))
on_memory n lock w m = on_sized n lock (record { width = w; place = rm.M m })

-- one operand
abbrev pub with_one : Mnemonic → Bool → Operand → Option Insn
with_one m lock (Register w r) = on_register m lock w r
with_one m lock (Memory w a) = on_memory m lock w a
with_one m lock (Number n) = on_number m n
with_one m lock (Address a) = None
with_one m lock Gs = None

-- into a register, from a register or memory
unfoldable pub into_register : Mnemonic → Width → Reg → Sized → Option Insn
into_register (mnemonic.Movx signed) w r o = Some (insn.Movx signed o.width w r o.place)
into_register (mnemonic.Mul true) w r o = Some (insn.Imul w r o.place None)
into_register (mnemonic.Scan up) w r o = Some (insn.Scan up w r o.place)
into_register (mnemonic.Cmov cond) w r o = Some (insn.Cmov cond w r o.place)
into_register m w r o = None

-- onto a register or memory, from a register
unfoldable pub from_register : Mnemonic → Bool → Sized → Reg → Option Insn
from_register mnemonic.Xchg lock o r = Some (insn.Xchg o.width lock o.place r)
from_register mnemonic.Cmpxchg lock o r = Some (insn.Cmpxchg o.width lock o.place r)
from_register mnemonic.Xadd lock o r = Some (insn.Xadd o.width lock o.place r)
from_register m lock o r = None

-- onto a register or memory, from what may be read
unfoldable pub from_source : Mnemonic → Bool → Sized → Src → Option Insn
from_source (mnemonic.Alu op) lock o s = Some (insn.Alu op o.width lock o.place s)
from_source (mnemonic.Bit op) lock o s = Some (insn.Bit op o.width lock o.place s)
from_source mnemonic.Test lock o s = Some (insn.Test o.width o.place s)
from_source mnemonic.Mov lock o s = Some (insn.Mov o.width o.place s)
from_source m lock o s = None

abbrev pub is_gs : Operand → Bool
is_gs (Register w r) = false
is_gs (Memory w m) = false
is_gs (Address m) = false
is_gs (Number n) = false
is_gs Gs = true

-- a move, of which a side may be GS
unfoldable pub from_two : Mnemonic → Bool → Operand → Operand → Option Insn
from_two m lock a b = option_and_then (λ o. option_and_then (λ s. from_source m lock o s) (read_from b)) (sized_in a)

unfoldable pub moved : Bool → Operand → Operand → Option Insn
moved lock a b =
    if is_gs a then option_map (λ o. insn.ToGs o.place) (sized_in b)
    else (if is_gs b then option_map (λ o. insn.FromGs o.width o.place) (sized_in a)
    else from_two mnemonic.Mov lock a b)

unfoldable pub into_two : Mnemonic → Operand → Operand → Option Insn
into_two m a b = option_and_then (λ p. option_and_then (λ o. into_register m p.0 p.1 o) (sized_in b)) (register_in a)

unfoldable pub with_register : Mnemonic → Bool → Operand → Operand → Option Insn
with_register m lock a b = option_and_then (λ o. option_and_then (λ p. from_register m lock o p.1) (register_in b)) (sized_in a)

unfoldable pub shifted_by : ShiftOp → Operand → Operand → Option Insn
shifted_by op a b = option_and_then (λ o. option_map (λ n. insn.Shift op o.width o.place n) (count_from b)) (sized_in a)

unfoldable pub loaded_address : Operand → Operand → Option Insn
loaded_address a b = option_and_then (λ p. option_map (λ m. insn.Lea p.0 p.1 m) (address_in b)) (register_in a)

-- two operands
unfoldable pub with_two : Mnemonic → Bool → Operand → Operand → Option Insn
with_two mnemonic.Lea lock a b = loaded_address a b
with_two (mnemonic.Shift op) lock a b = shifted_by op a b
with_two mnemonic.Mov lock a b = moved lock a b
with_two mnemonic.Xchg lock a b = with_register mnemonic.Xchg lock a b
with_two mnemonic.Cmpxchg lock a b = with_register mnemonic.Cmpxchg lock a b
with_two mnemonic.Xadd lock a b = with_register mnemonic.Xadd lock a b
with_two (mnemonic.Movx signed) lock a b = into_two (mnemonic.Movx signed) a b
with_two (mnemonic.Mul signed) lock a b = into_two (mnemonic.Mul signed) a b
with_two (mnemonic.Scan up) lock a b = into_two (mnemonic.Scan up) a b
with_two (mnemonic.Cmov cond) lock a b = into_two (mnemonic.Cmov cond) a b
with_two m lock a b = from_two m lock a b

unfoldable pub multiplied : Operand → Operand → Operand → Option Insn
multiplied a b c =
    option_and_then
    (λ p. option_and_then (λ o. option_map (λ n. insn.Imul p.0 p.1 o.place (Some n)) (number_of c)) (sized_in b))
    (register_in a)

unfoldable pub doubled : Bool → Operand → Operand → Operand → Option Insn
doubled left a b c =
    option_and_then
    (λ o. option_and_then (λ p. option_map (λ n. insn.Double left o.place p.1 n) (count_from c)) (register_in b))
    (sized_in a)

-- three operands
abbrev pub with_three : Mnemonic → Operand → Operand → Operand → Option Insn
with_three (mnemonic.Mul signed) a b c = multiplied a b c
with_three (mnemonic.Double left) a b c = doubled left a b c
with_three m a b c = None

unfoldable pub with_operands : Mnemonic → Bool → Rep → List Operand → Option Insn
with_operands m lock rep [] = without m rep
with_operands m lock rep (a ∷ []) = with_one m lock a
with_operands m lock rep (a ∷ b ∷ []) = with_two m lock a b
with_operands m lock rep (a ∷ b ∷ c ∷ []) = with_three m a b c
with_operands m lock rep (a ∷ b ∷ c ∷ d ∷ os) = None

-- ---- a line

-- no operands, where nothing stands behind the mnemonic
unfoldable pub shown_in : List ℕ → Option (List Operand)
shown_in [] = Some []
shown_in (c ∷ text) = operands_in (c ∷ text)

-- what a text spells behind its word in front; of a direct transfer the number is where it goes
unfoldable pub built : Bool → Rep → List ℕ → Option Insn
built lock rep text =
    option_and_then
    (λ m. option_and_then (λ os. with_operands m lock rep os) (shown_in (word_at text).1))
    (mnemonic_named (word_at text).0)

-- the one instruction that a line may be the text of
unfoldable pub candidate : List ℕ → Option Insn
candidate line =
    option_map_or (λ rest. built true rep.Once rest) (behind (codes "lock ") line) (
    option_map_or (λ rest. built false rep.F3 rest) (behind (codes "rep ") line) (
    option_map_or (λ rest. built false rep.F3 rest) (behind (codes "repe ") line) (
    option_map_or (λ rest. built false rep.F2 rest) (behind (codes "repne ") line) (
    built false rep.Once line))))

-- ---- direct transfers

-- a direct transfer with where it goes in place of how far, and back; `next` is the address behind it
abbrev pub absolute : ℕ → Insn → Insn
absolute next (insn.Jump rel) = insn.Jump (address_after next rel)
absolute next (insn.Branch cond rel) = insn.Branch cond (address_after next rel)
absolute next (insn.Loop kind rel) = insn.Loop kind (address_after next rel)
absolute next (insn.Call rel) = insn.Call (address_after next rel)
absolute next i = i

abbrev pub relative : ℕ → Insn → Insn
relative next (insn.Jump to) = insn.Jump (distance next to)
relative next (insn.Branch cond to) = insn.Branch cond (distance next to)
relative next (insn.Loop kind to) = insn.Loop kind (distance next to)
relative next (insn.Call to) = insn.Call (distance next to)
relative next i = i
