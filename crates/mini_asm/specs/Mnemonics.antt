-- The operation that a word names. The words are those of the text of an instruction.
use Rattle.std.specs.Prelude.{ℕ, true, false, if◌then◌else◌, List, codes, Option, Some, None, option_map, option_and_then}
use Rattle.std.specs.Option.{option_map_or}
use Rattle.std.specs.Str.{bytes_eq}
use Rattle.mv_base.specs.Reading.{behind}
use Rattle.x86_insn.specs.declared.insn.AluOp.TheVariants as alu
use Rattle.x86_insn.specs.declared.insn.ShiftOp.TheVariants as shift
use Rattle.x86_insn.specs.declared.insn.UnOp.TheVariants as unary
use Rattle.x86_insn.specs.declared.insn.BitOp.TheVariants as bit
use Rattle.x86_insn.specs.declared.insn.StrOp.TheVariants as string
use Rattle.x86_insn.specs.declared.insn.FlagOp.TheVariants as flag
use Rattle.x86_insn.specs.declared.insn.LoopKind.TheVariants as loop
use Rattle.x86_insn.specs.declared.insn.Width.TheVariants as width
use Rattle.x86_insn.specs.declared.insn.Cond.{Cond}
use Rattle.x86_insn.specs.declared.insn.Cond.TheVariants as cond
use Rattle.x86_insn.specs.declared.insn.Insn.TheVariants as insn
use Rattle.mini_asm.specs.declared.mnemonic.Mnemonic.{Mnemonic}
use Rattle.mini_asm.specs.declared.mnemonic.Mnemonic.TheVariants as mnemonic

-- those of arithmetic and logic
unfoldable pub alu_named : List ℕ → Option Mnemonic
alu_named word =
    if bytes_eq word (codes "add") then Some (mnemonic.Alu alu.Add)
    else (if bytes_eq word (codes "or") then Some (mnemonic.Alu alu.Or)
    else (if bytes_eq word (codes "adc") then Some (mnemonic.Alu alu.Adc)
    else (if bytes_eq word (codes "sbb") then Some (mnemonic.Alu alu.Sbb)
    else (if bytes_eq word (codes "and") then Some (mnemonic.Alu alu.And)
    else (if bytes_eq word (codes "sub") then Some (mnemonic.Alu alu.Sub)
    else (if bytes_eq word (codes "xor") then Some (mnemonic.Alu alu.Xor)
    else (if bytes_eq word (codes "cmp") then Some (mnemonic.Alu alu.Cmp)
    else None)))))))

-- those of shifts and rotations
unfoldable pub shifting_named : List ℕ → Option Mnemonic
shifting_named word =
    if bytes_eq word (codes "rol") then Some (mnemonic.Shift shift.Rol)
    else (if bytes_eq word (codes "ror") then Some (mnemonic.Shift shift.Ror)
    else (if bytes_eq word (codes "rcl") then Some (mnemonic.Shift shift.Rcl)
    else (if bytes_eq word (codes "rcr") then Some (mnemonic.Shift shift.Rcr)
    else (if bytes_eq word (codes "shl") then Some (mnemonic.Shift shift.Shl)
    else (if bytes_eq word (codes "shr") then Some (mnemonic.Shift shift.Shr)
    else (if bytes_eq word (codes "sar") then Some (mnemonic.Shift shift.Sar)
    else (if bytes_eq word (codes "shld") then Some (mnemonic.Double true)
    else (if bytes_eq word (codes "shrd") then Some (mnemonic.Double false)
    else None))))))))

-- those of operations on one operand
unfoldable pub single_named : List ℕ → Option Mnemonic
single_named word =
    if bytes_eq word (codes "not") then Some (mnemonic.Unary unary.Not)
    else (if bytes_eq word (codes "neg") then Some (mnemonic.Unary unary.Neg)
    else (if bytes_eq word (codes "inc") then Some (mnemonic.Bump true)
    else (if bytes_eq word (codes "dec") then Some (mnemonic.Bump false)
    else (if bytes_eq word (codes "mul") then Some (mnemonic.Mul false)
    else (if bytes_eq word (codes "imul") then Some (mnemonic.Mul true)
    else (if bytes_eq word (codes "div") then Some (mnemonic.Div false)
    else (if bytes_eq word (codes "idiv") then Some (mnemonic.Div true)
    else (if bytes_eq word (codes "bswap") then Some mnemonic.Bswap
    else (if bytes_eq word (codes "push") then Some mnemonic.Push
    else (if bytes_eq word (codes "pop") then Some mnemonic.Pop
    else (if bytes_eq word (codes "ret") then Some mnemonic.Ret
    else (if bytes_eq word (codes "int") then Some mnemonic.Interrupt
    else None))))))))))))

-- those of moves, tests and operations on bits
unfoldable pub moving_named : List ℕ → Option Mnemonic
moving_named word =
    if bytes_eq word (codes "mov") then Some mnemonic.Mov
    else (if bytes_eq word (codes "test") then Some mnemonic.Test
    else (if bytes_eq word (codes "xchg") then Some mnemonic.Xchg
    else (if bytes_eq word (codes "lea") then Some mnemonic.Lea
    else (if bytes_eq word (codes "movsx") then Some (mnemonic.Movx true)
    else (if bytes_eq word (codes "movzx") then Some (mnemonic.Movx false)
    else (if bytes_eq word (codes "bsf") then Some (mnemonic.Scan true)
    else (if bytes_eq word (codes "bsr") then Some (mnemonic.Scan false)
    else (if bytes_eq word (codes "cmpxchg") then Some mnemonic.Cmpxchg
    else (if bytes_eq word (codes "xadd") then Some mnemonic.Xadd
    else (if bytes_eq word (codes "bt") then Some (mnemonic.Bit bit.Bt)
    else (if bytes_eq word (codes "bts") then Some (mnemonic.Bit bit.Bts)
    else (if bytes_eq word (codes "btr") then Some (mnemonic.Bit bit.Btr)
    else (if bytes_eq word (codes "btc") then Some (mnemonic.Bit bit.Btc)
    else None)))))))))))))

-- those of strings
unfoldable pub string_named : List ℕ → Option Mnemonic
string_named word =
    if bytes_eq word (codes "movsb") then Some (mnemonic.Str string.Movs width.B)
    else (if bytes_eq word (codes "movsw") then Some (mnemonic.Str string.Movs width.W)
    else (if bytes_eq word (codes "movsd") then Some (mnemonic.Str string.Movs width.D)
    else (if bytes_eq word (codes "cmpsb") then Some (mnemonic.Str string.Cmps width.B)
    else (if bytes_eq word (codes "cmpsw") then Some (mnemonic.Str string.Cmps width.W)
    else (if bytes_eq word (codes "cmpsd") then Some (mnemonic.Str string.Cmps width.D)
    else (if bytes_eq word (codes "stosb") then Some (mnemonic.Str string.Stos width.B)
    else (if bytes_eq word (codes "stosw") then Some (mnemonic.Str string.Stos width.W)
    else (if bytes_eq word (codes "stosd") then Some (mnemonic.Str string.Stos width.D)
    else (if bytes_eq word (codes "lodsb") then Some (mnemonic.Str string.Lods width.B)
    else (if bytes_eq word (codes "lodsw") then Some (mnemonic.Str string.Lods width.W)
    else (if bytes_eq word (codes "lodsd") then Some (mnemonic.Str string.Lods width.D)
    else (if bytes_eq word (codes "scasb") then Some (mnemonic.Str string.Scas width.B)
    else (if bytes_eq word (codes "scasw") then Some (mnemonic.Str string.Scas width.W)
    else (if bytes_eq word (codes "scasd") then Some (mnemonic.Str string.Scas width.D)
    else None))))))))))))))

-- those of single flags, and of the accumulator
unfoldable pub flag_named : List ℕ → Option Mnemonic
flag_named word =
    if bytes_eq word (codes "cmc") then Some (mnemonic.Lone (insn.Flag flag.Cmc))
    else (if bytes_eq word (codes "clc") then Some (mnemonic.Lone (insn.Flag flag.Clc))
    else (if bytes_eq word (codes "stc") then Some (mnemonic.Lone (insn.Flag flag.Stc))
    else (if bytes_eq word (codes "cld") then Some (mnemonic.Lone (insn.Flag flag.Cld))
    else (if bytes_eq word (codes "std") then Some (mnemonic.Lone (insn.Flag flag.Std))
    else (if bytes_eq word (codes "cbw") then Some (mnemonic.Lone (insn.Cbw width.W))
    else (if bytes_eq word (codes "cwde") then Some (mnemonic.Lone (insn.Cbw width.D))
    else (if bytes_eq word (codes "cwd") then Some (mnemonic.Lone (insn.Cwd width.W))
    else (if bytes_eq word (codes "cdq") then Some (mnemonic.Lone (insn.Cwd width.D))
    else None))))))))

-- those of what shows no operand
unfoldable pub lone_named : List ℕ → Option Mnemonic
lone_named word =
    if bytes_eq word (codes "pushad") then Some (mnemonic.Lone insn.Pushad)
    else (if bytes_eq word (codes "popad") then Some (mnemonic.Lone insn.Popad)
    else (if bytes_eq word (codes "pushfd") then Some (mnemonic.Lone insn.Pushfd)
    else (if bytes_eq word (codes "popfd") then Some (mnemonic.Lone insn.Popfd)
    else (if bytes_eq word (codes "leave") then Some (mnemonic.Lone insn.Leave)
    else (if bytes_eq word (codes "xlatb") then Some (mnemonic.Lone insn.Xlat)
    else (if bytes_eq word (codes "lahf") then Some (mnemonic.Lone insn.Lahf)
    else (if bytes_eq word (codes "sahf") then Some (mnemonic.Lone insn.Sahf)
    else (if bytes_eq word (codes "nop") then Some (mnemonic.Lone insn.Nop)
    else (if bytes_eq word (codes "pause") then Some (mnemonic.Lone insn.Pause)
    else (if bytes_eq word (codes "endbr32") then Some (mnemonic.Lone insn.Endbr)
    else (if bytes_eq word (codes "cpuid") then Some (mnemonic.Lone insn.Cpuid)
    else (if bytes_eq word (codes "int3") then Some (mnemonic.Lone insn.Int3)
    else (if bytes_eq word (codes "hlt") then Some (mnemonic.Lone insn.Hlt)
    else (if bytes_eq word (codes "ud2") then Some (mnemonic.Lone insn.Ud2)
    else None))))))))))))))

-- those of jumps, loops and calls
unfoldable pub transfer_named : List ℕ → Option Mnemonic
transfer_named word =
    if bytes_eq word (codes "jmp") then Some mnemonic.Jump
    else (if bytes_eq word (codes "call") then Some mnemonic.Call
    else (if bytes_eq word (codes "loopne") then Some (mnemonic.Loop loop.Ne)
    else (if bytes_eq word (codes "loope") then Some (mnemonic.Loop loop.E)
    else (if bytes_eq word (codes "loop") then Some (mnemonic.Loop loop.Plain)
    else (if bytes_eq word (codes "jecxz") then Some (mnemonic.Loop loop.Ecxz)
    else None)))))

-- the condition of some letters
unfoldable pub low_condition_named : List ℕ → Option Cond
low_condition_named word =
    if bytes_eq word (codes "o") then Some cond.O
    else (if bytes_eq word (codes "no") then Some cond.No
    else (if bytes_eq word (codes "b") then Some cond.B
    else (if bytes_eq word (codes "ae") then Some cond.Ae
    else (if bytes_eq word (codes "e") then Some cond.E
    else (if bytes_eq word (codes "ne") then Some cond.Ne
    else (if bytes_eq word (codes "be") then Some cond.Be
    else (if bytes_eq word (codes "a") then Some cond.A
    else None)))))))

unfoldable pub high_condition_named : List ℕ → Option Cond
high_condition_named word =
    if bytes_eq word (codes "s") then Some cond.S
    else (if bytes_eq word (codes "ns") then Some cond.Ns
    else (if bytes_eq word (codes "p") then Some cond.P
    else (if bytes_eq word (codes "np") then Some cond.Np
    else (if bytes_eq word (codes "l") then Some cond.L
    else (if bytes_eq word (codes "ge") then Some cond.Ge
    else (if bytes_eq word (codes "le") then Some cond.Le
    else (if bytes_eq word (codes "g") then Some cond.G
    else None)))))))

unfoldable pub condition_named : List ℕ → Option Cond
condition_named word = option_map_or Some (low_condition_named word) (high_condition_named word)

-- a word that ends with a condition
unfoldable pub conditional_named : List ℕ → Option Mnemonic
conditional_named word =
    option_map_or (λ rest. option_map mnemonic.Set (condition_named rest)) (behind (codes "set") word) (
    option_map_or (λ rest. option_map mnemonic.Cmov (condition_named rest)) (behind (codes "cmov") word) (
    option_and_then (λ rest. option_map mnemonic.Branch (condition_named rest)) (behind (codes "j") word)))

unfoldable pub low_mnemonic_named : List ℕ → Option Mnemonic
low_mnemonic_named word =
    option_map_or Some (alu_named word) (
    option_map_or Some (shifting_named word) (
    option_map_or Some (single_named word) (
    moving_named word)))

unfoldable pub high_mnemonic_named : List ℕ → Option Mnemonic
high_mnemonic_named word =
    option_map_or Some (string_named word) (
    option_map_or Some (flag_named word) (
    option_map_or Some (lone_named word) (
    option_map_or Some (transfer_named word) (
    conditional_named word))))

unfoldable pub mnemonic_named : List ℕ → Option Mnemonic
mnemonic_named word = option_map_or Some (low_mnemonic_named word) (high_mnemonic_named word)
