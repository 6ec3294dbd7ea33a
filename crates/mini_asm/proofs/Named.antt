-- The words of an instruction are read again: its mnemonic is one word without a word in front, and names its operation.
use Rattle.std.proofs.Common.{◌≡◌, ℕ, Bool, true, false, List, [], ◌∷◌, ◌++◌, Some, refl, ap, ◌∙◌, append_assoc}
use Rattle.mv_base.specs.Reading.{behind}
use Rattle.x86_insn.specs.declared.insn.AluOp.TheVariants as alu
use Rattle.x86_insn.specs.declared.insn.ShiftOp.TheVariants as shift
use Rattle.x86_insn.specs.declared.insn.UnOp.TheVariants as unary
use Rattle.x86_insn.specs.declared.insn.BitOp.TheVariants as bit
use Rattle.x86_insn.specs.declared.insn.StrOp.TheVariants as string
use Rattle.x86_insn.specs.declared.insn.FlagOp.TheVariants as flag
use Rattle.x86_insn.specs.declared.insn.LoopKind.TheVariants as loop
use Rattle.x86_insn.specs.declared.insn.Width.TheVariants as width
use Rattle.x86_insn.specs.declared.insn.Cond.TheVariants as cond
use Rattle.x86_insn.specs.declared.insn.Rep.{Rep}
use Rattle.x86_insn.specs.declared.insn.Rep.TheVariants as rep
use Rattle.x86_insn.specs.declared.insn.Insn.{Insn}
use Rattle.x86_insn.specs.declared.insn.Insn.TheVariants as insn
use Rattle.insn_text.specs.Names.{front_word, lock_word, stem, ending}
use Rattle.mini_asm.specs.declared.mnemonic.Mnemonic.{Mnemonic}
use Rattle.mini_asm.specs.declared.mnemonic.Mnemonic.TheVariants as mnemonic
use Rattle.mini_asm.specs.Words.{word_at}
use Rattle.mini_asm.specs.Mnemonics.{alu_named, shifting_named, single_named, moving_named, string_named, flag_named, lone_named, transfer_named, low_condition_named, high_condition_named, condition_named, conditional_named, low_mnemonic_named, high_mnemonic_named, mnemonic_named}
use Rattle.mini_asm.specs.Building.{built, candidate}

-- the operation of an instruction; those that show no operands are their own
abbrev pub operation : Insn → Mnemonic
operation (insn.Alu op w lock dst s) = mnemonic.Alu op
operation (insn.Test w dst s) = mnemonic.Test
operation (insn.Mov w dst s) = mnemonic.Mov
operation (insn.Xchg w lock dst r) = mnemonic.Xchg
operation (insn.Lea w dst m) = mnemonic.Lea
operation (insn.Movx signed from to dst s) = mnemonic.Movx signed
operation (insn.Bswap r) = mnemonic.Bswap
operation (insn.Push s) = mnemonic.Push
operation (insn.Pop dst) = mnemonic.Pop
operation (insn.Bump up w lock dst) = mnemonic.Bump up
operation (insn.Unary op w lock dst) = mnemonic.Unary op
operation (insn.Mul signed w s) = mnemonic.Mul signed
operation (insn.Div signed w s) = mnemonic.Div signed
operation (insn.Imul w dst s imm) = mnemonic.Mul true
operation (insn.Shift op w dst n) = mnemonic.Shift op
operation (insn.Double left dst s n) = mnemonic.Double left
operation (insn.Bit op w lock dst n) = mnemonic.Bit op
operation (insn.Scan up w dst s) = mnemonic.Scan up
operation (insn.Cmpxchg w lock dst s) = mnemonic.Cmpxchg
operation (insn.Xadd w lock dst s) = mnemonic.Xadd
operation (insn.Set cond dst) = mnemonic.Set cond
operation (insn.Cmov cond w dst s) = mnemonic.Cmov cond
operation (insn.Cbw width.B) = mnemonic.Lone (insn.Cbw width.W)
operation (insn.Cwd width.B) = mnemonic.Lone (insn.Cwd width.W)
operation (insn.Str op w r) = mnemonic.Str op w
operation (insn.ToGs s) = mnemonic.Mov
operation (insn.FromGs w dst) = mnemonic.Mov
operation (insn.Jump rel) = mnemonic.Jump
operation (insn.Branch cond rel) = mnemonic.Branch cond
operation (insn.Loop kind rel) = mnemonic.Loop kind
operation (insn.Call rel) = mnemonic.Call
operation (insn.JumpVia s) = mnemonic.Jump
operation (insn.CallVia s) = mnemonic.Call
operation (insn.Ret n) = mnemonic.Ret
operation insn.Int80 = mnemonic.Interrupt
operation i = mnemonic.Lone i

-- the word in front of an instruction
abbrev pub locks : Insn → Bool
locks (insn.Alu op w lock dst s) = lock
locks (insn.Xchg w lock dst r) = lock
locks (insn.Bump up w lock dst) = lock
locks (insn.Unary op w lock dst) = lock
locks (insn.Bit op w lock dst n) = lock
locks (insn.Cmpxchg w lock dst s) = lock
locks (insn.Xadd w lock dst s) = lock
locks i = false

abbrev pub repeats : Insn → Rep
repeats (insn.Str op w r) = r
repeats i = rep.Once

-- a word with no word in front names an operation
pub record Reads (word : List ℕ) (m : Mnemonic) : Type 0 where
  pub plain : (t : List ℕ) → candidate (word ++ t) ≡ built false rep.Once (word ++ t)
  pub spaced : (t : List ℕ) → word_at (word ++ 32 ∷ t) ≡ (word, t)
  pub alone : word_at word ≡ (word, [])
  pub named : mnemonic_named word ≡ Some m

pub reads : (i : Insn) → Reads (stem i ++ ending i) (operation i)
unfolding candidate word_at mnemonic_named low_mnemonic_named high_mnemonic_named alu_named shifting_named single_named moving_named string_named flag_named lone_named transfer_named conditional_named condition_named low_condition_named high_condition_named behind
reads (insn.Alu alu.Add w lock dst s) = record { plain = λ t. refl; spaced = λ t. refl; alone = refl; named = refl }
reads (insn.Alu alu.Or w lock dst s) = record { plain = λ t. refl; spaced = λ t. refl; alone = refl; named = refl }
reads (insn.Alu alu.Adc w lock dst s) = record { plain = λ t. refl; spaced = λ t. refl; alone = refl; named = refl }
reads (insn.Alu alu.Sbb w lock dst s) = record { plain = λ t. refl; spaced = λ t. refl; alone = refl; named = refl }
reads (insn.Alu alu.And w lock dst s) = record { plain = λ t. refl; spaced = λ t. refl; alone = refl; named = refl }
reads (insn.Alu alu.Sub w lock dst s) = record { plain = λ t. refl; spaced = λ t. refl; alone = refl; named = refl }
reads (insn.Alu alu.Xor w lock dst s) = record { plain = λ t. refl; spaced = λ t. refl; alone = refl; named = refl }
reads (insn.Alu alu.Cmp w lock dst s) = record { plain = λ t. refl; spaced = λ t. refl; alone = refl; named = refl }
reads (insn.Test w dst s) = record { plain = λ t. refl; spaced = λ t. refl; alone = refl; named = refl }
reads (insn.Mov w dst s) = record { plain = λ t. refl; spaced = λ t. refl; alone = refl; named = refl }
reads (insn.Xchg w lock dst r) = record { plain = λ t. refl; spaced = λ t. refl; alone = refl; named = refl }
reads (insn.Lea w dst m) = record { plain = λ t. refl; spaced = λ t. refl; alone = refl; named = refl }
reads (insn.Movx true from to dst s) = record { plain = λ t. refl; spaced = λ t. refl; alone = refl; named = refl }
reads (insn.Movx false from to dst s) = record { plain = λ t. refl; spaced = λ t. refl; alone = refl; named = refl }
reads (insn.Bswap r) = record { plain = λ t. refl; spaced = λ t. refl; alone = refl; named = refl }
reads (insn.Push s) = record { plain = λ t. refl; spaced = λ t. refl; alone = refl; named = refl }
reads (insn.Pop dst) = record { plain = λ t. refl; spaced = λ t. refl; alone = refl; named = refl }
reads insn.Pushad = record { plain = λ t. refl; spaced = λ t. refl; alone = refl; named = refl }
reads insn.Popad = record { plain = λ t. refl; spaced = λ t. refl; alone = refl; named = refl }
reads insn.Pushfd = record { plain = λ t. refl; spaced = λ t. refl; alone = refl; named = refl }
reads insn.Popfd = record { plain = λ t. refl; spaced = λ t. refl; alone = refl; named = refl }
reads insn.Leave = record { plain = λ t. refl; spaced = λ t. refl; alone = refl; named = refl }
reads (insn.Bump true w lock dst) = record { plain = λ t. refl; spaced = λ t. refl; alone = refl; named = refl }
reads (insn.Bump false w lock dst) = record { plain = λ t. refl; spaced = λ t. refl; alone = refl; named = refl }
reads (insn.Unary unary.Not w lock dst) = record { plain = λ t. refl; spaced = λ t. refl; alone = refl; named = refl }
reads (insn.Unary unary.Neg w lock dst) = record { plain = λ t. refl; spaced = λ t. refl; alone = refl; named = refl }
reads (insn.Mul true w s) = record { plain = λ t. refl; spaced = λ t. refl; alone = refl; named = refl }
reads (insn.Mul false w s) = record { plain = λ t. refl; spaced = λ t. refl; alone = refl; named = refl }
reads (insn.Div true w s) = record { plain = λ t. refl; spaced = λ t. refl; alone = refl; named = refl }
reads (insn.Div false w s) = record { plain = λ t. refl; spaced = λ t. refl; alone = refl; named = refl }
reads (insn.Imul w dst s imm) = record { plain = λ t. refl; spaced = λ t. refl; alone = refl; named = refl }
reads (insn.Shift shift.Rol w dst n) = record { plain = λ t. refl; spaced = λ t. refl; alone = refl; named = refl }
reads (insn.Shift shift.Ror w dst n) = record { plain = λ t. refl; spaced = λ t. refl; alone = refl; named = refl }
reads (insn.Shift shift.Rcl w dst n) = record { plain = λ t. refl; spaced = λ t. refl; alone = refl; named = refl }
reads (insn.Shift shift.Rcr w dst n) = record { plain = λ t. refl; spaced = λ t. refl; alone = refl; named = refl }
reads (insn.Shift shift.Shl w dst n) = record { plain = λ t. refl; spaced = λ t. refl; alone = refl; named = refl }
reads (insn.Shift shift.Shr w dst n) = record { plain = λ t. refl; spaced = λ t. refl; alone = refl; named = refl }
reads (insn.Shift shift.Sar w dst n) = record { plain = λ t. refl; spaced = λ t. refl; alone = refl; named = refl }
reads (insn.Double true dst s n) = record { plain = λ t. refl; spaced = λ t. refl; alone = refl; named = refl }
reads (insn.Double false dst s n) = record { plain = λ t. refl; spaced = λ t. refl; alone = refl; named = refl }
reads (insn.Bit bit.Bt w lock dst n) = record { plain = λ t. refl; spaced = λ t. refl; alone = refl; named = refl }
reads (insn.Bit bit.Bts w lock dst n) = record { plain = λ t. refl; spaced = λ t. refl; alone = refl; named = refl }
reads (insn.Bit bit.Btr w lock dst n) = record { plain = λ t. refl; spaced = λ t. refl; alone = refl; named = refl }
reads (insn.Bit bit.Btc w lock dst n) = record { plain = λ t. refl; spaced = λ t. refl; alone = refl; named = refl }
reads (insn.Scan true w dst s) = record { plain = λ t. refl; spaced = λ t. refl; alone = refl; named = refl }
reads (insn.Scan false w dst s) = record { plain = λ t. refl; spaced = λ t. refl; alone = refl; named = refl }
reads (insn.Cmpxchg w lock dst s) = record { plain = λ t. refl; spaced = λ t. refl; alone = refl; named = refl }
reads (insn.Xadd w lock dst s) = record { plain = λ t. refl; spaced = λ t. refl; alone = refl; named = refl }
reads (insn.Set cond.O dst) = record { plain = λ t. refl; spaced = λ t. refl; alone = refl; named = refl }
reads (insn.Set cond.No dst) = record { plain = λ t. refl; spaced = λ t. refl; alone = refl; named = refl }
reads (insn.Set cond.B dst) = record { plain = λ t. refl; spaced = λ t. refl; alone = refl; named = refl }
reads (insn.Set cond.Ae dst) = record { plain = λ t. refl; spaced = λ t. refl; alone = refl; named = refl }
reads (insn.Set cond.E dst) = record { plain = λ t. refl; spaced = λ t. refl; alone = refl; named = refl }
reads (insn.Set cond.Ne dst) = record { plain = λ t. refl; spaced = λ t. refl; alone = refl; named = refl }
reads (insn.Set cond.Be dst) = record { plain = λ t. refl; spaced = λ t. refl; alone = refl; named = refl }
reads (insn.Set cond.A dst) = record { plain = λ t. refl; spaced = λ t. refl; alone = refl; named = refl }
reads (insn.Set cond.S dst) = record { plain = λ t. refl; spaced = λ t. refl; alone = refl; named = refl }
reads (insn.Set cond.Ns dst) = record { plain = λ t. refl; spaced = λ t. refl; alone = refl; named = refl }
reads (insn.Set cond.P dst) = record { plain = λ t. refl; spaced = λ t. refl; alone = refl; named = refl }
reads (insn.Set cond.Np dst) = record { plain = λ t. refl; spaced = λ t. refl; alone = refl; named = refl }
reads (insn.Set cond.L dst) = record { plain = λ t. refl; spaced = λ t. refl; alone = refl; named = refl }
reads (insn.Set cond.Ge dst) = record { plain = λ t. refl; spaced = λ t. refl; alone = refl; named = refl }
reads (insn.Set cond.Le dst) = record { plain = λ t. refl; spaced = λ t. refl; alone = refl; named = refl }
reads (insn.Set cond.G dst) = record { plain = λ t. refl; spaced = λ t. refl; alone = refl; named = refl }
reads (insn.Cmov cond.O w dst s) = record { plain = λ t. refl; spaced = λ t. refl; alone = refl; named = refl }
reads (insn.Cmov cond.No w dst s) = record { plain = λ t. refl; spaced = λ t. refl; alone = refl; named = refl }
reads (insn.Cmov cond.B w dst s) = record { plain = λ t. refl; spaced = λ t. refl; alone = refl; named = refl }
reads (insn.Cmov cond.Ae w dst s) = record { plain = λ t. refl; spaced = λ t. refl; alone = refl; named = refl }
reads (insn.Cmov cond.E w dst s) = record { plain = λ t. refl; spaced = λ t. refl; alone = refl; named = refl }
reads (insn.Cmov cond.Ne w dst s) = record { plain = λ t. refl; spaced = λ t. refl; alone = refl; named = refl }
reads (insn.Cmov cond.Be w dst s) = record { plain = λ t. refl; spaced = λ t. refl; alone = refl; named = refl }
reads (insn.Cmov cond.A w dst s) = record { plain = λ t. refl; spaced = λ t. refl; alone = refl; named = refl }
reads (insn.Cmov cond.S w dst s) = record { plain = λ t. refl; spaced = λ t. refl; alone = refl; named = refl }
reads (insn.Cmov cond.Ns w dst s) = record { plain = λ t. refl; spaced = λ t. refl; alone = refl; named = refl }
reads (insn.Cmov cond.P w dst s) = record { plain = λ t. refl; spaced = λ t. refl; alone = refl; named = refl }
reads (insn.Cmov cond.Np w dst s) = record { plain = λ t. refl; spaced = λ t. refl; alone = refl; named = refl }
reads (insn.Cmov cond.L w dst s) = record { plain = λ t. refl; spaced = λ t. refl; alone = refl; named = refl }
reads (insn.Cmov cond.Ge w dst s) = record { plain = λ t. refl; spaced = λ t. refl; alone = refl; named = refl }
reads (insn.Cmov cond.Le w dst s) = record { plain = λ t. refl; spaced = λ t. refl; alone = refl; named = refl }
reads (insn.Cmov cond.G w dst s) = record { plain = λ t. refl; spaced = λ t. refl; alone = refl; named = refl }
reads (insn.Cbw width.B) = record { plain = λ t. refl; spaced = λ t. refl; alone = refl; named = refl }
reads (insn.Cbw width.W) = record { plain = λ t. refl; spaced = λ t. refl; alone = refl; named = refl }
reads (insn.Cbw width.D) = record { plain = λ t. refl; spaced = λ t. refl; alone = refl; named = refl }
reads (insn.Cwd width.B) = record { plain = λ t. refl; spaced = λ t. refl; alone = refl; named = refl }
reads (insn.Cwd width.W) = record { plain = λ t. refl; spaced = λ t. refl; alone = refl; named = refl }
reads (insn.Cwd width.D) = record { plain = λ t. refl; spaced = λ t. refl; alone = refl; named = refl }
reads (insn.Str string.Movs width.B r) = record { plain = λ t. refl; spaced = λ t. refl; alone = refl; named = refl }
reads (insn.Str string.Movs width.W r) = record { plain = λ t. refl; spaced = λ t. refl; alone = refl; named = refl }
reads (insn.Str string.Movs width.D r) = record { plain = λ t. refl; spaced = λ t. refl; alone = refl; named = refl }
reads (insn.Str string.Cmps width.B r) = record { plain = λ t. refl; spaced = λ t. refl; alone = refl; named = refl }
reads (insn.Str string.Cmps width.W r) = record { plain = λ t. refl; spaced = λ t. refl; alone = refl; named = refl }
reads (insn.Str string.Cmps width.D r) = record { plain = λ t. refl; spaced = λ t. refl; alone = refl; named = refl }
reads (insn.Str string.Stos width.B r) = record { plain = λ t. refl; spaced = λ t. refl; alone = refl; named = refl }
reads (insn.Str string.Stos width.W r) = record { plain = λ t. refl; spaced = λ t. refl; alone = refl; named = refl }
reads (insn.Str string.Stos width.D r) = record { plain = λ t. refl; spaced = λ t. refl; alone = refl; named = refl }
reads (insn.Str string.Lods width.B r) = record { plain = λ t. refl; spaced = λ t. refl; alone = refl; named = refl }
reads (insn.Str string.Lods width.W r) = record { plain = λ t. refl; spaced = λ t. refl; alone = refl; named = refl }
reads (insn.Str string.Lods width.D r) = record { plain = λ t. refl; spaced = λ t. refl; alone = refl; named = refl }
reads (insn.Str string.Scas width.B r) = record { plain = λ t. refl; spaced = λ t. refl; alone = refl; named = refl }
reads (insn.Str string.Scas width.W r) = record { plain = λ t. refl; spaced = λ t. refl; alone = refl; named = refl }
reads (insn.Str string.Scas width.D r) = record { plain = λ t. refl; spaced = λ t. refl; alone = refl; named = refl }
reads insn.Xlat = record { plain = λ t. refl; spaced = λ t. refl; alone = refl; named = refl }
reads insn.Lahf = record { plain = λ t. refl; spaced = λ t. refl; alone = refl; named = refl }
reads insn.Sahf = record { plain = λ t. refl; spaced = λ t. refl; alone = refl; named = refl }
reads (insn.Flag flag.Cmc) = record { plain = λ t. refl; spaced = λ t. refl; alone = refl; named = refl }
reads (insn.Flag flag.Clc) = record { plain = λ t. refl; spaced = λ t. refl; alone = refl; named = refl }
reads (insn.Flag flag.Stc) = record { plain = λ t. refl; spaced = λ t. refl; alone = refl; named = refl }
reads (insn.Flag flag.Cld) = record { plain = λ t. refl; spaced = λ t. refl; alone = refl; named = refl }
reads (insn.Flag flag.Std) = record { plain = λ t. refl; spaced = λ t. refl; alone = refl; named = refl }
reads insn.Nop = record { plain = λ t. refl; spaced = λ t. refl; alone = refl; named = refl }
reads insn.Pause = record { plain = λ t. refl; spaced = λ t. refl; alone = refl; named = refl }
reads insn.Endbr = record { plain = λ t. refl; spaced = λ t. refl; alone = refl; named = refl }
reads (insn.ToGs s) = record { plain = λ t. refl; spaced = λ t. refl; alone = refl; named = refl }
reads (insn.FromGs w dst) = record { plain = λ t. refl; spaced = λ t. refl; alone = refl; named = refl }
reads insn.Cpuid = record { plain = λ t. refl; spaced = λ t. refl; alone = refl; named = refl }
reads (insn.Jump rel) = record { plain = λ t. refl; spaced = λ t. refl; alone = refl; named = refl }
reads (insn.Branch cond.O rel) = record { plain = λ t. refl; spaced = λ t. refl; alone = refl; named = refl }
reads (insn.Branch cond.No rel) = record { plain = λ t. refl; spaced = λ t. refl; alone = refl; named = refl }
reads (insn.Branch cond.B rel) = record { plain = λ t. refl; spaced = λ t. refl; alone = refl; named = refl }
reads (insn.Branch cond.Ae rel) = record { plain = λ t. refl; spaced = λ t. refl; alone = refl; named = refl }
reads (insn.Branch cond.E rel) = record { plain = λ t. refl; spaced = λ t. refl; alone = refl; named = refl }
reads (insn.Branch cond.Ne rel) = record { plain = λ t. refl; spaced = λ t. refl; alone = refl; named = refl }
reads (insn.Branch cond.Be rel) = record { plain = λ t. refl; spaced = λ t. refl; alone = refl; named = refl }
reads (insn.Branch cond.A rel) = record { plain = λ t. refl; spaced = λ t. refl; alone = refl; named = refl }
reads (insn.Branch cond.S rel) = record { plain = λ t. refl; spaced = λ t. refl; alone = refl; named = refl }
reads (insn.Branch cond.Ns rel) = record { plain = λ t. refl; spaced = λ t. refl; alone = refl; named = refl }
reads (insn.Branch cond.P rel) = record { plain = λ t. refl; spaced = λ t. refl; alone = refl; named = refl }
reads (insn.Branch cond.Np rel) = record { plain = λ t. refl; spaced = λ t. refl; alone = refl; named = refl }
reads (insn.Branch cond.L rel) = record { plain = λ t. refl; spaced = λ t. refl; alone = refl; named = refl }
reads (insn.Branch cond.Ge rel) = record { plain = λ t. refl; spaced = λ t. refl; alone = refl; named = refl }
reads (insn.Branch cond.Le rel) = record { plain = λ t. refl; spaced = λ t. refl; alone = refl; named = refl }
reads (insn.Branch cond.G rel) = record { plain = λ t. refl; spaced = λ t. refl; alone = refl; named = refl }
reads (insn.Loop loop.Ne rel) = record { plain = λ t. refl; spaced = λ t. refl; alone = refl; named = refl }
reads (insn.Loop loop.E rel) = record { plain = λ t. refl; spaced = λ t. refl; alone = refl; named = refl }
reads (insn.Loop loop.Plain rel) = record { plain = λ t. refl; spaced = λ t. refl; alone = refl; named = refl }
reads (insn.Loop loop.Ecxz rel) = record { plain = λ t. refl; spaced = λ t. refl; alone = refl; named = refl }
reads (insn.Call rel) = record { plain = λ t. refl; spaced = λ t. refl; alone = refl; named = refl }
reads (insn.JumpVia s) = record { plain = λ t. refl; spaced = λ t. refl; alone = refl; named = refl }
reads (insn.CallVia s) = record { plain = λ t. refl; spaced = λ t. refl; alone = refl; named = refl }
reads (insn.Ret n) = record { plain = λ t. refl; spaced = λ t. refl; alone = refl; named = refl }
reads insn.Int80 = record { plain = λ t. refl; spaced = λ t. refl; alone = refl; named = refl }
reads insn.Int3 = record { plain = λ t. refl; spaced = λ t. refl; alone = refl; named = refl }
reads insn.Hlt = record { plain = λ t. refl; spaced = λ t. refl; alone = refl; named = refl }
reads insn.Ud2 = record { plain = λ t. refl; spaced = λ t. refl; alone = refl; named = refl }

-- the word in front is found
lock_again : (b : Bool) (w o : List ℕ) (m : Mnemonic) → Reads w m → candidate ((lock_word b ++ w) ++ o) ≡ built b rep.Once (w ++ o)
unfolding candidate behind
lock_again true w o m reads = refl
lock_again false w o m reads = reads.plain o

word_in_front : (a b c d : List ℕ) → ((a ++ b) ++ c) ++ d ≡ (a ++ (b ++ c)) ++ d
word_in_front a b c d = ap (λ t. t ++ d) (append_assoc a b c)

pub front-again : (i : Insn) (o : List ℕ) → candidate (front_word i ++ stem i ++ ending i ++ o) ≡ built (locks i) (repeats i) (stem i ++ ending i ++ o)
unfolding candidate behind
front-again (insn.Alu op w lock dst s) o = ap candidate (word_in_front (lock_word lock) (stem (insn.Alu op w lock dst s)) (ending (insn.Alu op w lock dst s)) o) ∙ lock_again lock (stem (insn.Alu op w lock dst s) ++ ending (insn.Alu op w lock dst s)) o (operation (insn.Alu op w lock dst s)) (reads (insn.Alu op w lock dst s))
front-again (insn.Xchg w lock dst r) o = ap candidate (word_in_front (lock_word lock) (stem (insn.Xchg w lock dst r)) (ending (insn.Xchg w lock dst r)) o) ∙ lock_again lock (stem (insn.Xchg w lock dst r) ++ ending (insn.Xchg w lock dst r)) o (operation (insn.Xchg w lock dst r)) (reads (insn.Xchg w lock dst r))
front-again (insn.Bump up w lock dst) o = ap candidate (word_in_front (lock_word lock) (stem (insn.Bump up w lock dst)) (ending (insn.Bump up w lock dst)) o) ∙ lock_again lock (stem (insn.Bump up w lock dst) ++ ending (insn.Bump up w lock dst)) o (operation (insn.Bump up w lock dst)) (reads (insn.Bump up w lock dst))
front-again (insn.Unary op w lock dst) o = ap candidate (word_in_front (lock_word lock) (stem (insn.Unary op w lock dst)) (ending (insn.Unary op w lock dst)) o) ∙ lock_again lock (stem (insn.Unary op w lock dst) ++ ending (insn.Unary op w lock dst)) o (operation (insn.Unary op w lock dst)) (reads (insn.Unary op w lock dst))
front-again (insn.Bit op w lock dst n) o = ap candidate (word_in_front (lock_word lock) (stem (insn.Bit op w lock dst n)) (ending (insn.Bit op w lock dst n)) o) ∙ lock_again lock (stem (insn.Bit op w lock dst n) ++ ending (insn.Bit op w lock dst n)) o (operation (insn.Bit op w lock dst n)) (reads (insn.Bit op w lock dst n))
front-again (insn.Cmpxchg w lock dst s) o = ap candidate (word_in_front (lock_word lock) (stem (insn.Cmpxchg w lock dst s)) (ending (insn.Cmpxchg w lock dst s)) o) ∙ lock_again lock (stem (insn.Cmpxchg w lock dst s) ++ ending (insn.Cmpxchg w lock dst s)) o (operation (insn.Cmpxchg w lock dst s)) (reads (insn.Cmpxchg w lock dst s))
front-again (insn.Xadd w lock dst s) o = ap candidate (word_in_front (lock_word lock) (stem (insn.Xadd w lock dst s)) (ending (insn.Xadd w lock dst s)) o) ∙ lock_again lock (stem (insn.Xadd w lock dst s) ++ ending (insn.Xadd w lock dst s)) o (operation (insn.Xadd w lock dst s)) (reads (insn.Xadd w lock dst s))
front-again (insn.Str string.Movs w rep.Once) o = (reads (insn.Str string.Movs w rep.Once)).plain o
front-again (insn.Str string.Movs w rep.F3) o = refl
front-again (insn.Str string.Movs w rep.F2) o = refl
front-again (insn.Str string.Cmps w rep.Once) o = (reads (insn.Str string.Cmps w rep.Once)).plain o
front-again (insn.Str string.Cmps w rep.F3) o = refl
front-again (insn.Str string.Cmps w rep.F2) o = refl
front-again (insn.Str string.Stos w rep.Once) o = (reads (insn.Str string.Stos w rep.Once)).plain o
front-again (insn.Str string.Stos w rep.F3) o = refl
front-again (insn.Str string.Stos w rep.F2) o = refl
front-again (insn.Str string.Lods w rep.Once) o = (reads (insn.Str string.Lods w rep.Once)).plain o
front-again (insn.Str string.Lods w rep.F3) o = refl
front-again (insn.Str string.Lods w rep.F2) o = refl
front-again (insn.Str string.Scas w rep.Once) o = (reads (insn.Str string.Scas w rep.Once)).plain o
front-again (insn.Str string.Scas w rep.F3) o = refl
front-again (insn.Str string.Scas w rep.F2) o = refl
front-again (insn.Test w dst s) o = (reads (insn.Test w dst s)).plain o
front-again (insn.Mov w dst s) o = (reads (insn.Mov w dst s)).plain o
front-again (insn.Lea w dst m) o = (reads (insn.Lea w dst m)).plain o
front-again (insn.Movx signed from to dst s) o = (reads (insn.Movx signed from to dst s)).plain o
front-again (insn.Bswap r) o = (reads (insn.Bswap r)).plain o
front-again (insn.Push s) o = (reads (insn.Push s)).plain o
front-again (insn.Pop dst) o = (reads (insn.Pop dst)).plain o
front-again insn.Pushad o = (reads insn.Pushad).plain o
front-again insn.Popad o = (reads insn.Popad).plain o
front-again insn.Pushfd o = (reads insn.Pushfd).plain o
front-again insn.Popfd o = (reads insn.Popfd).plain o
front-again insn.Leave o = (reads insn.Leave).plain o
front-again (insn.Mul signed w s) o = (reads (insn.Mul signed w s)).plain o
front-again (insn.Div signed w s) o = (reads (insn.Div signed w s)).plain o
front-again (insn.Imul w dst s imm) o = (reads (insn.Imul w dst s imm)).plain o
front-again (insn.Shift op w dst n) o = (reads (insn.Shift op w dst n)).plain o
front-again (insn.Double left dst s n) o = (reads (insn.Double left dst s n)).plain o
front-again (insn.Scan up w dst s) o = (reads (insn.Scan up w dst s)).plain o
front-again (insn.Set c dst) o = (reads (insn.Set c dst)).plain o
front-again (insn.Cmov c w dst s) o = (reads (insn.Cmov c w dst s)).plain o
front-again (insn.Cbw w) o = (reads (insn.Cbw w)).plain o
front-again (insn.Cwd w) o = (reads (insn.Cwd w)).plain o
front-again insn.Xlat o = (reads insn.Xlat).plain o
front-again insn.Lahf o = (reads insn.Lahf).plain o
front-again insn.Sahf o = (reads insn.Sahf).plain o
front-again (insn.Flag op) o = (reads (insn.Flag op)).plain o
front-again insn.Nop o = (reads insn.Nop).plain o
front-again insn.Pause o = (reads insn.Pause).plain o
front-again insn.Endbr o = (reads insn.Endbr).plain o
front-again (insn.ToGs s) o = (reads (insn.ToGs s)).plain o
front-again (insn.FromGs w dst) o = (reads (insn.FromGs w dst)).plain o
front-again insn.Cpuid o = (reads insn.Cpuid).plain o
front-again (insn.Jump rel) o = (reads (insn.Jump rel)).plain o
front-again (insn.Branch c rel) o = (reads (insn.Branch c rel)).plain o
front-again (insn.Loop kind rel) o = (reads (insn.Loop kind rel)).plain o
front-again (insn.Call rel) o = (reads (insn.Call rel)).plain o
front-again (insn.JumpVia s) o = (reads (insn.JumpVia s)).plain o
front-again (insn.CallVia s) o = (reads (insn.CallVia s)).plain o
front-again (insn.Ret n) o = (reads (insn.Ret n)).plain o
front-again insn.Int80 o = (reads insn.Int80).plain o
front-again insn.Int3 o = (reads insn.Int3).plain o
front-again insn.Hlt o = (reads insn.Hlt).plain o
front-again insn.Ud2 o = (reads insn.Ud2).plain o
