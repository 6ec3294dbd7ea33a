-- The text of an instruction. Its form is this project's own, after the assembly language of the Intel SDM.
use Rattle.std.specs.Prelude.{ℕ, List, [], ◌∷◌, ◌++◌, Option, Some, None, ◌==◌, if◌then◌else◌, codes, decimal}
use Rattle.mv_base.specs.Text.{hex8}
use Rattle.x86_insn.specs.declared.insn.Insn.{Insn}
use Rattle.x86_insn.specs.declared.insn.Mem.{Mem}
use Rattle.x86_insn.specs.declared.insn.Reg.{Reg}
use Rattle.x86_insn.specs.declared.insn.Width.TheVariants.{D}
use Rattle.insn_text.specs.declared.operand.Operand.{Operand}
use Rattle.insn_text.specs.declared.operand.Operand.TheVariants.{Register, Memory, Address, Number, Gs}
use Rattle.insn_text.specs.Names.{register_name, width_word, segment_word, front_word, stem, ending}
use Rattle.insn_text.specs.Operands.{operands}

-- ---- numbers

-- digits without the zeros in front; the last digit stays
unfoldable pub significant : List ℕ → List ℕ
significant [] = []
significant (d ∷ []) = d ∷ []
significant (d ∷ e ∷ ds) = if d == 48 then significant (e ∷ ds) else d ∷ e ∷ ds

-- a number below 2^32
abbrev pub number : ℕ → List ℕ
number n = codes "0x" ++ significant (hex8 n)

-- ---- operands

-- an index and its factor
abbrev pub index_text : Reg × ℕ → List ℕ
index_text i = register_name D i.0 ++ codes "*" ++ decimal i.1

-- a displacement behind other parts of an address; one of 0 is left out
abbrev pub displaced : ℕ → List ℕ
displaced n = if n == 0 then [] else codes "+" ++ number n

-- an effective address: base, index and displacement, with `+` between any two
abbrev pub address_text : Option Reg → Option (Reg × ℕ) → ℕ → List ℕ
address_text None None n = number n
address_text None (Some i) n = index_text i ++ displaced n
address_text (Some b) None n = register_name D b ++ displaced n
address_text (Some b) (Some i) n = register_name D b ++ codes "+" ++ index_text i ++ displaced n

-- an effective address in brackets, with a word before them where it is relative to GS
abbrev pub bracket : Mem → List ℕ
bracket m = segment_word m.gs ++ codes "[" ++ address_text m.base m.index m.disp ++ codes "]"

abbrev pub operand_text : Operand → List ℕ
operand_text (Register w r) = register_name w r
operand_text (Memory w m) = width_word w ++ bracket m
operand_text (Address m) = bracket m
operand_text (Number n) = number n
operand_text Gs = codes "gs"

-- operands behind a mnemonic: a space, and a comma before each but the first
abbrev pub rest_text : List Operand → List ℕ
rest_text [] = []
rest_text (o ∷ os) = codes "," ++ operand_text o ++ rest_text os

abbrev pub operands_text : List Operand → List ℕ
operands_text [] = []
operands_text (o ∷ os) = codes " " ++ operand_text o ++ rest_text os

-- ---- instructions

-- the word in front, if any, the mnemonic and the operands, where `next` is the address behind the instruction
abbrev pub text_of : Insn → ℕ → List ℕ
text_of i next = front_word i ++ stem i ++ ending i ++ operands_text (operands i next)
