-- How operands are taken from the front of a text. This project's own.
use Rattle.std.specs.Prelude.{ℕ, ◌-◌, ◌&&◌, Bool, true, false, nat_le, nat_lt, if◌then◌else◌, List, [], ◌∷◌, codes, Option, Some, None, option_map, option_and_then}
use Rattle.std.specs.Option.{option_map_or}
use Rattle.mv_base.specs.Reading.{behind}
use Rattle.x86_insn.specs.declared.insn.Mem.{Mem}
use Rattle.x86_insn.specs.declared.insn.Reg.{Reg}
use Rattle.x86_insn.specs.declared.insn.Reg.TheVariants.{Eax, Ecx, Edx, Ebx, Esp, Ebp, Esi, Edi}
use Rattle.x86_insn.specs.declared.insn.Width.{Width}
use Rattle.x86_insn.specs.declared.insn.Width.TheVariants.{B, W, D}
use Rattle.insn_text.specs.declared.operand.Operand.{Operand}
use Rattle.insn_text.specs.declared.operand.Operand.TheVariants.{Register, Memory, Address, Number, Gs}
use Rattle.insn_text.specs.Names.{register_name}
use Rattle.mini_asm.specs.declared.operands.Part.{Part}
use Rattle.mini_asm.specs.declared.operands.Part.TheVariants.{Base, Index, Displacement}
use Rattle.mini_asm.specs.Words.{number_at}

-- a register, as far as a width reaches, where its name stands in front
abbrev pub register_or : Width → Reg → List ℕ → Option (Reg × List ℕ) → Option (Reg × List ℕ)
register_or w r text other = option_map_or (λ rest. Some (r, rest)) (behind (register_name w r) text) other

unfoldable pub low_register_at : Width → List ℕ → Option (Reg × List ℕ)
low_register_at w text =
    register_or w Eax text (register_or w Ecx text (register_or w Edx text (register_or w Ebx text None)))

unfoldable pub high_register_at : Width → List ℕ → Option (Reg × List ℕ)
high_register_at w text =
    register_or w Esp text (register_or w Ebp text (register_or w Esi text (register_or w Edi text None)))

unfoldable pub register_at : Width → List ℕ → Option (Reg × List ℕ)
register_at w text = option_map_or Some (low_register_at w text) (high_register_at w text)

-- the factor behind an index: one digit
unfoldable pub factor_at : List ℕ → Option (ℕ × List ℕ)
factor_at [] = None
factor_at (c ∷ text) = if nat_le 48 c && nat_lt c 58 then Some (c - 48, text) else None

-- a register: an index where a factor follows, else a base
unfoldable pub register_part : Reg → List ℕ → Option (Part × List ℕ)
register_part r text =
    option_map_or (λ rest. option_map (λ p. (Index r p.0, p.1)) (factor_at rest)) (behind (codes "*") text) (Some (Base r, text))

unfoldable pub part_at : List ℕ → Option (Part × List ℕ)
part_at text =
    option_map_or (λ p. register_part p.0 p.1) (register_at D text) (option_map (λ p. (Displacement p.0, p.1)) (number_at text))

-- an effective address without a part, and with one more
abbrev pub no_part : Bool → Mem
no_part gs = record { base = None; index = None; gs = gs; disp = 0 }

abbrev pub with_part : Mem → Part → Mem
with_part m (Base r) = record m { base = Some r }
with_part m (Index r factor) = record m { index = Some (r, factor) }
with_part m (Displacement n) = record m { disp = n }

-- at most three parts with `+` between any two
unfoldable pub third_part : Mem → List ℕ → Option (Mem × List ℕ)
third_part m text = option_map (λ p. (with_part m p.0, p.1)) (part_at text)

unfoldable pub second_part : Mem → List ℕ → Option (Mem × List ℕ)
second_part m text =
    option_and_then
    (λ p. option_map_or (λ rest. third_part (with_part m p.0) rest) (behind (codes "+") p.1) (Some (with_part m p.0, p.1)))
    (part_at text)

unfoldable pub parts_at : Mem → List ℕ → Option (Mem × List ℕ)
parts_at m text =
    option_and_then
    (λ p. option_map_or (λ rest. second_part (with_part m p.0) rest) (behind (codes "+") p.1) (Some (with_part m p.0, p.1)))
    (part_at text)

-- an effective address behind its bracket
unfoldable pub closed_at : Bool → List ℕ → Option (Mem × List ℕ)
closed_at gs text =
    option_and_then (λ p. option_map (λ rest. (p.0, rest)) (behind (codes "]") p.1)) (parts_at (no_part gs) text)

unfoldable pub bracket_at : List ℕ → Option (Mem × List ℕ)
bracket_at text =
    option_map_or (λ rest. closed_at true rest) (behind (codes "gs:[") text) (option_and_then (λ rest. closed_at false rest) (behind (codes "[") text))

-- memory of a width behind its word
unfoldable pub memory_at : Width → List ℕ → Option (Operand × List ℕ)
memory_at w text = option_map (λ p. (Memory w p.0, p.1)) (bracket_at text)

unfoldable pub register_operand : Width → List ℕ → Option (Operand × List ℕ)
register_operand w text = option_map (λ p. (Register w p.0, p.1)) (register_at w text)

unfoldable pub address_operand : List ℕ → Option (Operand × List ℕ)
address_operand text = option_map (λ p. (Address p.0, p.1)) (bracket_at text)

unfoldable pub number_operand : List ℕ → Option (Operand × List ℕ)
number_operand text = option_map (λ p. (Number p.0, p.1)) (number_at text)

unfoldable pub gs_operand : List ℕ → Option (Operand × List ℕ)
gs_operand text = option_map (λ rest. (Gs, rest)) (behind (codes "gs") text)

-- an operand that is no memory
unfoldable pub plain_at : List ℕ → Option (Operand × List ℕ)
plain_at text =
    option_map_or Some (address_operand text) (
    option_map_or Some (register_operand D text) (
    option_map_or Some (register_operand W text) (
    option_map_or Some (register_operand B text) (
    option_map_or Some (number_operand text) (
    gs_operand text)))))

unfoldable pub operand_at : List ℕ → Option (Operand × List ℕ)
operand_at text =
    option_map_or (λ rest. memory_at B rest) (behind (codes "byte ") text) (
    option_map_or (λ rest. memory_at W rest) (behind (codes "word ") text) (
    option_map_or (λ rest. memory_at D rest) (behind (codes "dword ") text) (
    plain_at text)))

-- one, two or three operands with a comma between any two, and nothing else
abbrev pub if_done : List ℕ → Option (List Operand) → Option (List Operand) → Option (List Operand)
if_done [] whole more = whole
if_done (c ∷ text) whole more = more

unfoldable pub last_operand : Operand → Operand → List ℕ → Option (List Operand)
last_operand a b text = option_and_then (λ p. if_done p.1 (Some (a ∷ b ∷ p.0 ∷ [])) None) (operand_at text)

unfoldable pub next_operands : Operand → List ℕ → Option (List Operand)
next_operands a text =
    option_and_then
    (λ p. if_done p.1 (Some (a ∷ p.0 ∷ [])) (option_and_then (λ rest. last_operand a p.0 rest) (behind (codes ",") p.1)))
    (operand_at text)

unfoldable pub operands_in : List ℕ → Option (List Operand)
operands_in text =
    option_and_then
    (λ p. if_done p.1 (Some (p.0 ∷ [])) (option_and_then (λ rest. next_operands p.0 rest) (behind (codes ",") p.1)))
    (operand_at text)
