-- How bytes and direct transfers to labels are found in a line.
use Rattle.std.specs.Prelude.{ℕ, Bool, false, ◌==◌, nat_lt, if◌then◌else◌, List, length, codes, Option, Some, None, option_and_then}
use Rattle.std.specs.Option.{option_map_or}
use Rattle.std.specs.Str.{bytes_eq}
use Rattle.mv_base.specs.Reading.{behind, pairs_in}
use Rattle.x86_insn.specs.declared.insn.Insn.{Insn}
use Rattle.x86_insn.specs.declared.insn.Insn.TheVariants as insn
use Rattle.insn_text.specs.Names.{stem, ending}
use Rattle.mini_asm.specs.declared.mnemonic.Mnemonic.{Mnemonic}
use Rattle.mini_asm.specs.declared.mnemonic.Mnemonic.TheVariants as mnemonic
use Rattle.mini_asm.specs.Mnemonics.{mnemonic_named}
use Rattle.mini_asm.specs.Names.{is_name}
use Rattle.mini_asm.specs.Words.{word_at}

-- bytes: some pairs of digits, and not too many
unfoldable pub digits_in : List ℕ → Option (List ℕ)
digits_in text = if length text == 0 then None else (if nat_lt 8192 (length text) then None else pairs_in text)

unfoldable pub raw_in : List ℕ → Option (List ℕ)
raw_in line = option_and_then (λ text. digits_in text) (behind (codes "bytes ") line)

-- the direct transfer of an operation; how far it goes is 0
abbrev pub transfer : Mnemonic → Option Insn
transfer mnemonic.Jump = Some (insn.Jump 0)
transfer (mnemonic.Branch cond) = Some (insn.Branch cond 0)
transfer (mnemonic.Loop kind) = Some (insn.Loop kind 0)
transfer mnemonic.Call = Some (insn.Call 0)
transfer m = None

unfoldable pub named_transfer : List ℕ → Option Insn
named_transfer word = option_and_then (λ m. transfer m) (mnemonic_named word)

-- a word is the mnemonic of an instruction
unfoldable pub is_mnemonic : List ℕ → Insn → Bool
is_mnemonic word i = option_map_or (λ rest. bytes_eq rest (ending i)) (behind (stem i) word) false

-- a direct transfer by its mnemonic, and the name behind it
unfoldable pub aimed_at : List ℕ → List ℕ → Insn → Option (Insn × List ℕ)
aimed_at word name i = if is_name name then (if is_mnemonic word i then Some (i, name) else None) else None

unfoldable pub aimed_in : List ℕ → Option (Insn × List ℕ)
aimed_in line = option_and_then (λ i. aimed_at (word_at line).0 (word_at line).1 i) (named_transfer (word_at line).0)
