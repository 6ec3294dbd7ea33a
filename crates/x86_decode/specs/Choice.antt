-- What a choice of a form says of what bytes come to. This project's own.
use Rattle.std.specs.Prelude.{◌≡◌}
use Rattle.x86_insn.specs.declared.row.Marks.{Marks}
use Rattle.x86_insn.specs.Meaning.{meaning}
use Rattle.x86_insn.specs.Spelling.{operands_of}
use Rattle.x86_insn.specs.Scanning.{Scan, Found, Nothing}
use Rattle.x86_decode.specs.declared.choice.Choice.{Choice}
use Rattle.x86_decode.specs.declared.choice.Choice.TheVariants.{By, Nowhere, Open}

-- bytes behind prefixes that set these marks come to the chosen form's instruction, or to none
abbrev pub IsChoice : Choice → Marks → Scan → Type 0
IsChoice (By form opcode operands len) m scan = scan ≡ Found (meaning form.now.kind (operands_of form.now m opcode operands.now)) len
IsChoice Nowhere m scan = scan ≡ Nothing
IsChoice Open m scan = Unit {0}
