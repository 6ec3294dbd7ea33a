-- What the pure part of the program answers.
use Rattle.std.specs.Prelude.{ℕ, List, Result, Ok, Err}
use Rattle.std.specs.List.{AllByRecursion}
use Rattle.std.specs.Option.{option_map}
use Rattle.multiverse_cli.specs.declared.failure.Objection.{Objection}
use Rattle.multiverse_cli.specs.declared.failure.Objection.TheVariants as objection
use Rattle.multiverse_cli.specs.declared.refusal.Defect.{Defect}
use Rattle.multiverse_cli.specs.declared.verdict.NewFile.{NewFile as OwnFile}
use Rattle.multiverse_cli.specs.declared.verdict.Delivery.{Delivery as OwnDelivery}
use Rattle.multiverse_cli.specs.Commands.{NewFile, Delivery, Lacks, Delivers}
use Rattle.multiverse_cli.specs.Answers.{Fits}
use Rattle.multiverse_cli.specs.Listing.{printout_text}
use Rattle.multiverse_cli.specs.Words.{Work}

-- the code's own types
abbrev pub file_of : OwnFile → NewFile
file_of f = record { name = f.name.now; bytes = f.bytes }

abbrev pub delivery_of : OwnDelivery → Delivery
delivery_of d = record { text = printout_text d.text; file = option_map file_of d.file }

-- each file is within the limit
abbrev pub AllFit : List (List ℕ) → Type 0
AllFit = AllByRecursion Fits

-- a delivery, or a defect, or want of memory
abbrev pub IsVerdictOf : (Defect → Type 0) → (Delivery → Type 0) → Result OwnDelivery Objection → Type 0
IsVerdictOf lacks delivers (Ok d) = delivers (delivery_of d)
IsVerdictOf lacks delivers (Err (objection.Lacking why)) = lacks why
IsVerdictOf lacks delivers (Err objection.NoMemory) = Unit {0}

abbrev pub IsVerdict : Work → List (List ℕ) → Result OwnDelivery Objection → Type 0
IsVerdict work files r = IsVerdictOf (Lacks work files) (Delivers work files) r
