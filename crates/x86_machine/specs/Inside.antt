-- What an instruction does that reaches no memory. This project's own.
use Rattle.std.specs.Prelude.{◌≡◌, ℕ, Bool, true, false, Option, Some, None}
use Rattle.x86_insn.specs.declared.registers.Core.{Core}
use Rattle.x86_insn.specs.declared.ask.Ask.{Ask}
use Rattle.x86_insn.specs.declared.ask.Ask.TheVariants.{Ends}

-- it asks for nothing and ends with this core, or the core is as before
abbrev pub IsInside : Ask Bool → Core → Core → Bool → Type 0
IsInside ask old new true = ask ≡ Ends new None false
IsInside ask old new false = new ≡ old

-- it asks for nothing and goes to this place with the core as it was; else nothing is said
abbrev pub GoesTo : Ask ℕ → Core → Option ℕ → Type 0
GoesTo ask core (Some to) = ask ≡ Ends core None to
GoesTo ask core None = Unit {0}
