-- What the machine's own types stand for. This project's own.
use Rattle.x86_insn.specs.Step as step
use Rattle.x86_machine.specs.declared.fetching.Fetched.{Fetched}
use Rattle.x86_machine.specs.declared.fetching.Fetched.TheVariants.{Absent, Found, Unknown}

-- what is fetched
abbrev pub fetched_as : Fetched → step.Fetched
fetched_as Absent = step.Absent
fetched_as (Found i len) = step.Found i len
fetched_as Unknown = step.Unknown
