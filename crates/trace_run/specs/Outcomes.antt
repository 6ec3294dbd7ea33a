-- What an outcome of the machine makes of a run. This project's own.
use Rattle.std.specs.Prelude.{Option, Some, None, Result, Ok, Err}
use Rattle.x86_machine.specs.declared.machine.Outcome.{Outcome}
use Rattle.x86_machine.specs.declared.machine.Outcome.TheVariants as outcome
use Rattle.trace_run.specs.declared.report.End.{End}
use Rattle.trace_run.specs.declared.report.End.TheVariants as end
use Rattle.trace_run.specs.declared.tracing.TraceFault.{TraceFault}
use Rattle.trace_run.specs.declared.tracing.TraceFault.TheVariants.{TooLarge, NoMemory}

-- its end, if it has ended; a refusal where pages or memory are wanting
abbrev pub ended_by : Outcome → Result (Option End) TraceFault
ended_by outcome.Next = Ok None
ended_by (outcome.Trap kind at) = Ok (Some (end.Trap kind at))
ended_by outcome.Outside = Ok (Some end.Outside)
ended_by outcome.NoAnswer = Ok (Some end.NoAnswer)
ended_by outcome.BadAnswer = Ok (Some end.BadAnswer)
ended_by outcome.Gone = Ok (Some end.Gone)
ended_by (outcome.TooLarge n) = Err (TooLarge n)
ended_by outcome.NoMemory = Err NoMemory
