use Rattle.trace_run.specs.laws.OneTrace.{one_outcome}
use Rattle.trace_run.proofs.laws.one_trace.Goals as goal

pub returns : goal.returns
returns c = one_outcome
