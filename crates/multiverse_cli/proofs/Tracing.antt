-- From what a trace answers, to the verdict.
use Rattle.std.proofs.Common.{◌≡◌, ℕ, List, Result, Ok, Err, IsErrAnd, sym, subst}
use Rattle.syscall_log.specs.declared.log.Log.{Log}
use Rattle.trace_run.specs.declared.tracing.TraceFault.{TraceFault}
use Rattle.trace_run.specs.declared.tracing.TraceFault.TheVariants.{TooLarge, NoMemory}
use Rattle.trace_run.specs.Reports.{IsTrace}
use Rattle.multiverse_cli.specs.declared.failure.Objection.{Objection}
use Rattle.multiverse_cli.specs.declared.verdict.Delivery.{Delivery as OwnDelivery}
use Rattle.multiverse_cli.specs.Commands.{IsTraceable, IsNotTraced, IsTracing}
use Rattle.multiverse_cli.specs.Failures.{untraced}
use Rattle.multiverse_cli.specs.Verdicts.{IsVerdictOf}

-- a fault of the trace is the verdict
pub untraced-verdict :
    (steps : ℕ) (b l : List ℕ) (log : Log) (f : TraceFault) (r : Result OwnDelivery Objection) → IsTraceable b l log
    → IsTrace b log steps (Err f) → IsErrAnd r (λ o. o ≡ untraced f) → IsVerdictOf (IsNotTraced steps b l) (IsTracing steps b l) r
untraced-verdict steps b l log f (Ok d) whole h is = absurd is
untraced-verdict steps b l log (TooLarge n) (Err o) whole h is =
    let P : Objection → Type 0 = λ e. IsVerdictOf (IsNotTraced steps b l) (IsTracing steps b l) (Err e) in
    subst P (sym is) (record { log = log; traceable = whole; beyond = h })
untraced-verdict steps b l log NoMemory (Err o) whole h is =
    let P : Objection → Type 0 = λ e. IsVerdictOf (IsNotTraced steps b l) (IsTracing steps b l) (Err e) in
    subst P (sym is) tt
